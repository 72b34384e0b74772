use Rattle.std.proofs.Common.{refl, ◌≡◌, ◌+◌, ◌<◌, Some, length, sym, ap, subst, ◌∙◌, arith}
use Rattle.flog_device.specs.Device.{FlogState, Write, Program, writes, persistable, written}
use Rattle.blk_base.specs.Members.{In}
use Rattle.blk_base.specs.laws.Members.{All-In, In-All}
use Rattle.order_model.specs.Received.{all_parts}
use Rattle.flog_device.specs.Log.{Page, places}
use Rattle.flog_device.specs.code.Helpers.{IsPageOf}
use Rattle.flog_device.specs.code.Logged.{IsIn}
use Rattle.flog_device.specs.laws.Valid.{IsValid}
use Rattle.flog_device.specs.laws.BoundLaws.{all_parts-le}
use Rattle.flog_device.specs.code.Fields.{state_of}
use Rattle.flog_device.proofs.Pages.{program-lt}
use Rattle.flog_device.proofs.Kept.{area-length, can_fold_at, rising_behind}
use Rattle.flog_device.proofs.Moves.{can_write_from, pages_of, folded_to, a_step}
use Rattle.flog_device.proofs.device.FlogDeviceOrderedDev.persist.Goals as goal
use Rattle.flog_device.proofs.device.FlogDeviceOrderedDev.persist.Goals.{in-Program, in-Fold}

pub program-requires-clause-place : goal.program-requires-clause-place
program-requires-clause-place c =
    let can = can_write_from c.self.inside c.args.self.now c.args.pick c.in-Some.write c.self.invariant c.self.view_is c.if-is_off.ensures.value c.in-Some.ensures in
    program-lt c.self.inside.log.items c.in-Program.at (subst (λ (e : Write). In e (writes c.self.inside.log.items)) c.in-Program.is can.there)

pub fold-requires-clause-pages : goal.fold-requires-clause-pages
fold-requires-clause-pages c = pages_of (state_of c.self.inside) c.self.invariant.valid

pub fold-requires-clause-few : goal.fold-requires-clause-few
fold-requires-clause-few c =
    let all = all_parts-le (state_of c.self.inside) c.self.invariant.valid in
    let few = c.self.invariant.few in
    omega (arith, all, few)

pub overflow_add-self : goal.overflow_add-self
overflow_add-self c =
    let can = can_write_from c.self.inside c.args.self.now c.args.pick c.in-Some.write c.self.invariant c.self.view_is c.if-is_off.ensures.value c.in-Some.ensures in
    omega (arith, can.folded, c.self.invariant.few)

pub overflow_add-self-2 : goal.overflow_add-self-2
overflow_add-self-2 c =
    let can = can_write_from c.self.inside c.args.self.now c.args.pick c.in-Some.write c.self.invariant c.self.view_is c.if-is_off.ensures.value c.in-Some.ensures in
    elim c.match-write.branch [
      | in-Program w ↦ rw w.self-inside-is (omega (arith, can.steps, c.self.invariant.few))
      | in-Fold w ↦ rw w.self-inside-is (omega (arith, can.steps, c.self.invariant.few))
    ]

pub invariant_of-self : goal.invariant_of-self
invariant_of-self c =
    let can = can_write_from c.self.inside c.args.self.now c.args.pick c.in-Some.write c.self.invariant c.self.view_is c.if-is_off.ensures.value c.in-Some.ensures in
    let d = c.self.inside in
    let s = state_of d in
    let h = c.self.invariant in
    elim c.match-write.branch [
      | in-Program w ↦
          let to : record s { log = w.program.new.self.items; steps = s.steps + 1 } ≡ written s (Some (Program w.in-Program.at)) = rw w.program.ensures.items refl in
          let valid = subst IsValid (can.writes ∙ ap (λ (e : Write). written s (Some e)) w.in-Program.is ∙ sym to) can.valid in
          rw w.self-inside-is (record {
            valid = valid;
            few = h.few;
            took = h.took;
            moved = h.moved;
            sent = h.sent;
            waiting = h.waiting;
            log = omega (arith, w.program.ensures.capacity, h.log);
            area = w.program.ensures.size ∙ h.area;
          })
      | in-Fold w ↦
          let there = subst (λ (e : Write). In e (writes s.log)) w.in-Fold.is can.there in
          let to = folded_to s w.fold.new.area w.fold.new.origins.items w.fold.new.self.items there w.fold.ensures.area w.fold.ensures.origins w.fold.ensures.items in
          let valid = subst IsValid (can.writes ∙ ap (λ (e : Write). written s (Some e)) w.in-Fold.is ∙ sym to) can.valid in
          rw w.self-inside-is (record {
            valid = valid;
            few = h.few;
            took = h.took;
            moved = h.moved;
            sent = h.sent;
            waiting = h.waiting;
            log = omega (arith, w.fold.ensures.capacity, h.log);
            area = w.fold.ensures.size ∙ h.area ∙ sym (ap length w.fold.ensures.area ∙ area-length s.took s.log s.data_area);
          })
    ]

pub returns-clause-when : goal.returns-clause-when
returns-clause-when c =
    let can = can_write_from c.self.inside c.args.self.now c.args.pick c.in-Some.write c.self.invariant c.self.view_is c.if-is_off.ensures.value c.in-Some.ensures in
    a_step (length (persistable c.args.self.now)) c.args.pick (subst (λ (t : FlogState). c.args.pick < length (persistable t)) c.self.view_is can.within)

pub program-requires-clause-pages : goal.program-requires-clause-pages
program-requires-clause-pages c =
    let s = state_of c.self.inside in
    let log = s.log in
    let all = pages_of s c.self.invariant.valid in
    let within : (p : Page) → In p log → IsIn c.self.inside.log.area p = λ p i.
    let block = (All-In (IsPageOf (length (all_parts s.took)) (length s.data_area)) log p all i).block in
    let area = c.self.invariant.area in
    omega (arith, block, area) in
    In-All (IsIn c.self.inside.log.area) log within

pub fold-requires-clause-programmed : goal.fold-requires-clause-programmed
fold-requires-clause-programmed c =
    let can = can_write_from c.self.inside c.args.self.now c.args.pick c.in-Some.write c.self.invariant c.self.view_is c.if-is_off.ensures.value c.in-Some.ensures in
    let s = state_of c.self.inside in
    can_fold_at s.log (subst (λ (e : Write). In e (writes s.log)) c.in-Fold.is can.there)

pub fold-requires-clause-rising : goal.fold-requires-clause-rising
fold-requires-clause-rising c =
    let v = c.self.invariant.valid in
    rising_behind v.gone (places c.self.inside.log.items) v.log.rising
