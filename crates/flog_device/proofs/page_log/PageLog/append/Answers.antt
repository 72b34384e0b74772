use Rattle.std.proofs.Common.{inl, inr, ◌+◌, ◌≤◌, length, sym, ap, subst, ◌∙◌, arith}
use Rattle.std.proofs.lemmas.Bool.{cases_lt}
use Rattle.flog_device.specs.Log.{pages, prefix, places}
use Rattle.flog_device.specs.Device.{programs}
use Rattle.flog_device.specs.laws.LogFacts.{prefix-unprogrammed}
use Rattle.flog_device.specs.laws.LogSteps.{pages-unprogrammed}
use Rattle.flog_device.specs.code.Logged.{AreLast}
use Rattle.flog_device.proofs.Kept.{open-append, open-le}
use Rattle.flog_device.proofs.page_log.PageLog.append.Goals as goal

pub overflow_add-self : goal.overflow_add-self
overflow_add-self c =
    let log = c.self.inside.pages.items in
    let count = c.self.invariant.unprogrammed in
    let all = open-append 0 log c.args.first c.args.parts.now in
    let le = open-le 0 c.append_pages.new.log.items in
    let items = ap (λ l. length (programs 0 l)) c.append_pages.ensures.items in
    let small = c.append_pages.new.log.small in
    let ok = c.append_pages.new.log.ok in
    omega (arith, count, all, le, items, small, ok)

pub invariant_of-self : goal.invariant_of-self
invariant_of-self c =
    let log = c.self.inside.pages.items in
    let h = c.self.invariant in
    let items = c.append_pages.ensures.items in
    let same = ap prefix items ∙ prefix-unprogrammed log (pages c.args.first c.args.parts.now) (pages-unprogrammed c.args.first c.args.parts.now) in
    record {
      kept = h.kept ∙ sym (ap length same);
      unprogrammed =
          let count = h.unprogrammed in
          let all = ap (λ l. length (programs 0 l)) items ∙ open-append 0 log c.args.first c.args.parts.now in
          omega (arith, count, all);
      last = subst (λ l. AreLast c.self.inside.last.items (places l)) (sym same) h.last;
    }

pub append_pages-requires-clause-room : goal.append_pages-requires-clause-room
append_pages-requires-clause-room c =
    let long = c.self.inside.pages.small in
    let same = c.self.inside.pages.ok in
    let room = c.requires.room in
    elim (cases_lt 0 (length c.args.parts.now)) [
      | inl some ↦ subst (λ l. length l.items + length c.args.parts.now ≤ l.capacity) (sym c.self.view_is) (room some)
      | inr none ↦ omega (arith, none, long, same)
    ]
