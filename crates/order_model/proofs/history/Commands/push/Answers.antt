use Rattle.std.proofs.Common.{arith, sym, ap, ap₂, ◌∙◌, length, subst, refl}
use Rattle.std.proofs.lemmas.List.{length-map}
use Rattle.order_model.specs.History.{commands_of, EndAt}
use Rattle.order_model.specs.code.Rows.{part_of, parts_kept}
use Rattle.order_model.proofs.Histories.{length-commands_of, commands-pushed, EndAt-push}
use Rattle.order_model.proofs.Rows.{all_kept}
use Rattle.order_model.proofs.history.Commands.push.Goals as goal

pub append_parts-requires-clause-rows : goal.append_parts-requires-clause-rows
append_parts-requires-clause-rows c =
    let s = c.self.inside in
    let all = ap length (all_kept _ s.ends.items s.stored.items s.rows.items c.self.invariant.ends s.rows.ok.0) in
    let rows = length-map s.rows.items (part_of s.stored.items) in
    let within = rw (← c.self.view_is) at c.requires.parts in
    let same = ap length c.as_slice.ensures in
    omega (arith, c.self.invariant.room_parts, s.rows.ok.0)

pub append_parts-requires-clause-bodies : goal.append_parts-requires-clause-bodies
append_parts-requires-clause-bodies c =
    let s = c.self.inside in
    let all = ap length (all_kept _ s.ends.items s.stored.items s.rows.items c.self.invariant.ends s.rows.ok.0) in
    let rows = length-map s.rows.items (part_of s.stored.items) in
    let within = rw (← c.self.view_is) at c.requires.parts in
    let same = ap length c.as_slice.ensures in
    omega (arith, c.self.invariant.few_bodies, c.self.invariant.room_bodies, s.rows.ok.0)

pub push_reserved-requires : goal.push_reserved-requires
push_reserved-requires c =
    let s = c.self.inside in
    let n = length-commands_of 0 s.ends.items (parts_kept s.stored.items s.rows.items) in
    let within = rw (← c.self.view_is) at c.requires.commands in
    omega (arith, c.self.invariant.room, s.ends.ok.0)

pub invariant_of-self : goal.invariant_of-self
invariant_of-self c =
    let s = c.self.inside in
    let all = ap length (all_kept _ s.ends.items s.stored.items s.rows.items c.self.invariant.ends s.rows.ok.0) in
    let rows = length-map s.rows.items (part_of s.stored.items) in
    let n = length-commands_of 0 s.ends.items (parts_kept s.stored.items s.rows.items) in
    let parts = rw (← c.self.view_is) at c.requires.parts in
    let commands = rw (← c.self.view_is) at c.requires.commands in
    let same = ap length c.as_slice.ensures in
    let end = c.len.ensures in
    let ends : EndAt 0 c.push_reserved.new.self.items c.len.result = rw c.push_reserved.ensures.items (EndAt-push 0 _ s.ends.items (record { end = c.len.result; priority = c.args.c.now.priority; barrier = c.args.c.now.barrier; flush = c.args.c.now.flush }) c.self.invariant.ends (omega arith)) in
    record {
      few_parts = omega (arith, s.rows.ok.0);
      room_parts = omega (arith, c.self.invariant.room_parts);
      few = omega (arith, s.ends.ok.0);
      room = omega (arith, c.self.invariant.room);
      ends = subst (λ m. EndAt 0 c.push_reserved.new.self.items m) end ends;
      few_bodies = omega (arith, c.self.invariant.few_bodies);
      room_bodies = omega (arith, c.self.invariant.room_bodies);
      there = c.append_parts.ensures.there;
    }

pub returns : goal.returns
returns c =
    let s = c.self.inside in
    let end = c.len.ensures in
    let rows = length-map s.rows.items (part_of s.stored.items) in
    let pushed = commands-pushed _ s.ends.items (parts_kept s.stored.items s.rows.items) c.as_slice.result.now (record { end = c.len.result; priority = c.args.c.now.priority; barrier = c.args.c.now.barrier; flush = c.args.c.now.flush }) c.args.c.now c.self.invariant.ends (s.rows.ok.0 ∙ sym rows) (omega arith) (sym c.as_slice.ensures) refl refl refl in
    let items = ap₂ (commands_of 0) c.push_reserved.ensures.items c.append_parts.ensures.items ∙ pushed in
    rw (← c.self.view_is) (λ i. record { items = items i; room = s.room })
