use Rattle.flush_actor.proofs.ConflictsLemmas.Steps.{inside_table, held_room, table_held}
use Rattle.std.proofs.Common.{vec_capacity, subst, sym}
use Rattle.flush_actor.specs.conflicts.code.Table.{IsTable}
use Rattle.flush_actor.proofs.conflicts.conflicts.Conflicts.hold.Goals as goal

pub put_held-requires-clause-room : goal.put_held-requires-clause-room
put_held-requires-clause-room c =
    let t = c.self.inside in
    held_room t.blocks t.held.items t.wanted.items (vec_capacity t.held) (vec_capacity t.wanted) c.self.invariant

pub invariant_of-self : goal.invariant_of-self
invariant_of-self c =
    let t = c.self.inside in
    subst (λ n. IsTable t.blocks c.put_held.new.held.items t.wanted.items n (vec_capacity t.wanted)) (sym c.put_held.ensures.capacity)
    (table_held t.blocks t.held.items c.put_held.new.held.items t.wanted.items (vec_capacity t.held) (vec_capacity t.wanted) c.args.tx c.args.block c.self.invariant
    (inside_table _ c.args.self.now c.args.block c.self.view_is c.requires) c.put_held.ensures.held)
