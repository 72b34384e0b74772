use Rattle.flush_actor.proofs.ConflictsLemmas.Steps.{inside_table, wanted_room, table_wanted}
use Rattle.std.proofs.Common.{vec_capacity, subst, sym}
use Rattle.flush_actor.specs.conflicts.code.Table.{IsTable}
use Rattle.flush_actor.proofs.conflicts.conflicts.Conflicts.want.Goals as goal

pub add_u32-requires-clause-room : goal.add_u32-requires-clause-room
add_u32-requires-clause-room c =
    let t = c.self.inside in
    wanted_room t.blocks t.held.items t.wanted.items (vec_capacity t.held) (vec_capacity t.wanted) c.self.invariant

pub invariant_of-self : goal.invariant_of-self
invariant_of-self c =
    let t = c.self.inside in
    subst (λ n. IsTable t.blocks t.held.items c.add_u32.new.numbers.items (vec_capacity t.held) n) (sym c.add_u32.ensures.capacity)
    (table_wanted t.blocks t.held.items t.wanted.items c.add_u32.new.numbers.items (vec_capacity t.held) (vec_capacity t.wanted) c.args.block c.self.invariant
    (inside_table _ c.args.self.now c.args.block c.self.view_is c.requires) c.add_u32.ensures.numbers)
