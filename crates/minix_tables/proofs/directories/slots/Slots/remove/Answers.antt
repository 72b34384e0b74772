use Rattle.std.proofs.Common.{rules, ◌≡◌, ◌↔◌, None, get_or, subst}
use Rattle.minix_tables.specs.directories.Slots.{place_of, slot_found}
use Rattle.minix_tables.specs.directories.laws.Found.{none_found, found_value}
use Rattle.minix_tables.specs.directories.laws.FirstFree.{room-freed, room-freed_behind}
use Rattle.minix_tables.proofs.directories.slots.Slots.remove.Goals as goal

pub invariant_of-self : goal.invariant_of-self
invariant_of-self c = search (rules, room-freed, c.forget.ensures)

pub invariant_of-self-else-at-self : goal.invariant_of-self-else-at-self
invariant_of-self-else-at-self c = search (rules, room-freed_behind, c.forget.ensures)

pub returns-then-at-self-clause-none : goal.returns-then-at-self-clause-none
returns-then-at-self-clause-none c =
    let slots = c.make_index.new.self in
    let name = c.args.name.now in
    let value : c.take-slot.result ≡ slot_found slots (place_of slots name) = found_value slots name c.in_ok-at.at c.index_mut.result.now c.take-slot.result (search rules) (subst (λ xs. c.index_mut.result.now ≡ get_or xs c.in_ok-at.at c.index_mut.result.now) c.self.view_is c.index_mut.ensures.value) c.take-slot.ensures.value in
    subst (λ xs. (c.take-slot.result ≡ None) ↔ (place_of xs name ≡ None)) c.make_index.ensures (none_found slots name c.take-slot.result value)

pub returns-else-at-self-clause-none : goal.returns-else-at-self-clause-none
returns-else-at-self-clause-none c =
    let slots = c.make_index.new.self in
    let name = c.args.name.now in
    let value : c.take-slot.result ≡ slot_found slots (place_of slots name) = found_value slots name c.in_ok-at.at c.index_mut.result.now c.take-slot.result (search rules) (subst (λ xs. c.index_mut.result.now ≡ get_or xs c.in_ok-at.at c.index_mut.result.now) c.self.view_is c.index_mut.ensures.value) c.take-slot.ensures.value in
    subst (λ xs. (c.take-slot.result ≡ None) ↔ (place_of xs name ≡ None)) c.make_index.ensures (none_found slots name c.take-slot.result value)
