use Rattle.std.proofs.Common.{ap, ◌∙◌, refl, sym, subst}
use Rattle.minix_layout.specs.declared.slot.Slot.{Slot}
use Rattle.minix_tables.specs.directories.Slots.{place_of}
use Rattle.volume_steps.specs.Calls.{move_in}
use Rattle.volume_in_use.specs.now.Noted.{Noted}
use Rattle.volume_names.specs.code.NewSlot.{new_slot}
use Rattle.volume_names.specs.code.Steps.{MayWrite, entered, name_written}
use Rattle.volume_names.proofs.Changed.{volume_of}
use Rattle.volume_names.proofs.Creates.{after_then, after_nothing}
use Rattle.volume_names.specs.renames.May.{MayMoveAcross}
use Rattle.volume_names.proofs.RenamesLemmas.Across.{no_place, same_slot, may_take, may_be_written, moved}
use Rattle.volume_names.proofs.renames.moving.move_across.Goals as goal

pub enter-requires-clause-slot : goal.enter-requires-clause-slot
enter-requires-clause-slot c = λ p d at is.
    let v = c.v.inside in
    let from = c.args.from.now in
    let to = c.args.to.now in
    let now = volume_of v.geometry v.blocks v.nodes.entries v.zones in
    let h : MayMoveAcross now from.parent from.name to.parent to.name c.args.birth = subst (λ s. MayMoveAcross s from.parent from.name to.parent to.name c.args.birth) (sym c.v.view_is) c.requires in
    ap (λ (slot : Slot). place_of d.slots slot.name) c.slot_of.ensures ∙ no_place now from.parent from.name to.parent to.name c.args.birth h p d at is

pub take_name-requires-clause-may : goal.take_name-requires-clause-may
take_name-requires-clause-may c =
    let v = c.v.inside in
    let from = c.args.from.now in
    let to = c.args.to.now in
    let now = volume_of v.geometry v.blocks v.nodes.entries v.zones in
    let h : MayMoveAcross now from.parent from.name to.parent to.name c.args.birth = subst (λ s. MayMoveAcross s from.parent from.name to.parent to.name c.args.birth) (sym c.v.view_is) c.requires in
    let slot = same_slot c.slot_of.result c.number_of-number.result h.leaves.child.number h.leaves.child.number to.name c.slot_of.ensures (c.number_of-number.ensures h.leaves.child h.leaves.stands) refl in
    may_take now from.parent from.name to.parent to.name c.args.birth h c.slot_of.result slot c.enter.new.nodes.entries
    (c.in_ok-new.ensures.nodes h.place.placed h.place.part h.place.stands h.place.is) c.in_ok-new.new (c.in_ok-new.ensures.place h.place.placed h.place.part h.place.stands h.place.is)

pub write_name-requires-clause-may : goal.write_name-requires-clause-may
write_name-requires-clause-may c =
    let v = c.v.inside in
    let from = c.args.from.now in
    let to = c.args.to.now in
    let now = volume_of v.geometry v.blocks v.nodes.entries v.zones in
    let h : MayMoveAcross now from.parent from.name to.parent to.name c.args.birth = subst (λ s. MayMoveAcross s from.parent from.name to.parent to.name c.args.birth) (sym c.v.view_is) c.requires in
    let slot = same_slot c.slot_of.result c.number_of-number.result h.leaves.child.number h.leaves.child.number to.name c.slot_of.ensures (c.number_of-number.ensures h.leaves.child h.leaves.stands) refl in
    subst (λ slot. MayWrite c.take_name.new.v to.parent slot c.in_ok-new.new) (c.slot_of.ensures ∙ sym c.slot_of-slot.ensures)
    (may_be_written now from.parent from.name to.parent to.name c.args.birth h c.slot_of.result slot c.enter.new.nodes.entries
    (c.in_ok-new.ensures.nodes h.place.placed h.place.part h.place.stands h.place.is) c.in_ok-new.new (c.in_ok-new.ensures.place h.place.placed h.place.part h.place.stands h.place.is)
    c.take_name.new.v c.take_name.ensures.done.volume_is)

pub returns-clause-done : goal.returns-clause-done
returns-clause-done c =
    let v = c.v.inside in
    let from = c.args.from.now in
    let to = c.args.to.now in
    let now = volume_of v.geometry v.blocks v.nodes.entries v.zones in
    let h : MayMoveAcross now from.parent from.name to.parent to.name c.args.birth = subst (λ s. MayMoveAcross s from.parent from.name to.parent to.name c.args.birth) (sym c.v.view_is) c.requires in
    let slots = c.slot_of.ensures ∙ sym c.slot_of-slot.ensures in
    let slot = same_slot c.slot_of-slot.result c.number_of-number.result h.leaves.child.number h.leaves.child.number to.name c.slot_of-slot.ensures (c.number_of-number.ensures h.leaves.child h.leaves.stands) refl in
    after_nothing c.in_ok-touched.touched.touched _ c.write_name.new.v c.write_name.new.touched.touched (ap (λ (t : Noted). t.touched) c.in_ok-touched.ensures)
    (after_then c.in_ok-touched.touched.touched _ (λ w. name_written w to.parent c.slot_of-slot.result c.in_ok-new.new) c.take_name.new.v c.write_name.new.v c.take_name.new.touched.touched c.write_name.new.touched.touched
    c.take_name.ensures.done c.write_name.ensures.done)
    ∙ (moved now from.parent from.name to.parent to.name c.args.birth h c.slot_of-slot.result slot c.enter.new.nodes.entries
    (c.in_ok-new.ensures.nodes h.place.placed h.place.part h.place.stands h.place.is ∙ ap (λ slot. entered v.nodes.entries to.parent h.place.placed h.place.part slot c.args.birth) slots)
    c.in_ok-new.new (c.in_ok-new.ensures.place h.place.placed h.place.part h.place.stands h.place.is ∙ ap (new_slot h.place.part) slots)
    ∙ ap (λ s. move_in s from.parent from.name to.parent to.name c.args.birth) c.v.view_is)
