use Rattle.std.proofs.Common.{ap, ◌∙◌, ◌-◌, refl, sym, subst}
use Rattle.minix_layout.specs.declared.slot.Slot.{Slot}
use Rattle.minix_tables.specs.directories.Slots.{place_of}
use Rattle.volume_steps.specs.Calls.{move_below}
use Rattle.tree_model.specs.Maps.{at_number}
use Rattle.volume_steps.specs.Now.{VolumeNow, followed_by}
use Rattle.volume_steps.specs.Steps.{set_links, set_parent}
use Rattle.volume_in_use.specs.now.Noted.{Noted}
use Rattle.volume_names.specs.code.NewSlot.{new_slot}
use Rattle.volume_names.specs.code.Steps.{MayWrite, entered, more_links, name_written}
use Rattle.volume_names.proofs.Changed.{volume_of}
use Rattle.volume_names.proofs.Creates.{after_then, after_nothing}
use Rattle.volume_names.specs.renames.May.{MayMoveBelow}
use Rattle.volume_names.specs.renames.code.Parts.{MayTurn}
use Rattle.volume_names.proofs.RenamesLemmas.Across.{no_place, same_slot, may_take}
use Rattle.volume_names.proofs.RenamesLemmas.Below.{old_number, may_turn, to_number, to_links, after_first, after_second, after_third, may_be_written, moved_below}
use Rattle.volume_names.proofs.renames.moving.move_below.Goals as goal

pub enter-requires-clause-slot : goal.enter-requires-clause-slot
enter-requires-clause-slot c = λ p d at is.
    let v = c.v.inside in
    let from = c.args.from.now in
    let to = c.args.to.now in
    let now = volume_of v.geometry v.blocks v.nodes.entries v.zones in
    let m : MayMoveBelow now from.parent from.name to.parent to.name c.args.birth = subst (λ s. MayMoveBelow s from.parent from.name to.parent to.name c.args.birth) (sym c.v.view_is) c.requires in
    let h = m.across in
    ap (λ (slot : Slot). place_of d.slots slot.name) c.slot_of.ensures ∙ no_place now from.parent from.name to.parent to.name c.args.birth h p d at is

pub take_name-requires-clause-may : goal.take_name-requires-clause-may
take_name-requires-clause-may c =
    let v = c.v.inside in
    let from = c.args.from.now in
    let to = c.args.to.now in
    let now = volume_of v.geometry v.blocks v.nodes.entries v.zones in
    let m : MayMoveBelow now from.parent from.name to.parent to.name c.args.birth = subst (λ s. MayMoveBelow s from.parent from.name to.parent to.name c.args.birth) (sym c.v.view_is) c.requires in
    let h = m.across in
    let slot = same_slot c.slot_of.result c.number_of-number.result h.leaves.child.number h.leaves.child.number to.name c.slot_of.ensures (c.number_of-number.ensures h.leaves.child h.leaves.stands) refl in
    may_take now from.parent from.name to.parent to.name c.args.birth h c.slot_of.result slot c.enter.new.nodes.entries
    (c.in_ok-new.ensures.nodes h.place.placed h.place.part h.place.stands h.place.is) c.in_ok-new.new (c.in_ok-new.ensures.place h.place.placed h.place.part h.place.stands h.place.is)

pub take_link-requires-clause-numbers : goal.take_link-requires-clause-numbers
take_link-requires-clause-numbers c = λ p at.
    let v = c.v.inside in
    let from = c.args.from.now in
    let to = c.args.to.now in
    let now = volume_of v.geometry v.blocks v.nodes.entries v.zones in
    let m : MayMoveBelow now from.parent from.name to.parent to.name c.args.birth = subst (λ s. MayMoveBelow s from.parent from.name to.parent to.name c.args.birth) (sym c.v.view_is) c.requires in
    let h = m.across in
    let slot = same_slot c.slot_of.result c.number_of-number.result h.leaves.child.number h.leaves.child.number to.name c.slot_of.ensures (c.number_of-number.ensures h.leaves.child h.leaves.stands) refl in
    let first = after_first now from.parent from.name to.parent to.name c.args.birth m c.slot_of.result slot c.enter.new.nodes.entries
    (c.in_ok-new.ensures.nodes h.place.placed h.place.part h.place.stands h.place.is) c.in_ok-new.new (c.in_ok-new.ensures.place h.place.placed h.place.part h.place.stands h.place.is)
    c.take_name.new.v c.take_name.ensures.done.volume_is in
    old_number now from.parent from.name to.parent to.name c.args.birth m p (sym (ap (λ (w : VolumeNow). at_number w.contents.nodes from.parent) first) ∙ at)

pub set_parent-requires-clause-may : goal.set_parent-requires-clause-may
set_parent-requires-clause-may c =
    let v = c.v.inside in
    let from = c.args.from.now in
    let to = c.args.to.now in
    let now = volume_of v.geometry v.blocks v.nodes.entries v.zones in
    let m : MayMoveBelow now from.parent from.name to.parent to.name c.args.birth = subst (λ s. MayMoveBelow s from.parent from.name to.parent to.name c.args.birth) (sym c.v.view_is) c.requires in
    let h = m.across in
    let slot = same_slot c.slot_of.result c.number_of-number.result h.leaves.child.number h.leaves.child.number to.name c.slot_of.ensures (c.number_of-number.ensures h.leaves.child h.leaves.stands) refl in
    let first = after_first now from.parent from.name to.parent to.name c.args.birth m c.slot_of.result slot c.enter.new.nodes.entries
    (c.in_ok-new.ensures.nodes h.place.placed h.place.part h.place.stands h.place.is) c.in_ok-new.new (c.in_ok-new.ensures.place h.place.placed h.place.part h.place.stands h.place.is)
    c.take_name.new.v c.take_name.ensures.done.volume_is in
    let second = after_second now from.parent from.name to.parent to.name c.args.birth m c.slot_of.result slot c.enter.new.nodes.entries
    (c.in_ok-new.ensures.nodes h.place.placed h.place.part h.place.stands h.place.is) c.in_ok-new.new (c.in_ok-new.ensures.place h.place.placed h.place.part h.place.stands h.place.is)
    c.take_name.new.v c.take_link.new.v first c.take_link.ensures.done.volume_is in
    subst (λ (w : VolumeNow). MayTurn w c.args.birth to.parent c.number_of-above.result) (sym second) (may_turn now from.parent from.name to.parent to.name c.args.birth m c.number_of-above.result (sym (c.number_of-above.ensures h.place.placed h.place.stands)))

pub add_link-requires-clause-numbers : goal.add_link-requires-clause-numbers
add_link-requires-clause-numbers c = λ p at.
    let v = c.v.inside in
    let from = c.args.from.now in
    let to = c.args.to.now in
    let now = volume_of v.geometry v.blocks v.nodes.entries v.zones in
    let m : MayMoveBelow now from.parent from.name to.parent to.name c.args.birth = subst (λ s. MayMoveBelow s from.parent from.name to.parent to.name c.args.birth) (sym c.v.view_is) c.requires in
    let h = m.across in
    let slot = same_slot c.slot_of.result c.number_of-number.result h.leaves.child.number h.leaves.child.number to.name c.slot_of.ensures (c.number_of-number.ensures h.leaves.child h.leaves.stands) refl in
    let first = after_first now from.parent from.name to.parent to.name c.args.birth m c.slot_of.result slot c.enter.new.nodes.entries
    (c.in_ok-new.ensures.nodes h.place.placed h.place.part h.place.stands h.place.is) c.in_ok-new.new (c.in_ok-new.ensures.place h.place.placed h.place.part h.place.stands h.place.is)
    c.take_name.new.v c.take_name.ensures.done.volume_is in
    let second = after_second now from.parent from.name to.parent to.name c.args.birth m c.slot_of.result slot c.enter.new.nodes.entries
    (c.in_ok-new.ensures.nodes h.place.placed h.place.part h.place.stands h.place.is) c.in_ok-new.new (c.in_ok-new.ensures.place h.place.placed h.place.part h.place.stands h.place.is)
    c.take_name.new.v c.take_link.new.v first c.take_link.ensures.done.volume_is in
    let third = after_third now from.parent from.name to.parent to.name c.args.birth m c.slot_of.result slot c.enter.new.nodes.entries
    (c.in_ok-new.ensures.nodes h.place.placed h.place.part h.place.stands h.place.is) c.in_ok-new.new (c.in_ok-new.ensures.place h.place.placed h.place.part h.place.stands h.place.is)
    c.take_link.new.v c.set_parent.new.v second c.set_parent.ensures.done.volume_is in
    to_number now from.parent from.name to.parent to.name c.args.birth m p (sym (ap (λ (w : VolumeNow). at_number w.contents.nodes to.parent) third) ∙ at)

pub add_link-requires-clause-links : goal.add_link-requires-clause-links
add_link-requires-clause-links c = λ p at.
    let v = c.v.inside in
    let from = c.args.from.now in
    let to = c.args.to.now in
    let now = volume_of v.geometry v.blocks v.nodes.entries v.zones in
    let m : MayMoveBelow now from.parent from.name to.parent to.name c.args.birth = subst (λ s. MayMoveBelow s from.parent from.name to.parent to.name c.args.birth) (sym c.v.view_is) c.requires in
    let h = m.across in
    let slot = same_slot c.slot_of.result c.number_of-number.result h.leaves.child.number h.leaves.child.number to.name c.slot_of.ensures (c.number_of-number.ensures h.leaves.child h.leaves.stands) refl in
    let first = after_first now from.parent from.name to.parent to.name c.args.birth m c.slot_of.result slot c.enter.new.nodes.entries
    (c.in_ok-new.ensures.nodes h.place.placed h.place.part h.place.stands h.place.is) c.in_ok-new.new (c.in_ok-new.ensures.place h.place.placed h.place.part h.place.stands h.place.is)
    c.take_name.new.v c.take_name.ensures.done.volume_is in
    let second = after_second now from.parent from.name to.parent to.name c.args.birth m c.slot_of.result slot c.enter.new.nodes.entries
    (c.in_ok-new.ensures.nodes h.place.placed h.place.part h.place.stands h.place.is) c.in_ok-new.new (c.in_ok-new.ensures.place h.place.placed h.place.part h.place.stands h.place.is)
    c.take_name.new.v c.take_link.new.v first c.take_link.ensures.done.volume_is in
    let third = after_third now from.parent from.name to.parent to.name c.args.birth m c.slot_of.result slot c.enter.new.nodes.entries
    (c.in_ok-new.ensures.nodes h.place.placed h.place.part h.place.stands h.place.is) c.in_ok-new.new (c.in_ok-new.ensures.place h.place.placed h.place.part h.place.stands h.place.is)
    c.take_link.new.v c.set_parent.new.v second c.set_parent.ensures.done.volume_is in
    to_links now from.parent from.name to.parent to.name c.args.birth m p (sym (ap (λ (w : VolumeNow). at_number w.contents.nodes to.parent) third) ∙ at)

pub write_name-requires-clause-may : goal.write_name-requires-clause-may
write_name-requires-clause-may c =
    let v = c.v.inside in
    let from = c.args.from.now in
    let to = c.args.to.now in
    let now = volume_of v.geometry v.blocks v.nodes.entries v.zones in
    let m : MayMoveBelow now from.parent from.name to.parent to.name c.args.birth = subst (λ s. MayMoveBelow s from.parent from.name to.parent to.name c.args.birth) (sym c.v.view_is) c.requires in
    let h = m.across in
    let slot = same_slot c.slot_of.result c.number_of-number.result h.leaves.child.number h.leaves.child.number to.name c.slot_of.ensures (c.number_of-number.ensures h.leaves.child h.leaves.stands) refl in
    let first = after_first now from.parent from.name to.parent to.name c.args.birth m c.slot_of.result slot c.enter.new.nodes.entries
    (c.in_ok-new.ensures.nodes h.place.placed h.place.part h.place.stands h.place.is) c.in_ok-new.new (c.in_ok-new.ensures.place h.place.placed h.place.part h.place.stands h.place.is)
    c.take_name.new.v c.take_name.ensures.done.volume_is in
    let second = after_second now from.parent from.name to.parent to.name c.args.birth m c.slot_of.result slot c.enter.new.nodes.entries
    (c.in_ok-new.ensures.nodes h.place.placed h.place.part h.place.stands h.place.is) c.in_ok-new.new (c.in_ok-new.ensures.place h.place.placed h.place.part h.place.stands h.place.is)
    c.take_name.new.v c.take_link.new.v first c.take_link.ensures.done.volume_is in
    let third = after_third now from.parent from.name to.parent to.name c.args.birth m c.slot_of.result slot c.enter.new.nodes.entries
    (c.in_ok-new.ensures.nodes h.place.placed h.place.part h.place.stands h.place.is) c.in_ok-new.new (c.in_ok-new.ensures.place h.place.placed h.place.part h.place.stands h.place.is)
    c.take_link.new.v c.set_parent.new.v second c.set_parent.ensures.done.volume_is in
    subst (λ slot. MayWrite c.add_link.new.v to.parent slot c.in_ok-new.new) (c.slot_of.ensures ∙ sym c.slot_of-slot.ensures)
    (may_be_written now from.parent from.name to.parent to.name c.args.birth m c.slot_of.result slot c.enter.new.nodes.entries
    (c.in_ok-new.ensures.nodes h.place.placed h.place.part h.place.stands h.place.is) c.in_ok-new.new (c.in_ok-new.ensures.place h.place.placed h.place.part h.place.stands h.place.is)
    c.set_parent.new.v c.add_link.new.v third c.add_link.ensures.done.volume_is)

pub returns-clause-done : goal.returns-clause-done
returns-clause-done c =
    let v = c.v.inside in
    let from = c.args.from.now in
    let to = c.args.to.now in
    let now = volume_of v.geometry v.blocks v.nodes.entries v.zones in
    let m : MayMoveBelow now from.parent from.name to.parent to.name c.args.birth = subst (λ s. MayMoveBelow s from.parent from.name to.parent to.name c.args.birth) (sym c.v.view_is) c.requires in
    let h = m.across in
    let slots = c.slot_of.ensures ∙ sym c.slot_of-slot.ensures in
    let slot = same_slot c.slot_of-slot.result c.number_of-number.result h.leaves.child.number h.leaves.child.number to.name c.slot_of-slot.ensures (c.number_of-number.ensures h.leaves.child h.leaves.stands) refl in
    let last = λ (w : VolumeNow). name_written w to.parent c.slot_of-slot.result c.in_ok-new.new in
    after_nothing c.in_ok-touched.touched.touched _ c.write_name.new.v c.write_name.new.touched.touched (ap (λ (t : Noted). t.touched) c.in_ok-touched.ensures)
    (after_then c.in_ok-touched.touched.touched _ (λ a. followed_by (set_links a from.parent (λ links. links - 1)) (λ b. followed_by (set_parent b c.args.birth to.parent) (λ c. followed_by (more_links c to.parent) last)))
    c.take_name.new.v c.write_name.new.v c.take_name.new.touched.touched c.write_name.new.touched.touched c.take_name.ensures.done
    (after_then c.take_name.new.touched.touched _ (λ b. followed_by (set_parent b c.args.birth to.parent) (λ c. followed_by (more_links c to.parent) last))
    c.take_link.new.v c.write_name.new.v c.take_link.new.touched.touched c.write_name.new.touched.touched c.take_link.ensures.done
    (after_then c.take_link.new.touched.touched _ (λ c. followed_by (more_links c to.parent) last)
    c.set_parent.new.v c.write_name.new.v c.set_parent.new.touched.touched c.write_name.new.touched.touched c.set_parent.ensures.done
    (after_then c.set_parent.new.touched.touched _ last
    c.add_link.new.v c.write_name.new.v c.add_link.new.touched.touched c.write_name.new.touched.touched c.add_link.ensures.done c.write_name.ensures.done))))
    ∙ (moved_below now from.parent from.name to.parent to.name c.args.birth m c.slot_of-slot.result slot c.enter.new.nodes.entries
    (c.in_ok-new.ensures.nodes h.place.placed h.place.part h.place.stands h.place.is ∙ ap (λ slot. entered v.nodes.entries to.parent h.place.placed h.place.part slot c.args.birth) slots)
    c.in_ok-new.new (c.in_ok-new.ensures.place h.place.placed h.place.part h.place.stands h.place.is ∙ ap (new_slot h.place.part) slots)
    ∙ ap (λ s. move_below s from.parent from.name to.parent to.name c.args.birth) c.v.view_is)
