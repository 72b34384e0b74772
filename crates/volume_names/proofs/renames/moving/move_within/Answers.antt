use Rattle.std.proofs.Common.{ap, ◌∙◌, ◌≡◌, Some, refl, sym, subst}
use Rattle.minix_layout.specs.declared.slot.Slot.{Slot}
use Rattle.tree_model.specs.Maps.{at_number}
use Rattle.volume_model.specs.declared.placed.Placed.{Placed}
use Rattle.volume_model.specs.declared.placed.Part.TheVariants as parts
use Rattle.volume_model.specs.declared.placed.DirectoryPart.{DirectoryPart}
use Rattle.volume_steps.specs.Calls.{move_in}
use Rattle.volume_steps.specs.Now.{VolumeNow}
use Rattle.volume_in_use.specs.now.Noted.{Noted}
use Rattle.volume_names.specs.code.NewSlot.{new_slot}
use Rattle.volume_names.specs.code.Steps.{name_written}
use Rattle.volume_names.proofs.Changed.{volume_of}
use Rattle.volume_names.proofs.Creates.{after_then, after_nothing}
use Rattle.volume_names.specs.renames.May.{MayMoveWithin}
use Rattle.volume_names.specs.renames.code.Parts.{node_put, name_put, slot_put_in}
use Rattle.volume_names.proofs.RenamesLemmas.Across.{same_slot}
use Rattle.volume_names.proofs.RenamesLemmas.Within.{may_take, is_directory, is_there, is_free, is_new, may_be_written, moved}
use Rattle.volume_names.proofs.renames.moving.move_within.Goals as goal

pub take_name-requires-clause-may : goal.take_name-requires-clause-may
take_name-requires-clause-may c =
    let v = c.v.inside in
    let from = c.args.from.now in
    let other = c.args.name.now in
    let now = volume_of v.geometry v.blocks v.nodes.entries v.zones in
    let h : MayMoveWithin now from.parent from.name other c.args.birth = subst (λ s. MayMoveWithin s from.parent from.name other c.args.birth) (sym c.v.view_is) c.requires in
    let named = λ (p : Placed) (d : DirectoryPart) (at : at_number v.nodes.entries from.parent ≡ Some p) (is : p.part ≡ parts.Directory d).
    c.in_ok-put_name.ensures.nodes p d at is ∙ ap (λ other. node_put v.nodes.entries from.parent p (parts.Directory (name_put d other c.args.birth))) c.copy.ensures in
    may_take now from.parent from.name other c.args.birth h c.put_name.new.nodes.entries named

pub add_slot-new-requires-clause-directory : goal.add_slot-new-requires-clause-directory
add_slot-new-requires-clause-directory c =
    let v = c.v.inside in
    let from = c.args.from.now in
    let other = c.args.name.now in
    let now = volume_of v.geometry v.blocks v.nodes.entries v.zones in
    let h : MayMoveWithin now from.parent from.name other c.args.birth = subst (λ s. MayMoveWithin s from.parent from.name other c.args.birth) (sym c.v.view_is) c.requires in
    let named = λ (p : Placed) (d : DirectoryPart) (at : at_number v.nodes.entries from.parent ≡ Some p) (is : p.part ≡ parts.Directory d).
    c.in_ok-put_name.ensures.nodes p d at is ∙ ap (λ other. node_put v.nodes.entries from.parent p (parts.Directory (name_put d other c.args.birth))) c.copy.ensures in
    let w = c.v-2.inside in
    let taken : VolumeNow = volume_of w.geometry w.blocks w.nodes.entries w.zones in
    let after = c.v-2.view_is ∙ c.take_name.ensures.done.volume_is in
    is_directory now from.parent from.name other c.args.birth h c.put_name.new.nodes.entries named taken after

pub add_slot-new-requires-clause-there : goal.add_slot-new-requires-clause-there
add_slot-new-requires-clause-there c =
    let v = c.v.inside in
    let from = c.args.from.now in
    let other = c.args.name.now in
    let now = volume_of v.geometry v.blocks v.nodes.entries v.zones in
    let h : MayMoveWithin now from.parent from.name other c.args.birth = subst (λ s. MayMoveWithin s from.parent from.name other c.args.birth) (sym c.v.view_is) c.requires in
    let named = λ (p : Placed) (d : DirectoryPart) (at : at_number v.nodes.entries from.parent ≡ Some p) (is : p.part ≡ parts.Directory d).
    c.in_ok-put_name.ensures.nodes p d at is ∙ ap (λ other. node_put v.nodes.entries from.parent p (parts.Directory (name_put d other c.args.birth))) c.copy.ensures in
    let w = c.v-2.inside in
    let taken : VolumeNow = volume_of w.geometry w.blocks w.nodes.entries w.zones in
    let after = c.v-2.view_is ∙ c.take_name.ensures.done.volume_is in
    is_there now from.parent from.name other c.args.birth h c.put_name.new.nodes.entries named taken after

pub add_slot-new-requires-clause-free : goal.add_slot-new-requires-clause-free
add_slot-new-requires-clause-free c =
    let v = c.v.inside in
    let from = c.args.from.now in
    let other = c.args.name.now in
    let now = volume_of v.geometry v.blocks v.nodes.entries v.zones in
    let h : MayMoveWithin now from.parent from.name other c.args.birth = subst (λ s. MayMoveWithin s from.parent from.name other c.args.birth) (sym c.v.view_is) c.requires in
    let named = λ (p : Placed) (d : DirectoryPart) (at : at_number v.nodes.entries from.parent ≡ Some p) (is : p.part ≡ parts.Directory d).
    c.in_ok-put_name.ensures.nodes p d at is ∙ ap (λ other. node_put v.nodes.entries from.parent p (parts.Directory (name_put d other c.args.birth))) c.copy.ensures in
    let w = c.v-2.inside in
    let taken : VolumeNow = volume_of w.geometry w.blocks w.nodes.entries w.zones in
    let after = c.v-2.view_is ∙ c.take_name.ensures.done.volume_is in
    is_free now from.parent from.name other c.args.birth h c.put_name.new.nodes.entries named taken after

pub add_slot-new-requires-clause-new : goal.add_slot-new-requires-clause-new
add_slot-new-requires-clause-new c =
    let v = c.v.inside in
    let from = c.args.from.now in
    let other = c.args.name.now in
    let now = volume_of v.geometry v.blocks v.nodes.entries v.zones in
    let h : MayMoveWithin now from.parent from.name other c.args.birth = subst (λ s. MayMoveWithin s from.parent from.name other c.args.birth) (sym c.v.view_is) c.requires in
    let named = λ (p : Placed) (d : DirectoryPart) (at : at_number v.nodes.entries from.parent ≡ Some p) (is : p.part ≡ parts.Directory d).
    c.in_ok-put_name.ensures.nodes p d at is ∙ ap (λ other. node_put v.nodes.entries from.parent p (parts.Directory (name_put d other c.args.birth))) c.copy.ensures in
    let w = c.v-2.inside in
    let taken : VolumeNow = volume_of w.geometry w.blocks w.nodes.entries w.zones in
    let after = c.v-2.view_is ∙ c.take_name.ensures.done.volume_is in
    is_new now from.parent from.name other c.args.birth h c.put_name.new.nodes.entries named taken after c.slot_of.result (ap (λ (s : Slot). s.name) c.slot_of.ensures)

pub write_name-requires-clause-may : goal.write_name-requires-clause-may
write_name-requires-clause-may c =
    let v = c.v.inside in
    let from = c.args.from.now in
    let other = c.args.name.now in
    let now = volume_of v.geometry v.blocks v.nodes.entries v.zones in
    let h : MayMoveWithin now from.parent from.name other c.args.birth = subst (λ s. MayMoveWithin s from.parent from.name other c.args.birth) (sym c.v.view_is) c.requires in
    let named = λ (p : Placed) (d : DirectoryPart) (at : at_number v.nodes.entries from.parent ≡ Some p) (is : p.part ≡ parts.Directory d).
    c.in_ok-put_name.ensures.nodes p d at is ∙ ap (λ other. node_put v.nodes.entries from.parent p (parts.Directory (name_put d other c.args.birth))) c.copy.ensures in
    let w = c.v-2.inside in
    let taken : VolumeNow = volume_of w.geometry w.blocks w.nodes.entries w.zones in
    let after = c.v-2.view_is ∙ c.take_name.ensures.done.volume_is in
    let slot = same_slot c.slot_of-slot.result c.number_of-number.result h.leaves.child.number h.leaves.child.number other c.slot_of-slot.ensures (c.number_of-number.ensures h.leaves.child h.leaves.stands) refl in
    let slots = c.slot_of.ensures ∙ sym c.slot_of-slot.ensures in
    let later = λ (p : Placed) (e : DirectoryPart) (at : at_number w.nodes.entries from.parent ≡ Some p) (is : p.part ≡ parts.Directory e).
    c.add_slot-new.ensures.nodes p e at is ∙ ap (λ slot. node_put w.nodes.entries from.parent p (parts.Directory (slot_put_in e slot))) slots in
    let place = λ (p : Placed) (e : DirectoryPart) (at : at_number w.nodes.entries from.parent ≡ Some p) (is : p.part ≡ parts.Directory e). c.add_slot-new.ensures.place p e at is ∙ ap (new_slot e) slots in
    may_be_written now from.parent from.name other c.args.birth h c.put_name.new.nodes.entries named taken after c.slot_of-slot.result slot c.add_slot-new.new.nodes.entries later c.add_slot-new.result place

pub returns-clause-done : goal.returns-clause-done
returns-clause-done c =
    let v = c.v.inside in
    let from = c.args.from.now in
    let other = c.args.name.now in
    let now = volume_of v.geometry v.blocks v.nodes.entries v.zones in
    let h : MayMoveWithin now from.parent from.name other c.args.birth = subst (λ s. MayMoveWithin s from.parent from.name other c.args.birth) (sym c.v.view_is) c.requires in
    let named = λ (p : Placed) (d : DirectoryPart) (at : at_number v.nodes.entries from.parent ≡ Some p) (is : p.part ≡ parts.Directory d).
    c.in_ok-put_name.ensures.nodes p d at is ∙ ap (λ other. node_put v.nodes.entries from.parent p (parts.Directory (name_put d other c.args.birth))) c.copy.ensures in
    let w = c.v-2.inside in
    let taken : VolumeNow = volume_of w.geometry w.blocks w.nodes.entries w.zones in
    let after = c.v-2.view_is ∙ c.take_name.ensures.done.volume_is in
    let slot = same_slot c.slot_of-slot.result c.number_of-number.result h.leaves.child.number h.leaves.child.number other c.slot_of-slot.ensures (c.number_of-number.ensures h.leaves.child h.leaves.stands) refl in
    let slots = c.slot_of.ensures ∙ sym c.slot_of-slot.ensures in
    let later = λ (p : Placed) (e : DirectoryPart) (at : at_number w.nodes.entries from.parent ≡ Some p) (is : p.part ≡ parts.Directory e).
    c.add_slot-new.ensures.nodes p e at is ∙ ap (λ slot. node_put w.nodes.entries from.parent p (parts.Directory (slot_put_in e slot))) slots in
    let place = λ (p : Placed) (e : DirectoryPart) (at : at_number w.nodes.entries from.parent ≡ Some p) (is : p.part ≡ parts.Directory e). c.add_slot-new.ensures.place p e at is ∙ ap (new_slot e) slots in
    let last = volume_of w.geometry w.blocks c.add_slot-new.new.nodes.entries w.zones in
    after_nothing c.in_ok-touched.touched.touched _ c.write_name.new.v c.write_name.new.touched.touched (ap (λ (t : Noted). t.touched) c.in_ok-touched.ensures)
    (after_then c.in_ok-touched.touched.touched _ (λ w. name_written last from.parent c.slot_of-slot.result c.add_slot-new.result) c.take_name.new.v c.write_name.new.v c.take_name.new.touched.touched c.write_name.new.touched.touched
    c.take_name.ensures.done c.write_name.ensures.done)
    ∙ (moved now from.parent from.name other c.args.birth h c.put_name.new.nodes.entries named taken after c.slot_of-slot.result slot c.add_slot-new.new.nodes.entries later c.add_slot-new.result place
    ∙ ap (λ s. move_in s from.parent from.name from.parent other c.args.birth) c.v.view_is)
