use Rattle.std.proofs.Common.{ap, ◌∙◌, ◌≡◌, Some, refl, sym, subst}
use Rattle.tree_model.specs.Maps.{at_number}
use Rattle.volume_model.specs.declared.placed.Placed.{Placed}
use Rattle.volume_model.specs.declared.placed.Part.TheVariants as parts
use Rattle.volume_model.specs.declared.placed.DirectoryPart.{DirectoryPart}
use Rattle.volume_steps.specs.Now.{Change, followed_by}
use Rattle.volume_steps.specs.Steps.{take_name, lead_name}
use Rattle.volume_names.specs.code.Steps.{After}
use Rattle.volume_names.proofs.Changed.{volume_of}
use Rattle.volume_names.proofs.Creates.{after_then}
use Rattle.volume_names.specs.renames.May.{MayReplace}
use Rattle.volume_names.specs.renames.code.Parts.{node_put, name_put, slot_led}
use Rattle.volume_names.proofs.RenamesLemmas.Across.{same_slot}
use Rattle.volume_names.proofs.RenamesLemmas.Replaced.{may_take, may_lead, is_short, taken_over}
use Rattle.volume_names.proofs.renames.replacing.take_over.Goals as goal

pub take_name-requires-clause-may : goal.take_name-requires-clause-may
take_name-requires-clause-may c =
    let v = c.v.inside in
    let from = c.args.from.now in
    let to = c.args.to.now in
    let now = volume_of v.geometry v.blocks v.nodes.entries v.zones in
    let gone = c.requires.may.0 in
    let h : MayReplace now from.parent from.name to.parent to.name c.args.birth gone = subst (λ s. MayReplace s from.parent from.name to.parent to.name c.args.birth gone) (sym c.v.view_is) c.requires.may.1 in
    let named = λ (p : Placed) (d : DirectoryPart) (at : at_number v.nodes.entries to.parent ≡ Some p) (is : p.part ≡ parts.Directory d).
    c.in_ok-put_name.ensures.nodes p d at is ∙ ap (λ other. node_put v.nodes.entries to.parent p (parts.Directory (name_put d other c.args.birth))) c.copy.ensures in
    may_take now from.parent from.name to.parent to.name c.args.birth gone h c.put_name.new.nodes.entries named

pub lead_slot-requires-clause-may : goal.lead_slot-requires-clause-may
lead_slot-requires-clause-may c =
    let v = c.v.inside in
    let from = c.args.from.now in
    let to = c.args.to.now in
    let now = volume_of v.geometry v.blocks v.nodes.entries v.zones in
    let gone = c.requires.may.0 in
    let h : MayReplace now from.parent from.name to.parent to.name c.args.birth gone = subst (λ s. MayReplace s from.parent from.name to.parent to.name c.args.birth gone) (sym c.v.view_is) c.requires.may.1 in
    let named = λ (p : Placed) (d : DirectoryPart) (at : at_number v.nodes.entries to.parent ≡ Some p) (is : p.part ≡ parts.Directory d).
    c.in_ok-put_name.ensures.nodes p d at is ∙ ap (λ other. node_put v.nodes.entries to.parent p (parts.Directory (name_put d other c.args.birth))) c.copy.ensures in
    let slot = same_slot c.slot_of-slot.result c.number_of.result h.leaves.child.number h.leaves.child.number to.name c.slot_of-slot.ensures (c.number_of.ensures h.leaves.child h.leaves.stands) refl in
    may_lead now from.parent from.name to.parent to.name c.args.birth gone h c.put_name.new.nodes.entries named c.take_name.new.v c.take_name.ensures.done.volume_is c.slot_of-slot.result slot

pub lead_slot-requires-clause-short : goal.lead_slot-requires-clause-short
lead_slot-requires-clause-short c =
    let v = c.v.inside in
    let from = c.args.from.now in
    let to = c.args.to.now in
    let now = volume_of v.geometry v.blocks v.nodes.entries v.zones in
    let gone = c.requires.may.0 in
    let h : MayReplace now from.parent from.name to.parent to.name c.args.birth gone = subst (λ s. MayReplace s from.parent from.name to.parent to.name c.args.birth gone) (sym c.v.view_is) c.requires.may.1 in
    let named = λ (p : Placed) (d : DirectoryPart) (at : at_number v.nodes.entries to.parent ≡ Some p) (is : p.part ≡ parts.Directory d).
    c.in_ok-put_name.ensures.nodes p d at is ∙ ap (λ other. node_put v.nodes.entries to.parent p (parts.Directory (name_put d other c.args.birth))) c.copy.ensures in
    let slot = same_slot c.slot_of-slot.result c.number_of.result h.leaves.child.number h.leaves.child.number to.name c.slot_of-slot.ensures (c.number_of.ensures h.leaves.child h.leaves.stands) refl in
    is_short now from.parent from.name to.parent to.name c.args.birth gone h c.put_name.new.nodes.entries named c.take_name.new.v c.take_name.ensures.done.volume_is c.slot_of-slot.result slot

pub returns-clause-done : goal.returns-clause-done
returns-clause-done c =
    let v = c.v.inside in
    let from = c.args.from.now in
    let to = c.args.to.now in
    let now = volume_of v.geometry v.blocks v.nodes.entries v.zones in
    let gone = c.requires.may.0 in
    let h : MayReplace now from.parent from.name to.parent to.name c.args.birth gone = subst (λ s. MayReplace s from.parent from.name to.parent to.name c.args.birth gone) (sym c.v.view_is) c.requires.may.1 in
    let named = λ (p : Placed) (d : DirectoryPart) (at : at_number v.nodes.entries to.parent ≡ Some p) (is : p.part ≡ parts.Directory d).
    c.in_ok-put_name.ensures.nodes p d at is ∙ ap (λ other. node_put v.nodes.entries to.parent p (parts.Directory (name_put d other c.args.birth))) c.copy.ensures in
    let slot = same_slot c.slot_of-slot.result c.number_of.result h.leaves.child.number h.leaves.child.number to.name c.slot_of-slot.ensures (c.number_of.ensures h.leaves.child h.leaves.stands) refl in
    let start = c.args.touched.now.touched in
    subst (λ s. After start (followed_by (take_name s from.parent from.name) (λ u. lead_name u to.parent to.name c.args.birth)) c.lead_slot.new.v c.lead_slot.new.touched.touched) c.v.view_is
    (subst (λ (change : Change). After start change c.lead_slot.new.v c.lead_slot.new.touched.touched) (taken_over now from.parent from.name to.parent to.name c.args.birth gone h c.put_name.new.nodes.entries named c.slot_of-slot.result slot)
    (after_then start _ (λ w. slot_led w to.parent c.slot_of-slot.result) c.take_name.new.v c.lead_slot.new.v c.take_name.new.touched.touched c.lead_slot.new.touched.touched c.take_name.ensures.done c.lead_slot.ensures.done))
