use Rattle.std.proofs.Common.{ap, ◌∙◌, ◌≡◌, ◌<◌, ℕ, sym, subst, arith}
use Rattle.std.proofs.lemmas.Option.{same_Some}
use Rattle.minix_layout.specs.declared.slot.Slot.{Slot}
use Rattle.volume_model.specs.declared.placed.Placed.{Placed}
use Rattle.minix_tables.specs.directories.Slots.{place_of}
use Rattle.volume_steps.specs.Calls.{link_in}
use Rattle.volume_in_use.specs.now.Noted.{Noted}
use Rattle.volume_names.specs.May.{MayLink}
use Rattle.volume_names.specs.code.NewSlot.{new_slot}
use Rattle.volume_names.specs.code.Steps.{entered, name_written}
use Rattle.volume_names.proofs.Changed.{volume_of}
use Rattle.volume_names.proofs.Creates.{after_then, after_nothing}
use Rattle.volume_names.proofs.Links.{no_place, some, stays, may_be_written, linked_as}
use Rattle.volume_names.proofs.linking.link.Goals as goal

pub enter-requires-clause-slot : goal.enter-requires-clause-slot
enter-requires-clause-slot c = λ p d at is.
    let v = c.v.inside in
    ap (λ (slot : Slot). place_of d.slots slot.name) c.slot_of.ensures
    ∙ no_place (volume_of v.geometry v.blocks v.nodes.entries v.zones) c.args.birth c.args.parent c.args.name.now (subst (λ s. MayLink s c.args.birth c.args.parent c.args.name.now) (sym c.v.view_is) c.requires) p d at is

pub add_link-requires-clause-numbers : goal.add_link-requires-clause-numbers
add_link-requires-clause-numbers c = λ p at.
    let v = c.v.inside in
    let now = volume_of v.geometry v.blocks v.nodes.entries v.zones in
    let h : MayLink now c.args.birth c.args.parent c.args.name.now = subst (λ s. MayLink s c.args.birth c.args.parent c.args.name.now) (sym c.v.view_is) c.requires in
    let slot = c.slot_of.ensures ∙ ap (λ (number : ℕ). record { inode = number; name = c.args.name.now }) (c.number_of-number.ensures h.placed h.stands) in
    let same : h.placed ≡ p = same_Some h.placed p (sym (stays now c.args.birth c.args.parent c.args.name.now h c.slot_of.result slot c.enter.new.nodes.entries
    (c.in_ok-new.ensures.nodes h.place.placed h.place.part h.place.stands h.place.is) c.in_ok-new.new (c.in_ok-new.ensures.place h.place.placed h.place.part h.place.stands h.place.is)) ∙ at) in
    subst (λ (p : Placed). 0 < p.number) same (some now c.args.birth c.args.parent c.args.name.now h)

pub add_link-requires-clause-links : goal.add_link-requires-clause-links
add_link-requires-clause-links c = λ p at.
    let v = c.v.inside in
    let now = volume_of v.geometry v.blocks v.nodes.entries v.zones in
    let h : MayLink now c.args.birth c.args.parent c.args.name.now = subst (λ s. MayLink s c.args.birth c.args.parent c.args.name.now) (sym c.v.view_is) c.requires in
    let slot = c.slot_of.ensures ∙ ap (λ (number : ℕ). record { inode = number; name = c.args.name.now }) (c.number_of-number.ensures h.placed h.stands) in
    let same : h.placed ≡ p = same_Some h.placed p (sym (stays now c.args.birth c.args.parent c.args.name.now h c.slot_of.result slot c.enter.new.nodes.entries
    (c.in_ok-new.ensures.nodes h.place.placed h.place.part h.place.stands h.place.is) c.in_ok-new.new (c.in_ok-new.ensures.place h.place.placed h.place.part h.place.stands h.place.is)) ∙ at) in
    subst (λ (p : Placed). p.inode.links < 255) same (less h.placed.inode.links h.links)
  where
    less : (k : ℕ) → k < 250 → k < 255
    less k low = omega arith

pub write_name-requires-clause-may : goal.write_name-requires-clause-may
write_name-requires-clause-may c =
    let v = c.v.inside in
    let now = volume_of v.geometry v.blocks v.nodes.entries v.zones in
    let h : MayLink now c.args.birth c.args.parent c.args.name.now = subst (λ s. MayLink s c.args.birth c.args.parent c.args.name.now) (sym c.v.view_is) c.requires in
    let slots = c.slot_of.ensures ∙ sym c.slot_of-slot.ensures in
    let slot = c.slot_of-slot.ensures ∙ ap (λ (number : ℕ). record { inode = number; name = c.args.name.now }) (c.number_of-number.ensures h.placed h.stands) in
    may_be_written now c.args.birth c.args.parent c.args.name.now h c.slot_of-slot.result slot c.enter.new.nodes.entries
    (c.in_ok-new.ensures.nodes h.place.placed h.place.part h.place.stands h.place.is
    ∙ ap (λ slot. entered v.nodes.entries c.args.parent h.place.placed h.place.part slot c.args.birth) slots)
    c.in_ok-new.new (c.in_ok-new.ensures.place h.place.placed h.place.part h.place.stands h.place.is ∙ ap (new_slot h.place.part) slots)
    c.add_link.new.v c.add_link.ensures.done.volume_is

pub returns-clause-done : goal.returns-clause-done
returns-clause-done c =
    let v = c.v.inside in
    let now = volume_of v.geometry v.blocks v.nodes.entries v.zones in
    let h : MayLink now c.args.birth c.args.parent c.args.name.now = subst (λ s. MayLink s c.args.birth c.args.parent c.args.name.now) (sym c.v.view_is) c.requires in
    let slots = c.slot_of.ensures ∙ sym c.slot_of-slot.ensures in
    let slot = c.slot_of-slot.ensures ∙ ap (λ (number : ℕ). record { inode = number; name = c.args.name.now }) (c.number_of-number.ensures h.placed h.stands) in
    after_nothing c.in_ok-touched.touched.touched _ c.write_name.new.v c.write_name.new.touched.touched (ap (λ (t : Noted). t.touched) c.in_ok-touched.ensures)
    (after_then c.in_ok-touched.touched.touched _ (λ u. name_written u c.args.parent c.slot_of-slot.result c.in_ok-new.new) c.add_link.new.v c.write_name.new.v c.add_link.new.touched.touched c.write_name.new.touched.touched
    c.add_link.ensures.done c.write_name.ensures.done)
    ∙ (linked_as now c.args.birth c.args.parent c.args.name.now h c.slot_of-slot.result slot c.enter.new.nodes.entries
    (c.in_ok-new.ensures.nodes h.place.placed h.place.part h.place.stands h.place.is
    ∙ ap (λ slot. entered v.nodes.entries c.args.parent h.place.placed h.place.part slot c.args.birth) slots)
    c.in_ok-new.new (c.in_ok-new.ensures.place h.place.placed h.place.part h.place.stands h.place.is ∙ ap (new_slot h.place.part) slots)
    ∙ ap (λ s. link_in s c.args.birth c.args.parent c.args.name.now) c.v.view_is)
