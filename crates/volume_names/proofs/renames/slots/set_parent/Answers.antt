use Rattle.std.proofs.Common.{ap, ◌∙◌, ◌≤◌, codes, length, refl, sym, subst}
use Rattle.minix_layout.specs.declared.slot.Slot.{Slot}
use Rattle.volume_steps.specs.Now.{Change}
use Rattle.volume_steps.specs.Steps.{set_parent}
use Rattle.volume_names.specs.code.Steps.{After}
use Rattle.volume_names.proofs.Changed.{volume_of}
use Rattle.volume_names.specs.removals.code.Naming.{HasSlot}
use Rattle.volume_names.specs.renames.code.Parts.{MayTurn, slot_led}
use Rattle.volume_names.proofs.RenamesLemmas.Leading.{dots_short, turned_slot, turned_volume, sets_parent, sets_parent_in}
use Rattle.volume_names.proofs.renames.slots.set_parent.Goals as goal

pub lead_slot-requires-clause-may : goal.lead_slot-requires-clause-may
lead_slot-requires-clause-may c =
    let v = c.v.inside in
    let now = volume_of v.geometry v.blocks v.nodes.entries v.zones in
    let h : MayTurn now c.args.n c.args.parent c.args.above = subst (λ s. MayTurn s c.args.n c.args.parent c.args.above) (sym c.v.view_is) c.requires.may in
    let w = volume_of v.geometry v.blocks c.turn.new.nodes.entries v.zones in
    subst (λ (s : Slot). HasSlot w c.args.n s.name) (sym c.dots.ensures)
    (subst (λ w. HasSlot w c.args.n (codes "..")) (sym (sets_parent_in now c.args.n c.args.parent c.args.above h c.turn.new.nodes.entries w refl c.turn.ensures)) (turned_slot now c.args.n c.args.parent c.args.above h))

pub lead_slot-requires-clause-short : goal.lead_slot-requires-clause-short
lead_slot-requires-clause-short c =
    let v = c.v.inside in
    let now = volume_of v.geometry v.blocks v.nodes.entries v.zones in
    let h : MayTurn now c.args.n c.args.parent c.args.above = subst (λ s. MayTurn s c.args.n c.args.parent c.args.above) (sym c.v.view_is) c.requires.may in
    subst (λ (s : Slot). length s.name ≤ v.geometry.width) (sym c.dots.ensures) (dots_short v.geometry.width h.slot.width)

pub returns-clause-done : goal.returns-clause-done
returns-clause-done c =
    let v = c.v.inside in
    let now = volume_of v.geometry v.blocks v.nodes.entries v.zones in
    let h : MayTurn now c.args.n c.args.parent c.args.above = subst (λ s. MayTurn s c.args.n c.args.parent c.args.above) (sym c.v.view_is) c.requires.may in
    let w = volume_of v.geometry v.blocks c.turn.new.nodes.entries v.zones in
    subst (λ s. After c.args.touched.now.touched (set_parent s c.args.n c.args.parent) c.lead_slot.new.v c.lead_slot.new.touched.touched) c.v.view_is
    (subst (λ (change : Change). After c.args.touched.now.touched change c.lead_slot.new.v c.lead_slot.new.touched.touched)
    (ap (λ w. slot_led w c.args.n c.dots.result) (sets_parent_in now c.args.n c.args.parent c.args.above h c.turn.new.nodes.entries w refl c.turn.ensures)
    ∙ (ap (slot_led (turned_volume now c.args.n c.args.parent c.args.above h) c.args.n) c.dots.ensures ∙ sets_parent now c.args.n c.args.parent c.args.above h))
    c.lead_slot.ensures.done)
