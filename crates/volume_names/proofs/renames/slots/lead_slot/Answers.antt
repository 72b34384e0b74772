use Rattle.std.proofs.Common.{ap, ◌∙◌, ◌/◌, ◌%◌, ◌^◌, ◌<◌, ◌≤◌, length, Some, refl, sym, subst, arith}
use Rattle.std.specs.Option.{option_copied_mut}
use Rattle.minix_layout.specs.Widths.{IsWidth}
use Rattle.minix_tables.specs.directories.Slots.{place_of}
use Rattle.volume_model.specs.declared.placed.DirectoryPart.{DirectoryPart}
use Rattle.volume_model.specs.declared.placed.Placed.{Placed}
use Rattle.volume_model.specs.declared.placed.Part.TheVariants as parts
use Rattle.volume_model.specs.Edits.{put_slot, edited}
use Rattle.volume_model.specs.Volume.{block, zone_in}
use Rattle.volume_steps.specs.Now.{VolumeNow}
use Rattle.volume_names.specs.code.Steps.{After}
use Rattle.volume_names.proofs.Changed.{volume_of, noted_zone}
use Rattle.volume_names.specs.removals.code.Naming.{HasSlot}
use Rattle.volume_names.proofs.RemovalsLemmas.NameTaken.{place_in, same_part, stands_somewhere}
use Rattle.volume_names.specs.renames.code.Parts.{slot_led}
use Rattle.volume_names.proofs.RenamesLemmas.Leading.{led_at}
use Rattle.volume_names.proofs.renames.slots.lead_slot.Goals as goal

pub unreachable-requires-in_default-lead_in : goal.unreachable-requires-in_default-lead_in
unreachable-requires-in_default-lead_in c =
    let v = c.v.inside in
    let now = volume_of v.geometry v.blocks v.nodes.entries v.zones in
    let h : HasSlot now c.args.n c.args.slot.now.name = subst (λ s. HasSlot s c.args.n c.args.slot.now.name) (sym c.v.view_is) c.requires.may in
    let at = sym c.get_mut.ensures.value ∙ ap option_copied_mut c.in-Some.is in
    stands_somewhere now c.args.n c.args.slot.now.name h
    (ap (λ (d : DirectoryPart). place_of d.slots c.args.slot.now.name) (same_part now c.args.n c.args.slot.now.name h c.in-Some.placed.now c.in-Directory.directory at c.in-Directory.is)
    ∙ c.in_default-lead_in.ensures.none refl)

pub overflow_cast-at : goal.overflow_cast-at
overflow_cast-at c =
    let v = c.v.inside in
    let now = volume_of v.geometry v.blocks v.nodes.entries v.zones in
    let h : HasSlot now c.args.n c.args.slot.now.name = subst (λ s. HasSlot s c.args.n c.args.slot.now.name) (sym c.v.view_is) c.requires.may in
    let at = sym c.get_mut.ensures.value ∙ ap option_copied_mut c.in-Some.is in
    let small = place_in now c.args.n c.args.slot.now.name h c.in-Some.placed.now c.in-Directory.directory at c.in-Directory.is c.in-Some-lead_in.at c.in-Some-lead_in.ensures.some.0 in
    let fits = subst (λ per. c.in-Some-lead_in.at / per < 2 ^ 32) (sym c.slots_a_block-per.ensures) small in
    omega (arith, fits)

pub put_slot-requires-clause-width : goal.put_slot-requires-clause-width
put_slot-requires-clause-width c = subst (λ (s : VolumeNow). IsWidth s.geometry.width) (sym c.v.view_is) c.requires.may.width

pub put_slot-requires-clause-short : goal.put_slot-requires-clause-short
put_slot-requires-clause-short c = subst (λ (s : VolumeNow). length c.args.slot.now.name ≤ s.geometry.width) (sym c.v.view_is) c.requires.short

pub returns-clause-done : goal.returns-clause-done
returns-clause-done c =
    let v = c.v.inside in
    let now = volume_of v.geometry v.blocks v.nodes.entries v.zones in
    let h : HasSlot now c.args.n c.args.slot.now.name = subst (λ s. HasSlot s c.args.n c.args.slot.now.name) (sym c.v.view_is) c.requires.may in
    let p : Placed = c.in-Some.placed.now in
    let q : Placed = record { number = p.number; inode = p.inode; part = parts.Directory c.lead_in.new.directory } in
    let told = c.in-Some-lead_in.ensures.some in
    subst (λ s. After c.args.touched.now.touched (slot_led s c.args.n c.args.slot.now) (volume_of v.geometry c.put_slot.new.blocks (c.get_mut.follows.lender q).entries v.zones) c.note_node.new.self.touched) c.v.view_is
    (led_at now c.args.n c.args.slot.now h p c.in-Directory.directory (sym c.get_mut.ensures.value ∙ ap option_copied_mut c.in-Some.is) c.in-Directory.is c.in-Some-lead_in.at c.block_zone-zone.result c.lead_in.new.directory
    c.put_slot.new.blocks _ c.args.touched.now.touched _ told.0 told.1
    (c.block_zone-zone.ensures ∙ ap (λ per. zone_in v.blocks p.inode (block (c.in-Some-lead_in.at / per))) c.slots_a_block-per.ensures)
    (c.put_slot.ensures ∙ ap (λ per. edited v.geometry v.blocks (put_slot c.block_zone-zone.result (c.in-Some-lead_in.at % per) (Some c.args.slot.now))) c.slots_a_block-per.ensures) (c.get_mut.follows.holds q).0
    (noted_zone c.args.touched.now c.note_block.new.self c.note_node.new.self c.into.result _ c.args.n c.note_block.ensures c.note_node.ensures c.into.ensures))
