use Rattle.std.proofs.Common.{ap, ◌∙◌, ◌/◌, ◌%◌, ◌^◌, ◌<◌, None, refl, sym, subst, arith}
use Rattle.std.specs.Option.{option_copied_mut}
use Rattle.minix_layout.specs.Widths.{IsWidth}
use Rattle.minix_tables.specs.directories.Slots.{place_of}
use Rattle.volume_model.specs.declared.placed.DirectoryPart.{DirectoryPart}
use Rattle.volume_model.specs.declared.placed.Placed.{Placed}
use Rattle.volume_model.specs.declared.placed.Part.TheVariants as parts
use Rattle.volume_model.specs.Edits.{put_slot, edited}
use Rattle.volume_model.specs.Volume.{block, zone_in}
use Rattle.volume_steps.specs.Now.{VolumeNow}
use Rattle.volume_steps.specs.Steps.{take_name}
use Rattle.volume_names.specs.code.Steps.{After}
use Rattle.volume_names.proofs.Changed.{volume_of, noted_zone}
use Rattle.volume_names.specs.removals.code.Naming.{HasSlot}
use Rattle.volume_names.proofs.RemovalsLemmas.NameTaken.{stands_somewhere, place_in, same_part, taken_at}
use Rattle.volume_names.proofs.removals.names.take_name.Goals as goal

pub unreachable-requires-in_default-remove_name : goal.unreachable-requires-in_default-remove_name
unreachable-requires-in_default-remove_name c =
    let v = c.v.inside in
    let now = volume_of v.geometry v.blocks v.nodes.entries v.zones in
    let h : HasSlot now c.args.n c.args.name.now = subst (λ s. HasSlot s c.args.n c.args.name.now) (sym c.v.view_is) c.requires.may in
    let at = sym c.get_mut.ensures.value ∙ ap option_copied_mut c.in-Some.is in
    stands_somewhere now c.args.n c.args.name.now h
    (ap (λ (d : DirectoryPart). place_of d.slots c.args.name.now) (same_part now c.args.n c.args.name.now h c.in-Some.placed.now c.in-Directory.directory at c.in-Directory.is)
    ∙ c.in_default-remove_name.ensures.none refl)

pub overflow_cast-at : goal.overflow_cast-at
overflow_cast-at c =
    let v = c.v.inside in
    let now = volume_of v.geometry v.blocks v.nodes.entries v.zones in
    let h : HasSlot now c.args.n c.args.name.now = subst (λ s. HasSlot s c.args.n c.args.name.now) (sym c.v.view_is) c.requires.may in
    let at = sym c.get_mut.ensures.value ∙ ap option_copied_mut c.in-Some.is in
    let small = place_in now c.args.n c.args.name.now h c.in-Some.placed.now c.in-Directory.directory at c.in-Directory.is c.in-Some-remove_name.at c.in-Some-remove_name.ensures.some.0 in
    let fits = subst (λ per. c.in-Some-remove_name.at / per < 2 ^ 32) (sym c.slots_a_block-per.ensures) small in
    omega (arith, fits)

pub put_slot-requires-clause-width : goal.put_slot-requires-clause-width
put_slot-requires-clause-width c = subst (λ (s : VolumeNow). IsWidth s.geometry.width) (sym c.v.view_is) c.requires.may.width

pub returns-clause-done : goal.returns-clause-done
returns-clause-done c =
    let v = c.v.inside in
    let now = volume_of v.geometry v.blocks v.nodes.entries v.zones in
    let h : HasSlot now c.args.n c.args.name.now = subst (λ s. HasSlot s c.args.n c.args.name.now) (sym c.v.view_is) c.requires.may in
    let p : Placed = c.in-Some.placed.now in
    let q : Placed = record { number = p.number; inode = p.inode; part = parts.Directory c.remove_name.new.directory } in
    let told = c.in-Some-remove_name.ensures.some in
    subst (λ s. After c.args.touched.now.touched (take_name s c.args.n c.args.name.now) (volume_of v.geometry c.put_slot.new.blocks (c.get_mut.follows.lender q).entries v.zones) c.note_node.new.self.touched) c.v.view_is
    (taken_at now c.args.n c.args.name.now h p c.in-Directory.directory (sym c.get_mut.ensures.value ∙ ap option_copied_mut c.in-Some.is) c.in-Directory.is c.in-Some-remove_name.at c.block_zone-zone.result c.remove_name.new.directory
    c.put_slot.new.blocks _ c.args.touched.now.touched _ told.0 told.1
    (c.block_zone-zone.ensures ∙ ap (λ per. zone_in v.blocks p.inode (block (c.in-Some-remove_name.at / per))) c.slots_a_block-per.ensures)
    (c.put_slot.ensures ∙ ap (λ per. edited v.geometry v.blocks (put_slot c.block_zone-zone.result (c.in-Some-remove_name.at % per) None)) c.slots_a_block-per.ensures) (c.get_mut.follows.holds q).0
    (noted_zone c.args.touched.now c.note_block.new.self c.note_node.new.self c.into.result _ c.args.n c.note_block.ensures c.note_node.ensures c.into.ensures))
