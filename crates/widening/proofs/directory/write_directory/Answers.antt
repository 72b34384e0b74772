use Rattle.std.proofs.Common.{ap, ◌∙◌, true, false}
use Rattle.volume_model.specs.Edits.{edited_all}
use Rattle.widening.specs.Directories.{bit_edits}
use Rattle.widening.proofs.WriteSteps.{whole_part, all_in_turn}
use Rattle.widening.proofs.directory.write_directory.Goals as goal

pub returns : goal.returns
returns c =
    let g = c.args.g.now in
    let zones = c.as_slice-zones.result.now in
    all_in_turn g c.args.number c.args.inode c.args.slots.now c.args.had.now.zones.items c.args.had.now.own c.args.had.now.needed c.args.had.now.kept c.args.image.now
    zones c.all_needed-all.result c.indirect_of-indirect.result c.wide_inode-inode.result
    c.as_slice-zones.ensures.value c.all_needed-all.ensures c.indirect_of-indirect.ensures c.wide_inode-inode.ensures
    c.set_bits.new.image c.set_bits-2.new.image c.put_slots.new.image c.put_numbers.new.image _
    (c.set_bits.ensures ∙ ap (λ ys. edited_all g c.args.image.now (bit_edits g true ys)) (whole_part c.args.had.now.own zones))
    (c.set_bits-2.ensures ∙ ap (λ ys. edited_all g c.set_bits.new.image (bit_edits g false ys)) (whole_part c.all_needed-all.result zones))
    c.put_slots.ensures c.put_numbers.ensures c.put_inode.ensures
