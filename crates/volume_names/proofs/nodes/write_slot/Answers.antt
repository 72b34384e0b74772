use Rattle.std.proofs.Common.{ap, ◌∙◌, ◌*◌, ◌/◌, ◌%◌, sym, subst}
use Rattle.std.specs.Option.{option_copied, option_copied_mut}
use Rattle.volume_names.proofs.Changed.{volume_of, slot_changed, noted_slot, noted_inode}
use Rattle.volume_model.specs.declared.placed.Placed.{Placed}
use Rattle.volume_model.specs.Edits.{put_slot, edited}
use Rattle.volume_model.specs.Volume.{block, zone_in}
use Rattle.volume_model.specs.Moves.{with_size, inode_written}
use Rattle.volume_names.specs.code.Steps.{After, slot_written}
use Rattle.volume_names.proofs.nodes.write_slot.Goals as goal

pub returns-clause-done : goal.returns-clause-done
returns-clause-done c =
    let v = c.v.inside in
    let p : Placed = c.in-Some.placed.now in
    let q : Placed = record { number = p.number; inode = with_size p.inode (c.slot_size.result * c.args.slots); part = p.part } in
    subst (λ s. After c.args.touched.now.touched (slot_written s c.args.n c.args.at (option_copied c.args.slot) c.args.slots) (volume_of v.geometry c.write_inode.new.blocks (c.get_mut.follows.lender q).entries v.zones) c.note_node.new.self.touched) c.v.view_is
    (slot_changed (volume_of v.geometry v.blocks v.nodes.entries v.zones) c.args.n c.in-Some.placed.now c.args.touched.now.touched _ c.write_inode.new.blocks _ c.get_mut.ensures.ordered
    (sym c.get_mut.ensures.value ∙ ap option_copied_mut c.in-Some.is) c.args.at (option_copied c.args.slot) c.args.slots (c.slot_size.result * c.args.slots) c.block_zone-zone.result c.put_slot.new.blocks
    (ap (λ size. size * c.args.slots) c.slot_size.ensures)
    (c.block_zone-zone.ensures ∙ ap (λ per. zone_in v.blocks p.inode (block (c.args.at / per))) c.slots_a_block-per.ensures)
    (c.get_mut.follows.holds q).0
    (c.put_slot.ensures ∙ ap (λ per. edited v.geometry v.blocks (put_slot c.block_zone-zone.result (c.args.at % per) (option_copied c.args.slot))) c.slots_a_block-per.ensures)
    (c.write_inode.ensures.blocks ∙ ap (λ i. inode_written v.geometry c.put_slot.new.blocks p.number i q.inode) c.copy_inode-before.ensures)
    (noted_slot c.args.touched.now c.note_block.new.self c.write_inode.new.touched c.note_node.new.self c.into.result _ c.args.n _ c.note_block.ensures
    (noted_inode v.geometry p.number _ p.inode q.inode _ _ c.copy_inode-before.ensures c.write_inode.ensures.touched) c.note_node.ensures c.into.ensures))
