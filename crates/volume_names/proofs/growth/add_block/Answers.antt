use Rattle.std.proofs.Common.{ap, ◌∙◌, sym, subst, ◌≡◌, Some, true, map}
use Rattle.std.specs.Option.{option_copied_mut}
use Rattle.volume_model.specs.declared.placed.Placed.{Placed}
use Rattle.volume_model.specs.MapBlock.{TakenZones, own_of}
use Rattle.tree_model.specs.Maps.{at_number}
use Rattle.volume_steps.specs.Zones.{zone_bit, take_zones}
use Rattle.volume_names.specs.code.Steps.{After, HasHole, block_added}
use Rattle.volume_names.proofs.Changed.{volume_of, block_changed, noted_block, noted_inode}
use Rattle.volume_names.proofs.growth.add_block.Goals as goal
use Rattle.volume_model.specs.Moves.{inode_written}

pub returns-clause-done : goal.returns-clause-done
returns-clause-done c =
    let v = c.v.inside in
    let p : Placed = c.in-Some.placed.now in
    let q : Placed = record { number = p.number; inode = c.map_block.new.inode; part = p.part } in
    let t = c.take_zones-taken.result in
    let taken : TakenZones = record { data_zone = t.data_zone; outer = t.outer; second = t.second } in
    let now = volume_of v.geometry v.blocks v.nodes.entries v.zones in
    let at = sym c.get_mut.ensures.value ∙ ap option_copied_mut c.in-Some.is in
    subst (λ s. After c.args.touched.now.touched (block_added s c.args.n c.args.index) (volume_of v.geometry c.write_inode.new.blocks (c.get_mut.follows.lender q).entries c.take_zones-taken.new.zones) c.note_node.new.self.touched) c.v.view_is
    (block_changed now c.args.n p c.args.touched.now.touched _ c.write_inode.new.blocks _ c.get_mut.ensures.ordered at
    c.args.index c.requires.few (subst (λ s. HasHole s p c.args.index) (sym c.v.view_is) (c.requires.hole p (subst (λ s. at_number s.contents.nodes c.args.n ≡ Some p) c.v.view_is at))) c.take_zones-taken.new.zones taken c.take_zones-taken.new.blocks c.map_block.new.blocks c.fill.result c.map_block.new.inode
    c.take_zones-taken.ensures.zones c.take_zones-taken.ensures.taken c.take_zones-taken.ensures.blocks c.fill.ensures c.map_block.ensures
    (c.write_inode.ensures.blocks ∙ ap (λ i. inode_written v.geometry c.map_block.new.blocks p.number i q.inode) c.copy_inode-before.ensures) (c.get_mut.follows.holds q).0
    (noted_block c.args.touched.now c.take_zones-taken.new.touched c.note_mapped.new.touched c.write_inode.new.touched c.note_node.new.self v.geometry (map (zone_bit v.geometry true) (take_zones (own_of (record { blocks = v.blocks; inode = p.inode })) c.args.index v.zones).numbers) c.args.n _ _
    c.take_zones-taken.ensures.touched c.note_mapped.ensures.blocks (noted_inode v.geometry p.number _ p.inode q.inode _ _ c.copy_inode-before.ensures c.write_inode.ensures.touched) c.note_node.ensures))
