use Rattle.std.proofs.Common.{ap, ◌∙◌, sym, subst}
use Rattle.std.specs.Option.{option_copied_mut}
use Rattle.volume_model.specs.declared.placed.Placed.{Placed}
use Rattle.volume_names.specs.code.Steps.{After, directory_written}
use Rattle.volume_names.proofs.Changed.{volume_of}
use Rattle.volume_names.proofs.Makes.{directory_changed, noted_directory}
use Rattle.volume_names.proofs.making.write_directory.Goals as goal

pub returns-clause-done : goal.returns-clause-done
returns-clause-done c =
    let v = c.v.inside in
    let p : Placed = c.in-Some.placed.now in
    let inode = c.new_directory-placed.result in
    let q : Placed = record { number = p.number; inode = c.new_directory-placed.result; part = p.part } in
    let zone = c.take_zone-zone.result in
    subst (λ s. After c.args.touched.now.touched (directory_written s c.args.n c.args.above) (volume_of v.geometry c.put_inode.new.blocks (c.get_mut.follows.lender q).entries c.take_zone-zone.new.zones) c.note_node.new.self.touched) c.v.view_is
    (directory_changed (volume_of v.geometry v.blocks v.nodes.entries v.zones) c.args.n p c.args.touched.now.touched _ c.put_inode.new.blocks _ c.get_mut.ensures.ordered
    (sym c.get_mut.ensures.value ∙ ap option_copied_mut c.in-Some.is) c.args.above c.take_zone-zone.result c.take_zone-zone.ensures.zone c.new_directory-placed.result c.new_directory-placed.ensures
    c.take_zone-zone.new.zones c.mark_inode.new.blocks c.mark_zone.new.blocks c.write_dots.new.blocks c.take_zone-zone.ensures.taken c.mark_inode.ensures.blocks c.mark_zone.ensures.blocks c.write_dots.ensures.blocks c.put_inode.ensures
    (c.get_mut.follows.holds q).0
    (noted_directory c.args.touched.now c.mark_inode.new.touched c.mark_zone.new.touched c.write_dots.new.touched c.note_block.new.self c.note_node.new.self v.geometry p.number c.take_zone-zone.result c.args.above c.table_block.result c.args.n
    c.mark_inode.ensures.touched c.mark_zone.ensures.touched c.write_dots.ensures.touched c.note_block.ensures c.table_block.ensures c.note_node.ensures c.new_directory-placed.result c.new_directory-placed.ensures))
