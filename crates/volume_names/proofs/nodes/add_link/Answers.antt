use Rattle.std.proofs.Common.{ap, ◌∙◌, ◌+◌, sym, subst}
use Rattle.std.specs.Option.{option_copied_mut}
use Rattle.volume_names.proofs.Changed.{volume_of, links_changed, noted_inode}
use Rattle.volume_model.specs.declared.placed.Placed.{Placed}
use Rattle.volume_steps.specs.Steps.{with_links}
use Rattle.volume_names.specs.code.Steps.{After, more_links}
use Rattle.volume_names.proofs.nodes.add_link.Goals as goal
use Rattle.volume_model.specs.Moves.{inode_written}

pub returns-clause-done : goal.returns-clause-done
returns-clause-done c =
    let v = c.v.inside in
    let p : Placed = c.in-Some.placed.now in
    let q : Placed = record { number = p.number; inode = with_links p.inode (p.inode.links + 1); part = p.part } in
    subst (λ s. After c.args.touched.now.touched (more_links s c.args.n) (volume_of v.geometry c.write_inode.new.blocks (c.get_mut.follows.lender q).entries v.zones) c.write_inode.new.touched.touched) c.v.view_is
    (links_changed (volume_of v.geometry v.blocks v.nodes.entries v.zones) c.args.n c.in-Some.placed.now c.args.touched.now.touched _ c.write_inode.new.blocks _ c.get_mut.ensures.ordered
    (sym c.get_mut.ensures.value ∙ ap option_copied_mut c.in-Some.is) (λ links. links + 1) (c.get_mut.follows.holds q).0
    (c.write_inode.ensures.blocks ∙ ap (λ i. inode_written v.geometry v.blocks p.number i q.inode) c.copy_inode-before.ensures)
    (noted_inode v.geometry p.number _ p.inode q.inode _ _ c.copy_inode-before.ensures c.write_inode.ensures.touched))
