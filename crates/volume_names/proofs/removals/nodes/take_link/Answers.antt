use Rattle.std.proofs.Common.{ap, ◌∙◌, ◌-◌, ℕ, sym, subst}
use Rattle.std.specs.BTreeMap.{is_at}
use Rattle.std.specs.Map.{set_value}
use Rattle.std.specs.Option.{option_copied_mut}
use Rattle.std.specs.Ordering.{nat_cmp}
use Rattle.volume_names.proofs.Changed.{volume_of, links_changed}
use Rattle.volume_model.specs.declared.placed.Placed.{Placed}
use Rattle.volume_model.specs.Moves.{inode_written, inode_told}
use Rattle.volume_model.specs.Touched.{and_then}
use Rattle.volume_steps.specs.Now.{tells_blocks}
use Rattle.volume_steps.specs.Steps.{set_links, with_links}
use Rattle.volume_names.specs.code.Steps.{After}
use Rattle.volume_names.proofs.removals.nodes.take_link.Goals as goal

pub returns-clause-done : goal.returns-clause-done
returns-clause-done c =
    let v = c.v.inside in
    let p : Placed = c.in-Some.placed.now in
    let node : ℕ → Placed = λ links. record { number = p.number; inode = with_links p.inode links; part = p.part } in
    let links = c.saturating_sub-placed.ensures in
    subst (λ s. After c.args.touched.now.touched (set_links s c.args.n (λ links. links - 1)) (volume_of v.geometry c.write_inode.new.blocks (c.get_mut.follows.lender (node c.saturating_sub-placed.result)).entries v.zones) c.write_inode.new.touched.touched) c.v.view_is
    (links_changed (volume_of v.geometry v.blocks v.nodes.entries v.zones) c.args.n p c.args.touched.now.touched _ c.write_inode.new.blocks _ c.get_mut.ensures.ordered
    (sym c.get_mut.ensures.value ∙ ap option_copied_mut c.in-Some.is) (λ links. links - 1)
    ((c.get_mut.follows.holds (node c.saturating_sub-placed.result)).0 ∙ ap (λ links. set_value (is_at (nat_cmp c.args.n)) v.nodes.entries (node links)) links)
    (c.write_inode.ensures.blocks ∙ (λ k. inode_written v.geometry v.blocks p.number (c.copy_inode-before.ensures k) (with_links p.inode (links k))))
    (c.write_inode.ensures.touched ∙ (λ k. and_then c.args.touched.now.touched (tells_blocks (inode_told v.geometry p.number (c.copy_inode-before.ensures k) (with_links p.inode (links k)))))))
