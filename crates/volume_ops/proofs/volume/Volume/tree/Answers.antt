use Rattle.std.proofs.Common.{sym, subst}
use Rattle.volume_ops.specs.laws.Rising.{HasRising}
use Rattle.volume_ops.proofs.RisingLaws.{walked_rises, AllRise}
use Rattle.volume_ops.specs.declared.found.FoundNode.{FoundNode}
use Rattle.volume_ops.specs.declared.volume.Volume.TheInside.{Inside}
use Rattle.volume_ops.proofs.volume.Volume.tree.Goals as goal

pub node_of-requires : goal.node_of-requires
node_of-requires c =
    let all = walked_rises c.self.inside.geometry c.self.inside.disk c.self.inside.found c.self.invariant.2 in
    let here = subst (λ (v : Inside). AllRise v.found.nodes) (sym c.self-inside.view_is) all in
    let items = subst AllRise (sym c.deref-node-items.ensures.value) here in
    subst (λ (n : FoundNode). HasRising n.found) (sym c.node-item.is) (items c.loop-node.node-index c.node-item.result c.loop-node-test.true)
