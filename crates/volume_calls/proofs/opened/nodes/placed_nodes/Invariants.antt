use Rattle.std.proofs.Common.{◌≡◌, []}
use Rattle.std.specs.Vec.Iter.{into_iter_items}
use Rattle.blk_base.specs.Members.{In}
use Rattle.volume_ops.specs.declared.found.FoundNode.{FoundNode}
use Rattle.volume_calls.specs.opened.code.Placing.{IsNodeFound, placed_found, put_all}
use Rattle.volume_calls.proofs.opened.nodes.placed_nodes.Given as goal

abbrev pub invariant-loop-node : goal.invariant-loop-node
invariant-loop-node l =
    (put_all (placed_found l.g l.disk) (into_iter_items l.node-iterator) l.nodes.entries ≡ put_all (placed_found l.fn.g l.fn.disk) l.fn.found.items [])
    × ((n : FoundNode) → In n (into_iter_items l.node-iterator) → IsNodeFound n)
