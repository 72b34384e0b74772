use Rattle.std.proofs.Common.{◌≡◌, [], drop}
use Rattle.volume_ops.specs.Volume.{put_nodes}
use Rattle.volume_ops.proofs.volume.Volume.tree.Given as goal

abbrev pub invariant-loop-node : goal.invariant-loop-node
invariant-loop-node l = put_nodes l.self.blocks (drop l.node-index l.node-items) l.tree ≡ put_nodes l.self.blocks l.node-items []
