use Rattle.volume_names.proofs.LowestInodes.{nodes_marked}
use Rattle.volume_names.proofs.inode_map.InodeMap.of.Goals as goal

pub returns : goal.returns
returns c = nodes_marked c.args.g.now c.args.nodes.now.entries c.in_ok-marks.marks.items c.in_ok-marks.ensures.ordered c.in_ok-marks.ensures.size c.in_ok-marks.ensures.marked
