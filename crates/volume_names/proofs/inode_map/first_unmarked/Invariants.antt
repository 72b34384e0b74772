use Rattle.volume_names.specs.code.InodeMap.{AreUsedBelow}
use Rattle.volume_names.proofs.inode_map.first_unmarked.Given as goal

abbrev pub invariant-loop-number : goal.invariant-loop-number
invariant-loop-number l = AreUsedBelow l.marks l.number
