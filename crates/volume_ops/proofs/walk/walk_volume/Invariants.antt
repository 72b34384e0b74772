use Rattle.std.proofs.Common.{◌≡◌, ◌+◌, ◌*◌, ◌^◌, length, reverse}
use Rattle.volume_ops.specs.Reads.{answer}
use Rattle.volume_ops.specs.code.Visits.{ArePending}
use Rattle.volume_ops.specs.Volume.{disk_of, walked}
use Rattle.volume_ops.specs.Walk.{walk}
use Rattle.volume_ops.proofs.UnmetMarks.{to_meet}
use Rattle.volume_ops.proofs.walk.walk_volume.Given as goal

-- the walk on from here ends where all of it from the start does
abbrev pub invariant-loop-next : goal.invariant-loop-next
invariant-loop-next l =
    (answer (disk_of l.disk) (walk (to_meet l.walker.inodes) l.g l.walker (reverse l.stack.items)) ≡ walked l.g l.disk)
    × (length l.walker.inodes ≡ l.g.inodes + 1)
    × ArePending l.g l.stack.items

-- a visit meets an inode, and what it names fits the memory
abbrev pub decreases-loop-next : goal.decreases-loop-next
decreases-loop-next l = to_meet l.walker.inodes * 2 ^ 64 + length l.stack.items
