use Rattle.std.proofs.Common.{◌≡◌, ◌++◌, ℕ}
use Rattle.blk_base.specs.Members.{In}
use Rattle.volume_model.specs.declared.placed.Placed.{Placed}
use Rattle.volume_model.specs.Trees.{tree_now}
use Rattle.volume_model.specs.Volume.{IsPart}
use Rattle.volume_in_use.proofs.reads.trees.tree.Given as goal

abbrev pub invariant-loop-birth : goal.invariant-loop-birth
invariant-loop-birth l =
    (l.tree ++ tree_now l.v.contents.blocks l.birth-iterator ≡ tree_now l.v.contents.blocks l.v.contents.nodes)
    × ((e : ℕ × Placed) → In e l.birth-iterator → IsPart l.v.geometry l.v.contents.blocks e.1.inode e.1.part)
