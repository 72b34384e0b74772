-- Which inodes the nodes of a volume have.
use Rattle.std.specs.Prelude.{◌≡◌, ℕ, List, Some}
use Rattle.tree_model.specs.Maps.{at_number}
use Rattle.volume_model.specs.declared.placed.Placed.{Placed}

-- a node has this inode
pub record IsInodeUsed (nodes : List (ℕ × Placed)) (number : ℕ) : Type 0 where
  pub birth : ℕ
  pub placed : Placed
  pub stands : at_number nodes birth ≡ Some placed
  pub is : placed.number ≡ number
