-- The tree of a volume without a fault, in no order: by its fields, and as the maps that a tree is made of.
use Rattle.std.specs.Prelude.{◌≡◌, ℕ, List, Some}
use Rattle.std.specs.List.Sorted.{IsStrictlySortedBy}
use Rattle.std.specs.Map.{keys_of}
use Rattle.std.specs.Ordering.{nat_cmp}
use Rattle.minix_layout.specs.declared.division.Geometry.{Geometry}
use Rattle.tree_model.specs.declared.node.Node.{Node}
use Rattle.tree_model.specs.declared.node.Node.TheVariants as nodes
use Rattle.tree_model.specs.declared.node.File.{File}
use Rattle.tree_model.specs.Maps.{at_number}
use Rattle.tree_model.specs.Rooted.{IsRooted}
use Rattle.volume_ops.specs.VolumeFields.{IsTreeOf}
use Rattle.volume_ops.specs.Faultless.{IsFaultless}

-- The volume has no fault; the tree says what its fields say and hangs together; the blocks of each file stand in
-- the order of their indices, each once.
pub record IsVolumeTree (g : Geometry) (blocks : List (List ℕ)) (tree : List (ℕ × Node)) : Type 0 where
  pub faultless : IsFaultless g blocks
  pub fields : IsTreeOf g blocks tree
  pub rooted : IsRooted tree
  pub blocks_in_order : (birth : ℕ) (f : File) → at_number tree birth ≡ Some (nodes.File f) → IsStrictlySortedBy nat_cmp (keys_of f.blocks)
