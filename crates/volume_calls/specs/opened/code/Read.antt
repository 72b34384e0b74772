-- What the laws say of a plain image that was read.
use Rattle.std.specs.Prelude.{◌≡◌, ℕ, ◌↔◌, List, Some, Ok}
use Rattle.blk_base.specs.Members.{In}
use Rattle.minix_layout.specs.declared.division.Geometry.{Geometry}
use Rattle.minix_layout.specs.Geometry.{IsSound}
use Rattle.tree_model.specs.Calls.{Tree}
use Rattle.tree_model.specs.Maps.{at_number}
use Rattle.volume_ops.specs.declared.found.FoundNode.{FoundNode}
use Rattle.volume_ops.specs.Faultless.{IsUsed}
use Rattle.volume_ops.specs.Volume.{walked, tree_of}
use Rattle.volume_ops.specs.Walk.{Walked}
use Rattle.volume_model.specs.ImageNodes.{contents_in}
use Rattle.volume_model.specs.Plain.{IsPlainContents, HasZone}
use Rattle.volume_model.specs.Trees.{tree_now}
use Rattle.volume_calls.specs.opened.code.Placing.{placed_found}

-- its nodes can change, stand for its tree, and are those that the walk found; and its zones are those that they have
pub record IsRead (g : Geometry) (blocks : List (List ℕ)) (tree : Tree) : Type 0 where
  pub sound : IsSound g
  pub found : Walked
  pub is : walked g blocks ≡ Ok found
  pub tree_is : tree_of g blocks ≡ Ok tree
  pub stands : IsPlainContents g (contents_in g blocks tree)
  pub stands_for : tree_now blocks (contents_in g blocks tree).nodes ≡ tree
  pub nodes : (n : FoundNode) → In n found.nodes → at_number (contents_in g blocks tree).nodes n.birth ≡ Some (placed_found g blocks n)
  pub zones : (zone : ℕ) → IsUsed g blocks zone ↔ HasZone (contents_in g blocks tree) zone
