-- The trees of the images of the transactions, as the walk through a volume finds them.
use Rattle.std.specs.Prelude.{◌≡◌, ℕ, List, Result, Ok}
use Rattle.minix_layout.specs.declared.division.Geometry.{Geometry}
use Rattle.order_model.specs.OrderClosed.{IsOrderClosed}
use Rattle.tree_model.specs.declared.node.Node.{Node}
use Rattle.tree_model.specs.Trees.{AreAlike}
use Rattle.volume_ops.specs.Volume.{disk_of, tree_of}
use Rattle.volume_ops.specs.Walk.{Walked, walk_volume}
use Rattle.volume_ops.specs.Zones.{Fault}
use Rattle.crash_laws.specs.Rules.{OrderRules}
use Rattle.crash_laws.specs.Session.{Session, Medium, IsSubmitted, image_of}

-- how the walk through a volume ends: with what it met, or with the first fault
abbrev pub WalkEnd : Type 0
WalkEnd = Result Walked Fault

-- A medium that a power cut left of a session: the submitted list keeps the order rules, and each put that a barrier
-- orders before a kept one is kept.
pub record IsCutOf (g : Geometry) (s : Session) (m : Medium) : Type 0 where
  pub rules : OrderRules (walk_volume g) s
  pub closed : IsOrderClosed s.base s.requests m.image m.origins

-- the image of transaction k, as blocks, has a tree that is alike to this one
pub record HasTreeOf (g : Geometry) (s : Session) (k : ℕ) (after : List (ℕ × Node)) : Type 0 where
  pub image : List (List ℕ)
  pub blocks : (b : ℕ) → disk_of image b ≡ image_of s k b
  pub tree : List (ℕ × Node)
  pub found : tree_of g image ≡ Ok tree
  pub alike : AreAlike after tree

-- the image of each submitted transaction has the tree that the calls left at its cut
abbrev pub HasTreesOf : Geometry → Session → (ℕ → List (ℕ × Node)) → Type 0
HasTreesOf g s tree_after = (k : ℕ) → IsSubmitted s k → HasTreeOf g s k (tree_after k)
