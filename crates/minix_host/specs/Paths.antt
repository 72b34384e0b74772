-- A path of each node of a tree, and where a walk found the blocks of the file that stands there.
use Rattle.std.specs.Prelude.{ℕ, zero, suc, ◌==◌, if◌then◌else◌, List, [], ◌∷◌, ◌++◌, length, Option, Some, None}
use Rattle.tree_model.specs.declared.node.Node.{Node}
use Rattle.tree_model.specs.Calls.{Tree}
use Rattle.tree_model.specs.laws.Listing.{names_of}
use Rattle.crash_laws.specs.TreeHistory.{zone_in_walk}
use Rattle.crash_laws.specs.Volumes.{WalkEnd}

-- a directory, by its birth, and a name that it gives
pub record Given : Type 0 where
  pub parent : ℕ
  pub name : List ℕ

-- the names among these, which a directory gives, that lead to a node
abbrev pub given_by : ℕ → ℕ → List (List ℕ × ℕ) → List Given
given_by birth parent [] = []
given_by birth parent (e ∷ es) = if e.1 == birth then record { parent = parent; name = e.0 } ∷ given_by birth parent es else given_by birth parent es

-- all names of a node
abbrev pub all_given : ℕ → List (ℕ × Node) → List Given
all_given birth [] = []
all_given birth (e ∷ es) = given_by birth e.0 (names_of (Some e.1)) ++ all_given birth es

-- the first of these names whose directory has a path, with that path before it
abbrev pub first_path : (ℕ → Option (List (List ℕ))) → List Given → Option (List (List ℕ))
first_path path_of [] = None
first_path path_of (g ∷ gs) = elim (path_of g.parent) as (λ _. Option (List (List ℕ))) [ None ↦ first_path path_of gs | Some names ↦ Some (names ++ g.name ∷ []) ]

-- a path of at most so many names
abbrev pub path_within : Tree → ℕ → ℕ → Option (List (List ℕ))
path_within tree zero birth = if birth == 0 then Some [] else None
path_within tree (suc k) birth = if birth == 0 then Some [] else first_path (path_within tree k) (all_given birth tree)

-- A path of a node: none has more names than the tree has nodes.
unfoldable pub path_to : Tree → ℕ → Option (List (List ℕ))
path_to tree birth = path_within tree (length tree) birth

-- The zone of a block of a file, where the walk met it on the file's path; 0 where there is none.
unfoldable pub place_in : WalkEnd → Tree → ℕ → ℕ → ℕ
place_in found tree birth index = elim (path_to tree birth) as (λ _. ℕ) [ None ↦ 0 | Some names ↦ zone_in_walk [] found names index ]
