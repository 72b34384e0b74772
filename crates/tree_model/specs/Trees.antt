-- Trees: nodes by birth, and what a path leads to. The root has birth 0.
use Rattle.std.specs.Prelude.{◌≡◌, ℕ, ◌+◌, Bool, true, false, ⊤, nat_lt, if◌then◌else◌, List, [], ◌∷◌, length, Option, Some, None, Result, Ok, Err, IsOk}
use Rattle.std.specs.List.{count_by}
use Rattle.std.specs.Map.{keys_of}
use Rattle.tree_model.specs.declared.node.Node.{Node}
use Rattle.tree_model.specs.declared.node.Node.TheVariants as nodes
use Rattle.tree_model.specs.declared.node.Directory.{Directory}
use Rattle.tree_model.specs.Maps.{at_number, at_name}

-- why a path leads to no node
pub data Refusal : Type 0 where
  not_directory : Refusal
  name_too_long : Refusal
  not_found : Refusal

-- what a name leads to in a directory
abbrev pub step_in : Directory → List ℕ → Result ℕ Refusal
step_in d name =
    if nat_lt d.width (length name) then Err name_too_long
    else elim (at_name d.names name) as (λ _. Result ℕ Refusal) [ None ↦ Err not_found | Some birth ↦ Ok birth ]

-- so, at a node: refused where there is none, or no directory
abbrev pub step_at : Option Node → List ℕ → Result ℕ Refusal
step_at (Some (nodes.Directory d)) name = step_in d name
step_at other name = Err not_directory

-- The node to which names lead, one after the other. Each step is refused where the node is no directory,
-- then where the name is too long, then where it is not there.
abbrev pub led_to : List (ℕ × Node) → ℕ → List (List ℕ) → Result ℕ Refusal
led_to tree birth [] = Ok birth
led_to tree birth (name ∷ names) =
    elim (step_at (at_number tree birth) name) as (λ _. Result ℕ Refusal)
    [ Err refusal ↦ Err refusal | Ok next ↦ led_to tree next names ]

-- the node of a path, from the root
abbrev pub node_of_path : List (ℕ × Node) → List (List ℕ) → Result ℕ Refusal
node_of_path tree names = led_to tree 0 names

-- ---- links of directories

abbrev pub is_directory : Option Node → Bool
is_directory (Some (nodes.Directory d)) = true
is_directory other = false

-- 2, and one for each of its directories
abbrev pub directory_links : List (ℕ × Node) → Directory → ℕ
directory_links tree d = 2 + count_by (λ e. is_directory (at_number tree e.1)) d.names

-- ---- trees with the same metadata

-- the same kind, size, slots, links of files and mapped blocks; bytes of files are not compared
abbrev pub SameMetadata : Node → Node → Type 0
SameMetadata (nodes.Directory d) (nodes.Directory e) = d.slots ≡ e.slots
SameMetadata (nodes.File f) (nodes.File h) = (f.size ≡ h.size) × (f.links ≡ h.links) × (keys_of f.blocks ≡ keys_of h.blocks)
SameMetadata (nodes.Other mode) (nodes.Other other) = mode ≡ other
SameMetadata n m = ⊥

-- both nodes are there, and have the same metadata
abbrev pub SameMetadataAt : Option Node → Option Node → Type 0
SameMetadataAt (Some n) (Some m) = SameMetadata n m
SameMetadataAt n m = ⊥

-- two directories have the same links, each in its tree
abbrev pub SameLinks : List (ℕ × Node) → List (ℕ × Node) → Option Node → Option Node → Type 0
SameLinks tree other (Some (nodes.Directory d)) (Some (nodes.Directory e)) = directory_links tree d ≡ directory_links other e
SameLinks tree other n m = ⊤

-- Two trees are alike: they have the same paths, each with the same metadata, and two paths lead to one
-- node in the one exactly where they do in the other. `to` is the map from births to births.
pub record AreAlike (tree other : List (ℕ × Node)) : Type 0 where
  pub to : ℕ → ℕ
  pub same_paths : (names : List (List ℕ)) (birth : ℕ) → node_of_path tree names ≡ Ok birth → node_of_path other names ≡ Ok (to birth)
  pub no_more_paths : (names : List (List ℕ)) → IsOk (node_of_path other names) → IsOk (node_of_path tree names)
  pub same_metadata : (names : List (List ℕ)) (birth : ℕ) → node_of_path tree names ≡ Ok birth → SameMetadataAt (at_number tree birth) (at_number other (to birth))
  pub same_links : (names : List (List ℕ)) (birth : ℕ) → node_of_path tree names ≡ Ok birth → SameLinks tree other (at_number tree birth) (at_number other (to birth))
  pub one_node : (names more : List (List ℕ)) (a b : ℕ) → node_of_path tree names ≡ Ok a → node_of_path tree more ≡ Ok b → to a ≡ to b → a ≡ b

-- files with the same bytes
abbrev pub SameBytes : Option Node → Option Node → Type 0
SameBytes (Some (nodes.File f)) (Some (nodes.File h)) = f.blocks ≡ h.blocks
SameBytes n m = ⊤

-- the same tree but for the births: alike, and files with the same bytes
pub record IsSameButBirths (tree other : List (ℕ × Node)) : Type 0 where
  pub alike : AreAlike tree other
  pub same_bytes : (names : List (List ℕ)) (birth : ℕ) → node_of_path tree names ≡ Ok birth → SameBytes (at_number tree birth) (at_number other (alike.to birth))
