-- Plain trees: those whose calls are told of here.
use Rattle.std.specs.Prelude.{◌≡◌, ℕ, ◌<◌, ◌==◌, List, length, Some, IsTrue}
use Rattle.std.specs.List.{count_by, sum_by}
use Rattle.std.specs.Map.{values_of}
use Rattle.tree_model.specs.declared.node.Node.{Node}
use Rattle.tree_model.specs.declared.node.Node.TheVariants as nodes
use Rattle.tree_model.specs.declared.node.Directory.{Directory}
use Rattle.tree_model.specs.declared.node.File.{File}
use Rattle.tree_model.specs.Maps.{at_number}
use Rattle.tree_model.specs.Paths.{is_path_name}
use Rattle.tree_model.specs.Rooted.{HasEntry, IsRooted}
use Rattle.tree_model.specs.Calls.{Tree}

-- how many names a directory has for a node
abbrev pub names_in_node : ℕ → Node → ℕ
names_in_node birth (nodes.Directory d) = count_by (λ b. b == birth) (values_of d.names)
names_in_node birth other = 0

-- how many names a node has
unfoldable pub names_to : Tree → ℕ → ℕ
names_to tree birth = sum_by (names_in_node birth) (values_of tree)

-- A plain tree hangs together and has directories and files alone. Its names are those that a path can have. Each file
-- has as many links as names, each directory the parent that names it, and the root is its own parent.
pub record IsPlain (tree : Tree) : Type 0 where
  pub rooted : IsRooted tree
  pub no_other : (birth mode : ℕ) → at_number tree birth ≡ Some (nodes.Other mode) → ⊥
  pub plain_names : (parent : ℕ) (name : List ℕ) (birth : ℕ) → HasEntry tree parent name birth → IsTrue (is_path_name name)
  pub links : (birth : ℕ) (f : File) → at_number tree birth ≡ Some (nodes.File f) → f.links ≡ names_to tree birth
  pub parents : (parent : ℕ) (name : List ℕ) (birth : ℕ) (d : Directory) → HasEntry tree parent name birth → at_number tree birth ≡ Some (nodes.Directory d) → d.parent ≡ parent
  pub root_parent : (d : Directory) → at_number tree 0 ≡ Some (nodes.Directory d) → d.parent ≡ 0

-- each node was born before n
abbrev pub AreBornBefore : ℕ → Tree → Type 0
AreBornBefore n tree = (birth : ℕ) (node : Node) → at_number tree birth ≡ Some node → birth < n

-- each mapped block of a file has 1,024 bytes
abbrev pub HasWholeBlocks : File → Type 0
HasWholeBlocks f = (index : ℕ) (body : List ℕ) → at_number f.blocks index ≡ Some body → length body ≡ 1024
