-- Trees that hang together: what names lead to, one after the other from the root.
use Rattle.std.specs.Prelude.{◌≡◌, ◌≢◌, ℕ, ◌≤◌, List, length, Some}
use Rattle.std.specs.List.Sorted.{IsStrictlySortedBy}
use Rattle.std.specs.Map.{keys_of}
use Rattle.std.specs.Ordering.{nat_cmp}
use Rattle.tree_model.specs.declared.node.Node.{Node}
use Rattle.tree_model.specs.declared.node.Node.TheVariants as nodes
use Rattle.tree_model.specs.declared.node.Directory.{Directory}
use Rattle.tree_model.specs.Maps.{at_number, at_name, name_cmp}

-- a directory of the tree gives this name to this node
pub record HasEntry (tree : List (ℕ × Node)) (parent : ℕ) (name : List ℕ) (birth : ℕ) : Type 0 where
  pub directory : Directory
  pub stands : at_number tree parent ≡ Some (nodes.Directory directory)
  pub named : at_name directory.names name ≡ Some birth

-- names lead to this node from the root, one after the other
pub data IsLedTo (tree : List (ℕ × Node)) : ℕ → Type 0 where
  at_root : IsLedTo tree 0
  by_name : {parent birth : ℕ} {name : List ℕ} → IsLedTo tree parent → HasEntry tree parent name birth → IsLedTo tree birth

-- A tree that hangs together: its nodes stand in the order of their births, each once, and in each directory the
-- names in the order of their bytes, each once. The root is a directory. All directories have one width, no name is
-- longer than it, and each leads
-- to a node that is not the root, no two lead to one directory, and names lead to each node from the root.
pub record IsRooted (tree : List (ℕ × Node)) : Type 0 where
  pub in_order : IsStrictlySortedBy nat_cmp (keys_of tree)
  pub names_in_order : (birth : ℕ) (d : Directory) → at_number tree birth ≡ Some (nodes.Directory d) → IsStrictlySortedBy name_cmp (keys_of d.names)
  pub root : (d : Directory) × (at_number tree 0 ≡ Some (nodes.Directory d))
  pub width : ℕ
  pub of_width : (birth : ℕ) (d : Directory) → at_number tree birth ≡ Some (nodes.Directory d) → d.width ≡ width
  pub short : (parent : ℕ) (name : List ℕ) (birth : ℕ) → HasEntry tree parent name birth → length name ≤ width
  pub leads : (parent : ℕ) (name : List ℕ) (birth : ℕ) → HasEntry tree parent name birth → (node : Node) × (at_number tree birth ≡ Some node)
  pub no_root : (parent : ℕ) (name : List ℕ) (birth : ℕ) → HasEntry tree parent name birth → birth ≢ 0
  pub one_name : (parent other : ℕ) (name more : List ℕ) (birth : ℕ) (d : Directory) → HasEntry tree parent name birth → HasEntry tree other more birth → at_number tree birth ≡ Some (nodes.Directory d) → (parent ≡ other) × (name ≡ more)
  pub led_to : (birth : ℕ) (node : Node) → at_number tree birth ≡ Some node → IsLedTo tree birth
