-- The names of a tree in the order of its text: each name, then what its directory gives, and so on to the end.
use Rattle.std.specs.Prelude.{ℕ, ◌==◌, if◌then◌else◌, List, [], ◌∷◌, ◌++◌, codes, map, Option, Some, None}
use Rattle.tree_model.specs.declared.node.Node.{Node}
use Rattle.tree_model.specs.declared.node.Node.TheVariants as nodes
use Rattle.tree_model.specs.Maps.{at_number}
use Rattle.tree_model.specs.Text.{name_text, path_text, directory_line, file_lines, other_line, link_line}

-- a name of a tree: the names on the way from the root to it, and the birth of its node
pub record Listed : Type 0 where
  pub names : List (List ℕ)
  pub birth : ℕ

-- the root has no names
abbrev pub listed_root : Listed
listed_root = record { names = []; birth = 0 }

-- the names that a node gives
abbrev pub names_of : Option Node → List (List ℕ × ℕ)
names_of (Some (nodes.Directory d)) = d.names
names_of other = []

abbrev pub listed_below : List (List ℕ) → List (List ℕ × ℕ) → List Listed
listed_below names entries = map (λ e. record { names = names ++ e.0 ∷ []; birth = e.1 }) entries

-- What is listed from these names on: each name, then what its directory gives in order, and then the others.
pub data Lists (tree : List (ℕ × Node)) : List Listed → List Listed → Type 0 where
  nothing : Lists tree [] []
  name : {e : Listed} {rest listing : List Listed} → Lists tree (listed_below e.names (names_of (at_number tree e.birth)) ++ rest) listing → Lists tree (e ∷ rest) (e ∷ listing)

-- ---- the lines of a listing

-- the path of a name, but that the root's is empty here
abbrev pub listed_path : List (List ℕ) → List ℕ
listed_path [] = []
listed_path (first ∷ names) = codes "/" ++ name_text first ++ listed_path names

-- the names at which a node of this birth was listed first
abbrev pub first_listed : List Listed → ℕ → Option (List (List ℕ))
first_listed [] birth = None
first_listed (e ∷ es) birth = if e.birth == birth then Some e.names else first_listed es birth

-- The lines of a node at these names, by the names at which it was listed first, if it was listed before.
abbrev pub node_lines : List (List ℕ) → Option Node → Option (List (List ℕ)) → List ℕ
node_lines names (Some (nodes.Directory d)) first = directory_line (listed_path names)
node_lines names (Some (nodes.Other mode)) first = other_line (listed_path names) mode
node_lines names (Some (nodes.File f)) None = file_lines (listed_path names) f
node_lines names (Some (nodes.File f)) (Some first) = link_line (listed_path names) (path_text (listed_path first))
node_lines names None first = []

-- the lines of one name, after these names
abbrev pub lines_of : List (ℕ × Node) → List Listed → Listed → List ℕ
lines_of tree before e = node_lines e.names (at_number tree e.birth) (first_listed before e.birth)

-- the lines of a listing, after these names
abbrev pub listing_text : List (ℕ × Node) → List Listed → List Listed → List ℕ
listing_text tree before [] = []
listing_text tree before (e ∷ rest) = lines_of tree before e ++ listing_text tree (before ++ e ∷ []) rest
