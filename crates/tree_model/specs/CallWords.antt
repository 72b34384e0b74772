-- Words for what calls do: what stands at a path, what a call did to a directory or a file, and which bytes lie in a
-- block.
use Rattle.std.specs.Prelude.{◌≡◌, ℕ, ◌+◌, ◌*◌, ◌<◌, ◌≤◌, ◌⊎◌, List, [], ◌∷◌, ◌++◌, length, Option, Some, None, is_some, Ok}
use Rattle.std.specs.List.Sorted.{IsStrictlySortedBy}
use Rattle.std.specs.Map.{keys_of}
use Rattle.std.specs.Ordering.{nat_cmp}
use Rattle.tree_model.specs.declared.call.Call.{Call}
use Rattle.tree_model.specs.declared.call.Room.{Room}
use Rattle.tree_model.specs.declared.node.Node.{Node}
use Rattle.tree_model.specs.declared.node.Node.TheVariants as nodes
use Rattle.tree_model.specs.declared.node.Directory.{Directory}
use Rattle.tree_model.specs.declared.node.File.{File}
use Rattle.tree_model.specs.Maps.{at_number}
use Rattle.tree_model.specs.Paths.{path_of}
use Rattle.tree_model.specs.Trees.{node_of_path, directory_links}
use Rattle.tree_model.specs.Calls.{Tree, Done, outcome, byte_at}
use Rattle.tree_model.specs.Causes.{LeadsTo}
use Rattle.tree_model.specs.Plain.{HasWholeBlocks}

-- ---- paths

-- a path leads to a node of this birth
pub record StandsAt (tree : Tree) (path : List ℕ) (birth : ℕ) (node : Node) : Type 0 where
  pub names : List (List ℕ)
  pub named : path_of path ≡ Some names
  pub leads : LeadsTo tree names birth node

-- names that begin with others
abbrev pub Begins : List (List ℕ) → List (List ℕ) → Type 0
Begins names front = (rest : List (List ℕ)) × (names ≡ front ++ rest)

-- the directory in which names end
abbrev pub IsParentOf : Tree → List (List ℕ) → ℕ → Type 0
IsParentOf tree names birth = (front : List (List ℕ)) × (name : List ℕ) × (front ++ name ∷ [] ≡ names) × (node_of_path tree front ≡ Ok birth)

-- ---- directories

-- a directory that got a name, of a directory or not: a free slot is used, and else there is one more, where `.` and
-- `..` have two; and a directory has a link for each in it
pub record HasNameMore (tree later : Tree) (before after : Directory) (directories : ℕ) : Type 0 where
  pub parent : after.parent ≡ before.parent
  pub free : length before.names + 2 < before.slots → after.slots ≡ before.slots
  pub full : before.slots ≤ length before.names + 2 → after.slots ≡ before.slots + 1
  pub links : directory_links later after ≡ directory_links tree before + directories

-- a directory that lost a name: it keeps the slots
pub record HasNameLess (tree later : Tree) (before after : Directory) (directories : ℕ) : Type 0 where
  pub parent : after.parent ≡ before.parent
  pub slots : after.slots ≡ before.slots
  pub links : directory_links later after + directories ≡ directory_links tree before

-- a directory in which a name was put in place of another: the old one is taken out first
pub record HasNameMoved (tree later : Tree) (before after : Directory) : Type 0 where
  pub parent : after.parent ≡ before.parent
  pub free : length before.names + 1 < before.slots → after.slots ≡ before.slots
  pub full : before.slots ≤ length before.names + 1 → after.slots ≡ before.slots + 1
  pub links : directory_links later after ≡ directory_links tree before

-- the links that a node gives its directory
abbrev pub link_of : Node → ℕ
link_of (nodes.Directory d) = 1
link_of other = 0

-- ---- files

-- a file that lost a link: it is gone with its last one, and else stays with one less
pub record HasLinkLess (later : Tree) (birth : ℕ) (f : File) : Type 0 where
  pub gone : f.links ≤ 1 → at_number later birth ≡ None
  pub less : 2 ≤ f.links → (g : File) × (at_number later birth ≡ Some (nodes.File g)) × (g.links + 1 ≡ f.links) × (g.size ≡ f.size) × (g.blocks ≡ f.blocks)

-- a call that is done found the file f at a path, and left g there
pub record IsFileChange (room : Room) (tree : Tree) (n : ℕ) (c : Call) (path : List ℕ) (d : Done) (birth : ℕ) (f g : File) : Type 0 where
  pub done : outcome room tree n c ≡ Ok d
  pub before : StandsAt tree path birth (nodes.File f)
  pub after : at_number d.tree birth ≡ Some (nodes.File g)

-- the greater of two numbers: not below either, and one of them
pub record IsGreater (k a b : ℕ) : Type 0 where
  pub first : a ≤ k
  pub second : b ≤ k
  pub one : (k ≡ a) ⊎ (k ≡ b)

-- one of so many bytes from an offset on lies in a block
pub record HasByteIn (off len index : ℕ) : Type 0 where
  pub at : ℕ
  pub from : off ≤ at
  pub before : at < off + len
  pub first : 1024 * index ≤ at
  pub past : at < 1024 * index + 1024

-- a sound file: its mapped blocks stand in order and have 1,024 bytes each, and from its size on there are zeros
pub record IsSoundFile (f : File) : Type 0 where
  pub in_order : IsStrictlySortedBy nat_cmp (keys_of f.blocks)
  pub whole : HasWholeBlocks f
  pub past : (at : ℕ) → f.size ≤ at → byte_at f at ≡ 0

abbrev pub HasSoundFiles : Tree → Type 0
HasSoundFiles tree = (birth : ℕ) (f : File) → at_number tree birth ≡ Some (nodes.File f) → IsSoundFile f

-- a file before and after with the same size and the same mapped blocks, or no file before and none after
pub record IsSameFile (before after : Option Node) : Type 0 where
  pub kept : (f : File) → before ≡ Some (nodes.File f) →
      (g : File) × (after ≡ Some (nodes.File g)) × (g.size ≡ f.size) × ((index : ℕ) → is_some (at_number g.blocks index) ≡ is_some (at_number f.blocks index))
  pub old : (g : File) → after ≡ Some (nodes.File g) → (f : File) × (before ≡ Some (nodes.File f))
