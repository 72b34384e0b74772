-- Why a call may be refused: the words of the tables of calls, and what each says of a tree.
use Rattle.std.specs.Prelude.{◌≡◌, ◌≢◌, ℕ, ◌+◌, ◌-◌, ◌*◌, ◌%◌, ◌<◌, ◌≤◌, ◌==◌, true, false, nat_lt, if◌then◌else◌, List, [], ◌∷◌, ◌++◌, length, Some, None, Ok, is_some}
use Rattle.std.specs.Map.{keys_of}
use Rattle.minix_layout.specs.Widths.{slots_a_block}
use Rattle.tree_model.specs.declared.call.Room.{Room}
use Rattle.tree_model.specs.declared.node.Node.{Node}
use Rattle.tree_model.specs.declared.node.Node.TheVariants as nodes
use Rattle.tree_model.specs.declared.node.Directory.{Directory}
use Rattle.tree_model.specs.declared.node.File.{File}
use Rattle.tree_model.specs.Maps.{at_name}
use Rattle.tree_model.specs.Paths.{path_of}
use Rattle.tree_model.specs.Trees.{Refusal, not_directory, name_too_long, not_found, node_of_path, is_directory, directory_links}
use Rattle.tree_model.specs.Calls.{Tree, written_file, file_zones, used_zones}
use Rattle.tree_model.specs.Causes.{LeadsTo}
use Rattle.tree_model.specs.CallWords.{StandsAt}

-- ---- paths

-- a path ends in a name, and the names before it lead to a directory
pub record HasParent (tree : Tree) (path : List ℕ) (parent : ℕ) (d : Directory) (name : List ℕ) : Type 0 where
  pub front : List (List ℕ)
  pub named : path_of path ≡ Some (front ++ name ∷ [])
  pub leads : LeadsTo tree front parent (nodes.Directory d)

-- why a name leads on from no node: it is no directory, the name is longer than names can be in it, or it is not there
pub data StopsAt : Node → List ℕ → Refusal → Type 0 where
  no_directory : (node : Node) (name : List ℕ) → is_directory (Some node) ≡ false → StopsAt node name not_directory
  too_long : (d : Directory) (name : List ℕ) → d.width < length name → StopsAt (nodes.Directory d) name name_too_long
  missing : (d : Directory) (name : List ℕ) → length name ≤ d.width → at_name d.names name ≡ None → StopsAt (nodes.Directory d) name not_found

-- names lead to a node from which the next one leads no further
pub record IsStopped (tree : Tree) (names : List (List ℕ)) (refusal : Refusal) : Type 0 where
  pub front : List (List ℕ)
  pub name : List ℕ
  pub rest : List (List ℕ)
  pub names_are : front ++ name ∷ rest ≡ names
  pub birth : ℕ
  pub node : Node
  pub leads : LeadsTo tree front birth node
  pub stops : StopsAt node name refusal

-- ---- room

abbrev pub zones_left : Room → Tree → ℕ
zones_left room tree = room.capacity - used_zones tree

-- the most slots of a directory with names of this width
abbrev pub slots_at_most : ℕ → ℕ
slots_at_most width = if width == 30 then 16608 else 33216

-- A directory that has so many names has no free slot, and as many slots as can be. `.` and `..` have two.
pub record IsFull (d : Directory) (names : ℕ) : Type 0 where
  pub most : slots_at_most d.width ≤ d.slots
  pub none_free : d.slots ≤ names + 2

-- the zones that one more slot takes: one where the blocks are full, and one for numbers where there are seven of them
abbrev pub slot_zones : Directory → ℕ
slot_zones d = (if d.slots % slots_a_block d.width == 0 then 1 else 0) + (if d.slots == 7 * slots_a_block d.width then 1 else 0)

-- those that one more name takes in a directory that has so many: none where a slot is free
abbrev pub name_zones : Directory → ℕ → ℕ
name_zones d names = if nat_lt (names + 2) d.slots then 0 else slot_zones d

-- the zones that a file takes more with these bytes from `off` on
abbrev pub bytes_zones : File → ℕ → List ℕ → ℕ
bytes_zones f off bytes = file_zones (keys_of (written_file f off bytes).blocks) - file_zones (keys_of f.blocks)

-- ---- renames

-- how many names a directory has, after one was taken out of a directory
abbrev pub names_without_one : ℕ → ℕ → Directory → ℕ
names_without_one from to d = if to == from then length d.names - 1 else length d.names

-- Where a node goes by a rename: the parent of its path, and the parent of the other one, with the name there.
pub record IsMovedTo (tree : Tree) (path other : List ℕ) (from to : ℕ) (d : Directory) (name : List ℕ) : Type 0 where
  pub directory : Directory
  pub old : List ℕ
  pub origin : HasParent tree path from directory old
  pub goal : HasParent tree other to d name

-- a path goes through a directory that another one leads to, or ends in it
pub record GoesThrough (tree : Tree) (path other : List ℕ) : Type 0 where
  pub birth : ℕ
  pub directory : Directory
  pub stands : StandsAt tree path birth (nodes.Directory directory)
  pub front : List (List ℕ)
  pub name : List ℕ
  pub rest : List (List ℕ)
  pub named : path_of other ≡ Some (front ++ name ∷ rest)
  pub led : node_of_path tree front ≡ Ok birth

-- ---- the words

-- Lists of bytes are texts of paths: of the call's first one, and then of its second one where a word has two.
pub data Condition : Type 0 where
  -- the text is no path
  bad_path : List ℕ → Condition
  -- it is `/`
  root : List ℕ → Condition
  -- its walk is refused, so
  walk : List ℕ → Refusal → Condition
  -- the walk of all its names but the last is, so
  parent_walk : List ℕ → Refusal → Condition
  -- these lead to a node that is no directory
  parent_no_directory : List ℕ → Condition
  -- the last name is longer than names can be there
  long_name : List ℕ → Condition
  -- the last name is there
  there : List ℕ → Condition
  -- it leads to a node that is no directory
  no_directory : List ℕ → Condition
  -- it leads to a node that is no file
  no_file : List ℕ → Condition
  -- the directory has names
  not_empty : List ℕ → Condition
  -- the parent has 250 links
  parent_linked : List ℕ → Condition
  -- the file has 250 links
  file_linked : List ℕ → Condition
  -- the parent has as many slots as can be, and none is free
  full : List ℕ → Condition
  -- a file would get larger than it can be: the place where it would end
  too_large : ℕ → Condition
  -- the second path goes through the directory of the first
  below_itself : List ℕ → List ℕ → Condition
  -- both are directories, and not the same
  directory_there : List ℕ → List ℕ → Condition
  -- the second is a directory, and the first is none
  directory_met : List ℕ → List ℕ → Condition
  -- the second is a file, and the first is a directory
  file_met : List ℕ → List ℕ → Condition
  -- the first is a directory, and the second has another parent, which has 250 links
  goal_linked : List ℕ → List ℕ → Condition
  -- the second is not there, and its parent is full where the first was taken out
  goal_full : List ℕ → List ℕ → Condition
  -- there is no free inode
  no_inode : Condition
  -- so many zones, and those that one name more takes in the parent, are more than are left
  no_space : ℕ → List ℕ → Condition
  -- those that these bytes take from a place on are
  no_space_for_bytes : List ℕ → ℕ → List ℕ → Condition
  -- the second is not there, and the zones that its name takes where the first was taken out are
  no_space_at_goal : List ℕ → List ℕ → Condition

-- what they say
abbrev pub Holds : Room → Tree → Condition → Type 0
Holds room tree (bad_path path) = path_of path ≡ None
Holds room tree (root path) = path_of path ≡ Some []
Holds room tree (walk path refusal) = (names : List (List ℕ)) × (path_of path ≡ Some names) × IsStopped tree names refusal
Holds room tree (parent_walk path refusal) = (front : List (List ℕ)) × (name : List ℕ) × (path_of path ≡ Some (front ++ name ∷ [])) × IsStopped tree front refusal
Holds room tree (parent_no_directory path) =
    (front : List (List ℕ)) × (name : List ℕ) × (birth : ℕ) × (node : Node) × (path_of path ≡ Some (front ++ name ∷ [])) × LeadsTo tree front birth node × (is_directory (Some node) ≡ false)
Holds room tree (long_name path) = (parent : ℕ) × (d : Directory) × (name : List ℕ) × HasParent tree path parent d name × (d.width < length name)
Holds room tree (there path) = (parent : ℕ) × (d : Directory) × (name : List ℕ) × HasParent tree path parent d name × (is_some (at_name d.names name) ≡ true)
Holds room tree (no_directory path) = (birth : ℕ) × (node : Node) × StandsAt tree path birth node × (is_directory (Some node) ≡ false)
Holds room tree (no_file path) = (birth : ℕ) × (node : Node) × StandsAt tree path birth node × ((f : File) → node ≢ nodes.File f)
Holds room tree (not_empty path) = (birth : ℕ) × (d : Directory) × StandsAt tree path birth (nodes.Directory d) × (d.names ≢ [])
Holds room tree (parent_linked path) = (parent : ℕ) × (d : Directory) × (name : List ℕ) × HasParent tree path parent d name × (directory_links tree d ≡ 250)
Holds room tree (file_linked path) = (birth : ℕ) × (f : File) × StandsAt tree path birth (nodes.File f) × (f.links ≡ 250)
Holds room tree (full path) = (parent : ℕ) × (d : Directory) × (name : List ℕ) × HasParent tree path parent d name × IsFull d (length d.names)
Holds room tree (too_large end) = 268966912 < end
Holds room tree (below_itself path other) = GoesThrough tree path other
Holds room tree (directory_there path other) =
    (a : ℕ) × (b : ℕ) × (d : Directory) × (e : Directory) × StandsAt tree path a (nodes.Directory d) × StandsAt tree other b (nodes.Directory e) × (a ≢ b)
Holds room tree (directory_met path other) =
    (a : ℕ) × (b : ℕ) × (node : Node) × (e : Directory) × StandsAt tree path a node × StandsAt tree other b (nodes.Directory e) × (is_directory (Some node) ≡ false)
Holds room tree (file_met path other) = (a : ℕ) × (b : ℕ) × (d : Directory) × (f : File) × StandsAt tree path a (nodes.Directory d) × StandsAt tree other b (nodes.File f)
Holds room tree (goal_linked path other) =
    (a : ℕ) × (e : Directory) × StandsAt tree path a (nodes.Directory e)
    × (from : ℕ) × (to : ℕ) × (d : Directory) × (name : List ℕ) × IsMovedTo tree path other from to d name × (to ≢ from) × (directory_links tree d ≡ 250)
Holds room tree (goal_full path other) =
    (from : ℕ) × (to : ℕ) × (d : Directory) × (name : List ℕ) × IsMovedTo tree path other from to d name × (at_name d.names name ≡ None) × IsFull d (names_without_one from to d)
Holds room tree no_inode = room.inodes ≤ length tree
Holds room tree (no_space zones path) =
    (parent : ℕ) × (d : Directory) × (name : List ℕ) × HasParent tree path parent d name × (zones_left room tree < zones + name_zones d (length d.names))
Holds room tree (no_space_for_bytes path off bytes) =
    (birth : ℕ) × (f : File) × StandsAt tree path birth (nodes.File f) × (zones_left room tree < bytes_zones f off bytes)
Holds room tree (no_space_at_goal path other) =
    (from : ℕ) × (to : ℕ) × (d : Directory) × (name : List ℕ) × IsMovedTo tree path other from to d name × (at_name d.names name ≡ None)
    × (zones_left room tree < name_zones d (names_without_one from to d))
