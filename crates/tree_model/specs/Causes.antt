-- Why calls are refused: each refusal with its cause, in words of the tree.
use Rattle.std.specs.Prelude.{◌≡◌, ◌≢◌, ℕ, ◌+◌, ◌-◌, ◌<◌, ◌≤◌, false, List, [], ◌∷◌, ◌++◌, length, Option, Some, None, Ok, Err}
use Rattle.blk_base.specs.Members.{In}
use Rattle.tree_model.specs.declared.call.Call.{Call}
use Rattle.tree_model.specs.declared.call.Call.TheVariants as calls
use Rattle.tree_model.specs.declared.call.Reply.{Reply}
use Rattle.tree_model.specs.declared.call.Reply.TheVariants as replies
use Rattle.tree_model.specs.declared.call.Room.{Room}
use Rattle.tree_model.specs.declared.node.Node.{Node}
use Rattle.tree_model.specs.declared.node.Node.TheVariants as nodes
use Rattle.tree_model.specs.declared.node.Directory.{Directory}
use Rattle.tree_model.specs.declared.node.File.{File}
use Rattle.tree_model.specs.Maps.{at_number, at_name}
use Rattle.tree_model.specs.Paths.{path_of}
use Rattle.tree_model.specs.Trees.{Refusal, node_of_path, is_directory, directory_links}
use Rattle.tree_model.specs.Calls.{Tree, Done, row, used_zones, refused_walk, most_links, most_slots, largest_size}

-- the paths of a call
abbrev pub paths_of : Call → List (List ℕ)
paths_of (calls.Mkdir path) = path ∷ []
paths_of (calls.Rmdir path) = path ∷ []
paths_of (calls.Create path) = path ∷ []
paths_of (calls.Unlink path) = path ∷ []
paths_of (calls.Link path other) = path ∷ other ∷ []
paths_of (calls.Rename path other) = path ∷ other ∷ []
paths_of (calls.Truncate path size) = path ∷ []
paths_of (calls.Write path off len value) = path ∷ []
paths_of (calls.Bytes path off bytes) = path ∷ []
paths_of (calls.Read path off len) = path ∷ []
paths_of (calls.List path) = path ∷ []
paths_of (calls.Stat path) = path ∷ []
paths_of (calls.Fsync path) = path ∷ []
paths_of (calls.Fdatasync path) = path ∷ []
paths_of (calls.Fbarrier path) = path ∷ []
paths_of (calls.Fdatabarrier path) = path ∷ []
paths_of calls.Sync = []

-- the names of one of its paths
pub record NamesOf (c : Call) (names : List (List ℕ)) : Type 0 where
  pub path : List ℕ
  pub is_path : In path (paths_of c)
  pub named : path_of path ≡ Some names

-- names with which others begin
abbrev pub IsFront : List (List ℕ) → List (List ℕ) → Type 0
IsFront front names = (more : List (List ℕ)) × (front ++ more ≡ names)

-- a node of this birth stands where names lead
pub record LeadsTo (tree : Tree) (names : List (List ℕ)) (birth : ℕ) (node : Node) : Type 0 where
  pub path : node_of_path tree names ≡ Ok birth
  pub stands : at_number tree birth ≡ Some node

-- names lead to a directory, and to a name in it
pub record IsInDirectory (tree : Tree) (names : List (List ℕ)) (d : Directory) (name : List ℕ) : Type 0 where
  pub front : List (List ℕ)
  pub names_are : front ++ name ∷ [] ≡ names
  pub birth : ℕ
  pub leads : LeadsTo tree front birth (nodes.Directory d)

-- the node that moves
pub record IsMoved (tree : Tree) (path : List ℕ) (birth : ℕ) (node : Node) : Type 0 where
  pub names : List (List ℕ)
  pub named : path_of path ≡ Some names
  pub leads : LeadsTo tree names birth node

-- the node that stands where another would go
pub record IsMet (tree : Tree) (path : List ℕ) (birth : ℕ) (node : Node) : Type 0 where
  pub names : List (List ℕ)
  pub named : path_of path ≡ Some names
  pub directory : Directory
  pub name : List ℕ
  pub within : IsInDirectory tree names directory name
  pub has : at_name directory.names name ≡ Some birth
  pub stands : at_number tree birth ≡ Some node

-- the end of the file that a call asks for
abbrev pub end_of : Call → ℕ
end_of (calls.Write path off len value) = off + len
end_of (calls.Bytes path off bytes) = off + length bytes
end_of (calls.Truncate path size) = size
end_of other = 0

-- calls to which the root exists, and those to which it is invalid
abbrev pub root_reply : Call → Option Reply
root_reply (calls.Mkdir path) = Some replies.Exists
root_reply (calls.Create path) = Some replies.Exists
root_reply (calls.Link path other) = Some replies.Exists
root_reply (calls.Rmdir path) = Some replies.Invalid
root_reply (calls.Unlink path) = Some replies.Invalid
root_reply (calls.Rename path other) = Some replies.Invalid
root_reply other = None

-- why call `c`, with number `n`, may be refused with this reply
pub data IsCause (room : Room) (tree : Tree) (n : ℕ) (c : Call) : Reply → Type 0 where
  -- a text is no path
  no_path : (path : List ℕ) → In path (paths_of c) → path_of path ≡ None → IsCause room tree n c replies.BadPath
  -- the root
  root : NamesOf c [] → (reply : Reply) → root_reply c ≡ Some reply → IsCause room tree n c reply
  -- a walk is refused: at a node that is no directory, at a name that is too long, or at a name that is not there
  walk : (names front : List (List ℕ)) → NamesOf c names → IsFront front names → (refusal : Refusal) → node_of_path tree front ≡ Err refusal → IsCause room tree n c (refused_walk refusal)
  -- a path goes on below a node that is no directory, or a directory is wanted
  no_directory : (names front : List (List ℕ)) → NamesOf c names → IsFront front names → (birth : ℕ) (node : Node) → LeadsTo tree front birth node → is_directory (Some node) ≡ false → IsCause room tree n c replies.NotDir
  -- the last name is too long for its directory
  long_name : (names : List (List ℕ)) (d : Directory) (name : List ℕ) → NamesOf c names → IsInDirectory tree names d name → d.width < length name → IsCause room tree n c replies.NameTooLong
  -- the name is there
  named : (names : List (List ℕ)) (d : Directory) (name : List ℕ) → NamesOf c names → IsInDirectory tree names d name → (birth : ℕ) → at_name d.names name ≡ Some birth → IsCause room tree n c replies.Exists
  -- a file is wanted
  no_file : (names : List (List ℕ)) → NamesOf c names → (birth : ℕ) (node : Node) → LeadsTo tree names birth node → ((f : File) → node ≢ nodes.File f) → IsCause room tree n c replies.IsDir
  -- a node that is neither a directory nor a file has nothing to tell
  other_kind : (names : List (List ℕ)) → NamesOf c names → (birth mode : ℕ) → LeadsTo tree names birth (nodes.Other mode) → IsCause room tree n c replies.NotFound
  -- the directory has names
  names_left : (names : List (List ℕ)) → NamesOf c names → (birth : ℕ) (d : Directory) → LeadsTo tree names birth (nodes.Directory d) → d.names ≢ [] → IsCause room tree n c replies.NotEmpty
  -- a directory has all its links
  directory_linked : (names : List (List ℕ)) (d : Directory) (name : List ℕ) → NamesOf c names → IsInDirectory tree names d name → directory_links tree d ≡ most_links → IsCause room tree n c replies.TooManyLinks
  -- a file has all its links
  file_linked : (names : List (List ℕ)) → NamesOf c names → (birth : ℕ) (f : File) → LeadsTo tree names birth (nodes.File f) → f.links ≡ most_links → IsCause room tree n c replies.TooManyLinks
  -- a directory has no free slot and as many as it can have
  full : (names : List (List ℕ)) (d : Directory) (name : List ℕ) → NamesOf c names → IsInDirectory tree names d name → most_slots d.width ≤ d.slots → IsCause room tree n c replies.TooBig
  -- a file would be larger than it can be
  too_large : largest_size < end_of c → IsCause room tree n c replies.TooBig
  -- all inodes have nodes
  no_inode : room.inodes ≤ length tree → IsCause room tree n c replies.NoInode
  -- the call needs more zones than are left
  no_space : (d : Done) → row tree n c ≡ Ok d → room.capacity - used_zones tree < used_zones d.tree - used_zones tree → IsCause room tree n c replies.NoSpace
  -- a directory would go below itself: names with which the new path begins, but not all of them, lead to it
  below_itself : (path other : List ℕ) → c ≡ calls.Rename path other → (names front rest : List (List ℕ)) (name : List ℕ) → path_of other ≡ Some names → front ++ name ∷ rest ≡ names →
      (birth : ℕ) (d : Directory) → LeadsTo tree front birth (nodes.Directory d) → IsMoved tree path birth (nodes.Directory d) → IsCause room tree n c replies.Invalid
  -- another directory stands where a directory would go
  directory_there : (path other : List ℕ) → c ≡ calls.Rename path other → (a b : ℕ) (d e : Directory) → IsMoved tree path a (nodes.Directory d) → IsMet tree other b (nodes.Directory e) → a ≢ b → IsCause room tree n c replies.Exists
  -- a directory stands where another node would go
  directory_met : (path other : List ℕ) → c ≡ calls.Rename path other → (a b : ℕ) (node : Node) (d : Directory) → IsMoved tree path a node → is_directory (Some node) ≡ false → IsMet tree other b (nodes.Directory d) → IsCause room tree n c replies.IsDir
  -- a file stands where a directory would go
  file_met : (path other : List ℕ) → c ≡ calls.Rename path other → (a b : ℕ) (d : Directory) (f : File) → IsMoved tree path a (nodes.Directory d) → IsMet tree other b (nodes.File f) → IsCause room tree n c replies.NotDir
