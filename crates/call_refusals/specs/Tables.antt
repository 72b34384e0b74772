-- The tables of calls: what refuses each, row by row in the order in which it is told.
use Rattle.std.specs.Prelude.{◌≡◌, ℕ, ◌+◌, List, [], ◌∷◌, ◌++◌, length, replicate}
use Rattle.blk_base.specs.Members.{In}
use Rattle.tree_model.specs.declared.call.Call.{Call}
use Rattle.tree_model.specs.declared.call.Call.TheVariants as calls
use Rattle.tree_model.specs.declared.call.Reply.{Reply}
use Rattle.tree_model.specs.declared.call.Reply.TheVariants as replies
use Rattle.tree_model.specs.declared.call.Room.{Room}
use Rattle.tree_model.specs.Trees.{not_directory, name_too_long, not_found}
use Rattle.tree_model.specs.Calls.{Tree}
use Rattle.call_refusals.specs.Conditions.{Condition, Holds}
use Rattle.call_refusals.specs.Conditions.Condition.{bad_path, root, walk, parent_walk, parent_no_directory, long_name, there, no_directory, no_file, not_empty, parent_linked, file_linked, full, too_large, below_itself, directory_there, directory_met, file_met, goal_linked, goal_full, no_inode, no_space, no_space_for_bytes, no_space_at_goal}

-- a row of a table: where its condition holds, the call may get its reply
pub record TableRow : Type 0 where
  pub condition : Condition
  pub reply : Reply

abbrev pub when : Condition → Reply → TableRow
when condition reply = record { condition = condition; reply = reply }

-- by the walk of a path
abbrev pub by_walk : List ℕ → List TableRow
by_walk path =
    when (walk path not_directory) replies.NotDir
    ∷ when (walk path name_too_long) replies.NameTooLong
    ∷ when (walk path not_found) replies.NotFound
    ∷ []

-- by the parent of a path: by the walk of all its names but the last, to a directory, and then by the last one's length
abbrev pub by_parent : List ℕ → List TableRow
by_parent path =
    when (parent_walk path not_directory) replies.NotDir
    ∷ when (parent_walk path name_too_long) replies.NameTooLong
    ∷ when (parent_walk path not_found) replies.NotFound
    ∷ when (parent_no_directory path) replies.NotDir
    ∷ when (long_name path) replies.NameTooLong
    ∷ []

-- of a call that asks nothing but that the path leads to a node
abbrev pub of_a_node : List ℕ → List TableRow
of_a_node path = when (bad_path path) replies.BadPath ∷ by_walk path

-- or to a file
abbrev pub of_a_file : List ℕ → List TableRow
of_a_file path = of_a_node path ++ when (no_file path) replies.IsDir ∷ []

-- of a call that writes these bytes
abbrev pub of_a_write : List ℕ → ℕ → List ℕ → List TableRow
of_a_write path off bytes =
    of_a_file path
    ++ when (too_large (off + length bytes)) replies.TooBig
    ∷ when (no_space_for_bytes path off bytes) replies.NoSpace
    ∷ []

-- the rows of a call
abbrev pub table : Call → List TableRow
table (calls.Mkdir path) =
    when (bad_path path) replies.BadPath
    ∷ when (root path) replies.Exists
    ∷ by_parent path
    ++ when (there path) replies.Exists
    ∷ when (parent_linked path) replies.TooManyLinks
    ∷ when (full path) replies.TooBig
    ∷ when no_inode replies.NoInode
    ∷ when (no_space 1 path) replies.NoSpace
    ∷ []
table (calls.Create path) =
    when (bad_path path) replies.BadPath
    ∷ when (root path) replies.Exists
    ∷ by_parent path
    ++ when (there path) replies.Exists
    ∷ when (full path) replies.TooBig
    ∷ when no_inode replies.NoInode
    ∷ when (no_space 0 path) replies.NoSpace
    ∷ []
table (calls.Rmdir path) =
    when (bad_path path) replies.BadPath
    ∷ when (root path) replies.Invalid
    ∷ by_walk path
    ++ when (no_directory path) replies.NotDir
    ∷ when (not_empty path) replies.NotEmpty
    ∷ []
table (calls.Unlink path) =
    when (bad_path path) replies.BadPath
    ∷ when (root path) replies.Invalid
    ∷ by_walk path
    ++ when (no_file path) replies.IsDir
    ∷ []
table (calls.Link path other) =
    when (bad_path path) replies.BadPath
    ∷ when (bad_path other) replies.BadPath
    ∷ by_walk path
    ++ when (no_file path) replies.IsDir
    ∷ when (root other) replies.Exists
    ∷ by_parent other
    ++ when (there other) replies.Exists
    ∷ when (file_linked path) replies.TooManyLinks
    ∷ when (full other) replies.TooBig
    ∷ when (no_space 0 other) replies.NoSpace
    ∷ []
table (calls.Rename path other) =
    when (bad_path path) replies.BadPath
    ∷ when (bad_path other) replies.BadPath
    ∷ when (root path) replies.Invalid
    ∷ when (root other) replies.Invalid
    ∷ by_walk path
    ++ by_parent other
    ++ when (below_itself path other) replies.Invalid
    ∷ when (directory_there path other) replies.Exists
    ∷ when (directory_met path other) replies.IsDir
    ∷ when (file_met path other) replies.NotDir
    ∷ when (goal_linked path other) replies.TooManyLinks
    ∷ when (goal_full path other) replies.TooBig
    ∷ when (no_space_at_goal path other) replies.NoSpace
    ∷ []
table (calls.Write path off len value) = of_a_write path off (replicate len value)
table (calls.Bytes path off bytes) = of_a_write path off bytes
table (calls.Truncate path size) = of_a_file path ++ when (too_large size) replies.TooBig ∷ []
table (calls.Read path off len) = of_a_file path
table (calls.List path) = of_a_node path ++ when (no_directory path) replies.NotDir ∷ []
table (calls.Stat path) = of_a_node path
table (calls.Fsync path) = of_a_node path
table (calls.Fdatasync path) = of_a_node path
table (calls.Fbarrier path) = of_a_node path
table (calls.Fdatabarrier path) = of_a_node path
table calls.Sync = []

-- a call is refused with this reply: a row holds that has it, and none before it does
pub record IsFirst (room : Room) (tree : Tree) (rows : List TableRow) (reply : Reply) : Type 0 where
  pub before : List TableRow
  pub row : TableRow
  pub after : List TableRow
  pub rows_are : before ++ row ∷ after ≡ rows
  pub none_before : (other : TableRow) → In other before → Holds room tree other.condition → ⊥
  pub holds : Holds room tree row.condition
  pub reply_is : row.reply ≡ reply

-- a call is not refused: no row holds
abbrev pub NoneHolds : Room → Tree → List TableRow → Type 0
NoneHolds room tree rows = (row : TableRow) → In row rows → Holds room tree row.condition → ⊥
