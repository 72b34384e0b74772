-- Calls: what each makes of a tree, and what it answers.
--
-- A call has a row: what refuses it, in order, and what it does else. Want of an inode and want of zones are the
-- last refusals of each row that has them, so they stand once, below the rows. Rows speak of directories and files;
-- where a tree that was read has a node of another kind, it is taken as neither.
use Rattle.std.specs.Prelude.{◌≡◌, ◌<◌, ℕ, ◌+◌, ◌-◌, ◌*◌, ◌/◌, ◌%◌, ◌==◌, min, Bool, true, false, not, ◌&&◌, ◌||◌, nat_lt, nat_le, if◌then◌else◌, List, [], ◌∷◌, ◌++◌, length, map, filter, take, drop, replicate, slice_index, is_some, is_none, Option, Some, None, Result, Ok, Err}
use Rattle.std.specs.List.{list_any, count_by, sum_by, range_with_len}
use Rattle.std.specs.Map.{keys_of, values_of, remove_entry}
use Rattle.std.specs.BTreeMap.{is_at}
use Rattle.std.specs.Int.{div_ceil}
use Rattle.tree_model.specs.declared.call.Call.{Call}
use Rattle.tree_model.specs.declared.call.Call.TheVariants as calls
use Rattle.tree_model.specs.declared.call.Reply.{Reply}
use Rattle.tree_model.specs.declared.call.Reply.TheVariants as replies
use Rattle.tree_model.specs.declared.call.Room.{Room}
use Rattle.tree_model.specs.declared.node.Node.{Node}
use Rattle.tree_model.specs.declared.node.Node.TheVariants as nodes
use Rattle.tree_model.specs.declared.node.Directory.{Directory}
use Rattle.tree_model.specs.declared.node.File.{File}
use Rattle.tree_model.specs.Maps.{at_number, at_name, put_number, put_name, without_number, name_cmp}
use Rattle.tree_model.specs.Paths.{path_of}
use Rattle.tree_model.specs.Trees.{Refusal, not_directory, name_too_long, not_found, step_at, node_of_path, is_directory, directory_links}
pub use Rattle.minix_layout.specs.Widths.{most_slots}
use Rattle.minix_layout.specs.Widths.{slot_size, slots_a_block}
use Rattle.minix_layout.specs.declared.limits.TheConstants.{LARGEST_SIZE, MOST_LINKS}

-- the nodes by their births
abbrev pub Tree : Type 0
Tree = List (ℕ × Node)

-- what a call does where there is room for it: the tree that it leaves, whether it takes an inode, and its reply
pub record Done : Type 0 where
  pub tree : Tree
  pub takes_inode : Bool
  pub reply : Reply

-- what a row says: the first refusal that applies, or what the call does
abbrev pub Row : Type 0
Row = Result Done Reply

-- ---- refusals, one after the other

-- where the test holds it is refused with this reply, and else the next step counts
abbrev pub refuse_if : {A : Type 0} → Bool → Reply → Result A Reply → Result A Reply
refuse_if test reply next = if test then Err reply else next

-- the next step, unless one before it was refused
abbrev pub and_then : {A B : Type 0} → Result A Reply → (A → Result B Reply) → Result B Reply
and_then (Ok a) next = next a
and_then (Err reply) next = Err reply

-- what is there, or a refusal with this reply where there is none
abbrev pub if_some : {A : Type 0} → Option A → Reply → Result A Reply
if_some (Some a) reply = Ok a
if_some None reply = Err reply

-- ---- what a call does, for the end of a row

-- it leaves this tree
abbrev pub leaves : Tree → Row
leaves tree = Ok (record { tree = tree; takes_inode = false; reply = replies.Ok })

-- it leaves this tree, which has one node more
abbrev pub makes : Tree → Row
makes tree = Ok (record { tree = tree; takes_inode = true; reply = replies.Ok })

-- it answers, and the tree stays
abbrev pub answers : Tree → Reply → Row
answers tree reply = Ok (record { tree = tree; takes_inode = false; reply = reply })

-- ---- paths

-- a node with its birth
pub record Found : Type 0 where
  pub birth : ℕ
  pub node : Node

-- a directory with its birth, and a name that it has or may get
pub record Place : Type 0 where
  pub parent : ℕ
  pub directory : Directory
  pub name : List ℕ

-- the names of a path
abbrev pub names_in : List ℕ → Result (List (List ℕ)) Reply
names_in path = if_some (path_of path) replies.BadPath

abbrev pub is_root : List (List ℕ) → Bool
is_root [] = true
is_root (name ∷ names) = false

abbrev pub refused_walk : Refusal → Reply
refused_walk not_directory = replies.NotDir
refused_walk name_too_long = replies.NameTooLong
refused_walk not_found = replies.NotFound

-- the birth of the node that names lead to from the root, or the reply to a refused walk
abbrev pub birth_at : Tree → List (List ℕ) → Result ℕ Reply
birth_at tree names = elim (node_of_path tree names) as (λ _. Result ℕ Reply) [ Err refusal ↦ Err (refused_walk refusal) | Ok birth ↦ Ok birth ]

-- a node with its birth, or not found where there is none
abbrev pub found_at : ℕ → Option Node → Result Found Reply
found_at birth node = and_then (if_some node replies.NotFound) (λ there. Ok (record { birth = birth; node = there }))

-- the walk of a path: each of its names in order
abbrev pub walk : Tree → List (List ℕ) → Result Found Reply
walk tree names = and_then (birth_at tree names) (λ birth. found_at birth (at_number tree birth))

abbrev pub walk_path : Tree → List ℕ → Result Found Reply
walk_path tree path = and_then (names_in path) (walk tree)

-- where a call wants a directory
abbrev pub a_directory : Node → Result Directory Reply
a_directory (nodes.Directory d) = Ok d
a_directory other = Err replies.NotDir

-- where a call wants a file; any other node is refused as a directory is
abbrev pub a_file : Node → Result File Reply
a_file (nodes.File f) = Ok f
a_file other = Err replies.IsDir

-- all names but the last, of a first name and those after it
abbrev pub all_but_last : List ℕ → List (List ℕ) → List (List ℕ)
all_but_last name [] = []
all_but_last name (next ∷ names) = name ∷ all_but_last next names

-- the last of a first name and those after it
abbrev pub last_name : List ℕ → List (List ℕ) → List ℕ
last_name name [] = name
last_name name (next ∷ names) = last_name next names

-- The parent of a path, with the last name: the walk of all names but the last, to a directory, and then the test
-- whether the last name is too long. The root has none, which a row answers in a way of its own.
abbrev pub parent_of : Reply → Tree → List (List ℕ) → Result Place Reply
parent_of at_root tree [] = Err at_root
parent_of at_root tree (name ∷ names) =
    and_then (walk tree (all_but_last name names)) (λ found.
    and_then (a_directory found.node) (λ d.
    refuse_if (nat_lt d.width (length (last_name name names))) replies.NameTooLong
    (Ok (record { parent = found.birth; directory = d; name = last_name name names }))))

-- the births of a path's parent and of all directories above it
abbrev pub above : Tree → ℕ → List (List ℕ) → List ℕ
above tree birth [] = []
above tree birth (name ∷ names) =
    birth ∷ elim (step_at (at_number tree birth) name) as (λ _. List ℕ) [ Err refusal ↦ [] | Ok next ↦ above tree next names ]

-- ---- names in directories

abbrev pub is_file : Option Node → Bool
is_file (Some (nodes.File f)) = true
is_file other = false

-- the directory has an entry with the name of the place
abbrev pub is_named : Place → Bool
is_named p = is_some (at_name p.directory.names p.name)

-- of a directory or a file
abbrev pub most_links : ℕ
most_links = MOST_LINKS

-- `.` and `..` have two slots, and a free slot is used before one more is taken
abbrev pub needs_slot : Directory → Bool
needs_slot d = not (nat_lt (length d.names + 2) d.slots)

-- one name more would make it too big
abbrev pub is_full : Directory → Bool
is_full d = needs_slot d && nat_le (most_slots d.width) d.slots

-- A name that is there keeps its slot.
abbrev pub slots_with : Directory → List ℕ → ℕ
slots_with d name = if not (is_some (at_name d.names name)) && needs_slot d then d.slots + 1 else d.slots

-- the name leads to this birth, and a slot more is taken where one is needed
abbrev pub with_name : Directory → List ℕ → ℕ → Directory
with_name d name birth = record { parent = d.parent; width = d.width; slots = slots_with d name; names = put_name d.names name birth }

-- the name is gone, and its slot is still there
abbrev pub without_name : Directory → List ℕ → Directory
without_name d name = record { parent = d.parent; width = d.width; slots = d.slots; names = remove_entry (is_at (name_cmp name)) d.names }

-- a tree in which the name leads to this node
abbrev pub give_name : Tree → Place → ℕ → Tree
give_name tree p birth = put_number tree p.parent (nodes.Directory (with_name p.directory p.name birth))

-- a tree in which the name is gone
abbrev pub take_name : Tree → Place → Tree
take_name tree p = put_number tree p.parent (nodes.Directory (without_name p.directory p.name))

abbrev pub put_file : Tree → ℕ → File → Tree
put_file tree birth f = put_number tree birth (nodes.File f)

abbrev pub with_links : File → ℕ → File
with_links f links = record { size = f.size; links = links; blocks = f.blocks }

-- a tree in which a file has one link less; at no links the file is gone
abbrev pub lose_link : Tree → ℕ → File → Tree
lose_link tree birth f = if nat_le f.links 1 then without_number tree birth else put_file tree birth (with_links f (f.links - 1))

-- ---- the rows of names

-- an empty directory, which has the slots of `.` and `..`; the width of its names, and its parent's birth
abbrev pub new_directory : ℕ → ℕ → Node
new_directory width parent = nodes.Directory (record { parent = parent; width = width; slots = 2; names = [] })

-- an empty file with one name
abbrev pub new_file : Node
new_file = nodes.File (record { size = 0; links = 1; blocks = [] })

-- no path; the root exists; what the parent refuses; it exists; the parent has all its links; the parent is full
abbrev pub mkdir : Tree → ℕ → List ℕ → Row
mkdir tree n path =
    and_then (names_in path) (λ names.
    and_then (parent_of replies.Exists tree names) (λ place.
    refuse_if (is_named place) replies.Exists
    (refuse_if (directory_links tree place.directory == most_links) replies.TooManyLinks
    (refuse_if (is_full place.directory) replies.TooBig
    (makes (give_name (put_number tree n (new_directory place.directory.width place.parent)) place n))))))

-- no path; the root exists; what the parent refuses; it exists; the parent is full
abbrev pub create : Tree → ℕ → List ℕ → Row
create tree n path =
    and_then (names_in path) (λ names.
    and_then (parent_of replies.Exists tree names) (λ place.
    refuse_if (is_named place) replies.Exists
    (refuse_if (is_full place.directory) replies.TooBig
    (makes (give_name (put_number tree n new_file) place n)))))

-- no path; the root is invalid; what the walk refuses, of which the parent's is a part; a file; with names it is not empty
abbrev pub rmdir : Tree → List ℕ → Row
rmdir tree path =
    and_then (names_in path) (λ names.
    and_then (parent_of replies.Invalid tree names) (λ place.
    and_then (walk tree names) (λ found.
    and_then (a_directory found.node) (λ d.
    refuse_if (not (length d.names == 0)) replies.NotEmpty
    (leaves (without_number (take_name tree place) found.birth))))))

-- no path; the root is invalid; what the walk refuses, of which the parent's is a part; a directory
abbrev pub unlink : Tree → List ℕ → Row
unlink tree path =
    and_then (names_in path) (λ names.
    and_then (parent_of replies.Invalid tree names) (λ place.
    and_then (walk tree names) (λ found.
    and_then (a_file found.node) (λ f.
    leaves (lose_link (take_name tree place) found.birth f)))))

-- no path, nor the other; what the walk refuses; a directory; the other is the root, which exists; what the other's
-- parent refuses; the other exists; the file has all its links; the other's parent is full
abbrev pub link : Tree → List ℕ → List ℕ → Row
link tree path other =
    and_then (names_in path) (λ names.
    and_then (names_in other) (λ more.
    and_then (walk tree names) (λ found.
    and_then (a_file found.node) (λ f.
    and_then (parent_of replies.Exists tree more) (λ place.
    refuse_if (is_named place) replies.Exists
    (refuse_if (f.links == most_links) replies.TooManyLinks
    (refuse_if (is_full place.directory) replies.TooBig
    (leaves (give_name (put_file tree found.birth (with_links f (f.links + 1))) place found.birth)))))))))

-- ---- the row of `rename`

-- a node that moves from one place to another, and what stands there
pub record Move : Type 0 where
  pub moved : Found
  pub from : Place
  pub to : Place
  pub target : Option Found

-- the node to which the name of a place leads, if there is one
abbrev pub target_at : Tree → Place → Option Found
target_at tree p =
    elim (at_name p.directory.names p.name) as (λ _. Option Found) [
      | None ↦ None
      | Some birth ↦ elim (at_number tree birth) as (λ _. Option Found) [ None ↦ None | Some node ↦ Some (record { birth = birth; node = node }) ]
    ]

abbrev pub moves_directory : Move → Bool
moves_directory m = is_directory (Some m.moved.node)

-- another directory stands there
abbrev pub meets_directory : Move → Bool
meets_directory m = elim m.target as (λ _. Bool) [ None ↦ false | Some t ↦ is_directory (Some t.node) && not (t.birth == m.moved.birth) ]

-- a file stands there, which may be the one that moves
abbrev pub meets_file : Move → Bool
meets_file m = elim m.target as (λ _. Bool) [ None ↦ false | Some t ↦ is_file (Some t.node) ]

-- both names are of one node
abbrev pub stays : Move → Bool
stays m = elim m.target as (λ _. Bool) [ None ↦ false | Some t ↦ t.birth == m.moved.birth ]

abbrev pub changes_parent : Move → Bool
changes_parent m = not (m.to.parent == m.from.parent)

-- the new place, after the old name was taken out
abbrev pub place_after : Move → Place
place_after m = record {
  parent = m.to.parent;
  directory = if changes_parent m then m.to.directory else without_name m.to.directory m.from.name;
  name = m.to.name;
}

-- a file that stands at the new place loses a link
abbrev pub without_target : Tree → Option Found → Tree
without_target tree None = tree
without_target tree (Some t) = elim (a_file t.node) as (λ _. Tree) [ Err reply ↦ tree | Ok f ↦ lose_link tree t.birth f ]

-- a directory that moved has another parent
abbrev pub moved_node : ℕ → Node → Node
moved_node parent (nodes.Directory d) = nodes.Directory (record { parent = parent; width = d.width; slots = d.slots; names = d.names })
moved_node parent other = other

-- The old name is taken out first, a file that stands at the new one loses a link, and the new name leads to the node.
abbrev pub tree_moved : Tree → Move → Tree
tree_moved tree m =
    let left = without_target (take_name tree m.from) m.target in
    give_name (put_number left m.moved.birth (moved_node m.to.parent m.moved.node)) (place_after m) m.moved.birth

-- another directory stands at the new place; a directory in place of a file; the new parent has all its links; the new
-- parent is full, after the old name was taken out and where no node stands there
abbrev pub rename_to : Tree → Move → Row
rename_to tree m =
    refuse_if (meets_directory m) (if moves_directory m then replies.Exists else replies.IsDir)
    (refuse_if (meets_file m && moves_directory m) replies.NotDir
    (refuse_if (moves_directory m && (changes_parent m && (directory_links tree m.to.directory == most_links))) replies.TooManyLinks
    (refuse_if (is_none m.target && is_full (place_after m).directory) replies.TooBig
    (leaves (if stays m then tree else tree_moved tree m)))))

-- no path, nor the other; one is the root; what the walk refuses; what the other's parent refuses; a directory whose
-- new parent is itself or lies below it; and then by what stands at the new place
abbrev pub rename : Tree → List ℕ → List ℕ → Row
rename tree path other =
    and_then (names_in path) (λ names.
    and_then (names_in other) (λ more.
    refuse_if (is_root names || is_root more) replies.Invalid
    (and_then (walk tree names) (λ found.
    and_then (parent_of replies.Invalid tree names) (λ from.
    and_then (parent_of replies.Invalid tree more) (λ to.
    refuse_if (is_directory (Some found.node) && list_any (λ birth. birth == found.birth) (above tree 0 more)) replies.Invalid
    (rename_to tree (record { moved = found; from = from; to = to; target = target_at tree to }))))))))

-- ---- the rows of bytes

-- of a file, in bytes
abbrev pub largest_size : ℕ
largest_size = LARGEST_SIZE

-- a block, zeros where it is a hole
abbrev pub block_or_zeros : Option (List ℕ) → List ℕ
block_or_zeros None = replicate 1024 0
block_or_zeros (Some body) = body

-- a block with those of the bytes from `off` on that lie in it
abbrev pub patched : ℕ → ℕ → List ℕ → List ℕ → List ℕ
patched index off bytes old =
    let from = off - 1024 * index in
    let part = take (1024 - from) (drop (1024 * index - off) bytes) in
    take from old ++ (part ++ drop (from + length part) old)

-- the blocks that so many bytes touch
abbrev pub touched_blocks : ℕ → ℕ → List ℕ
touched_blocks off len = if len == 0 then [] else range_with_len (off / 1024) ((off + len - 1) / 1024 - off / 1024 + 1)

-- the mapped blocks after bytes from `off` on are written into these blocks; a hole among them is mapped
abbrev pub written_blocks : ℕ → List ℕ → List ℕ → List (ℕ × List ℕ) → List (ℕ × List ℕ)
written_blocks off bytes [] blocks = blocks
written_blocks off bytes (index ∷ indices) blocks =
    written_blocks off bytes indices (put_number blocks index (patched index off bytes (block_or_zeros (at_number blocks index))))

abbrev pub max : ℕ → ℕ → ℕ
max a b = if nat_lt a b then b else a

-- the bytes stand, the blocks that they touch are mapped, and the size is at least where they end
abbrev pub written_file : File → ℕ → List ℕ → File
written_file f off bytes = record {
  size = max f.size (off + length bytes);
  links = f.links;
  blocks = written_blocks off bytes (touched_blocks off (length bytes)) f.blocks;
}

-- no path; what the walk refuses; a directory; it would be too big
abbrev pub write : Tree → List ℕ → ℕ → List ℕ → Row
write tree path off bytes =
    and_then (walk_path tree path) (λ found.
    and_then (a_file found.node) (λ f.
    refuse_if (nat_lt largest_size (off + length bytes)) replies.TooBig
    (leaves (put_file tree found.birth (written_file f off bytes)))))

-- a block's bytes, with zeros past a size that ends in it
abbrev pub cut_body : ℕ → ℕ → List ℕ → List ℕ
cut_body size index body =
    if nat_le (1024 * index + 1024) size then body
    else take (size - 1024 * index) body ++ replicate (1024 - (size - 1024 * index)) 0

-- blocks at or past the size are unmapped, and bytes past it in the last block are 0
abbrev pub cut_file : File → ℕ → File
cut_file f size = record {
  size = size;
  links = f.links;
  blocks = map (λ e. (e.0, cut_body size e.0 e.1)) (filter (λ e. nat_lt (1024 * e.0) size) f.blocks);
}

-- no path; what the walk refuses; a directory; it would be too big
abbrev pub truncate : Tree → List ℕ → ℕ → Row
truncate tree path size =
    and_then (walk_path tree path) (λ found.
    and_then (a_file found.node) (λ f.
    refuse_if (nat_lt largest_size size) replies.TooBig
    (leaves (put_file tree found.birth (cut_file f size)))))

-- ---- the rows of calls that change nothing

-- the byte at a place, counted from 0; a hole has zeros
abbrev pub byte_at : File → ℕ → ℕ
byte_at f at = slice_index (block_or_zeros (at_number f.blocks (at / 1024))) (at % 1024)

-- the bytes up to the size; a hole reads as 0
abbrev pub bytes_from : File → ℕ → ℕ → List ℕ
bytes_from f off len = map (byte_at f) (range_with_len off (min (off + len) f.size - off))

-- no path; what the walk refuses; a directory
abbrev pub read : Tree → List ℕ → ℕ → ℕ → Row
read tree path off len =
    and_then (walk_path tree path) (λ found.
    and_then (a_file found.node) (λ f.
    answers tree (replies.Bytes (bytes_from f off len))))

-- no path; what the walk refuses; a file
abbrev pub list : Tree → List ℕ → Row
list tree path =
    and_then (walk_path tree path) (λ found.
    and_then (a_directory found.node) (λ d.
    answers tree (replies.Names (keys_of d.names))))

-- a slot has its name and two bytes
abbrev pub stat_of : Tree → Node → Result Reply Reply
stat_of tree (nodes.Directory d) = Ok (replies.Stat true (slot_size d.width * d.slots) (directory_links tree d))
stat_of tree (nodes.File f) = Ok (replies.Stat false f.size f.links)
stat_of tree (nodes.Other mode) = Err replies.NotFound

-- no path; what the walk refuses
abbrev pub stat : Tree → List ℕ → Row
stat tree path =
    and_then (walk_path tree path) (λ found.
    and_then (stat_of tree found.node) (answers tree))

-- The barrier and sync calls of one node: no path; what the walk refuses. The tree stays.
abbrev pub barrier : Tree → List ℕ → Row
barrier tree path = and_then (walk_path tree path) (λ found. answers tree replies.Ok)

-- ---- all rows

-- calls that never take a zone
abbrev pub takes_no_zone : Call → Bool
takes_no_zone (calls.Mkdir path) = false
takes_no_zone (calls.Create path) = false
takes_no_zone (calls.Link path other) = false
takes_no_zone (calls.Rename path other) = false
takes_no_zone (calls.Write path off len value) = false
takes_no_zone (calls.Bytes path off bytes) = false
takes_no_zone other = true

-- calls that leave each tree as it is
abbrev pub leaves_tree : Call → Bool
leaves_tree (calls.Read path off len) = true
leaves_tree (calls.List path) = true
leaves_tree (calls.Stat path) = true
leaves_tree (calls.Fsync path) = true
leaves_tree (calls.Fdatasync path) = true
leaves_tree (calls.Fbarrier path) = true
leaves_tree (calls.Fdatabarrier path) = true
leaves_tree calls.Sync = true
leaves_tree other = false

-- what the row of a call with number n says
unfoldable pub row : Tree → ℕ → Call → Row
row tree n (calls.Mkdir path) = mkdir tree n path
row tree n (calls.Create path) = create tree n path
row tree n (calls.Rmdir path) = rmdir tree path
row tree n (calls.Unlink path) = unlink tree path
row tree n (calls.Link path other) = link tree path other
row tree n (calls.Rename path other) = rename tree path other
row tree n (calls.Write path off len value) = write tree path off (replicate len value)
row tree n (calls.Bytes path off bytes) = write tree path off bytes
row tree n (calls.Truncate path size) = truncate tree path size
row tree n (calls.Read path off len) = read tree path off len
row tree n (calls.List path) = list tree path
row tree n (calls.Stat path) = stat tree path
row tree n (calls.Fsync path) = barrier tree path
row tree n (calls.Fdatasync path) = barrier tree path
row tree n (calls.Fbarrier path) = barrier tree path
row tree n (calls.Fdatabarrier path) = barrier tree path
row tree n calls.Sync = answers tree replies.Ok

-- ---- zones

-- the zones of so many slots, and a zone of numbers where there are more than 7 of these
abbrev pub directory_zones : ℕ → ℕ → ℕ
directory_zones width slots = div_ceil slots (slots_a_block width) + (if nat_lt (7 * slots_a_block width) slots then 1 else 0)

-- a block whose zone stands in the indirect one, or in the double indirect one's group of 512
abbrev pub is_indirect : ℕ → Bool
is_indirect index = nat_le 7 index && nat_lt index 519

abbrev pub is_double_indirect : ℕ → Bool
is_double_indirect index = nat_le 519 index

-- the group of a block, counted from 0
abbrev pub is_in_group : ℕ → ℕ → Bool
is_in_group group index = is_double_indirect index && ((index - 519) / 512 == group)

abbrev pub one_if : Bool → ℕ
one_if test = if test then 1 else 0

-- the groups of 512 blocks with a mapped one
unfoldable pub mapped_groups : List ℕ → ℕ
mapped_groups indices = count_by (λ group. list_any (is_in_group group) indices) (range_with_len 0 512)

-- The mapped blocks, one indirect block, one double indirect block, and one second-level block for each group with a
-- mapped one.
unfoldable pub file_zones : List ℕ → ℕ
file_zones indices =
    length indices
    + one_if (list_any is_indirect indices)
    + one_if (list_any is_double_indirect indices)
    + mapped_groups indices

-- the zones that a node uses; 0 where it is neither a directory nor a file
abbrev pub node_zones : Node → ℕ
node_zones (nodes.Directory d) = directory_zones d.width d.slots
node_zones (nodes.File f) = file_zones (keys_of f.blocks)
node_zones (nodes.Other mode) = 0

-- the zones that a tree uses
unfoldable pub used_zones : Tree → ℕ
used_zones tree = sum_by node_zones (values_of tree)

-- the zones that a call would take; none where its row refuses it
unfoldable pub needs : Tree → ℕ → Call → ℕ
needs tree n c = elim (row tree n c) as (λ _. ℕ) [ Err reply ↦ 0 | Ok d ↦ used_zones d.tree - used_zones tree ]

-- ---- the call

-- there is an inode for a node that the call makes
abbrev pub HasInode : Room → Tree → Done → Type 0
HasInode room tree d = d.takes_inode ≡ true → length tree < room.inodes

-- the last refusals: no inode, where the tree has as many nodes as there are inodes; and no space, where the call needs
-- more zones than the capacity less those that the tree uses
abbrev pub if_room : Room → Tree → Done → Row
if_room room tree d =
    refuse_if (d.takes_inode && nat_le room.inodes (length tree)) replies.NoInode
    (refuse_if (nat_lt (room.capacity - used_zones tree) (used_zones d.tree - used_zones tree)) replies.NoSpace (Ok d))

-- what a call does, or what refuses it
unfoldable pub outcome : Room → Tree → ℕ → Call → Row
outcome room tree n c = and_then (row tree n c) (if_room room tree)

-- the tree and the reply of what a call does
abbrev pub tree_from : Tree → Row → Tree
tree_from tree (Err reply) = tree
tree_from tree (Ok d) = d.tree

abbrev pub reply_from : Row → Reply
reply_from (Err reply) = reply
reply_from (Ok d) = d.reply

-- the tree after the call with number n
unfoldable pub tree_after : Room → Tree → ℕ → Call → Tree
tree_after room tree n c = tree_from tree (outcome room tree n c)

-- its reply
unfoldable pub reply_of : Room → Tree → ℕ → Call → Reply
reply_of room tree n c = reply_from (outcome room tree n c)
