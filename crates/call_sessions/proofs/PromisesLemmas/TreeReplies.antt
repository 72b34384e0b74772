-- The tree model never answers that the device is off or failed, or that the session is full.
use Rattle.std.proofs.Common.{◌≡◌, ℕ, Bool, true, false, not, ◌&&◌, ◌||◌, ◌==◌, ◌+◌, ◌-◌, nat_lt, nat_le, List, [], ◌∷◌, length, replicate, Option, Some, None, is_none, Result, Ok, Err, refl, if◌then◌else◌}
use Rattle.std.specs.Prelude.{⊤}
use Rattle.std.specs.List.{list_any}
use Rattle.tree_model.specs.declared.call.Call.{Call}
use Rattle.tree_model.specs.declared.call.Call.TheVariants as calls
use Rattle.tree_model.specs.declared.call.Reply.{Reply}
use Rattle.tree_model.specs.declared.call.Reply.TheVariants as replies
use Rattle.tree_model.specs.declared.call.Room.{Room}
use Rattle.tree_model.specs.declared.node.Node.{Node}
use Rattle.tree_model.specs.declared.node.Node.TheVariants as nodes
use Rattle.tree_model.specs.Maps.{at_number}
use Rattle.tree_model.specs.Paths.{path_of}
use Rattle.tree_model.specs.Trees.{Refusal, not_directory, name_too_long, not_found, is_directory, node_of_path, directory_links}
use Rattle.tree_model.specs.Calls.{Tree, Row, Move, refuse_if, and_then, if_some, names_in, is_root, refused_walk, birth_at, found_at, walk, walk_path, a_directory, a_file, all_but_last, last_name, parent_of, above, is_named, most_links, is_full, mkdir, create, rmdir, unlink, link, target_at, moves_directory, meets_directory, meets_file, changes_parent, place_after, rename_to, rename, largest_size, write, truncate, stat_of, barrier, row, used_zones, if_room, answers, outcome, reply_from, reply_of}
use Rattle.crash_laws.specs.LegalHistory.{is_turned_away}

-- a refusal is the tree's own
abbrev Fine : {A : Type 0} → Result A Reply → Type 0
Fine (Ok a) = ⊤
Fine (Err reply) = is_turned_away reply ≡ false

-- so is what a row answers
abbrev FineRow : Row → Type 0
FineRow r = is_turned_away (reply_from r) ≡ false

then_row : {A : Type 0} (x : Result A Reply) (next : A → Row) → Fine x → ((a : A) → FineRow (next a)) → FineRow (and_then x next)
then_row (Ok a) next h more = more a
then_row (Err reply) next h more = h

then_part : {A B : Type 0} (x : Result A Reply) (next : A → Result B Reply) → Fine x → ((a : A) → Fine (next a)) → Fine (and_then x next)
then_part (Ok a) next h more = more a
then_part (Err reply) next h more = h

if_row : (test : Bool) (reply : Reply) (x : Row) → is_turned_away reply ≡ false → FineRow x → FineRow (refuse_if test reply x)
if_row true reply x h more = h
if_row false reply x h more = more

if_part : {A : Type 0} (test : Bool) (reply : Reply) (x : Result A Reply) → is_turned_away reply ≡ false → Fine x → Fine (refuse_if test reply x)
if_part true reply x h more = h
if_part false reply x h more = more

some_part : {A : Type 0} (o : Option A) (reply : Reply) → is_turned_away reply ≡ false → Fine (if_some o reply)
some_part (Some a) reply h = tt
some_part None reply h = h

-- ---- parts of rows

names_fine : (path : List ℕ) → Fine (names_in path)
names_fine path = some_part (path_of path) replies.BadPath refl

walk_refusal : (refusal : Refusal) → is_turned_away (refused_walk refusal) ≡ false
walk_refusal not_directory = refl
walk_refusal name_too_long = refl
walk_refusal not_found = refl

birth_fine : (x : Result ℕ Refusal) → Fine (elim x as (λ _. Result ℕ Reply) [ Err refusal ↦ Err (refused_walk refusal) | Ok birth ↦ Ok birth ])
birth_fine (Ok birth) = tt
birth_fine (Err refusal) = walk_refusal refusal

walk_fine : (tree : Tree) (names : List (List ℕ)) → Fine (walk tree names)
walk_fine tree names =
    then_part (birth_at tree names) (λ birth. found_at birth (at_number tree birth)) (birth_fine (node_of_path tree names))
    (λ birth. then_part (if_some (at_number tree birth) replies.NotFound) (λ there. Ok (record { birth = birth; node = there })) (some_part (at_number tree birth) replies.NotFound refl) (λ there. tt))

path_fine : (tree : Tree) (path : List ℕ) → Fine (walk_path tree path)
path_fine tree path = then_part (names_in path) (walk tree) (names_fine path) (walk_fine tree)

directory_fine : (node : Node) → Fine (a_directory node)
directory_fine (nodes.Directory d) = tt
directory_fine (nodes.File f) = refl
directory_fine (nodes.Other mode) = refl

file_fine : (node : Node) → Fine (a_file node)
file_fine (nodes.File f) = tt
file_fine (nodes.Directory d) = refl
file_fine (nodes.Other mode) = refl

parent_fine : (reply : Reply) (tree : Tree) (names : List (List ℕ)) → is_turned_away reply ≡ false → Fine (parent_of reply tree names)
parent_fine reply tree [] h = h
parent_fine reply tree (name ∷ names) h =
    then_part (walk tree (all_but_last name names)) _ (walk_fine tree (all_but_last name names)) (λ found.
    then_part (a_directory found.node) _ (directory_fine found.node) (λ d.
    if_part (nat_lt d.width (length (last_name name names))) replies.NameTooLong _ refl tt))

stat_row : (tree : Tree) (node : Node) → FineRow (and_then (stat_of tree node) (answers tree))
stat_row tree (nodes.Directory d) = refl
stat_row tree (nodes.File f) = refl
stat_row tree (nodes.Other mode) = refl

-- ---- rows

mkdir_row : (tree : Tree) (n : ℕ) (path : List ℕ) → FineRow (mkdir tree n path)
mkdir_row tree n path =
    then_row (names_in path) _ (names_fine path) (λ names.
    then_row (parent_of replies.Exists tree names) _ (parent_fine replies.Exists tree names refl) (λ place.
    if_row (is_named place) replies.Exists _ refl
    (if_row (directory_links tree place.directory == most_links) replies.TooManyLinks _ refl
    (if_row (is_full place.directory) replies.TooBig _ refl refl))))

create_row : (tree : Tree) (n : ℕ) (path : List ℕ) → FineRow (create tree n path)
create_row tree n path =
    then_row (names_in path) _ (names_fine path) (λ names.
    then_row (parent_of replies.Exists tree names) _ (parent_fine replies.Exists tree names refl) (λ place.
    if_row (is_named place) replies.Exists _ refl
    (if_row (is_full place.directory) replies.TooBig _ refl refl)))

rmdir_row : (tree : Tree) (path : List ℕ) → FineRow (rmdir tree path)
rmdir_row tree path =
    then_row (names_in path) _ (names_fine path) (λ names.
    then_row (parent_of replies.Invalid tree names) _ (parent_fine replies.Invalid tree names refl) (λ place.
    then_row (walk tree names) _ (walk_fine tree names) (λ found.
    then_row (a_directory found.node) _ (directory_fine found.node) (λ d.
    if_row (not (length d.names == 0)) replies.NotEmpty _ refl refl))))

unlink_row : (tree : Tree) (path : List ℕ) → FineRow (unlink tree path)
unlink_row tree path =
    then_row (names_in path) _ (names_fine path) (λ names.
    then_row (parent_of replies.Invalid tree names) _ (parent_fine replies.Invalid tree names refl) (λ place.
    then_row (walk tree names) _ (walk_fine tree names) (λ found.
    then_row (a_file found.node) _ (file_fine found.node) (λ f. refl))))

link_row : (tree : Tree) (path other : List ℕ) → FineRow (link tree path other)
link_row tree path other =
    then_row (names_in path) _ (names_fine path) (λ names.
    then_row (names_in other) _ (names_fine other) (λ more.
    then_row (walk tree names) _ (walk_fine tree names) (λ found.
    then_row (a_file found.node) _ (file_fine found.node) (λ f.
    then_row (parent_of replies.Exists tree more) _ (parent_fine replies.Exists tree more refl) (λ place.
    if_row (is_named place) replies.Exists _ refl
    (if_row (f.links == most_links) replies.TooManyLinks _ refl
    (if_row (is_full place.directory) replies.TooBig _ refl refl)))))))

move_row : (tree : Tree) (m : Move) → FineRow (rename_to tree m)
move_row tree m =
    if_row (meets_directory m) (if moves_directory m then replies.Exists else replies.IsDir) _ (by (moves_directory m))
    (if_row (meets_file m && moves_directory m) replies.NotDir _ refl
    (if_row (moves_directory m && (changes_parent m && (directory_links tree m.to.directory == most_links))) replies.TooManyLinks _ refl
    (if_row (is_none m.target && is_full (place_after m).directory) replies.TooBig _ refl refl)))
  where
    by : (b : Bool) → is_turned_away (if b then replies.Exists else replies.IsDir) ≡ false
    by true = refl
    by false = refl

rename_row : (tree : Tree) (path other : List ℕ) → FineRow (rename tree path other)
rename_row tree path other =
    then_row (names_in path) _ (names_fine path) (λ names.
    then_row (names_in other) _ (names_fine other) (λ more.
    if_row (is_root names || is_root more) replies.Invalid _ refl
    (then_row (walk tree names) _ (walk_fine tree names) (λ found.
    then_row (parent_of replies.Invalid tree names) _ (parent_fine replies.Invalid tree names refl) (λ from.
    then_row (parent_of replies.Invalid tree more) _ (parent_fine replies.Invalid tree more refl) (λ to.
    if_row (is_directory (Some found.node) && list_any (λ birth. birth == found.birth) (above tree 0 more)) replies.Invalid _ refl
    (move_row tree (record { moved = found; from = from; to = to; target = target_at tree to }))))))))

write_row : (tree : Tree) (path : List ℕ) (off : ℕ) (bytes : List ℕ) → FineRow (write tree path off bytes)
write_row tree path off bytes =
    then_row (walk_path tree path) _ (path_fine tree path) (λ found.
    then_row (a_file found.node) _ (file_fine found.node) (λ f.
    if_row (nat_lt largest_size (off + length bytes)) replies.TooBig _ refl refl))

truncate_row : (tree : Tree) (path : List ℕ) (size : ℕ) → FineRow (truncate tree path size)
truncate_row tree path size =
    then_row (walk_path tree path) _ (path_fine tree path) (λ found.
    then_row (a_file found.node) _ (file_fine found.node) (λ f.
    if_row (nat_lt largest_size size) replies.TooBig _ refl refl))

barrier_row : (tree : Tree) (path : List ℕ) → FineRow (barrier tree path)
barrier_row tree path = then_row (walk_path tree path) _ (path_fine tree path) (λ found. refl)

row_fine : (tree : Tree) (n : ℕ) (c : Call) → FineRow (row tree n c)
unfolding row
row_fine tree n (calls.Mkdir path) = mkdir_row tree n path
row_fine tree n (calls.Create path) = create_row tree n path
row_fine tree n (calls.Rmdir path) = rmdir_row tree path
row_fine tree n (calls.Unlink path) = unlink_row tree path
row_fine tree n (calls.Link path other) = link_row tree path other
row_fine tree n (calls.Rename path other) = rename_row tree path other
row_fine tree n (calls.Write path off len value) = write_row tree path off (replicate len value)
row_fine tree n (calls.Bytes path off bytes) = write_row tree path off bytes
row_fine tree n (calls.Truncate path size) = truncate_row tree path size
row_fine tree n (calls.Read path off len) = then_row (walk_path tree path) _ (path_fine tree path) (λ found. then_row (a_file found.node) _ (file_fine found.node) (λ f. refl))
row_fine tree n (calls.List path) = then_row (walk_path tree path) _ (path_fine tree path) (λ found. then_row (a_directory found.node) _ (directory_fine found.node) (λ d. refl))
row_fine tree n (calls.Stat path) = then_row (walk_path tree path) _ (path_fine tree path) (λ found. stat_row tree found.node)
row_fine tree n (calls.Fsync path) = barrier_row tree path
row_fine tree n (calls.Fdatasync path) = barrier_row tree path
row_fine tree n (calls.Fbarrier path) = barrier_row tree path
row_fine tree n (calls.Fdatabarrier path) = barrier_row tree path
row_fine tree n calls.Sync = refl

room_fine : (room : Room) (tree : Tree) (r : Row) → FineRow r → FineRow (and_then r (if_room room tree))
room_fine room tree (Err reply) h = h
room_fine room tree (Ok d) h =
    if_row (d.takes_inode && nat_le room.inodes (length tree)) replies.NoInode _ refl
    (if_row (nat_lt (room.capacity - used_zones tree) (used_zones d.tree - used_zones tree)) replies.NoSpace _ refl h)

pub never_turned_away : (room : Room) (tree : Tree) (n : ℕ) (c : Call) → is_turned_away (reply_of room tree n c) ≡ false
unfolding reply_of outcome
never_turned_away room tree n c = room_fine room tree (row tree n c) (row_fine tree n c)
