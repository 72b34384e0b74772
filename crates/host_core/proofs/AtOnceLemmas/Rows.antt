-- No row answers what stands for the end of a session's device or of its requests.
use Rattle.std.proofs.Common.{◌≡◌, ℕ, ◌==◌, ◌-◌, ◌+◌, nat_lt, nat_le, not, ◌&&◌, ◌||◌, Bool, true, false, if◌then◌else◌, List, [], ◌∷◌, length, replicate, Option, Some, None, is_none, Result, Ok, Err, refl}
use Rattle.std.specs.List.{list_any}
use Rattle.tree_model.specs.declared.call.Call.{Call}
use Rattle.tree_model.specs.declared.call.Call.TheVariants as calls
use Rattle.tree_model.specs.declared.call.Reply.{Reply}
use Rattle.tree_model.specs.declared.call.Reply.TheVariants as replies
use Rattle.tree_model.specs.declared.call.Room.{Room}
use Rattle.tree_model.specs.declared.node.Node.{Node}
use Rattle.tree_model.specs.declared.node.Node.TheVariants as nodes
use Rattle.tree_model.specs.Maps.{at_number, put_number, without_number}
use Rattle.tree_model.specs.Paths.{path_of}
use Rattle.tree_model.specs.Trees.{Refusal, not_directory, name_too_long, not_found, node_of_path, is_directory, directory_links}
use Rattle.tree_model.specs.Calls.{Tree, Row, Move, refuse_if, and_then, if_some, leaves, makes, answers, names_in, is_root, refused_walk, birth_at, found_at, walk, walk_path, a_directory, a_file, last_name, parent_of, above, is_named, most_links, is_full, give_name, take_name, put_file, with_links, new_directory, new_file, mkdir, create, rmdir, unlink, link, target_at, moves_directory, meets_directory, meets_file, stays, changes_parent, place_after, tree_moved, rename_to, rename, largest_size, written_file, cut_file, write, truncate, read, list, stat_of, stat, barrier, row, used_zones, if_room, outcome, reply_from}
use Rattle.host_core.specs.at_once.Replies.{is_of_tree}

abbrev refusal_is_of_tree : {A : Type 0} → Result A Reply → Bool
refusal_is_of_tree (Err reply) = is_of_tree reply
refusal_is_of_tree (Ok a) = true

-- what refuses is of the tree
record Errs {A : Type 0} (r : Result A Reply) : Type 0 where
  pub holds : refusal_is_of_tree r ≡ true

-- what is answered is of the tree
pub record Tells (r : Row) : Type 0 where
  pub holds : is_of_tree (reply_from r) ≡ true

then_errs : {A B : Type 0} (x : Result A Reply) (next : A → Result B Reply) → Errs x → ((a : A) → Errs (next a)) → Errs (and_then x next)
then_errs (Ok a) next h f = f a
then_errs (Err reply) next h f = record { holds = h.holds }

then_tells : {A : Type 0} (x : Result A Reply) (next : A → Row) → Errs x → ((a : A) → Tells (next a)) → Tells (and_then x next)
then_tells (Ok a) next h f = f a
then_tells (Err reply) next h f = record { holds = h.holds }

if_errs : {A : Type 0} (t : Bool) (reply : Reply) (next : Result A Reply) → is_of_tree reply ≡ true → Errs next → Errs (refuse_if t reply next)
if_errs true reply next h f = record { holds = h }
if_errs false reply next h f = f

if_tells : (t : Bool) (reply : Reply) (next : Row) → is_of_tree reply ≡ true → Tells next → Tells (refuse_if t reply next)
if_tells true reply next h f = record { holds = h }
if_tells false reply next h f = f

some_errs : {A : Type 0} (o : Option A) (reply : Reply) → is_of_tree reply ≡ true → Errs (if_some o reply)
some_errs (Some a) reply h = record { holds = refl }
some_errs None reply h = record { holds = h }

-- ---- paths

names_errs : (path : List ℕ) → Errs (names_in path)
names_errs path = some_errs (path_of path) replies.BadPath refl

walk_refused : (why : Refusal) → is_of_tree (refused_walk why) ≡ true
walk_refused not_directory = refl
walk_refused name_too_long = refl
walk_refused not_found = refl

birth_errs : (tree : Tree) (names : List (List ℕ)) → Errs (birth_at tree names)
birth_errs tree names = by (node_of_path tree names)
  where
    by : (r : Result ℕ Refusal) → Errs (elim r as (λ _. Result ℕ Reply) [ Err refusal ↦ Err (refused_walk refusal) | Ok birth ↦ Ok birth ])
    by (Err why) = record { holds = walk_refused why }
    by (Ok birth) = record { holds = refl }

found_errs : (birth : ℕ) (node : Option Node) → Errs (found_at birth node)
found_errs birth None = record { holds = refl }
found_errs birth (Some node) = record { holds = refl }

walk_errs : (tree : Tree) (names : List (List ℕ)) → Errs (walk tree names)
walk_errs tree names = then_errs (birth_at tree names) (λ birth. found_at birth (at_number tree birth)) (birth_errs tree names) (λ birth. found_errs birth (at_number tree birth))

path_errs : (tree : Tree) (path : List ℕ) → Errs (walk_path tree path)
path_errs tree path = then_errs (names_in path) (walk tree) (names_errs path) (walk_errs tree)

directory_errs : (node : Node) → Errs (a_directory node)
directory_errs (nodes.Directory d) = record { holds = refl }
directory_errs (nodes.File f) = record { holds = refl }
directory_errs (nodes.Other mode) = record { holds = refl }

file_errs : (node : Node) → Errs (a_file node)
file_errs (nodes.File f) = record { holds = refl }
file_errs (nodes.Directory d) = record { holds = refl }
file_errs (nodes.Other mode) = record { holds = refl }

parent_errs : (at_root : Reply) (tree : Tree) (names : List (List ℕ)) → is_of_tree at_root ≡ true → Errs (parent_of at_root tree names)
parent_errs at_root tree [] h = record { holds = h }
parent_errs at_root tree (name ∷ names) h =
    then_errs _ _ (walk_errs tree _) (λ found.
    then_errs _ _ (directory_errs found.node) (λ d.
    if_errs (nat_lt d.width (length (last_name name names))) replies.NameTooLong (Ok (record { parent = found.birth; directory = d; name = last_name name names })) refl (record { holds = refl })))

-- ---- rows

leaves_tells : (tree : Tree) → Tells (leaves tree)
leaves_tells tree = record { holds = refl }

makes_tells : (tree : Tree) → Tells (makes tree)
makes_tells tree = record { holds = refl }

mkdir_tells : (tree : Tree) (n : ℕ) (path : List ℕ) → Tells (mkdir tree n path)
mkdir_tells tree n path =
    then_tells _ _ (names_errs path) (λ names.
    then_tells _ _ (parent_errs replies.Exists tree names refl) (λ place.
    if_tells (is_named place) replies.Exists _ refl
    (if_tells (directory_links tree place.directory == most_links) replies.TooManyLinks _ refl
    (if_tells (is_full place.directory) replies.TooBig _ refl (makes_tells (give_name (put_number tree n (new_directory place.directory.width place.parent)) place n))))))

create_tells : (tree : Tree) (n : ℕ) (path : List ℕ) → Tells (create tree n path)
create_tells tree n path =
    then_tells _ _ (names_errs path) (λ names.
    then_tells _ _ (parent_errs replies.Exists tree names refl) (λ place.
    if_tells (is_named place) replies.Exists _ refl
    (if_tells (is_full place.directory) replies.TooBig _ refl (makes_tells (give_name (put_number tree n new_file) place n)))))

rmdir_tells : (tree : Tree) (path : List ℕ) → Tells (rmdir tree path)
rmdir_tells tree path =
    then_tells _ _ (names_errs path) (λ names.
    then_tells _ _ (parent_errs replies.Invalid tree names refl) (λ place.
    then_tells _ _ (walk_errs tree names) (λ found.
    then_tells _ _ (directory_errs found.node) (λ d.
    if_tells (not (length d.names == 0)) replies.NotEmpty _ refl (leaves_tells (without_number (take_name tree place) found.birth))))))

unlink_tells : (tree : Tree) (path : List ℕ) → Tells (unlink tree path)
unlink_tells tree path =
    then_tells _ _ (names_errs path) (λ names.
    then_tells _ _ (parent_errs replies.Invalid tree names refl) (λ place.
    then_tells _ _ (walk_errs tree names) (λ found.
    then_tells _ _ (file_errs found.node) (λ f. (record { holds = refl })))))

link_tells : (tree : Tree) (path other : List ℕ) → Tells (link tree path other)
link_tells tree path other =
    then_tells _ _ (names_errs path) (λ names.
    then_tells _ _ (names_errs other) (λ more.
    then_tells _ _ (walk_errs tree names) (λ found.
    then_tells _ _ (file_errs found.node) (λ f.
    then_tells _ _ (parent_errs replies.Exists tree more refl) (λ place.
    if_tells (is_named place) replies.Exists _ refl
    (if_tells (f.links == most_links) replies.TooManyLinks _ refl
    (if_tells (is_full place.directory) replies.TooBig _ refl (leaves_tells (give_name (put_file tree found.birth (with_links f (f.links + 1))) place found.birth)))))))))

there_is_of_tree : (t : Bool) → is_of_tree (if t then replies.Exists else replies.IsDir) ≡ true
there_is_of_tree true = refl
there_is_of_tree false = refl

rename_to_tells : (tree : Tree) (m : Move) → Tells (rename_to tree m)
rename_to_tells tree m =
    if_tells (meets_directory m) (if moves_directory m then replies.Exists else replies.IsDir) _ (there_is_of_tree (moves_directory m))
    (if_tells (meets_file m && moves_directory m) replies.NotDir _ refl
    (if_tells (moves_directory m && (changes_parent m && (directory_links tree m.to.directory == most_links))) replies.TooManyLinks _ refl
    (if_tells (is_none m.target && is_full (place_after m).directory) replies.TooBig _ refl (leaves_tells (if stays m then tree else tree_moved tree m)))))

rename_tells : (tree : Tree) (path other : List ℕ) → Tells (rename tree path other)
rename_tells tree path other =
    then_tells _ _ (names_errs path) (λ names.
    then_tells _ _ (names_errs other) (λ more.
    if_tells (is_root names || is_root more) replies.Invalid _ refl
    (then_tells _ _ (walk_errs tree names) (λ found.
    then_tells _ _ (parent_errs replies.Invalid tree names refl) (λ from.
    then_tells _ _ (parent_errs replies.Invalid tree more refl) (λ to.
    if_tells (is_directory (Some found.node) && list_any (λ birth. birth == found.birth) (above tree 0 more)) replies.Invalid _ refl
    (rename_to_tells tree (record { moved = found; from = from; to = to; target = target_at tree to }))))))))

write_tells : (tree : Tree) (path : List ℕ) (off : ℕ) (bytes : List ℕ) → Tells (write tree path off bytes)
write_tells tree path off bytes =
    then_tells _ _ (path_errs tree path) (λ found.
    then_tells _ _ (file_errs found.node) (λ f.
    if_tells (nat_lt largest_size (off + length bytes)) replies.TooBig _ refl (leaves_tells (put_file tree found.birth (written_file f off bytes)))))

truncate_tells : (tree : Tree) (path : List ℕ) (size : ℕ) → Tells (truncate tree path size)
truncate_tells tree path size =
    then_tells _ _ (path_errs tree path) (λ found.
    then_tells _ _ (file_errs found.node) (λ f.
    if_tells (nat_lt largest_size size) replies.TooBig _ refl (leaves_tells (put_file tree found.birth (cut_file f size)))))

read_tells : (tree : Tree) (path : List ℕ) (off len : ℕ) → Tells (read tree path off len)
read_tells tree path off len =
    then_tells _ _ (path_errs tree path) (λ found.
    then_tells _ _ (file_errs found.node) (λ f. (record { holds = refl })))

list_tells : (tree : Tree) (path : List ℕ) → Tells (list tree path)
list_tells tree path =
    then_tells _ _ (path_errs tree path) (λ found.
    then_tells _ _ (directory_errs found.node) (λ d. (record { holds = refl })))

stat_of_tells : (tree : Tree) (node : Node) → Tells (and_then (stat_of tree node) (answers tree))
stat_of_tells tree (nodes.Directory d) = record { holds = refl }
stat_of_tells tree (nodes.File f) = record { holds = refl }
stat_of_tells tree (nodes.Other mode) = record { holds = refl }

stat_tells : (tree : Tree) (path : List ℕ) → Tells (stat tree path)
stat_tells tree path = then_tells _ _ (path_errs tree path) (λ found. stat_of_tells tree found.node)

barrier_tells : (tree : Tree) (path : List ℕ) → Tells (barrier tree path)
barrier_tells tree path = then_tells _ _ (path_errs tree path) (λ found. (record { holds = refl }))

-- ---- all calls

row_tells : (tree : Tree) (n : ℕ) (c : Call) → Tells (row tree n c)
unfolding row
row_tells tree n (calls.Mkdir path) = mkdir_tells tree n path
row_tells tree n (calls.Create path) = create_tells tree n path
row_tells tree n (calls.Rmdir path) = rmdir_tells tree path
row_tells tree n (calls.Unlink path) = unlink_tells tree path
row_tells tree n (calls.Link path other) = link_tells tree path other
row_tells tree n (calls.Rename path other) = rename_tells tree path other
row_tells tree n (calls.Write path off len value) = write_tells tree path off (replicate len value)
row_tells tree n (calls.Bytes path off bytes) = write_tells tree path off bytes
row_tells tree n (calls.Truncate path size) = truncate_tells tree path size
row_tells tree n (calls.Read path off len) = read_tells tree path off len
row_tells tree n (calls.List path) = list_tells tree path
row_tells tree n (calls.Stat path) = stat_tells tree path
row_tells tree n (calls.Fsync path) = barrier_tells tree path
row_tells tree n (calls.Fdatasync path) = barrier_tells tree path
row_tells tree n (calls.Fbarrier path) = barrier_tells tree path
row_tells tree n (calls.Fdatabarrier path) = barrier_tells tree path
row_tells tree n calls.Sync = record { holds = refl }

room_tells : (room : Room) (tree : Tree) (r : Row) → Tells r → Tells (and_then r (if_room room tree))
room_tells room tree (Err reply) h = h
room_tells room tree (Ok d) h =
    if_tells (d.takes_inode && nat_le room.inodes (length tree)) replies.NoInode _ refl
    (if_tells (nat_lt (room.capacity - used_zones tree) (used_zones d.tree - used_zones tree)) replies.NoSpace (Ok d) refl h)

pub outcome_tells : (room : Room) (tree : Tree) (n : ℕ) (c : Call) → Tells (outcome room tree n c)
unfolding outcome
outcome_tells room tree n c = room_tells room tree (row tree n c) (row_tells tree n c)
