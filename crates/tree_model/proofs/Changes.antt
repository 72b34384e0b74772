-- What a call does to a tree where its row does not refuse it.
use Rattle.std.specs.Prelude.{◌≡◌, ℕ, ◌+◌, ◌==◌, Bool, true, false, not, ◌&&◌, ◌||◌, if◌then◌else◌, nat_lt, List, length, replicate, Some, Ok, is_none, refl}
use Rattle.std.proofs.Common.{sym, ap, ◌∙◌}
use Rattle.std.specs.List.{list_any}
use Rattle.std.specs.Map.{keys_of}
use Rattle.tree_model.specs.declared.call.Call.{Call}
use Rattle.tree_model.specs.declared.call.Call.TheVariants as calls
use Rattle.tree_model.specs.declared.call.Reply.{Reply}
use Rattle.tree_model.specs.declared.call.Reply.TheVariants as replies
use Rattle.tree_model.specs.declared.call.Room.{Room}
use Rattle.tree_model.specs.declared.node.Node.{Node}
use Rattle.tree_model.specs.declared.node.Node.TheVariants as nodes
use Rattle.tree_model.specs.declared.node.Directory.{Directory}
use Rattle.tree_model.specs.declared.node.File.{File}
use Rattle.tree_model.specs.Maps.{put_number, without_number}
use Rattle.tree_model.specs.Paths.{path_of}
use Rattle.tree_model.specs.Trees.{is_directory, directory_links}
use Rattle.tree_model.specs.Calls.{Tree, Done, Found, Place, Move, and_then, refuse_if, leaves, names_in, is_root, walk, walk_path, a_directory, a_file, parent_of, above, is_named, most_links, is_full, give_name, take_name, put_file, with_links, lose_link, new_directory, new_file, mkdir, create, rmdir, unlink, link, target_at, moves_directory, meets_directory, meets_file, stays, changes_parent, place_after, tree_moved, rename, largest_size, written_file, write, cut_file, truncate, leaves_tree, bytes_from, read, list, stat_of, stat, barrier, row, if_room, outcome}
use Rattle.tree_model.proofs.Rows.{ok_ok, then_ok, refuse_ok, some_ok, directory_ok, file_ok, IsFound, walk_ok, walk_path_ok, IsPlace, parent_ok}

-- a path's text and its names
abbrev pub HasNames : List ℕ → List (List ℕ) → Type 0
HasNames path names = path_of path ≡ Some names

-- a name that is not there gets a new node
pub record IsMade (tree : Tree) (n : ℕ) (node : Node) (d : Done) : Type 0 where
  pub path : List ℕ
  pub names : List (List ℕ)
  pub place : Place
  pub named : HasNames path names
  pub is_place : IsPlace tree names place
  pub free : is_named place ≡ false
  pub room : is_full place.directory ≡ false
  pub tree_is : d.tree ≡ give_name (put_number tree n node) place n
  pub reply_is : d.reply ≡ replies.Ok

-- a directory without names is gone
pub record IsRemoved (tree : Tree) (d : Done) : Type 0 where
  pub names : List (List ℕ)
  pub place : Place
  pub found : Found
  pub directory : Directory
  pub is_place : IsPlace tree names place
  pub is_found : IsFound tree names found
  pub node_is : found.node ≡ nodes.Directory directory
  pub empty : (length directory.names == 0) ≡ true
  pub tree_is : d.tree ≡ without_number (take_name tree place) found.birth
  pub reply_is : d.reply ≡ replies.Ok

-- a file has one name less
pub record IsUnlinked (tree : Tree) (d : Done) : Type 0 where
  pub names : List (List ℕ)
  pub place : Place
  pub found : Found
  pub file : File
  pub is_place : IsPlace tree names place
  pub is_found : IsFound tree names found
  pub node_is : found.node ≡ nodes.File file
  pub tree_is : d.tree ≡ lose_link (take_name tree place) found.birth file
  pub reply_is : d.reply ≡ replies.Ok

-- a file has one name more
pub record IsLinked (tree : Tree) (d : Done) : Type 0 where
  pub path : List ℕ
  pub names : List (List ℕ)
  pub more : List (List ℕ)
  pub place : Place
  pub found : Found
  pub file : File
  pub named : HasNames path more
  pub is_found : IsFound tree names found
  pub node_is : found.node ≡ nodes.File file
  pub is_place : IsPlace tree more place
  pub free : is_named place ≡ false
  pub more_links : (file.links == most_links) ≡ false
  pub room : is_full place.directory ≡ false
  pub tree_is : d.tree ≡ give_name (put_file tree found.birth (with_links file (file.links + 1))) place found.birth
  pub reply_is : d.reply ≡ replies.Ok

-- a node has another name
pub record IsRenamed (tree : Tree) (d : Done) : Type 0 where
  pub path : List ℕ
  pub names : List (List ℕ)
  pub more : List (List ℕ)
  pub move : Move
  pub named : HasNames path more
  pub is_found : IsFound tree names move.moved
  pub is_from : IsPlace tree names move.from
  pub is_to : IsPlace tree more move.to
  pub target_is : move.target ≡ target_at tree move.to
  pub not_below : (moves_directory move && list_any (λ birth. birth == move.moved.birth) (above tree 0 more)) ≡ false
  pub no_directory : meets_directory move ≡ false
  pub no_file : (meets_file move && moves_directory move) ≡ false
  pub room : (is_none move.target && is_full (place_after move).directory) ≡ false
  pub tree_is : d.tree ≡ (if stays move then tree else tree_moved tree move)
  pub reply_is : d.reply ≡ replies.Ok

-- a file has other bytes
pub record IsPut (tree : Tree) (path : List ℕ) (change : File → File) (d : Done) : Type 0 where
  pub names : List (List ℕ)
  pub found : Found
  pub file : File
  pub walked : walk_path tree path ≡ Ok found
  pub is_found : IsFound tree names found
  pub node_is : found.node ≡ nodes.File file
  pub tree_is : d.tree ≡ put_file tree found.birth (change file)
  pub reply_is : d.reply ≡ replies.Ok

-- what a call did
pub data Change (tree : Tree) (n : ℕ) (d : Done) : Call → Type 0 where
  stayed : {c : Call} → leaves_tree c ≡ true → d.tree ≡ tree → Change tree n d c
  made_directory : {path : List ℕ} {width : ℕ} (parent : ℕ) → (h : IsMade tree n (new_directory width parent) d) → h.path ≡ path → (h.place.parent ≡ parent) × (h.place.directory.width ≡ width) → Change tree n d (calls.Mkdir path)
  made_file : {path : List ℕ} → IsMade tree n new_file d → Change tree n d (calls.Create path)
  removed : {path : List ℕ} → IsRemoved tree d → Change tree n d (calls.Rmdir path)
  unlinked : {path : List ℕ} → IsUnlinked tree d → Change tree n d (calls.Unlink path)
  linked : {path other : List ℕ} → IsLinked tree d → Change tree n d (calls.Link path other)
  renamed : {path other : List ℕ} → IsRenamed tree d → Change tree n d (calls.Rename path other)
  written : {path : List ℕ} {off len value : ℕ} → IsPut tree path (λ f. written_file f off (replicate len value)) d → Change tree n d (calls.Write path off len value)
  written_bytes : {path : List ℕ} {off : ℕ} {bytes : List ℕ} → IsPut tree path (λ f. written_file f off bytes) d → Change tree n d (calls.Bytes path off bytes)
  truncated : {path : List ℕ} {size : ℕ} → IsPut tree path (λ f. cut_file f size) d → Change tree n d (calls.Truncate path size)

-- ---- row by row

reply_by : (tree : Tree) (takes : Bool) (reply : Reply) (d : Done) → record { tree = tree; takes_inode = takes; reply = reply } ≡ d → d.reply ≡ reply
reply_by tree takes reply d same = sym (ap (λ (d : Done). d.reply) same)

abbrev tree_by : (tree : Tree) (takes : Bool) (reply : Reply) (d : Done) → record { tree = tree; takes_inode = takes; reply = reply } ≡ d → d.tree ≡ tree
tree_by tree takes reply d same = sym (ap (λ (d : Done). d.tree) same)

-- what `mkdir` did
pub record IsMkdir (tree : Tree) (n : ℕ) (path : List ℕ) (d : Done) : Type 0 where
  pub parent : ℕ
  pub width : ℕ
  pub made : IsMade tree n (new_directory width parent) d
  pub path_is : made.path ≡ path
  pub parent_is : (made.place.parent ≡ parent) × (made.place.directory.width ≡ width)

pub mkdir_made : (tree : Tree) (n : ℕ) (path : List ℕ) (d : Done) → mkdir tree n path ≡ Ok d → IsMkdir tree n path d
mkdir_made tree n path d h =
    let a = then_ok (names_in path) _ d h in
    let b = then_ok (parent_of replies.Exists tree a.0) _ d a.2 in
    let c = refuse_ok (is_named b.0) replies.Exists _ d b.2 in
    let e = refuse_ok (directory_links tree b.0.directory == most_links) replies.TooManyLinks _ d c.1 in
    let f = refuse_ok (is_full b.0.directory) replies.TooBig _ d e.1 in
    record {
      parent = b.0.parent;
      width = b.0.directory.width;
      made = record {
        path = path;
        names = a.0;
        place = b.0;
        named = some_ok (path_of path) replies.BadPath a.0 a.1;
        is_place = parent_ok replies.Exists tree a.0 b.0 b.1;
        free = c.0;
        room = f.0;
        tree_is = tree_by _ true replies.Ok d (ok_ok _ d f.1);
        reply_is = reply_by _ true replies.Ok d (ok_ok _ d f.1);
      };
      path_is = refl;
      parent_is = (refl, refl);
    }

mkdir_change : (tree : Tree) (n : ℕ) (path : List ℕ) (d : Done) → mkdir tree n path ≡ Ok d → Change tree n d (calls.Mkdir path)
mkdir_change tree n path d h = let x = mkdir_made tree n path d h in made_directory x.parent x.made x.path_is x.parent_is

pub create_made : (tree : Tree) (n : ℕ) (path : List ℕ) (d : Done) → create tree n path ≡ Ok d → (h : IsMade tree n new_file d) × (h.path ≡ path)
create_made tree n path d h =
    let a = then_ok (names_in path) _ d h in
    let b = then_ok (parent_of replies.Exists tree a.0) _ d a.2 in
    let c = refuse_ok (is_named b.0) replies.Exists _ d b.2 in
    let f = refuse_ok (is_full b.0.directory) replies.TooBig _ d c.1 in (
      record {
        path = path;
        names = a.0;
        place = b.0;
        named = some_ok (path_of path) replies.BadPath a.0 a.1;
        is_place = parent_ok replies.Exists tree a.0 b.0 b.1;
        free = c.0;
        room = f.0;
        tree_is = tree_by _ true replies.Ok d (ok_ok _ d f.1);
        reply_is = reply_by _ true replies.Ok d (ok_ok _ d f.1);
      },
      refl,
    )

create_change : (tree : Tree) (n : ℕ) (path : List ℕ) (d : Done) → create tree n path ≡ Ok d → Change tree n d (calls.Create path)
create_change tree n path d h = made_file (create_made tree n path d h).0

true_from_not : (b : Bool) → not b ≡ false → b ≡ true
true_from_not true h = refl
true_from_not false h = sym h

pub rmdir_made : (tree : Tree) (path : List ℕ) (d : Done) → rmdir tree path ≡ Ok d → (h : IsRemoved tree d) × HasNames path h.names
rmdir_made tree path d h =
    let a = then_ok (names_in path) _ d h in
    let b = then_ok (parent_of replies.Invalid tree a.0) _ d a.2 in
    let c = then_ok (walk tree a.0) _ d b.2 in
    let e = then_ok (a_directory c.0.node) _ d c.2 in
    let f = refuse_ok (not (length e.0.names == 0)) replies.NotEmpty _ d e.2 in (
      record {
        names = a.0;
        place = b.0;
        found = c.0;
        directory = e.0;
        is_place = parent_ok replies.Invalid tree a.0 b.0 b.1;
        is_found = walk_ok tree a.0 c.0 c.1;
        node_is = directory_ok c.0.node e.0 e.1;
        empty = true_from_not (length e.0.names == 0) f.0;
        tree_is = tree_by _ false replies.Ok d (ok_ok _ d f.1);
        reply_is = reply_by _ false replies.Ok d (ok_ok _ d f.1);
      },
      some_ok (path_of path) replies.BadPath a.0 a.1,
    )

rmdir_change : (tree : Tree) (n : ℕ) (path : List ℕ) (d : Done) → rmdir tree path ≡ Ok d → Change tree n d (calls.Rmdir path)
rmdir_change tree n path d h = removed (rmdir_made tree path d h).0

pub unlink_made : (tree : Tree) (path : List ℕ) (d : Done) → unlink tree path ≡ Ok d → (h : IsUnlinked tree d) × HasNames path h.names
unlink_made tree path d h =
    let a = then_ok (names_in path) _ d h in
    let b = then_ok (parent_of replies.Invalid tree a.0) _ d a.2 in
    let c = then_ok (walk tree a.0) _ d b.2 in
    let e = then_ok (a_file c.0.node) _ d c.2 in (
      record {
        names = a.0;
        place = b.0;
        found = c.0;
        file = e.0;
        is_place = parent_ok replies.Invalid tree a.0 b.0 b.1;
        is_found = walk_ok tree a.0 c.0 c.1;
        node_is = file_ok c.0.node e.0 e.1;
        tree_is = tree_by _ false replies.Ok d (ok_ok _ d e.2);
        reply_is = reply_by _ false replies.Ok d (ok_ok _ d e.2);
      },
      some_ok (path_of path) replies.BadPath a.0 a.1,
    )

unlink_change : (tree : Tree) (n : ℕ) (path : List ℕ) (d : Done) → unlink tree path ≡ Ok d → Change tree n d (calls.Unlink path)
unlink_change tree n path d h = unlinked (unlink_made tree path d h).0

pub link_made : (tree : Tree) (path other : List ℕ) (d : Done) → link tree path other ≡ Ok d → (h : IsLinked tree d) × HasNames path h.names × HasNames other h.more
link_made tree path other d h =
    let a = then_ok (names_in path) _ d h in
    let b = then_ok (names_in other) _ d a.2 in
    let c = then_ok (walk tree a.0) _ d b.2 in
    let e = then_ok (a_file c.0.node) _ d c.2 in
    let f = then_ok (parent_of replies.Exists tree b.0) _ d e.2 in
    let g = refuse_ok (is_named f.0) replies.Exists _ d f.2 in
    let i = refuse_ok (e.0.links == most_links) replies.TooManyLinks _ d g.1 in
    let j = refuse_ok (is_full f.0.directory) replies.TooBig _ d i.1 in (
      record {
        path = other;
        names = a.0;
        more = b.0;
        place = f.0;
        found = c.0;
        file = e.0;
        named = some_ok (path_of other) replies.BadPath b.0 b.1;
        is_found = walk_ok tree a.0 c.0 c.1;
        node_is = file_ok c.0.node e.0 e.1;
        is_place = parent_ok replies.Exists tree b.0 f.0 f.1;
        free = g.0;
        more_links = i.0;
        room = j.0;
        tree_is = tree_by _ false replies.Ok d (ok_ok _ d j.1);
        reply_is = reply_by _ false replies.Ok d (ok_ok _ d j.1);
      },
      some_ok (path_of path) replies.BadPath a.0 a.1,
      some_ok (path_of other) replies.BadPath b.0 b.1,
    )

link_change : (tree : Tree) (n : ℕ) (path other : List ℕ) (d : Done) → link tree path other ≡ Ok d → Change tree n d (calls.Link path other)
link_change tree n path other d h = linked (link_made tree path other d h).0

pub rename_made : (tree : Tree) (path other : List ℕ) (d : Done) → rename tree path other ≡ Ok d → (h : IsRenamed tree d) × HasNames path h.names × HasNames other h.more
rename_made tree path other d h =
    let a = then_ok (names_in path) _ d h in
    let b = then_ok (names_in other) _ d a.2 in
    let c = refuse_ok (is_root a.0 || is_root b.0) replies.Invalid _ d b.2 in
    let e = then_ok (walk tree a.0) _ d c.1 in
    let f = then_ok (parent_of replies.Invalid tree a.0) _ d e.2 in
    let g = then_ok (parent_of replies.Invalid tree b.0) _ d f.2 in
    let i = refuse_ok (is_directory (Some e.0.node) && list_any (λ birth. birth == e.0.birth) (above tree 0 b.0)) replies.Invalid _ d g.2 in
    let m : Move = record { moved = e.0; from = f.0; to = g.0; target = target_at tree g.0 } in
    let j = refuse_ok (meets_directory m) _ _ d i.1 in
    let k = refuse_ok (meets_file m && moves_directory m) replies.NotDir _ d j.1 in
    let l = refuse_ok (moves_directory m && (changes_parent m && (directory_links tree m.to.directory == most_links))) replies.TooManyLinks _ d k.1 in
    let o = refuse_ok (is_none m.target && is_full (place_after m).directory) replies.TooBig _ d l.1 in (
      record {
        path = other;
        names = a.0;
        more = b.0;
        move = m;
        named = some_ok (path_of other) replies.BadPath b.0 b.1;
        is_found = walk_ok tree a.0 e.0 e.1;
        is_from = parent_ok replies.Invalid tree a.0 f.0 f.1;
        is_to = parent_ok replies.Invalid tree b.0 g.0 g.1;
        target_is = refl;
        not_below = i.0;
        no_directory = j.0;
        no_file = k.0;
        room = o.0;
        tree_is = tree_by _ false replies.Ok d (ok_ok _ d o.1);
        reply_is = reply_by _ false replies.Ok d (ok_ok _ d o.1);
      },
      some_ok (path_of path) replies.BadPath a.0 a.1,
      some_ok (path_of other) replies.BadPath b.0 b.1,
    )

rename_change : (tree : Tree) (n : ℕ) (path other : List ℕ) (d : Done) → rename tree path other ≡ Ok d → Change tree n d (calls.Rename path other)
rename_change tree n path other d h = renamed (rename_made tree path other d h).0

put_change : (tree : Tree) (path : List ℕ) (too_big : Bool) (change : File → File) (d : Done) →
    and_then (walk_path tree path) (λ found. and_then (a_file found.node) (λ f. refuse_if too_big replies.TooBig (leaves (put_file tree found.birth (change f))))) ≡ Ok d → IsPut tree path change d
put_change tree path too_big change d h =
    let a = then_ok (walk_path tree path) _ d h in
    let b = then_ok (a_file a.0.node) _ d a.2 in
    let c = refuse_ok too_big replies.TooBig _ d b.2 in
    let w = walk_path_ok tree path a.0 a.1 in
    record {
      names = w.0;
      found = a.0;
      file = b.0;
      walked = a.1;
      is_found = w.2;
      node_is = file_ok a.0.node b.0 b.1;
      tree_is = tree_by _ false replies.Ok d (ok_ok _ d c.1);
      reply_is = reply_by _ false replies.Ok d (ok_ok _ d c.1);
    }

pub write_change : (tree : Tree) (path : List ℕ) (off : ℕ) (bytes : List ℕ) (d : Done) → write tree path off bytes ≡ Ok d → IsPut tree path (λ f. written_file f off bytes) d
write_change tree path off bytes d h = put_change tree path (nat_lt largest_size (off + length bytes)) (λ f. written_file f off bytes) d h

pub truncate_change : (tree : Tree) (path : List ℕ) (size : ℕ) (d : Done) → truncate tree path size ≡ Ok d → IsPut tree path (λ f. cut_file f size) d
truncate_change tree path size d h = put_change tree path (nat_lt largest_size size) (λ f. cut_file f size) d h

read_stays : (tree : Tree) (path : List ℕ) (off len : ℕ) (d : Done) → read tree path off len ≡ Ok d → d.tree ≡ tree
read_stays tree path off len d h =
    let a = then_ok (walk_path tree path) _ d h in
    let b = then_ok (a_file a.0.node) _ d a.2 in
    tree_by tree false (replies.Bytes (bytes_from b.0 off len)) d (ok_ok _ d b.2)

list_stays : (tree : Tree) (path : List ℕ) (d : Done) → list tree path ≡ Ok d → d.tree ≡ tree
list_stays tree path d h =
    let a = then_ok (walk_path tree path) _ d h in
    let b = then_ok (a_directory a.0.node) _ d a.2 in
    tree_by tree false (replies.Names (keys_of b.0.names)) d (ok_ok _ d b.2)

stat_stays : (tree : Tree) (path : List ℕ) (d : Done) → stat tree path ≡ Ok d → d.tree ≡ tree
stat_stays tree path d h =
    let a = then_ok (walk_path tree path) _ d h in
    let b = then_ok (stat_of tree a.0.node) _ d a.2 in
    tree_by tree false b.0 d (ok_ok _ d b.2)

barrier_stays : (tree : Tree) (path : List ℕ) (d : Done) → barrier tree path ≡ Ok d → d.tree ≡ tree
barrier_stays tree path d h =
    let a = then_ok (walk_path tree path) _ d h in
    tree_by tree false replies.Ok d (ok_ok _ d a.2)

-- what a call did whose row does not refuse it
pub row_change : (tree : Tree) (n : ℕ) (c : Call) (d : Done) → row tree n c ≡ Ok d → Change tree n d c
unfolding row
row_change tree n (calls.Mkdir path) d h = mkdir_change tree n path d h
row_change tree n (calls.Create path) d h = create_change tree n path d h
row_change tree n (calls.Rmdir path) d h = rmdir_change tree n path d h
row_change tree n (calls.Unlink path) d h = unlink_change tree n path d h
row_change tree n (calls.Link path other) d h = link_change tree n path other d h
row_change tree n (calls.Rename path other) d h = rename_change tree n path other d h
row_change tree n (calls.Write path off len value) d h = written (write_change tree path off (replicate len value) d h)
row_change tree n (calls.Bytes path off bytes) d h = written_bytes (write_change tree path off bytes d h)
row_change tree n (calls.Truncate path size) d h = truncated (truncate_change tree path size d h)
row_change tree n (calls.Read path off len) d h = stayed refl (read_stays tree path off len d h)
row_change tree n (calls.List path) d h = stayed refl (list_stays tree path d h)
row_change tree n (calls.Stat path) d h = stayed refl (stat_stays tree path d h)
row_change tree n (calls.Fsync path) d h = stayed refl (barrier_stays tree path d h)
row_change tree n (calls.Fdatasync path) d h = stayed refl (barrier_stays tree path d h)
row_change tree n (calls.Fbarrier path) d h = stayed refl (barrier_stays tree path d h)
row_change tree n (calls.Fdatabarrier path) d h = stayed refl (barrier_stays tree path d h)
row_change tree n calls.Sync d h = stayed refl (tree_by tree false replies.Ok d (ok_ok _ d h))

-- a call that is done is one that its row and the room do not refuse
pub outcome_row : (room : Room) (tree : Tree) (n : ℕ) (c : Call) (d : Done) → outcome room tree n c ≡ Ok d → row tree n c ≡ Ok d
unfolding outcome
outcome_row room tree n c d h =
    let a = then_ok (row tree n c) (if_room room tree) d h in
    let b = refuse_ok _ replies.NoInode _ d a.2 in
    let e = refuse_ok _ replies.NoSpace _ d b.1 in
    a.1 ∙ e.1

pub outcome_change : (room : Room) (tree : Tree) (n : ℕ) (c : Call) (d : Done) → outcome room tree n c ≡ Ok d → Change tree n d c
outcome_change room tree n c d h = row_change tree n c d (outcome_row room tree n c d h)
