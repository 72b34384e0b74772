-- What a call answers where its row does not refuse it, and the room that it keeps.
use Rattle.std.specs.Prelude.{◌*◌, ◌≡◌, ◌<◌, ◌≤◌, ℕ, ◌+◌, ◌-◌, ◌%◌, ◌==◌, ◌⊎◌, Bool, true, false, ◌&&◌, if◌then◌else◌, nat_le, nat_lt, List, [], ◌∷◌, length, Option, Some, None, Result, Ok, Err, refl}
use Rattle.std.proofs.Common.{ap, subst, ◌∙◌, inl, inr, ⊎_elim, arith}
use Rattle.std.proofs.lemmas.Bool.{false≢true, ltb-false, lt-ltb, le-ltb, le-leb, lt-leb, and_from}
use Rattle.blk_base.specs.Members.{In}
use Rattle.tree_model.specs.declared.call.Call.{Call}
use Rattle.tree_model.specs.declared.call.Call.TheVariants as calls
use Rattle.tree_model.specs.declared.call.Reply.{Reply}
use Rattle.tree_model.specs.declared.call.Reply.TheVariants as replies
use Rattle.tree_model.specs.declared.call.Room.{Room}
use Rattle.tree_model.specs.Paths.{path_of}
use Rattle.std.specs.Int.{div_ceil}
use Rattle.minix_layout.specs.Widths.{slot_size, slots_a_block}
use Rattle.minix_layout.specs.laws.Places.{IsForm, narrow, wide, form_is}
use Rattle.tree_model.specs.Calls.{Tree, Done, Row, Found, refuse_if, and_then, if_some, names_in, walk, walk_path, leaves_tree, row, directory_zones, needs, HasInode, used_zones, if_room, outcome, tree_from, reply_from, tree_after, reply_of}
use Rattle.tree_model.specs.Causes.{paths_of}
use Rattle.tree_model.proofs.Rows.{ok_ok, then_ok, refuse_ok}
use Rattle.tree_model.proofs.Changes.{Change, stayed, made_directory, made_file, removed, unlinked, linked, renamed, written, written_bytes, truncated, outcome_change}

-- ---- refused calls, and calls that ask

pub refused_stays : (room : Room) (tree : Tree) (n : ℕ) (c : Call) (reply : Reply) → outcome room tree n c ≡ Err reply → (tree_after room tree n c ≡ tree) × (reply_of room tree n c ≡ reply)
unfolding tree_after reply_of
refused_stays room tree n c reply e = (ap (tree_from tree) e, ap reply_from e)

quiet_change : (tree : Tree) (n : ℕ) (c : Call) (d : Done) → Change tree n d c → leaves_tree c ≡ true → d.tree ≡ tree
quiet_change tree n c d (stayed quiet same) t = same
quiet_change tree n _ d (made_directory parent h e g) t = absurd (false≢true t)
quiet_change tree n _ d (made_file h) t = absurd (false≢true t)
quiet_change tree n _ d (removed h) t = absurd (false≢true t)
quiet_change tree n _ d (unlinked h) t = absurd (false≢true t)
quiet_change tree n _ d (linked h) t = absurd (false≢true t)
quiet_change tree n _ d (renamed h) t = absurd (false≢true t)
quiet_change tree n _ d (written h) t = absurd (false≢true t)
quiet_change tree n _ d (written_bytes h) t = absurd (false≢true t)
quiet_change tree n _ d (truncated h) t = absurd (false≢true t)

quiet_by : (room : Room) (tree : Tree) (n : ℕ) (c : Call) → leaves_tree c ≡ true → (r : Row) → outcome room tree n c ≡ r → tree_from tree r ≡ tree
quiet_by room tree n c t (Err reply) e = refl
quiet_by room tree n c t (Ok d) e = quiet_change tree n c d (outcome_change room tree n c d e) t

pub quiet_stays : (room : Room) (tree : Tree) (n : ℕ) (c : Call) → leaves_tree c ≡ true → tree_after room tree n c ≡ tree
unfolding tree_after
quiet_stays room tree n c t = quiet_by room tree n c t (outcome room tree n c) refl

-- ---- room

pub needs_done : (tree : Tree) (n : ℕ) (c : Call) (d : Done) → row tree n c ≡ Ok d → needs tree n c ≡ used_zones d.tree - used_zones tree
unfolding needs
needs_done tree n c d e = ap (λ (r : Row). elim r as (λ _. ℕ) [ Err reply ↦ 0 | Ok d ↦ used_zones d.tree - used_zones tree ]) e

inode_passes : (room : Room) (tree : Tree) (d : Done) → HasInode room tree d → (d.takes_inode && nat_le room.inodes (length tree)) ≡ false
inode_passes room tree d h = by d.takes_inode refl
  where
    by : (b : Bool) → d.takes_inode ≡ b → (b && nat_le room.inodes (length tree)) ≡ false
    by true e = lt-leb room.inodes (length tree) (h e)
    by false e = refl

outcome_from : (room : Room) (tree : Tree) (n : ℕ) (c : Call) (d : Done) → row tree n c ≡ Ok d → outcome room tree n c ≡ if_room room tree d
unfolding outcome
outcome_from room tree n c d e = ap (λ (r : Row). and_then r (if_room room tree)) e

-- what no row refuses and there is room for is done
pub row_done : (room : Room) (tree : Tree) (n : ℕ) (c : Call) (d : Done) → row tree n c ≡ Ok d → HasInode room tree d → needs tree n c ≤ room.capacity - used_zones tree → outcome room tree n c ≡ Ok d
row_done room tree n c d e inode le =
    let fits : nat_lt (room.capacity - used_zones tree) (used_zones d.tree - used_zones tree) ≡ false =
    le-ltb (room.capacity - used_zones tree) (used_zones d.tree - used_zones tree) (subst (λ k. k ≤ room.capacity - used_zones tree) (needs_done tree n c d e) le)
    in
    outcome_from room tree n c d e
    ∙ (ap (λ b. refuse_if b replies.NoInode (refuse_if (nat_lt (room.capacity - used_zones tree) (used_zones d.tree - used_zones tree)) replies.NoSpace (Ok d))) (inode_passes room tree d inode)
    ∙ ap (λ b. refuse_if b replies.NoSpace (Ok d)) fits)

-- what no row refuses has no inode
pub row_no_inode : (room : Room) (tree : Tree) (n : ℕ) (c : Call) (d : Done) → row tree n c ≡ Ok d → d.takes_inode ≡ true → room.inodes ≤ length tree → outcome room tree n c ≡ Err replies.NoInode
row_no_inode room tree n c d e takes le =
    outcome_from room tree n c d e
    ∙ ap (λ b. refuse_if b replies.NoInode (refuse_if (nat_lt (room.capacity - used_zones tree) (used_zones d.tree - used_zones tree)) replies.NoSpace (Ok d)))
    (and_from d.takes_inode _ takes (le-leb room.inodes (length tree) le))

-- or no space
pub row_no_space : (room : Room) (tree : Tree) (n : ℕ) (c : Call) (d : Done) → row tree n c ≡ Ok d → HasInode room tree d → room.capacity - used_zones tree < needs tree n c → outcome room tree n c ≡ Err replies.NoSpace
row_no_space room tree n c d e inode lt =
    let over : nat_lt (room.capacity - used_zones tree) (used_zones d.tree - used_zones tree) ≡ true =
    lt-ltb (room.capacity - used_zones tree) (used_zones d.tree - used_zones tree) (subst (λ k. room.capacity - used_zones tree < k) (needs_done tree n c d e) lt)
    in
    outcome_from room tree n c d e
    ∙ (ap (λ b. refuse_if b replies.NoInode (refuse_if (nat_lt (room.capacity - used_zones tree) (used_zones d.tree - used_zones tree)) replies.NoSpace (Ok d))) (inode_passes room tree d inode)
    ∙ ap (λ b. refuse_if b replies.NoSpace (Ok d)) over)

-- a tree that the volume has room for stays so
room_by : (room : Room) (tree : Tree) (n : ℕ) (c : Call) → used_zones tree ≤ room.capacity → (r : Row) → outcome room tree n c ≡ r → used_zones (tree_from tree r) ≤ room.capacity
unfolding outcome
room_by room tree n c le (Err reply) e = le
room_by room tree n c le (Ok d) e =
    let a = then_ok (row tree n c) (if_room room tree) d e in
    let b = refuse_ok (a.0.takes_inode && nat_le room.inodes (length tree)) replies.NoInode _ d a.2 in
    let f = refuse_ok (nat_lt (room.capacity - used_zones tree) (used_zones a.0.tree - used_zones tree)) replies.NoSpace _ d b.1 in
    let same : used_zones a.0.tree ≡ used_zones d.tree = ap (λ (d : Done). used_zones d.tree) (ok_ok a.0 d f.1) in
    let fits = ltb-false (room.capacity - used_zones tree) (used_zones a.0.tree - used_zones tree) f.0 in
    omega arith

pub room_kept : (room : Room) (tree : Tree) (n : ℕ) (c : Call) → used_zones tree ≤ room.capacity → used_zones (tree_after room tree n c) ≤ room.capacity
unfolding tree_after
room_kept room tree n c le = room_by room tree n c le (outcome room tree n c) refl

-- the zones of a directory with one slot more
pub slot_needs : (width slots : ℕ) →
    directory_zones width (slots + 1) ≡ directory_zones width slots + (if slots % slots_a_block width == 0 then 1 else 0) + (if slots == 7 * slots_a_block width then 1 else 0)
slot_needs width slots = by (slot_size width) (slots_a_block width) (form_is width)
  where
    by : (size per : ℕ) → IsForm size per → div_ceil (slots + 1) per + (if nat_lt (7 * per) (slots + 1) then 1 else 0) ≡
        div_ceil slots per + (if nat_lt (7 * per) slots then 1 else 0) + (if slots % per == 0 then 1 else 0) + (if slots == 7 * per then 1 else 0)
    by size per narrow = grind arith
    by size per wide = grind arith

-- ---- bad paths

none_bad : (path : List ℕ) → path_of path ≡ None → names_in path ≡ Err replies.BadPath
none_bad path e = ap (λ o. if_some o replies.BadPath) e

bad_then : {A B : Type 0} (x : Result A Reply) (next : A → Result B Reply) → x ≡ Err replies.BadPath → and_then x next ≡ Err replies.BadPath
bad_then x next e = ap (λ r. and_then r next) e

names_or_bad : (path : List ℕ) → ((names : List (List ℕ)) × (names_in path ≡ Ok names)) ⊎ (names_in path ≡ Err replies.BadPath)
names_or_bad path = by (path_of path) refl
  where
    by : (o : Option (List (List ℕ))) → path_of path ≡ o → ((names : List (List ℕ)) × (names_in path ≡ Ok names)) ⊎ (names_in path ≡ Err replies.BadPath)
    by (Some names) e = inl (names, ap (λ o. if_some o replies.BadPath) e)
    by None e = inr (none_bad path e)

-- a second path that is none
second_bad : {A : Type 0} (path other : List ℕ) (next : List (List ℕ) → List (List ℕ) → Result A Reply) → names_in other ≡ Err replies.BadPath →
    and_then (names_in path) (λ names. and_then (names_in other) (λ more. next names more)) ≡ Err replies.BadPath
second_bad path other next e =
    ⊎_elim
    (λ x. ap (λ r. and_then r (λ names. and_then (names_in other) (λ more. next names more))) x.1 ∙ bad_then (names_in other) (λ more. next x.0 more) e)
    (λ bad. bad_then (names_in path) (λ names. and_then (names_in other) (λ more. next names more)) bad)
    (names_or_bad path)

walk_bad : {A : Type 0} (tree : Tree) (path : List ℕ) (next : Found → Result A Reply) → names_in path ≡ Err replies.BadPath → and_then (walk_path tree path) next ≡ Err replies.BadPath
walk_bad tree path next e = bad_then (walk_path tree path) next (bad_then (names_in path) (walk tree) e)

one_path : (path other : List ℕ) → In path (other ∷ []) → path_of path ≡ None → names_in other ≡ Err replies.BadPath
one_path path other (inl e) none = none_bad other (ap path_of e ∙ none)
one_path path other (inr i) none = absurd i

two_paths : {A : Type 0} (path first second : List ℕ) (next : List (List ℕ) → List (List ℕ) → Result A Reply) → In path (first ∷ second ∷ []) → path_of path ≡ None →
    and_then (names_in first) (λ names. and_then (names_in second) (λ more. next names more)) ≡ Err replies.BadPath
two_paths path first second next (inl e) none = bad_then (names_in first) (λ names. and_then (names_in second) (λ more. next names more)) (none_bad first (ap path_of e ∙ none))
two_paths path first second next (inr (inl e)) none = second_bad first second next (none_bad second (ap path_of e ∙ none))
two_paths path first second next (inr (inr i)) none = absurd i

-- where one of its texts is no path, a call is refused for that first
pub bad_path_first : (tree : Tree) (n : ℕ) (c : Call) (path : List ℕ) → In path (paths_of c) → path_of path ≡ None → row tree n c ≡ Err replies.BadPath
unfolding row
bad_path_first tree n (calls.Mkdir other) path i none = bad_then (names_in other) _ (one_path path other i none)
bad_path_first tree n (calls.Create other) path i none = bad_then (names_in other) _ (one_path path other i none)
bad_path_first tree n (calls.Rmdir other) path i none = bad_then (names_in other) _ (one_path path other i none)
bad_path_first tree n (calls.Unlink other) path i none = bad_then (names_in other) _ (one_path path other i none)
bad_path_first tree n (calls.Link first second) path i none = two_paths path first second _ i none
bad_path_first tree n (calls.Rename first second) path i none = two_paths path first second _ i none
bad_path_first tree n (calls.Write other off len value) path i none = walk_bad tree other _ (one_path path other i none)
bad_path_first tree n (calls.Bytes other off bytes) path i none = walk_bad tree other _ (one_path path other i none)
bad_path_first tree n (calls.Truncate other size) path i none = walk_bad tree other _ (one_path path other i none)
bad_path_first tree n (calls.Read other off len) path i none = walk_bad tree other _ (one_path path other i none)
bad_path_first tree n (calls.List other) path i none = walk_bad tree other _ (one_path path other i none)
bad_path_first tree n (calls.Stat other) path i none = walk_bad tree other _ (one_path path other i none)
bad_path_first tree n (calls.Fsync other) path i none = walk_bad tree other _ (one_path path other i none)
bad_path_first tree n (calls.Fdatasync other) path i none = walk_bad tree other _ (one_path path other i none)
bad_path_first tree n (calls.Fbarrier other) path i none = walk_bad tree other _ (one_path path other i none)
bad_path_first tree n (calls.Fdatabarrier other) path i none = walk_bad tree other _ (one_path path other i none)
bad_path_first tree n calls.Sync path i none = absurd i

pub bad_path_refused : (room : Room) (tree : Tree) (n : ℕ) (c : Call) (path : List ℕ) → In path (paths_of c) → path_of path ≡ None → outcome room tree n c ≡ Err replies.BadPath
unfolding outcome
bad_path_refused room tree n c path i none = bad_then (row tree n c) (if_room room tree) (bad_path_first tree n c path i none)
