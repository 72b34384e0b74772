-- What refuses a call, and how many zones it needs, is the same for each number that no node has.
use Rattle.std.specs.Prelude.{◌≡◌, ◌+◌, ◌-◌, ℕ, ◌==◌, Bool, true, false, not, ◌&&◌, nat_lt, nat_le, if◌then◌else◌, length, is_some, None, Result, Ok, Err, List, refl}
use Rattle.std.proofs.Common.{sym, ap, subst, ◌∙◌, arith}
use Rattle.tree_model.specs.declared.call.Call.{Call}
use Rattle.tree_model.specs.declared.call.Call.TheVariants as calls
use Rattle.tree_model.specs.declared.call.Reply.{Reply}
use Rattle.tree_model.specs.declared.call.Reply.TheVariants as replies
use Rattle.tree_model.specs.declared.call.Room.{Room}
use Rattle.tree_model.specs.Calls.{Tree, Row, Done, Place, and_then, refuse_if, names_in, parent_of, is_named, is_full, most_links, needs_slot, slots_with, directory_zones, mkdir, create, row, used_zones, needs, if_room, outcome, reply_of, reply_from}
use Rattle.tree_model.specs.Histories.{writes, touches, is_ok}
use Rattle.tree_model.specs.Maps.{at_number, at_name}
use Rattle.tree_model.specs.Trees.{directory_links}
use Rattle.tree_model.specs.laws.MapOrder.{InOrder}
use Rattle.tree_model.proofs.Outcomes.{slot_needs}
use Rattle.tree_model.proofs.Rows.{parent_ok}
use Rattle.volume_steps.proofs.TakeSteps.{mkdir_takes, create_takes}

-- the same refusal; or as much is taken
abbrev pub AreLike : Tree → Row → Row → Type 0
AreLike tree (Err why) (Err other) = why ≡ other
AreLike tree (Ok d) (Ok e) = (d.takes_inode ≡ e.takes_inode) × (used_zones d.tree - used_zones tree ≡ used_zones e.tree - used_zones tree)
AreLike tree one other = ⊥

no_less : (before after one other : ℕ) → after ≡ before + one + other → before + (after - before) ≡ after
no_less before after one other grows = omega arith

module _ (tree : Tree) where
  like_itself : (r : Row) → AreLike tree r r
  like_itself (Err why) = refl
  like_itself (Ok d) = (refl, refl)

  then_like : {A : Type 0} (x : Result A Reply) (f g : A → Row) → ((a : A) → x ≡ Ok a → AreLike tree (f a) (g a)) → AreLike tree (and_then x f) (and_then x g)
  then_like (Ok a) f g h = h a refl
  then_like (Err why) f g h = refl

  refuse_like : (test other : Bool) (why : Reply) (r s : Row) → test ≡ other → AreLike tree r s → AreLike tree (refuse_if test why r) (refuse_if other why s)
  refuse_like test other why r s same h = subst (λ t. AreLike tree (refuse_if test why r) (refuse_if t why s)) same (by test)
    where
      by : (t : Bool) → AreLike tree (refuse_if t why r) (refuse_if t why s)
      by true = refl
      by false = h

  -- ---- rows that make a node

  module _ (order : InOrder tree) (n m : ℕ) (none : at_number tree n ≡ None) (other : at_number tree m ≡ None) where
    abbrev more : Place → ℕ
    more place = directory_zones place.directory.width (slots_with place.directory place.name) - directory_zones place.directory.width place.directory.slots

    grows : (place : Place) → directory_zones place.directory.width place.directory.slots + more place ≡ directory_zones place.directory.width (slots_with place.directory place.name)
    grows place = by (not (is_some (at_name place.directory.names place.name)) && needs_slot place.directory)
      where
        by : (t : Bool) → directory_zones place.directory.width place.directory.slots + (directory_zones place.directory.width (if t then place.directory.slots + 1 else place.directory.slots) - directory_zones place.directory.width place.directory.slots)
            ≡ directory_zones place.directory.width (if t then place.directory.slots + 1 else place.directory.slots)
        by true = no_less _ _ _ _ (slot_needs place.directory.width place.directory.slots)
        by false = omega arith

    mkdir_like : (path : List ℕ) → AreLike tree (mkdir tree n path) (mkdir tree m path)
    mkdir_like path = then_like (names_in path) _ _ (λ names e. then_like (parent_of replies.Exists tree names) _ _ (λ place p.
        refuse_like (is_named place) (is_named place) replies.Exists _ _ refl
        (refuse_like (directory_links tree place.directory == most_links) (directory_links tree place.directory == most_links) replies.TooManyLinks _ _ refl
        (refuse_like (is_full place.directory) (is_full place.directory) replies.TooBig _ _ refl
        (let stands = (parent_ok replies.Exists tree names place p).stands in (
          refl,
          sym (mkdir_takes tree order n none place stands (more place) (grows place) (1 + more place) refl)
              ∙ mkdir_takes tree order m other place stands (more place) (grows place) (1 + more place) refl,
        ))))))

    create_like : (path : List ℕ) → AreLike tree (create tree n path) (create tree m path)
    create_like path = then_like (names_in path) _ _ (λ names e. then_like (parent_of replies.Exists tree names) _ _ (λ place p.
        refuse_like (is_named place) (is_named place) replies.Exists _ _ refl
        (refuse_like (is_full place.directory) (is_full place.directory) replies.TooBig _ _ refl
        (let stands = (parent_ok replies.Exists tree names place p).stands in (
          refl,
          sym (create_takes tree order n none place stands (more place) (grows place)) ∙ create_takes tree order m other place stands (more place) (grows place),
        )))))

    row_like : (c : Call) → AreLike tree (row tree n c) (row tree m c)
    unfolding row
    row_like (calls.Mkdir path) = mkdir_like path
    row_like (calls.Create path) = create_like path
    row_like other = like_itself (row tree n other)

    -- ---- outcomes

    room_like : (room : Room) (d e : Done) → AreLike tree (Ok d) (Ok e) → AreLike tree (if_room room tree d) (if_room room tree e)
    room_like room d e h =
        refuse_like (d.takes_inode && nat_le room.inodes (length tree)) (e.takes_inode && nat_le room.inodes (length tree)) replies.NoInode _ _ (ap (λ b. b && nat_le room.inodes (length tree)) h.0)
        (refuse_like (nat_lt (room.capacity - used_zones tree) (used_zones d.tree - used_zones tree)) (nat_lt (room.capacity - used_zones tree) (used_zones e.tree - used_zones tree)) replies.NoSpace _ _
        (ap (nat_lt (room.capacity - used_zones tree)) h.1) h)

    rows_room : (room : Room) (r s : Row) → AreLike tree r s → AreLike tree (and_then r (if_room room tree)) (and_then s (if_room room tree))
    rows_room room (Err why) (Err other) h = h
    rows_room room (Ok d) (Ok e) h = room_like room d e h
    rows_room room (Err why) (Ok e) h = absurd h
    rows_room room (Ok d) (Err other) h = absurd h

    pub outcome_like : (room : Room) (c : Call) → AreLike tree (outcome room tree n c) (outcome room tree m c)
    unfolding outcome
    outcome_like room c = rows_room room (row tree n c) (row tree m c) (row_like c)

    err_like : (r s : Row) (why : Reply) → AreLike tree r s → r ≡ Err why → s ≡ Err why
    err_like (Err one) (Err other) why h e = ap Err (sym h) ∙ e
    err_like (Ok d) (Err other) why h e = absurd h
    err_like (Err one) (Ok d) why h e = absurd h
    err_like (Ok d) (Ok f) why h e = (let never : ◌≡◌ {A = Row} (Ok d) (Err why) = e in absurd (cc never))

    -- a refusal is one for each number
    pub refused_same : (room : Room) (c : Call) (why : Reply) → outcome room tree n c ≡ Err why → outcome room tree m c ≡ Err why
    refused_same room c why e = err_like (outcome room tree n c) (outcome room tree m c) why (outcome_like room c) e

    pub needs_same : (c : Call) → needs tree n c ≡ needs tree m c
    unfolding needs
    needs_same c = by (row tree n c) (row tree m c) (row_like c)
      where
        by : (r s : Row) → AreLike tree r s → (elim r as (λ _. ℕ) [ Err reply ↦ 0 | Ok d ↦ used_zones d.tree - used_zones tree ]) ≡ (elim s as (λ _. ℕ) [ Err reply ↦ 0 | Ok d ↦ used_zones d.tree - used_zones tree ])
        by (Err why) (Err other) h = refl
        by (Ok d) (Ok e) h = h.1
        by (Err why) (Ok e) h = absurd h
        by (Ok d) (Err other) h = absurd h

-- ---- what a call writes

and_false : (a b : Bool) → (a && false) ≡ (b && false)
and_false true true = refl
and_false true false = refl
and_false false true = refl
and_false false false = refl

by_bytes : (room : Room) (tree : Tree) (n m : ℕ) (c : Call) (birth index : ℕ) → row tree n c ≡ row tree m c → (is_ok (reply_of room tree n c) && touches tree c birth index) ≡ (is_ok (reply_of room tree m c) && touches tree c birth index)
unfolding reply_of outcome
by_bytes room tree n m c birth index same = ap (λ r. is_ok (reply_from (and_then r (if_room room tree))) && touches tree c birth index) same

-- the number does not matter
pub writes_same : (room : Room) (tree : Tree) (n m : ℕ) (c : Call) (birth index : ℕ) → writes room tree n c birth index ≡ writes room tree m c birth index
unfolding writes row
writes_same room tree n m (calls.Write path off len value) birth index = by_bytes room tree n m (calls.Write path off len value) birth index refl
writes_same room tree n m (calls.Bytes path off bytes) birth index = by_bytes room tree n m (calls.Bytes path off bytes) birth index refl
writes_same room tree n m (calls.Truncate path size) birth index = by_bytes room tree n m (calls.Truncate path size) birth index refl
writes_same room tree n m other birth index = and_false (is_ok (reply_of room tree n other)) (is_ok (reply_of room tree m other))
