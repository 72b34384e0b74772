-- A volume with room for the log and what its file needs besides has a zone for each call of a store.
use Rattle.std.specs.Prelude.{◌≡◌, ℕ, zero, suc, ◌+◌, ◌-◌, ◌*◌, ◌/◌, ◌<◌, ◌≤◌, ◌==◌, ◌||◌, nat_le, nat_lt, Bool, true, false, cond, List, [], ◌∷◌, fold, length, replicate, Ok, refl, if◌then◌else◌}
use Rattle.std.specs.List.{All, count_by, list_any, range_with_len}
use Rattle.std.specs.List.Sorted.{IsStrictlySortedBy}
use Rattle.std.specs.Map.{keys_of}
use Rattle.std.specs.Ordering.{nat_cmp}
use Rattle.std.proofs.Common.{sym, ap, subst, ◌∙◌, inl, inr, arith}
use Rattle.std.proofs.lemmas.Bool.{cases_Bool, and_parts, eqb-true, le-ltb}
use Rattle.std.proofs.lemmas.List.{length-replicate}
use Rattle.std.proofs.lemmas.Map.Views.{All-keys-insert_entry, length-le_from_below}
use Rattle.tree_model.specs.declared.call.Call.{Call}
use Rattle.tree_model.specs.declared.call.Call.TheVariants as calls
use Rattle.tree_model.specs.declared.call.Reply.TheVariants as replies
use Rattle.tree_model.specs.declared.call.Room.{Room}
use Rattle.tree_model.specs.declared.node.Node.TheVariants as nodes
use Rattle.tree_model.specs.declared.node.File.{File}
use Rattle.tree_model.specs.Calls.{Tree, Done, row, write, outcome, tree_after, reply_of, tree_from, reply_from, and_then, refuse_if, if_room, leaves_tree, walk_path, a_file, largest_size, written_file, written_blocks, touched_blocks, patched, block_or_zeros, put_file, file_zones, is_indirect, is_double_indirect, is_in_group, mapped_groups, one_if, used_zones}
use Rattle.tree_model.specs.Maps.{at_number, put_number}
use Rattle.tree_model.specs.Paths.{path_of}
use Rattle.tree_model.specs.laws.MapOrder.{InOrder, in_order_put}
use Rattle.tree_model.proofs.Outcomes.{quiet_stays}
use Rattle.store_core.specs.Program.{log_path}
use Rattle.store_core.proofs.LogTrees.{made-done}

-- ---- the zones of a file with blocks below so many, at most 1,000

none-counted : (p : ℕ → Bool) (a n acc : ℕ) → ((x : ℕ) → a ≤ x → p x ≡ false) → fold (λ k x. k + cond (p x) 1 0) acc (range_with_len a n) ≡ acc
none-counted p a zero acc none = refl
none-counted p a (suc n) acc none =
    let same : acc + 0 ≡ acc = omega arith in
    ap (λ b. fold (λ k x. k + cond (p x) 1 0) (acc + cond b 1 0) (range_with_len (a + 1) n)) (none a (omega arith))
    ∙ none-counted p (a + 1) n (acc + 0) (λ x le. none x (omega (arith, le)))
    ∙ same

one-counted : (b : Bool) → 0 + cond b 1 0 ≤ 1
one-counted true = omega arith
one-counted false = omega arith

first-counted : (p : ℕ → Bool) (n : ℕ) → ((x : ℕ) → 1 ≤ x → p x ≡ false) → count_by p (range_with_len 0 n) ≤ 1
first-counted p zero none = omega arith
first-counted p (suc n) none = subst (λ k. k ≤ 1) (sym (none-counted p 1 n (0 + cond (p 0) 1 0) none)) (one-counted (p 0))

not-in_group : (group index : ℕ) → 1 ≤ group → index < 1000 → is_in_group group index ≡ true → ⊥
not-in_group group index some low h =
    let p = and_parts (nat_le 519 index) ((index - 519) / 512 == group) h in
    let at = eqb-true ((index - 519) / 512) group p.1 in
    omega (arith, some, low, at)

none-any : (p : ℕ → Bool) (ks : List ℕ) → ((k : ℕ) → k < 1000 → p k ≡ true → ⊥) → All (λ k. k < 1000) ks → list_any p ks ≡ false
none-any p [] none all = refl
none-any p (k ∷ ks) none all =
    let here : p k ≡ false = elim (cases_Bool (p k)) [
      | inl t ↦ absurd (none k (all 0 0 (omega arith)) t)
      | inr f ↦ f
    ] in
    ap (λ b. b || list_any p ks) here ∙ none-any p ks none (λ j d lt. all (suc j) d (omega (arith, lt)))

few-groups : (ks : List ℕ) → All (λ k. k < 1000) ks → mapped_groups ks ≤ 1
unfolding mapped_groups
few-groups ks all = first-counted (λ group. list_any (is_in_group group) ks) 512 (λ group some. none-any (is_in_group group) ks (λ k low h. not-in_group group k some low h) all)

one-at_most : (b : Bool) → one_if b ≤ 1
one-at_most true = omega arith
one-at_most false = omega arith

few-zones : (room : ℕ) (ks : List ℕ) → room ≤ 1000 → length ks ≤ room → All (λ k. k < room) ks → file_zones ks ≤ room + 3
unfolding file_zones
few-zones room ks most few all =
    let a = one-at_most (list_any is_indirect ks) in
    let b = one-at_most (list_any is_double_indirect ks) in
    let c = few-groups ks (λ k d lt. let low = all k d lt in omega (arith, low, most)) in
    omega (arith, a, b, c, few)

-- ---- the tree with the log alone

abbrev pub log-tree_of : File → Tree
log-tree_of f = (0, nodes.Directory (record { parent = 0; width = 14; slots = 3; names = (108 ∷ 111 ∷ 103 ∷ [], 1) ∷ [] })) ∷ (1, nodes.File f) ∷ []

pub record IsWithin (room : ℕ) (f : File) : Type 0 where
  pub order : InOrder f.blocks
  pub below : All (λ k. k < room) (keys_of f.blocks)

used-log : (f : File) → used_zones (log-tree_of f) ≡ 1 + file_zones (keys_of f.blocks)
unfolding used_zones
used-log f = omega arith

pub few-used : (room : ℕ) (f : File) → room ≤ 1000 → IsWithin room f → used_zones (log-tree_of f) ≤ room + 4
few-used room f most is =
    let used = used-log f in
    let few = few-zones room (keys_of f.blocks) most (length-le_from_below room (keys_of f.blocks) is.order is.below) is.below in
    omega (arith, used, few)

within-blocks : (room off : ℕ) (bytes : List ℕ) (is : List ℕ) (blocks : List (ℕ × List ℕ)) → All (λ k. k < room) is → InOrder blocks → All (λ k. k < room) (keys_of blocks)
    → InOrder (written_blocks off bytes is blocks) × All (λ k. k < room) (keys_of (written_blocks off bytes is blocks))
within-blocks room off bytes [] blocks low order below = (order, below)
within-blocks room off bytes (i ∷ is) blocks low order below =
    let body = patched i off bytes (block_or_zeros (at_number blocks i)) in
    within-blocks room off bytes is (put_number blocks i body) (λ j d lt. low (suc j) d (omega (arith, lt))) (in_order_put blocks i body order)
    (All-keys-insert_entry nat_cmp i body (λ k. k < room) blocks below (low 0 0 (omega arith)))

range-below : (room a n : ℕ) → a + n ≤ room → All (λ k. k < room) (range_with_len a n)
range-below room a zero few k d lt = absurd (omega (arith, lt))
range-below room a (suc n) few zero d lt = omega (arith, few)
range-below room a (suc n) few (suc k) d lt = range-below room (a + 1) n (omega (arith, few)) k d (omega (arith, lt))

touched-below : (room off len : ℕ) → off + len ≤ 1024 * room → All (λ k. k < room) (touched_blocks off len)
touched-below room off len few = by (len == 0) refl
  where
    by : (b : Bool) → (len == 0) ≡ b → All (λ k. k < room) (if b then [] else range_with_len (off / 1024) ((off + len - 1) / 1024 - off / 1024 + 1))
    by true e = λ k d lt. absurd (omega (arith, lt))
    by false e = range-below room (off / 1024) ((off + len - 1) / 1024 - off / 1024 + 1) (some len e few)
      where
        some : (n : ℕ) → (n == 0) ≡ false → off + n ≤ 1024 * room → off / 1024 + ((off + n - 1) / 1024 - off / 1024 + 1) ≤ room
        some zero e few = cc
        some (suc n) e few = omega (arith, few)

written-within : (room off : ℕ) (bytes : List ℕ) (f : File) → off + length bytes ≤ 1024 * room → IsWithin room f → IsWithin room (written_file f off bytes)
written-within room off bytes f few is =
    let p = within-blocks room off bytes (touched_blocks off (length bytes)) f.blocks (touched-below room off (length bytes) few) is.order is.below in
    record { order = p.0; below = p.1 }

-- ---- a call that writes within the log

walked-log : (f : File) → walk_path (log-tree_of f) log_path ≡ Ok (record { birth = 1; node = nodes.File f })
unfolding path_of
walked-log f = refl

written-done : File → ℕ → List ℕ → Done
written-done f off bytes = record { tree = log-tree_of (written_file f off bytes); takes_inode = false; reply = replies.Ok }

small-size : (room end : ℕ) → room ≤ 1000 → end ≤ 1024 * room → nat_lt largest_size end ≡ false
small-size room end most few = le-ltb largest_size end (omega (arith, most, few))

written-row : (room off : ℕ) (bytes : List ℕ) (f : File) → room ≤ 1000 → off + length bytes ≤ 1024 * room → write (log-tree_of f) log_path off bytes ≡ Ok (record { tree = log-tree_of (written_file f off bytes); takes_inode = false; reply = replies.Ok })
written-row room off bytes f most few =
    ap (λ o. and_then o (λ found. and_then (a_file found.node) (λ g. refuse_if (nat_lt largest_size (off + length bytes)) replies.TooBig (Ok (record { tree = put_file (log-tree_of f) found.birth (written_file g off bytes); takes_inode = false; reply = replies.Ok }))))) (walked-log f)
    ∙ ap (λ b. refuse_if b replies.TooBig (Ok (record { tree = log-tree_of (written_file f off bytes); takes_inode = false; reply = replies.Ok }))) (small-size room (off + length bytes) most few)

-- so many zones at least
abbrev pub HasZones : ℕ → Room → Type 0
HasZones room volume = room + 4 ≤ volume.capacity

written-fits : (room off : ℕ) (bytes : List ℕ) (f : File) (volume : Room) → room ≤ 1000 → off + length bytes ≤ 1024 * room → IsWithin room f → HasZones room volume
    → and_then (write (log-tree_of f) log_path off bytes) (if_room volume (log-tree_of f)) ≡ Ok (record { tree = log-tree_of (written_file f off bytes); takes_inode = false; reply = replies.Ok })
written-fits room off bytes f volume most few is zones =
    let d : Done = record { tree = log-tree_of (written_file f off bytes); takes_inode = false; reply = replies.Ok } in
    let used = few-used room (written_file f off bytes) most (written-within room off bytes f few is) in
    let old = few-used room f most is in
    ap (λ r. and_then r (if_room volume (log-tree_of f))) (written-row room off bytes f most few)
    ∙ ap (λ b. refuse_if b replies.NoSpace (Ok d)) (le-ltb (volume.capacity - used_zones (log-tree_of f)) (used_zones (log-tree_of (written_file f off bytes)) - used_zones (log-tree_of f)) (omega (arith, used, old, zones)))

-- ---- what holds of each tree behind the first call

pub record HasLog (room : ℕ) (tree : Tree) : Type 0 where
  pub file : File
  pub is : tree ≡ log-tree_of file
  pub within : IsWithin room file

abbrev pub new-file : File
new-file = record { size = 0; links = 1; blocks = [] }

pub new-within : (room : ℕ) → IsWithin room new-file
unfolding IsStrictlySortedBy
new-within room = record { order = tt; below = λ k d lt. absurd (omega (arith, lt)) }

pub new-log : (room : ℕ) → HasLog room made-done.tree
new-log room = record { file = new-file; is = refl; within = new-within room }

-- a call that writes within the log, or leaves the tree
pub data IsLogCall (room : ℕ) : Call → Type 0 where
  asks : {c : Call} → leaves_tree c ≡ true → IsLogCall room c
  fills : (off len : ℕ) → off + len ≤ 1024 * room → IsLogCall room (calls.Write log_path off len 0)
  puts : (off : ℕ) (body : List ℕ) → off + length body ≤ 1024 * room → IsLogCall room (calls.Bytes log_path off body)

module _ (room : ℕ) (volume : Room) (most : room ≤ 1000) (zones : HasZones room volume) where
  filled : (n off len : ℕ) (f : File) → off + len ≤ 1024 * room → IsWithin room f → outcome volume (log-tree_of f) n (calls.Write log_path off len 0) ≡ Ok (record { tree = log-tree_of (written_file f off (replicate len 0)); takes_inode = false; reply = replies.Ok })
  unfolding outcome row
  filled n off len f few is = written-fits room off (replicate len 0) f volume most (let size = length-replicate {A = ℕ} len 0 in omega (arith, few, size)) is zones

  put : (n off : ℕ) (body : List ℕ) (f : File) → off + length body ≤ 1024 * room → IsWithin room f → outcome volume (log-tree_of f) n (calls.Bytes log_path off body) ≡ Ok (record { tree = log-tree_of (written_file f off body); takes_inode = false; reply = replies.Ok })
  unfolding outcome row
  put n off body f few is = written-fits room off body f volume most few is zones

  pub after-log : (tree : Tree) (n : ℕ) (c : Call) → IsLogCall room c → HasLog room tree → HasLog room (tree_after volume tree n c)
  unfolding tree_after
  after-log tree n c (asks quiet) has = subst (HasLog room) (sym (quiet_stays volume tree n c quiet)) has
  after-log tree n _ (fills off len few) has = record {
    file = written_file has.file off (replicate len 0);
    is = ap (λ t. tree_from t (outcome volume t n (calls.Write log_path off len 0))) has.is ∙ ap (tree_from (log-tree_of has.file)) (filled n off len has.file few has.within);
    within = written-within room off (replicate len 0) has.file (let size = length-replicate {A = ℕ} len 0 in omega (arith, few, size)) has.within;
  }
  after-log tree n _ (puts off body few) has = record {
    file = written_file has.file off body;
    is = ap (λ t. tree_from t (outcome volume t n (calls.Bytes log_path off body))) has.is ∙ ap (tree_from (log-tree_of has.file)) (put n off body has.file few has.within);
    within = written-within room off body has.file few has.within;
  }

  pub put-ok : (tree : Tree) (n off : ℕ) (body : List ℕ) → off + length body ≤ 1024 * room → HasLog room tree → reply_of volume tree n (calls.Bytes log_path off body) ≡ replies.Ok
  unfolding reply_of
  put-ok tree n off body few has = ap (λ t. reply_from (outcome volume t n (calls.Bytes log_path off body))) has.is ∙ ap reply_from (put n off body has.file few has.within)
