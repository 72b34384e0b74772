-- A call that is not hindered changes neither the tree nor a page.
use Rattle.std.specs.Prelude.{◌≡◌, ◌<◌, ◌≤◌, ◌⊎◌, ℕ, ◌+◌, ◌*◌, ◌/◌, ◌%◌, ◌==◌, nat_lt, nat_le, Bool, true, false, not, ◌&&◌, List, [], ◌∷◌, map, filter, Option, Some, None, is_some, Ok, Err, Result, refl}
use Rattle.std.specs.List.{list_any}
use Rattle.std.specs.List.Sorted.{IsStrictlySortedBy}
use Rattle.std.specs.Map.{keys_of}
use Rattle.std.specs.Ordering.{nat_cmp, is_eq, match_ordering}
use Rattle.std.specs.declared.cmp.Ordering.{Ordering}
use Rattle.std.specs.declared.cmp.Ordering.TheVariants.{Less, Equal, Greater}
use Rattle.std.proofs.Common.{sym, ap, ◌∙◌, inl, inr, ⊎_elim, arith, eqb-true}
use Rattle.std.proofs.lemmas.Bool.{and_parts, and_right, eq-eqb, or_cases, true≢false, false≢true}
use Rattle.std.proofs.lemmas.Option.{none-some, same_Some}
use Rattle.blk_base.specs.Members.{In}
use Rattle.blk_base.specs.laws.Members.{none-list_any}
use Rattle.tree_model.specs.declared.call.Call.{Call}
use Rattle.tree_model.specs.declared.call.Call.TheVariants as calls
use Rattle.tree_model.specs.declared.call.Reply.{Reply}
use Rattle.tree_model.specs.declared.call.Room.{Room}
use Rattle.tree_model.specs.declared.node.File.{File}
use Rattle.tree_model.specs.declared.node.Node.{Node}
use Rattle.tree_model.specs.declared.node.Node.TheVariants as nodes
use Rattle.tree_model.specs.Calls.{Tree, Row, Done, Found, walk_path, cut_body, cut_file, put_file, outcome, tree_from, tree_after, leaves_tree, reply_of}
use Rattle.tree_model.specs.Histories.{touches, writes, is_ok, maps_block, block_in, is_found_at}
use Rattle.tree_model.specs.Maps.{at_number, put_number}
use Rattle.tree_model.specs.Plain.{IsPlain}
use Rattle.tree_model.specs.laws.MapsLaws.{number_here, number_same}
use Rattle.tree_model.specs.laws.MapOrder.{InOrder}
use Rattle.tree_model.proofs.Blocks.{quiet_touches}
use Rattle.tree_model.proofs.Changes.{Change, IsPut, stayed, truncated, outcome_change}
use Rattle.tree_model.proofs.Outcomes.{quiet_stays}
use Rattle.tree_model.proofs.Rows.{walk_path_ok}
use Rattle.volume_model.proofs.ImageSlots.{key_found}
use Rattle.volume_model.specs.laws.Trees.{found_above}
use Rattle.volume_steps.specs.Now.{VolumeNow, tree_of_now, room_of}
use Rattle.volume_steps.specs.Plain.{IsPlainNow}
use Rattle.volume_steps.proofs.PlainNow.{tree_is_plain}
use Rattle.minix_host.specs.Calls.{refusal, would_change, cuts_nothing, keeps_size, keeps_file, names_one}
use Rattle.minix_host.proofs.SameNames.{same_names_keep_tree}
use Rattle.minix_host.proofs.TreeSteps.{not_true, not_false}

-- ---- a file that is cut where it ends

key_in : (es : List (ℕ × List ℕ)) (e : ℕ × List ℕ) → In e es → In e.0 (keys_of es)
key_in [] e i = absurd i
key_in (x ∷ xs) e (inl same) = inl (ap (λ (e : ℕ × List ℕ). e.0) same)
key_in (x ∷ xs) e (inr i) = inr (key_in xs e i)

all_kept : (size : ℕ) (es : List (ℕ × List ℕ)) → ((e : ℕ × List ℕ) → In e es → (nat_lt (1024 * e.0) size ≡ true) × (cut_body size e.0 e.1 ≡ e.1)) →
    map (λ (e : ℕ × List ℕ). (e.0, cut_body size e.0 e.1)) (filter (λ (e : ℕ × List ℕ). nat_lt (1024 * e.0) size) es) ≡ es
all_kept size [] h = refl
all_kept size (e ∷ es) h =
    let here = h e (inl refl) in
    rw here.0 (ap (λ body. (e.0, body) ∷ map (λ (e : ℕ × List ℕ). (e.0, cut_body size e.0 e.1)) (filter (λ (e : ℕ × List ℕ). nat_lt (1024 * e.0) size) es)) here.1
    ∙ ap (λ more. e ∷ more) (all_kept size es (λ x i. h x (inr i))))

module _ (size : ℕ) (f : File) (keeps : keeps_file size f ≡ true) where
  same_size : f.size ≡ size
  same_size = eqb-true f.size size (and_parts (f.size == size) _ keeps).0

  below : (e : ℕ × List ℕ) → In e f.blocks → 1024 * e.0 < size
  below e i =
      let none = not_true (list_any (λ (e : ℕ × List ℕ). nat_le size (1024 * e.0)) f.blocks) (and_parts (not (list_any (λ (e : ℕ × List ℕ). nat_le size (1024 * e.0)) f.blocks)) _ (and_parts (f.size == size) _ keeps).1).0 in
      let past = none-list_any (λ (e : ℕ × List ℕ). nat_le size (1024 * e.0)) f.blocks e none i in
      grind arith

  ends : (size % 1024 ≡ 0) ⊎ (at_number f.blocks (size / 1024) ≡ None)
  ends =
      let last = (and_parts (not (list_any (λ (e : ℕ × List ℕ). nat_le size (1024 * e.0)) f.blocks)) _ (and_parts (f.size == size) _ keeps).1).1 in
      ⊎_elim (λ whole. inl (eqb-true (size % 1024) 0 whole)) (λ hole. inr (is_none (at_number f.blocks (size / 1024)) (not_true (is_some (at_number f.blocks (size / 1024))) hole)))
      (or_cases (size % 1024 == 0) (not (is_some (at_number f.blocks (size / 1024)))) last)
    where
      is_none : (o : Option (List ℕ)) → is_some o ≡ false → o ≡ None
      is_none None e = refl
      is_none (Some body) e = absurd (true≢false e)

  within : (e : ℕ × List ℕ) → In e f.blocks → 1024 * e.0 + 1024 ≤ size
  within e i =
      let low = below e i in
      ⊎_elim
      (λ whole. omega arith)
      (λ hole. by (nat_le (1024 * e.0 + 1024) size) refl hole)
      ends
    where
      mapped : (body : List ℕ) × (at_number f.blocks e.0 ≡ Some body)
      mapped = key_found nat_cmp number_here number_same f.blocks e.0 (key_in f.blocks e i)

      by : (t : Bool) → nat_le (1024 * e.0 + 1024) size ≡ t → at_number f.blocks (size / 1024) ≡ None → 1024 * e.0 + 1024 ≤ size
      by true t hole = grind arith
      by false t hole =
          let low = below e i in
          let high : size < 1024 * e.0 + 1024 = grind arith in
          let same : size / 1024 ≡ e.0 = omega arith in
          absurd (none-some mapped.0 (sym hole ∙ (ap (at_number f.blocks) same ∙ mapped.1)))

  blocks_kept : map (λ (e : ℕ × List ℕ). (e.0, cut_body size e.0 e.1)) (filter (λ (e : ℕ × List ℕ). nat_lt (1024 * e.0) size) f.blocks) ≡ f.blocks
  blocks_kept = all_kept size f.blocks (λ e i.
      let low = below e i in
      let high = within e i in
      let lt : nat_lt (1024 * e.0) size ≡ true = grind arith in
      let le : nat_le (1024 * e.0 + 1024) size ≡ true = grind arith in
      (lt, rw le refl))

  file_kept : cut_file f size ≡ f
  file_kept = ap (λ n. record { size = n; links = f.links; blocks = map (λ (e : ℕ × List ℕ). (e.0, cut_body size e.0 e.1)) (filter (λ (e : ℕ × List ℕ). nat_lt (1024 * e.0) size) f.blocks) }) (sym same_size)
      ∙ ap (λ blocks. record { size = f.size; links = f.links; blocks = blocks }) blocks_kept

-- ---- a node that is put where it stands

put_same : {X : Type 0} (es : List (ℕ × X)) (k : ℕ) (x : X) → InOrder es → at_number es k ≡ Some x → put_number es k x ≡ es
unfolding IsStrictlySortedBy
put_same [] k x order at = absurd (none-some x at)
put_same (e ∷ es) k x order at = by (nat_cmp k e.0) refl (put_same es k x order.1)
  where
    by : (o : Ordering) → nat_cmp k e.0 ≡ o → (at_number es k ≡ Some x → put_number es k x ≡ es) → match_ordering o ((k, x) ∷ e ∷ es) ((e.0, x) ∷ es) (e ∷ put_number es k x) ≡ e ∷ es
    by Less q rest =
        let apart : is_eq (nat_cmp k e.0) ≡ false = ap is_eq q in
        let high = found_above e.0 k es x order.0 (rw apart at at) in
        let low : k < e.0 = grind arith in
        absurd (omega arith)
    by Equal q rest = (let here : is_eq (nat_cmp k e.0) ≡ true = ap is_eq q in ap (λ y. (e.0, y) ∷ es) (sym (same_Some e.1 x (rw here at at))))
    by Greater q rest = (let apart : is_eq (nat_cmp k e.0) ≡ false = ap is_eq q in ap (λ more. e ∷ more) (rest (rw apart at at)))

-- ---- calls

module _ (room : Room) (tree : Tree) (plain : IsPlain tree) (n : ℕ) (path : List ℕ) (size : ℕ) (still : cuts_nothing tree path size ≡ true) where
  kept_of : (found : Found) → walk_path tree path ≡ Ok found → keeps_size size found.node ≡ true
  kept_of found e = sym (ap (λ (r : Result Found Reply). elim r as (λ _. Bool) [ Err reply ↦ false | Ok found ↦ keeps_size size found.node ]) e) ∙ still

  put_kept : (d : Done) (h : IsPut tree path (λ f. cut_file f size) d) → d.tree ≡ tree
  put_kept d h =
      let keeps : keeps_file size h.file ≡ true = sym (ap (keeps_size size) h.node_is) ∙ kept_of h.found h.walked in
      h.tree_is
      ∙ (ap (λ f. put_file tree h.found.birth f) (file_kept size h.file keeps)
      ∙ put_same tree h.found.birth (nodes.File h.file) plain.rooted.in_order (h.is_found.stands ∙ ap Some h.node_is))

  truncate_kept : (d : Done) → Change tree n d (calls.Truncate path size) → d.tree ≡ tree
  truncate_kept d (stayed quiet same) = same
  truncate_kept d (truncated h) = put_kept d h

  tree_kept : tree_after room tree n (calls.Truncate path size) ≡ tree
  unfolding tree_after
  tree_kept = by (outcome room tree n (calls.Truncate path size)) refl
    where
      by : (r : Row) → outcome room tree n (calls.Truncate path size) ≡ r → tree_from tree r ≡ tree
      by (Err why) e = refl
      by (Ok d) e = truncate_kept d (outcome_change room tree n (calls.Truncate path size) d e)

  -- no byte is cleared
  none_cleared : (found : Found) → walk_path tree path ≡ Ok found → (node : Node) → found.node ≡ node → keeps_size size node ≡ true → (not (size % 1024 == 0) && maps_block tree found.birth (size / 1024)) ≡ false
  none_cleared found e (nodes.Directory d) is keeps = absurd (false≢true keeps)
  none_cleared found e (nodes.Other mode) is keeps = absurd (false≢true keeps)
  none_cleared found e (nodes.File f) is keeps = ⊎_elim
      (λ whole. rw (eq-eqb (size % 1024) 0 whole) refl)
      (λ hole.
      let stands = (walk_path_ok tree path found e).2.stands ∙ ap Some is in
      let none : maps_block tree found.birth (size / 1024) ≡ false = ap (λ o. is_some (block_in o (size / 1024))) stands ∙ ap is_some hole in
      and_right (not (size % 1024 == 0)) (maps_block tree found.birth (size / 1024)) none)
      (ends size f keeps)

  none_touched : (birth index : ℕ) → touches tree (calls.Truncate path size) birth index ≡ false
  none_touched birth index = by (walk_path tree path) refl
    where
      tests : (found : Found) → (not (size % 1024 == 0) && maps_block tree found.birth (size / 1024)) ≡ false → (a b c : Bool) → (found.birth == birth) ≡ a → (not (size % 1024 == 0)) ≡ c → (size / 1024 == index) ≡ b →
          (a && (c && (b && maps_block tree birth index))) ≡ false
      tests found none false b c e g h = refl
      tests found none true b false e g h = refl
      tests found none true false true e g h = refl
      tests found none true true true e g h =
          sym (ap (λ k. maps_block tree k (size / 1024)) (eqb-true found.birth birth e) ∙ ap (maps_block tree birth) (eqb-true (size / 1024) index h)) ∙ (sym (ap (λ t. t && maps_block tree found.birth (size / 1024)) g) ∙ none)

      by : (r : Result Found Reply) → walk_path tree path ≡ r → (is_found_at r birth && (not (size % 1024 == 0) && ((size / 1024 == index) && maps_block tree birth index))) ≡ false
      by (Err why) e = refl
      by (Ok found) e = tests found (none_cleared found e found.node refl (kept_of found e)) (found.birth == birth) (size / 1024 == index) (not (size % 1024 == 0)) refl refl refl

-- ---- which calls are still

pub data IsStill (tree : Tree) : Call → Type 0 where
  quiet : {c : Call} → leaves_tree c ≡ true → IsStill tree c
  cut : (path : List ℕ) (size : ℕ) → cuts_nothing tree path size ≡ true → IsStill tree (calls.Truncate path size)
  named_alike : (path other : List ℕ) → names_one tree path other ≡ true → IsStill tree (calls.Rename path other)

is_still : (v : VolumeNow) (c : Call) → would_change v c ≡ false → IsStill (tree_of_now v) c
unfolding would_change
is_still v (calls.Mkdir path) still = absurd (true≢false still)
is_still v (calls.Rmdir path) still = absurd (true≢false still)
is_still v (calls.Create path) still = absurd (true≢false still)
is_still v (calls.Unlink path) still = absurd (true≢false still)
is_still v (calls.Link path more) still = absurd (true≢false still)
is_still v (calls.Rename path more) still = named_alike path more (not_false (names_one (tree_of_now v) path more) still)
is_still v (calls.Truncate path size) still = cut path size (not_false (cuts_nothing (tree_of_now v) path size) still)
is_still v (calls.Write path off len value) still = absurd (true≢false still)
is_still v (calls.Bytes path off bytes) still = absurd (true≢false still)
is_still v (calls.Read path off len) still = quiet refl
is_still v (calls.List path) still = quiet refl
is_still v (calls.Stat path) still = quiet refl
is_still v (calls.Fsync path) still = quiet refl
is_still v (calls.Fdatasync path) still = quiet refl
is_still v (calls.Fbarrier path) still = quiet refl
is_still v (calls.Fdatabarrier path) still = quiet refl
is_still v calls.Sync still = quiet refl

-- the tree stays, and no block of a file is written
still_changes : (room : Room) (tree : Tree) → IsPlain tree → (n : ℕ) (c : Call) → IsStill tree c → (tree_after room tree n c ≡ tree) × ((birth index : ℕ) → writes room tree n c birth index ≡ false)
unfolding writes
still_changes room tree plain n c (quiet leaves) =
    (quiet_stays room tree n c leaves, λ birth index. and_right (is_ok (reply_of room tree n c)) (touches tree c birth index) (quiet_touches tree c birth index leaves))
still_changes room tree plain n c (cut path size keeps) =
    (tree_kept room tree plain n path size keeps, λ birth index. and_right (is_ok (reply_of room tree n (calls.Truncate path size))) (touches tree (calls.Truncate path size) birth index) (none_touched room tree plain n path size keeps birth index))
still_changes room tree plain n c (named_alike path other same) =
    (same_names_keep_tree room tree n path other same, λ birth index. and_right (is_ok (reply_of room tree n (calls.Rename path other))) false refl)

pub still_calls : (v : VolumeNow) (n : ℕ) (c : Call) → IsPlainNow v → refusal v c ≡ None → would_change v c ≡ false →
    (tree_after (room_of v.geometry) (tree_of_now v) n c ≡ tree_of_now v) × ((birth index : ℕ) → writes (room_of v.geometry) (tree_of_now v) n c birth index ≡ false)
still_calls v n c h none still = still_changes (room_of v.geometry) (tree_of_now v) (tree_is_plain v h) n c (is_still v c still)
