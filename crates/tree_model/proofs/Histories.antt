-- Laws of mapped blocks along a history.
use Rattle.std.specs.Prelude.{◌≡◌, ℕ, zero, suc, ◌+◌, ◌-◌, ◌<◌, ◌≤◌, ◌⊎◌, ◌==◌, Bool, true, false, ◌&&◌, if◌then◌else◌, List, Option, Some, None, Ok, Err, is_some, unwrap_or, [], refl}
use Rattle.std.proofs.Common.{sym, ap, subst, ◌∙◌, inl, inr, ⊎_elim, arith}
use Rattle.std.specs.List.{slice_get, list_any}
use Rattle.std.specs.BTreeMap.{is_at}
use Rattle.std.specs.Ordering.{nat_cmp}
use Rattle.std.proofs.lemmas.Map.Made.{is_some-lookup}
use Rattle.std.specs.Map.{keys_of}
use Rattle.std.proofs.lemmas.Bool.{cases_Bool, cases_lt, true≢false, false≢true, and_parts, and_right, not-false, or_parts}
use Rattle.std.proofs.lemmas.Slice.Eq.{bytes_eq-Decides}
use Rattle.tree_model.specs.declared.call.Call.{Call}
use Rattle.tree_model.specs.declared.call.Room.{Room}
use Rattle.tree_model.specs.declared.node.Node.{Node}
use Rattle.tree_model.specs.declared.node.Node.TheVariants as nodes
use Rattle.tree_model.specs.Maps.{at_number}
use Rattle.tree_model.specs.Rooted.{IsRooted}
use Rattle.tree_model.specs.Calls.{Tree, Done, Row, leaves_tree, outcome, tree_from, reply_from, tree_after, reply_of}
use Rattle.tree_model.specs.Histories.{Entry, block_in, block_at, maps_block, touches, is_ok, writes, tree_after_entry, entry_writes, tree_after_entries, writes_among, wrote, maps, content, last, same_file, changed, changed_after}
use Rattle.tree_model.proofs.Changes.{Change, stayed, made_directory, made_file, removed, unlinked, linked, renamed, written, written_bytes, truncated, outcome_change}
use Rattle.tree_model.proofs.Blocks.{KeepsBlock, WritesOnly, change_writes, quiet_touches}
use Rattle.tree_model.proofs.Causes.{refused_for, cause_not_ok}

-- ---- one call

wrote_none : (tree : Tree) (wrote : ℕ → ℕ → Bool) → ((birth index : ℕ) → wrote birth index ≡ false) → WritesOnly tree tree wrote
wrote_none tree wrote none = record { kept = λ birth index unwritten. inr refl; mapped = λ birth index did. absurd (true≢false (sym did ∙ none birth index)) }

-- a call whose row does not refuse it answers Ok, or touches no block
ok_or_quiet : (tree : Tree) (n : ℕ) (c : Call) (d : Done) → Change tree n d c → (is_ok d.reply ≡ true) ⊎ ((leaves_tree c ≡ true) × (d.tree ≡ tree))
ok_or_quiet tree n c d (stayed quiet same) = inr (quiet, same)
ok_or_quiet tree n _ d (made_directory parent h e g) = inl (ap is_ok h.reply_is)
ok_or_quiet tree n _ d (made_file h) = inl (ap is_ok h.reply_is)
ok_or_quiet tree n _ d (removed h) = inl (ap is_ok h.reply_is)
ok_or_quiet tree n _ d (unlinked h) = inl (ap is_ok h.reply_is)
ok_or_quiet tree n _ d (linked h) = inl (ap is_ok h.reply_is)
ok_or_quiet tree n _ d (renamed h) = inl (ap is_ok h.reply_is)
ok_or_quiet tree n _ d (written h) = inl (ap is_ok h.reply_is)
ok_or_quiet tree n _ d (written_bytes h) = inl (ap is_ok h.reply_is)
ok_or_quiet tree n _ d (truncated h) = inl (ap is_ok h.reply_is)

outcome_writes : (room : Room) (tree : Tree) → IsRooted tree → (n : ℕ) (c : Call) (r : Row) → outcome room tree n c ≡ r → WritesOnly tree (tree_from tree r) (λ birth index. is_ok (reply_from r) && touches tree c birth index)
outcome_writes room tree rooted n c (Err reply) e =
    let refused : is_ok reply ≡ false = cause_not_ok room tree n c reply (refused_for room tree rooted n c reply e) in
    wrote_none tree _ (λ birth index. ap (λ b. b && touches tree c birth index) refused)
outcome_writes room tree rooted n c (Ok d) e =
    let change = outcome_change room tree n c d e in
    ⊎_elim
    (λ ok. subst (λ b. WritesOnly tree d.tree (λ birth index. b && touches tree c birth index)) (sym ok) (change_writes tree n c d rooted.in_order change))
    (λ quiet. subst (λ t. WritesOnly tree t (λ birth index. is_ok d.reply && touches tree c birth index)) (sym quiet.1)
    (wrote_none tree _ (λ birth index. and_right (is_ok d.reply) (touches tree c birth index) (quiet_touches tree c birth index quiet.0))))
    (ok_or_quiet tree n c d change)

-- what a call keeps of the blocks that it does not write, and that it maps those that it writes
pub call_writes : (room : Room) (tree : Tree) → IsRooted tree → (n : ℕ) (c : Call) → WritesOnly tree (tree_after room tree n c) (writes room tree n c)
unfolding tree_after reply_of writes
call_writes room tree rooted n c = outcome_writes room tree rooted n c (outcome room tree n c) refl

pub written_is_mapped : (room : Room) (tree : Tree) → IsRooted tree → (n : ℕ) (c : Call) (birth index : ℕ) → writes room tree n c birth index ≡ true → maps_block (tree_after room tree n c) birth index ≡ true
written_is_mapped room tree rooted n c birth index h = (call_writes room tree rooted n c).mapped birth index h

pub unwritten_stays : (room : Room) (tree : Tree) → IsRooted tree → (n : ℕ) (c : Call) (birth index : ℕ) → writes room tree n c birth index ≡ false →
    (block_at (tree_after room tree n c) birth index ≡ None) ⊎ (block_at (tree_after room tree n c) birth index ≡ block_at tree birth index)
unwritten_stays room tree rooted n c birth index h = (call_writes room tree rooted n c).kept birth index h

kept_maps : (tree : Tree) (birth index : ℕ) (o : Option Node) → KeepsBlock tree birth index o → maps_block tree birth index ≡ false → is_some (block_in o index) ≡ false
kept_maps tree birth index o (inl gone) none = ap is_some gone
kept_maps tree birth index o (inr same) none = ap is_some same ∙ none

pub only_writes_map : (room : Room) (tree : Tree) → IsRooted tree → (n : ℕ) (c : Call) (birth index : ℕ) → maps_block tree birth index ≡ false → maps_block (tree_after room tree n c) birth index ≡ true →
    writes room tree n c birth index ≡ true
only_writes_map room tree rooted n c birth index none there =
    elim (cases_Bool (writes room tree n c birth index)) [
      | inl did ↦ did
      | inr unwritten ↦ absurd (true≢false (sym there ∙ kept_maps tree birth index (at_number (tree_after room tree n c) birth) ((call_writes room tree rooted n c).kept birth index unwritten) none))
    ]

-- ---- entries

-- lists with the same keys have an entry at the same keys
keys_some : (blocks others : List (ℕ × List ℕ)) (index : ℕ) → keys_of blocks ≡ keys_of others → is_some (at_number blocks index) ≡ is_some (at_number others index)
keys_some blocks others index same = is_some-lookup (is_at (nat_cmp index)) blocks ∙ (ap (list_any (is_at (nat_cmp index))) same ∙ sym (is_some-lookup (is_at (nat_cmp index)) others))

entry_writes_only : (room : Room) (tree : Tree) → IsRooted tree → (n : ℕ) (o : Option Entry) → WritesOnly tree (tree_after_entry room tree n o) (entry_writes room tree n o)
entry_writes_only room tree rooted n (Some (Some c)) = call_writes room tree rooted n c
entry_writes_only room tree rooted n (Some None) = wrote_none tree _ (λ birth index. refl)
entry_writes_only room tree rooted n None = wrote_none tree _ (λ birth index. refl)

-- files that are the same map the same blocks
same_file_maps : (n m : Option Node) (index : ℕ) → same_file n m ≡ true → is_some (block_in n index) ≡ is_some (block_in m index)
same_file_maps (Some (nodes.File f)) (Some (nodes.File h)) index t = keys_some f.blocks h.blocks index ((bytes_eq-Decides (keys_of f.blocks) (keys_of h.blocks)).0 (and_parts (f.size == h.size) _ t).1)
same_file_maps (Some (nodes.File f)) (Some (nodes.Directory d)) index t = absurd (false≢true t)
same_file_maps (Some (nodes.File f)) (Some (nodes.Other mode)) index t = absurd (false≢true t)
same_file_maps (Some (nodes.File f)) None index t = absurd (false≢true t)
same_file_maps (Some (nodes.Directory d)) (Some (nodes.File h)) index t = absurd (false≢true t)
same_file_maps (Some (nodes.Directory d)) (Some (nodes.Directory e)) index t = refl
same_file_maps (Some (nodes.Directory d)) (Some (nodes.Other mode)) index t = refl
same_file_maps (Some (nodes.Directory d)) None index t = refl
same_file_maps (Some (nodes.Other mode)) (Some (nodes.File h)) index t = absurd (false≢true t)
same_file_maps (Some (nodes.Other mode)) (Some (nodes.Directory e)) index t = refl
same_file_maps (Some (nodes.Other mode)) (Some (nodes.Other other)) index t = refl
same_file_maps (Some (nodes.Other mode)) None index t = refl
same_file_maps None (Some (nodes.File h)) index t = absurd (false≢true t)
same_file_maps None (Some (nodes.Directory e)) index t = refl
same_file_maps None (Some (nodes.Other other)) index t = refl
same_file_maps None None index t = refl

module _ (room : Room) (opened : Tree) (first : ℕ) (entries : List Entry) where
  abbrev Trees : ℕ → Tree
  Trees k = tree_after_entries room opened first entries k

  module _ (rooted : (k : ℕ) → IsRooted (tree_after_entries room opened first entries k)) where
    step_writes : (k : ℕ) → WritesOnly (Trees k) (Trees (suc k)) (writes_among room opened first entries (suc k))
    unfolding tree_after_entries writes_among
    step_writes k = entry_writes_only room (Trees k) (rooted k) (first + suc k) (slice_get entries k)

    among_mapped : (k birth index : ℕ) → writes_among room opened first entries k birth index ≡ true → maps_block (Trees k) birth index ≡ true
    unfolding writes_among
    among_mapped zero birth index h = absurd (false≢true h)
    among_mapped (suc k) birth index h = (step_writes k).mapped birth index h

    -- what an entry wrote is mapped after it
    pub history_written : (n birth index : ℕ) → wrote room opened first entries n birth index ≡ true → maps room opened first entries n birth index ≡ true
    history_written n birth index h = among_mapped (n - first) birth index h

    -- the next entry is one of the history's, or comes before it
    next_place : (n : ℕ) → (n + 1 - first ≡ suc (n - first)) ⊎ (n + 1 - first ≡ n - first)
    next_place n = ⊎_elim (λ lt. inr (omega arith)) (λ ge. inl (omega arith)) (cases_lt n first)

    step_maps : (k l birth index : ℕ) → (l ≡ suc k) ⊎ (l ≡ k) → maps_block (Trees k) birth index ≡ false → maps_block (Trees l) birth index ≡ true → writes_among room opened first entries l birth index ≡ true
    step_maps k l birth index (inr e) none there = absurd (true≢false (sym there ∙ (ap (λ j. maps_block (Trees j) birth index) e ∙ none)))
    step_maps k l birth index (inl e) none there =
        subst (λ j. writes_among room opened first entries j birth index ≡ true) (sym e)
        (elim (cases_Bool (writes_among room opened first entries (suc k) birth index)) [
          | inl did ↦ did
          | inr unwritten ↦
              absurd (true≢false (sym (ap (λ j. maps_block (Trees j) birth index) (sym e) ∙ there)
              ∙ kept_maps (Trees k) birth index (at_number (Trees (suc k)) birth) ((step_writes k).kept birth index unwritten) none))
        ])

    -- only an entry that writes a block maps it
    pub history_mapped : (n birth index : ℕ) → maps room opened first entries n birth index ≡ false → maps room opened first entries (n + 1) birth index ≡ true → wrote room opened first entries (n + 1) birth index ≡ true
    history_mapped n birth index none there = step_maps (n - first) (n + 1 - first) birth index (next_place n) none there

    step_keeps : (k l birth index : ℕ) → (l ≡ suc k) ⊎ (l ≡ k) → writes_among room opened first entries l birth index ≡ false → KeepsBlock (Trees k) birth index (at_number (Trees l) birth)
    step_keeps k l birth index (inr e) h = inr (ap (λ j. block_at (Trees j) birth index) e)
    step_keeps k l birth index (inl e) h =
        subst (λ j. KeepsBlock (Trees k) birth index (at_number (Trees j) birth)) (sym e) ((step_writes k).kept birth index (ap (λ j. writes_among room opened first entries j birth index) (sym e) ∙ h))

    content_kept : (before : Option (List ℕ)) (after : Option (List ℕ)) → (after ≡ None) ⊎ (after ≡ before) → is_some after ≡ true → unwrap_or after [] ≡ unwrap_or before []
    content_kept before after (inl gone) there = absurd (false≢true (sym (ap is_some gone) ∙ there))
    content_kept before after (inr same) there = ap (λ o. unwrap_or o []) same

    -- an entry that does not write a block keeps its bytes while it is mapped
    pub history_content : (n birth index : ℕ) → wrote room opened first entries (n + 1) birth index ≡ false → maps room opened first entries (n + 1) birth index ≡ true →
        content room opened first entries (n + 1) birth index ≡ content room opened first entries n birth index
    history_content n birth index h there =
        content_kept (block_at (Trees (n - first)) birth index) (block_at (Trees (n + 1 - first)) birth index) (step_keeps (n - first) (n + 1 - first) birth index (next_place n) h) there

  -- ---- what holds of all histories

  -- where no entry of a transaction changed a file, none maps or unmaps a block of it
  pub unchanged_maps : (n birth index : ℕ) → changed room opened first entries n birth ≡ false → maps room opened first entries n birth index ≡ maps room opened first entries (n - 1) birth index
  unchanged_maps n birth index h =
      sym (same_file_maps (at_number (Trees (n - 1 - first)) birth) (at_number (Trees (n - first)) birth) index
      (not-false (same_file (at_number (Trees (n - 1 - first)) birth) (at_number (Trees (n - first)) birth)) h))

  unchanged_by : (n d birth : ℕ) → changed_after room opened first entries n d birth ≡ false → (m : ℕ) → n < m → m ≤ n + d → changed room opened first entries m birth ≡ false
  unchanged_by n zero birth h m low high = absurd (omega arith)
  unchanged_by n (suc d) birth h m low high =
      let parts = or_parts (changed room opened first entries (n + suc d) birth) (changed_after room opened first entries n d birth) h in
      ⊎_elim
      (λ lt. unchanged_by n d birth parts.1 m low (omega arith))
      (λ ge. let e : m ≡ n + suc d = omega arith in subst (λ j. changed room opened first entries j birth ≡ false) (sym e) parts.0)
      (cases_lt m (n + suc d))

  pub unchanged_between : (n d birth index m : ℕ) → changed_after room opened first entries n d birth ≡ false → n < m → m ≤ n + d →
      maps room opened first entries m birth index ≡ maps room opened first entries (m - 1) birth index
  unchanged_between n d birth index m h low high = unchanged_maps m birth index (unchanged_by n d birth h m low high)

  -- the last entry that wrote a block wrote it, and none after it did
  pub last_wrote : (n birth index : ℕ) → 0 < last room opened first entries n birth index → wrote room opened first entries (last room opened first entries n birth index) birth index ≡ true
  last_wrote zero birth index h = absurd (omega arith)
  last_wrote (suc n) birth index h = by (wrote room opened first entries (suc n) birth index) refl h (last_wrote n birth index)
    where
      by : (b : Bool) → wrote room opened first entries (suc n) birth index ≡ b → 0 < (if b then suc n else last room opened first entries n birth index) →
          (0 < last room opened first entries n birth index → wrote room opened first entries (last room opened first entries n birth index) birth index ≡ true) →
          wrote room opened first entries (if b then suc n else last room opened first entries n birth index) birth index ≡ true
      by true e h more = e
      by false e h more = more h

  pub last_is_last : (n birth index m : ℕ) → last room opened first entries n birth index < m → m ≤ n → wrote room opened first entries m birth index ≡ false
  last_is_last zero birth index m low high = absurd (omega arith)
  last_is_last (suc n) birth index m low high = by (wrote room opened first entries (suc n) birth index) refl low (λ l h. last_is_last n birth index m l h)
    where
      by : (b : Bool) → wrote room opened first entries (suc n) birth index ≡ b → (if b then suc n else last room opened first entries n birth index) < m →
          (last room opened first entries n birth index < m → m ≤ n → wrote room opened first entries m birth index ≡ false) → wrote room opened first entries m birth index ≡ false
      by true e l more = absurd (omega arith)
      by false e l more =
          ⊎_elim
          (λ lt. more l (omega arith))
          (λ ge. let same : m ≡ suc n = omega arith in subst (λ j. wrote room opened first entries j birth index ≡ false) (sym same) e)
          (cases_lt m (suc n))
