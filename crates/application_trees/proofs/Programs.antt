-- A program of one thread that replaces a file does what `IsReplacing` asks.
use Rattle.std.specs.Prelude.{◌≡◌, ◌⊎◌, ℕ, zero, suc, ◌+◌, ◌-◌, ◌<◌, ◌≤◌, true, List, [], ◌∷◌, ◌++◌, length, take, replicate, Option, Some, Ok, slice_get, refl}
use Rattle.std.proofs.Common.{sym, ap, subst, ◌∙◌, inl, inr, arith}
use Rattle.std.proofs.lemmas.Bool.{cases_lt}
use Rattle.std.proofs.lemmas.Option.{same_Some}
use Rattle.blk_base.specs.Members.{In}
use Rattle.blk_base.specs.laws.Members.{slice_get-In, slice_get-append_left, slice_get-append_right}
use Rattle.tree_model.specs.declared.call.Call.{Call}
use Rattle.tree_model.specs.declared.call.Call.TheVariants as calls
use Rattle.tree_model.specs.declared.call.Reply.{Reply}
use Rattle.tree_model.specs.declared.call.Room.{Room}
use Rattle.tree_model.specs.declared.node.File.{File}
use Rattle.tree_model.specs.declared.node.Node.TheVariants as nodes
use Rattle.tree_model.specs.laws.Alike.{same_ok}
use Rattle.tree_model.specs.Calls.{Tree, tree_after, outcome, row, leaves_tree}
use Rattle.tree_model.specs.Causes.{LeadsTo}
use Rattle.tree_model.specs.Maps.{at_number}
use Rattle.tree_model.specs.Trees.{node_of_path}
use Rattle.tree_model.proofs.Outcomes.{quiet_stays}
use Rattle.crash_laws.specs.LegalHistory.{Event, Begin, End, Follows}
use Rattle.application_trees.specs.Programs.{ends, replace_calls, IsWriteTo, of_bytes, repeated, IsReplaceProgram, HasReplaced}
use Rattle.application_trees.specs.Runs.{LeavesAlone, ArePlain, IsPrepared, aside, creates, writes, IsRenamed, IsReplacing}
use Rattle.application_trees.proofs.Moves.{old_led}
use Rattle.application_trees.proofs.Sequences.{ended_call, ends_below, ends_rise}

alone : (tree after : Tree) (names : List (List ℕ)) (birth : ℕ) → after ≡ tree → LeavesAlone tree after names birth
alone tree after names birth same = record {
  path = λ b. (λ e. ap (λ t. node_of_path t names) (sym same) ∙ e, λ e. ap (λ t. node_of_path t names) same ∙ e);
  node = ap (λ t. at_number t birth) same;
}

module _ (events : List Event) (program : List Call) (follows : Follows events program) (before : List Call) (path other : List ℕ) (ws more : List Call) (is : IsReplaceProgram program before path other ws more) where
  abbrev Steps : List Call
  Steps = replace_calls path other ws more

  abbrev Rest : List Call
  Rest = calls.Fdatabarrier path ∷ calls.Rename path other ∷ more

  -- the call that ends at place n, behind those before
  step_call : (n u : ℕ) (c : Call) (y : Reply) → slice_get events n ≡ Some (End u c y) → length before ≤ ends (take n events) → slice_get Steps (ends (take n events) - length before) ≡ Some c
  step_call n u c y e low =
      sym (slice_get-append_right before Steps (ends (take n events)) low)
      ∙ ap (λ cs. slice_get cs (ends (take n events))) (sym is.calls_are)
      ∙ ended_call events program n u c y follows e

  abbrev Kind : Call → Type 0
  Kind c = (leaves_tree c ≡ true) ⊎ ((c ≡ calls.Create path) ⊎ IsWriteTo path c)

  rest_at : (j k : ℕ) (c : Call) → slice_get Steps k ≡ Some c → k ≡ suc (suc (length ws + j)) → slice_get Rest j ≡ Some c
  rest_at j k c e at =
      let low : length ws ≤ length ws + j = omega arith in
      let same : length ws + j - length ws ≡ j = omega arith in
      ap (slice_get Rest) (sym same) ∙ sym (slice_get-append_right ws Rest (length ws + j) low) ∙ ap (slice_get Steps) (sym at) ∙ e

  barrier_is : (k : ℕ) (c : Call) → slice_get Steps k ≡ Some c → k ≡ 2 + length ws → leaves_tree c ≡ true
  barrier_is k c e at = ap leaves_tree (sym (same_Some (calls.Fdatabarrier path) c (rest_at 0 k c e (omega (arith, at)))))

  rename_is : (k : ℕ) (c : Call) → slice_get Steps k ≡ Some c → k ≡ 3 + length ws → c ≡ calls.Rename path other
  rename_is k c e at = sym (same_Some (calls.Rename path other) c (rest_at 1 k c e (omega (arith, at))))

  behind_is : (k : ℕ) (c : Call) → slice_get Steps k ≡ Some c → 4 + length ws ≤ k → leaves_tree c ≡ true
  behind_is k c e le =
      let j = k - (4 + length ws) in
      is.quiet c (slice_get-In more j c (rest_at (suc (suc j)) k c e (omega (arith, le))))

  kind_of : (k : ℕ) (c : Call) → slice_get Steps k ≡ Some c → k < 3 + length ws → Kind c
  kind_of zero c e lt = inl (ap leaves_tree (sym (same_Some (calls.Fsync other) c e)))
  kind_of (suc zero) c e lt = inr (inl (sym (same_Some (calls.Create path) c e)))
  kind_of (suc (suc k)) c e lt =
      elim (cases_lt k (length ws)) [
        | inl low ↦ inr (inr (is.written c (slice_get-In ws k c (sym (slice_get-append_left ws Rest k low) ∙ e))))
        | inr ge ↦ inl (barrier_is (suc (suc k)) c e (omega (arith, lt, ge)))
      ]

abbrev Step : Room → List ℕ → Tree → ℕ → Tree → Type 0
Step room path old n tree = (tree ≡ old) ⊎ ((tree ≡ tree_after room old (suc n) (calls.Create path)) ⊎ ((off : ℕ) × (bytes : List ℕ) × (tree ≡ tree_after room old (suc n) (calls.Bytes path off bytes))))

as_bytes : (room : Room) (tree : Tree) (n : ℕ) (path : List ℕ) (off len value : ℕ) → tree_after room tree n (calls.Write path off len value) ≡ tree_after room tree n (calls.Bytes path off (replicate len value))
unfolding tree_after outcome row
as_bytes room tree n path off len value = refl

write_step : (room : Room) (path : List ℕ) (tree : Tree) (n : ℕ) (c : Call) → IsWriteTo path c → (off : ℕ) × (bytes : List ℕ) × (tree_after room tree (suc n) c ≡ tree_after room tree (suc n) (calls.Bytes path off bytes))
write_step room path tree n _ (of_bytes off body) = (off, body, refl)
write_step room path tree n _ (repeated off len value) = (off, replicate len value, as_bytes room tree (suc n) path off len value)

as_step : (room : Room) (path : List ℕ) (tree : Tree) (n : ℕ) (c : Call) → (leaves_tree c ≡ true) ⊎ ((c ≡ calls.Create path) ⊎ IsWriteTo path c) → Step room path tree n (tree_after room tree (suc n) c)
as_step room path tree n c (inl quiet) = inl (quiet_stays room tree (suc n) c quiet)
as_step room path tree n c (inr (inl same)) = inr (inl (ap (tree_after room tree (suc n)) same))
as_step room path tree n c (inr (inr write)) = inr (inr (write_step room path tree n c write))

is_prepared : (room : Room) (T : ℕ → Tree) (path : List ℕ) (names fresh : List (List ℕ)) (old n : ℕ) → Step room path (T n) n (T (suc n)) → IsPrepared room T path names fresh old n
is_prepared room T path names fresh old n (inl same) = aside (alone (T n) (T (suc n)) names old same) (λ e. ap (λ tree. node_of_path tree fresh) (sym same) ∙ e)
is_prepared room T path names fresh old n (inr (inl made)) = creates made
is_prepared room T path names fresh old n (inr (inr wrote)) = writes wrote.0 wrote.1 wrote.2

-- ---- as long as it is not renamed

module _ (room : Room) (T : ℕ → Tree) (events : List Event) (program : List Call) (follows : Follows events program) (Done : ℕ → ℕ → Call → Reply → Type 0)
    (told : (n t : ℕ) (c : Call) (r : Reply) → Done n t c r → slice_get events n ≡ Some (End t c r))
    (next : (P : Tree → Type 0) (n : ℕ) → P (T n) → ((t : ℕ) (c : Call) (r : Reply) → Done n t c r → P (tree_after room (T n) (suc n) c)) → P (T (suc n)))
    (before : List Call) (path other : List ℕ) (ws more : List Call) (is : IsReplaceProgram program before path other ws more) (names fresh : List (List ℕ)) (old a : ℕ) (sync : ends (take a events) ≡ length before)
    (none : (n t : ℕ) (r : Reply) → Done n t (calls.Rename path other) r → ⊥) where
  pub not_renamed : (n : ℕ) → a ≤ n → IsPrepared room T path names fresh old n
  not_renamed n from = is_prepared room T path names fresh old n (next (Step room path (T n) n) n (inl refl) (λ u c y done.
      let e = told n u c y done in
      let rise = ends_rise events a n from in
      let low : length before ≤ ends (take n events) = omega (arith, rise, sync) in
      let call = step_call events program follows before path other ws more is n u c y e low in
      elim (cases_lt (ends (take n events) - length before) (3 + length ws)) [
        | inl lt ↦ as_step room path (T n) n c (kind_of events program follows before path other ws more is (ends (take n events) - length before) c call lt)
        | inr ge ↦ elim (cases_lt (3 + length ws) (ends (take n events) - length before)) [
          | inl past ↦ as_step room path (T n) n c (inl (behind_is events program follows before path other ws more is (ends (take n events) - length before) c call (omega (arith, past))))
          | inr le ↦ absurd (none n u y (subst (λ d. Done n u d y) (rename_is events program follows before path other ws more is (ends (take n events) - length before) c call (omega (arith, ge, le))) done))
        ]
      ]))

-- ---- once it is

module _ (room : Room) (T : ℕ → Tree) (trees : ArePlain T) (events : List Event) (program : List Call) (follows : Follows events program)
    (next : (P : Tree → Type 0) (n : ℕ) → P (T n) → ((t : ℕ) (c : Call) (r : Reply) → slice_get events n ≡ Some (End t c r) → P (tree_after room (T n) (suc n) c)) → P (T (suc n)))
    (before : List Call) (path other : List ℕ) (ws more : List Call) (is : IsReplaceProgram program before path other ws more)
    (fresh names : List (List ℕ)) (old a : ℕ) (f : File) (new b p : ℕ) (g : File) (x : HasReplaced T events before ws path other fresh names old a f new b p g)
    (t : ℕ) (r : Reply) (ended : slice_get events p ≡ Some (End t (calls.Rename path other) r)) (renamed : IsRenamed room T path other p) where
  abbrev at : ℕ → ℕ
  at n = ends (take n events)

  abbrev call_at : (n u : ℕ) (c : Call) (y : Reply) → slice_get events n ≡ Some (End u c y) → length before ≤ at n → slice_get (replace_calls path other ws more) (at n - length before) ≡ Some c
  call_at = step_call events program follows before path other ws more is

  -- an entry whose call leaves the tree
  same_tree : (n : ℕ) → ((u : ℕ) (c : Call) (y : Reply) → slice_get events n ≡ Some (End u c y) → leaves_tree c ≡ true) → T (suc n) ≡ T n
  same_tree n quiet = next (λ tree. tree ≡ T n) n refl (λ u c y e. quiet_stays room (T n) (suc n) c (quiet u c y e))

  prepared : (n : ℕ) → a ≤ n → n < p → IsPrepared room T path names fresh old n
  prepared n from to = is_prepared room T path names fresh old n (next (Step room path (T n) n) n (inl refl) (λ u c y e.
      let low = ends_rise events a n from in
      let high = ends_below events n p u c y to e in
      let sync = x.sync in
      let rename = x.rename in
      as_step room path (T n) n c (kind_of events program follows before path other ws more is (at n - length before) c (call_at n u c y e (omega (arith, low, sync))) (omega (arith, low, high, sync, rename)))))

  barred : (n : ℕ) → b ≤ n → n < p → T (suc n) ≡ T n
  barred n from to = same_tree n (λ u c y e.
      let low = ends_rise events b n from in
      let high = ends_below events n p u c y to e in
      let barrier = x.barrier in
      let rename = x.rename in
      barrier_is events program follows before path other ws more is (at n - length before) c (call_at n u c y e (omega (arith, low, barrier))) (omega (arith, low, high, barrier, rename)))

  behind : (n : ℕ) → p < n → T (suc n) ≡ T n
  behind n past = same_tree n (λ u c y e.
      let more_ends = ends_below events p n t (calls.Rename path other) r past ended in
      let rename = x.rename in
      behind_is events program follows before path other ws more is (at n - length before) c (call_at n u c y e (omega (arith, more_ends, rename))) (omega (arith, more_ends, rename)))

  led_at : (v : ℕ) → a ≤ v → v ≤ p → LeadsTo (T v) names old (nodes.File f) × (node_of_path (T v) fresh ≡ Ok old → ⊥)
  led_at = old_led room T trees path fresh names x.fresh_is old a f p (x.led, x.free old) prepared

  pub program_replaces : IsReplacing room T path other fresh names old a f new b p g
  program_replaces = record {
    moved = record {
      fresh_is = x.fresh_is;
      names_are = x.names_are;
      order = x.last;
      there = x.made;
      quiet = λ n from to. alone (T n) (T (suc n)) fresh new (barred n from to);
      renamed = renamed;
      apart = λ e.
          let first = x.first in
          let last = x.last in
          let at_p = led_at p (omega (arith, first, last)) (omega arith) in
          let at_b = led_at b first last in
          at_b.1 (x.made.path ∙ ap Ok (same_ok new old (sym e ∙ at_p.0.path)));
      behind = λ n past. alone (T n) (T (suc n)) names new (behind n past);
    };
    start = x.first;
    led = x.led;
    elsewhere = x.free old;
    prepared = prepared;
    left = λ n past. ap (λ tree. at_number tree old) (behind n past);
  }
