-- Entries are placed, and calls that ended are counted: what is noted keeps both.
use Rattle.std.proofs.Common.{◌≡◌, ◌≢◌, ◌<◌, ◌≤◌, ◌+◌, ◌-◌, ◌==◌, ◌&&◌, ◌⊎◌, ℕ, Bool, true, false, cond, List, [], ◌∷◌, ◌++◌, length, map, set, take, Some, slice_get, refl, sym, ap, subst, arith, ◌∙◌, inl, inr}
use Rattle.std.proofs.lemmas.Bool.{eq-eqb, ne_eqb, eqb-true, eqb-false}
use Rattle.std.proofs.lemmas.List.{take-append-le, take_at}
use Rattle.std.proofs.lemmas.List.Sums.{sum_by_push}
use Rattle.std.proofs.lemmas.Option.{same_Some}
use Rattle.blk_base.specs.Members.{In}
use Rattle.blk_base.specs.laws.Members.{slice_get-In, slice_get-length, slice_get-map_some, slice_get-push_cases, slice_get-set_other, slice_get-set_same}
use Rattle.tree_model.specs.declared.call.Call.{Call}
use Rattle.host_answers.specs.declared.entry.Entry.{Entry}
use Rattle.host_answers.specs.declared.entry.EntryKind.{EntryKind}
use Rattle.host_core.specs.Entries.{is_end, ended_by, IsPlaced, ArePlaced}
use Rattle.host_core.specs.code.Fields.{program_of, AreNoted, KeepsNotes}
use Rattle.host_core.specs.declared.thread.Thread.{Thread}
use Rattle.host_core.proofs.Noted.{same_programs}

-- ---- no entry

pub none_noted : (ts : List Thread) → ((t : Thread) → In t ts → t.ended ≡ 0) → AreNoted ts []
none_noted ts fresh = record {
  placed = λ n e at. let P : ⊥ = cc in absurd P;
  ended = λ at t there. fresh t (slice_get-In ts at t there);
}

-- ---- one entry more, of the next call of a thread

abbrev one_if : Bool → ℕ
one_if b = cond b 1 0

abbrev one : Entry → ℕ → ℕ
one e t = one_if (is_end e.what && e.thread == t)

one_more : (h : List Entry) (e : Entry) (t : ℕ) → ended_by (h ++ e ∷ []) t ≡ ended_by h t + one e t
one_more h e t = sum_by_push (λ (x : Entry). one x t) h e

placed_more : (programs : List (List Call)) (h : List Entry) (e : Entry) → ArePlaced programs h → IsPlaced programs h e → ArePlaced programs (h ++ e ∷ [])
placed_more programs h e all own n x is = by (slice_get-push_cases h e n x is)
  where
    by : (slice_get h n ≡ Some x) ⊎ ((n ≡ length h) × (e ≡ x)) → IsPlaced programs (take n (h ++ e ∷ [])) x
    by (inl was) =
        let low = slice_get-length h n x was in
        subst (λ before. IsPlaced programs before x) (sym (take-append-le n h (e ∷ []) (omega arith))) (all n x was)
    by (inr (last, same)) =
        let front : h ≡ take n (h ++ e ∷ []) = sym (take_at h (e ∷ []) n (sym last)) in
        subst (λ before. IsPlaced programs before x) front (subst (IsPlaced programs h) same own)

-- what holds of all others, and of the one that is set
each_set_at : {X : Type 0} (P : ℕ → X → Type 0) (xs : List X) (i : ℕ) (old new : X) → slice_get xs i ≡ Some old → P i new → ((j : ℕ) (x : X) → j ≢ i → slice_get xs j ≡ Some x → P j x)
    → (j : ℕ) (x : X) → slice_get (set xs i new) j ≡ Some x → P j x
each_set_at {X = X} P xs i old new there own others j x is = by (j == i) refl
  where
    by : (b : Bool) → (j == i) ≡ b → P j x
    by true q =
        let same : j ≡ i = eqb-true j i q in
        let low = slice_get-length xs i old there in
        let it : new ≡ x = same_Some new x (sym (slice_get-set_same xs i new low) ∙ ap (slice_get (set xs i new)) (sym same) ∙ is) in
        subst (λ (y : X). P j y) it (subst (λ k. P k new) (sym same) own)
    by false q =
        let other : j ≢ i = eqb-false j i q in
        others j x other (sym (slice_get-set_other xs i j new other) ∙ is)

module _ (thread : ℕ) (old new : Thread) (h : List Entry) (program : new.program.items ≡ old.program.items) where
  abbrev at : ℕ
  at = thread - 1

  -- the thread alone changes
  pub noted_same : new.ended ≡ old.ended → KeepsNotes thread old new h h
  noted_same ended = record {
    noted = λ ts there noted. record {
      placed = subst (λ ps. ArePlaced ps h) (sym (same_programs ts at old new there program)) noted.placed;
      ended = each_set_at (λ k (t : Thread). t.ended ≡ ended_by h (k + 1)) ts at old new there (ended ∙ noted.ended at old there) (λ k t other was. noted.ended k t was);
    };
  }

  module _ (what : EntryKind) (from : 1 ≤ thread) (left : old.ended < length old.program.items) (ended : new.ended ≡ old.ended + one_if (is_end what)) where
    abbrev entry : Entry
    entry = record { thread = thread; call = old.ended; what = what }

    own_one : (b : Bool) → one_if b ≡ one_if (b && thread == at + 1)
    own_one true = let n : thread ≡ at + 1 = omega (arith, from) in sym (ap one_if (eq-eqb thread (at + 1) n))
    own_one false = refl

    no_other : (b : Bool) (k : ℕ) → k ≢ at → 0 ≡ one_if (b && thread == k + 1)
    no_other true k other = sym (ap one_if (ne_eqb thread (k + 1) (λ same. other (omega (arith, same)))))
    no_other false k other = refl

    abbrev IsCounted : ℕ → Thread → Type 0
    IsCounted k t = t.ended ≡ ended_by (h ++ entry ∷ []) (k + 1)

    with_one : (ts : List Thread) → slice_get ts at ≡ Some old → AreNoted ts h → AreNoted (set ts at new) (h ++ entry ∷ [])
    with_one ts there noted =
        let number : at + 1 ≡ thread = omega (arith, from) in
        let own : IsPlaced (map program_of ts) h entry = record {
          thread = from;
          program = program_of old;
          own = slice_get-map_some program_of ts at old there;
          there = left;
          next = noted.ended at old there ∙ ap (λ n. ended_by h n) number;
        } in
        let mine : IsCounted at new =
        ended ∙ ap (λ n. n + one_if (is_end what)) (noted.ended at old there) ∙ ap (λ n. ended_by h (at + 1) + n) (own_one (is_end what)) ∙ sym (one_more h entry (at + 1)) in
        let others = λ (k : ℕ) (t : Thread) (other : k ≢ at) (was : slice_get ts k ≡ Some t).
        let none : ended_by h (k + 1) ≡ ended_by h (k + 1) + 0 = omega arith in
        noted.ended k t was ∙ none ∙ ap (λ n. ended_by h (k + 1) + n) (no_other (is_end what) k other) ∙ sym (one_more h entry (k + 1)) in
        record {
          placed = subst (λ ps. ArePlaced ps (h ++ entry ∷ [])) (sym (same_programs ts at old new there program)) (placed_more (map program_of ts) h entry noted.placed own);
          ended = each_set_at IsCounted ts at old new there mine others;
        }

    pub noted_more : (more : List Entry) → more ≡ h ++ entry ∷ [] → KeepsNotes thread old new h more
    noted_more more is = record { noted = λ ts there noted. subst (AreNoted (set ts at new)) (sym is) (with_one ts there noted) }
