-- What is kept of the completions, when one more is taken.
use Rattle.std.proofs.Common.{◌≡◌, ℕ, ◌+◌, ◌<◌, ◌≤◌, ◌==◌, ◌||◌, ◌⊎◌, Bool, true, false, nat_lt, List, [], ◌∷◌, ◌++◌, length, length-append, Option, Some, None, set, refl, sym, ap, subst, ◌∙◌, inl, inr, arith, tests, eq-eqb}
use Rattle.std.specs.List.{list_any, slice_get}
use Rattle.std.proofs.Math.Bool.{or-false}
use Rattle.std.proofs.lemmas.Bool.{cases_eq, ne_eqb}
use Rattle.std.proofs.lemmas.List.Folds.{list_any-append}
use Rattle.std.proofs.lemmas.List.{length-set}
use Rattle.order_model.specs.declared.completion.Completion.TheVariants as completions
use Rattle.order_model.specs.declared.completion.Completion.{Completion}
use Rattle.blk_base.specs.laws.Members.{slice_get-set_same, slice_get-set_other}
use Rattle.flush_actor.specs.Part.{is_cut, first_failed, is_moved, is_flushed_after}
use Rattle.flush_actor.specs.code.Fields.{IsCompleted}
use Rattle.flush_actor.specs.code.Summary.{is_above, greater, flushed_with, failed_with, moved_with}

any-push : (p : Completion → Bool) (cs : List Completion) (c : Completion) → list_any p (cs ++ c ∷ []) ≡ (list_any p cs || p c)
any-push p cs c = list_any-append p cs (c ∷ []) ∙ ap (λ t. list_any p cs || t) (or-false (p c))

failed-push : (cs : List Completion) (c : Completion) → first_failed (cs ++ c ∷ []) ≡ failed_with (first_failed cs) c
failed-push [] (completions.Moved id) = refl
failed-push [] (completions.Flushed id) = refl
failed-push [] (completions.Failed id) = refl
failed-push [] completions.Cut = refl
failed-push (completions.Moved id ∷ cs) c = failed-push cs c
failed-push (completions.Flushed id ∷ cs) c = failed-push cs c
failed-push (completions.Failed id ∷ cs) c = by c
  where
    by : (c : Completion) → Some id ≡ failed_with (Some id) c
    by (completions.Moved i) = refl
    by (completions.Flushed i) = refl
    by (completions.Failed i) = refl
    by completions.Cut = refl
failed-push (completions.Cut ∷ cs) c = failed-push cs c

above_greater : (last : Option ℕ) (id n : ℕ) → nat_lt id (greater last n) ≡ (is_above id last || nat_lt id n)
above_greater None id n = refl
above_greater (Some m) id n = grind (arith, tests)

flushed_kept : (last : Option ℕ) (cs : List Completion) (c : Completion) (id : ℕ) → is_above id last ≡ list_any (is_flushed_after id) cs
    → is_above id (flushed_with last c) ≡ list_any (is_flushed_after id) (cs ++ c ∷ [])
flushed_kept last cs c id e = by c ∙ sym (any-push (is_flushed_after id) cs c)
  where
    other : is_above id last ≡ (list_any (is_flushed_after id) cs || false)
    other = e ∙ sym (or-false (list_any (is_flushed_after id) cs))

    by : (c : Completion) → is_above id (flushed_with last c) ≡ (list_any (is_flushed_after id) cs || is_flushed_after id c)
    by (completions.Moved i) = other
    by (completions.Flushed f) = above_greater last id f ∙ ap (λ t. t || nat_lt id f) e
    by (completions.Failed i) = other
    by completions.Cut = other

moved_kept : (moved : List Bool) (cs : List Completion) (c : Completion) (id : ℕ) → id < length moved → slice_get moved id ≡ Some (list_any (is_moved id) cs)
    → slice_get (moved_with moved c) id ≡ Some (list_any (is_moved id) (cs ++ c ∷ []))
moved_kept moved cs c id less e = by c ∙ sym (ap Some (any-push (is_moved id) cs c))
  where
    other : slice_get moved id ≡ Some (list_any (is_moved id) cs || false)
    other = e ∙ ap Some (sym (or-false (list_any (is_moved id) cs)))

    or_true : (a : Bool) → true ≡ (a || true)
    or_true true = refl
    or_true false = refl

    this : (i : ℕ) → (i ≡ id) ⊎ (i ≡ id → ⊥) → slice_get (set moved i true) id ≡ Some (list_any (is_moved id) cs || (i == id))
    this i (inl same) =
        ap (λ j. slice_get (set moved j true) id) same ∙ slice_get-set_same moved id true less
        ∙ ap Some (or_true (list_any (is_moved id) cs) ∙ ap (λ t. list_any (is_moved id) cs || t) (sym (eq-eqb i id same)))
    this i (inr other_id) =
        slice_get-set_other moved i id true (λ d. other_id (sym d)) ∙ other ∙ ap (λ t. Some (list_any (is_moved id) cs || t)) (sym (ne_eqb i id other_id))

    by : (c : Completion) → slice_get (moved_with moved c) id ≡ Some (list_any (is_moved id) cs || is_moved id c)
    by (completions.Moved i) = this i (cases_eq i id)
    by (completions.Flushed f) = other
    by (completions.Failed i) = other
    by completions.Cut = other

pub moved-length : (moved : List Bool) (c : Completion) → length (moved_with moved c) ≡ length moved
moved-length moved (completions.Moved i) = length-set moved i true
moved-length moved (completions.Flushed f) = refl
moved-length moved (completions.Failed i) = refl
moved-length moved completions.Cut = refl

pub completed_more : (moved : List Bool) (count : ℕ) (cut : Bool) (failed flushed : Option ℕ) (taken : List Completion) (c : Completion)
    → IsCompleted moved count cut failed flushed taken → length taken ≤ length moved
    → IsCompleted (moved_with moved c) (count + 1) (cut || is_cut c) (failed_with failed c) (flushed_with flushed c) (taken ++ c ∷ [])
completed_more moved count cut failed flushed taken c s few =
    let size : length (taken ++ c ∷ []) ≡ length taken + 1 = simp (length-append) refl in
    let same = moved-length moved c in
    let counted = s.counted in
    let short = s.short in
    record {
      counted = omega (arith, size, counted);
      most = omega (arith, size, same, few);
      short = omega (arith, same, short);
      cut_is = ap (λ t. t || is_cut c) s.cut_is ∙ sym (any-push is_cut taken c);
      failed_is = ap (λ o. failed_with o c) s.failed_is ∙ sym (failed-push taken c);
      answered = λ id. flushed_kept flushed taken c id (s.answered id);
      done = λ id less. let inside : id < length moved = omega (arith, less, same) in moved_kept moved taken c id inside (s.done id inside);
    }

pub completed_same : (moved now : List Bool) (count : ℕ) (cut off : Bool) (failed flushed first last : Option ℕ) (taken more : List Completion)
    → now ≡ moved → off ≡ cut → first ≡ failed → last ≡ flushed → more ≡ taken
    → IsCompleted moved count cut failed flushed taken → IsCompleted now count off first last more
completed_same moved now count cut off failed flushed first last taken more a b c d e s =
    subst (λ x. IsCompleted x count off first last more) (sym a)
    (subst (λ x. IsCompleted moved count x first last more) (sym b)
    (subst (λ x. IsCompleted moved count cut x last more) (sym c)
    (subst (λ x. IsCompleted moved count cut failed x more) (sym d)
    (subst (λ x. IsCompleted moved count cut failed flushed x) (sym e) s))))
