-- Where every put is kept, recovery finds all that was closed.
use Rattle.std.proofs.Common.{◌≡◌, ℕ, zero, suc, ◌+◌, ◌++◌, ◌<◌, ◌&&◌, Bool, true, false, List, [], ◌∷◌, length, count_by, Some, None, if◌then◌else◌, slice_get, refl, sym, ap, subst, ◌∙◌, inl, inr, ⊎_elim, arith}
use Rattle.std.specs.List.{list_any}
use Rattle.std.specs.Option.{option_map_or}
use Rattle.std.proofs.lemmas.Bool.{cases_Bool, cond-true, cond-false, false≢true}
use Rattle.std.proofs.lemmas.List.Sums.{sum_by-cons}
use Rattle.std.proofs.lemmas.Option.{none-some}
use Rattle.blk_base.specs.Members.{In}
use Rattle.order_model.specs.OrderClosed.{IsPut, IsKept}
use Rattle.order_model.specs.Device.{Seen, completed}
use Rattle.order_model.specs.declared.completion.Completion.{Completion}
use Rattle.order_model.specs.declared.completion.Completion.TheVariants.{Moved, Flushed, Failed, Cut}
use Rattle.order_model.specs.declared.note.Note.{Note}
use Rattle.order_model.specs.declared.note.Note.TheVariants.{Page, Super, Revoke, Descriptor, Body, Commit, Home, Flush, Raw}
use Rattle.crash_laws.specs.Found.{count_below, is_commit, is_kept, is_kept_commit, found}
use Rattle.crash_laws.specs.Rules.{FitsNotes}
use Rattle.crash_laws.specs.Session.{Session, Medium, HasNote, IsCommit}
use Rattle.crash_laws.proofs.Commits.{commit_is_log, kept-is_kept}
use Rattle.session_grammar.specs.declared.session_script.SessionScript.{SessionScript}
use Rattle.session_core.specs.CallEnds.{RanFreely}
use Rattle.session_core.specs.Core.{EndState, IsDeviceOf}
use Rattle.session_threads.specs.sides.Ended.{HasEnded, IsAllDone, is_failed}
use Rattle.session_threads.specs.Ran.{IsUnstopped}

-- ---- a list is counted by its places

shift : (test : ℕ → Bool) (n : ℕ) → count_below test (suc n) ≡ (if test 0 then 1 else 0) + count_below (λ i. test (suc i)) n
shift test zero =
    elim (cases_Bool (test 0)) [
      | inl t ↦ cond-true (test 0) _ _ t ∙ sym (ap (λ n. n + 0) (cond-true (test 0) 1 0 t))
      | inr t ↦ cond-false (test 0) _ _ t ∙ sym (ap (λ n. n + 0) (cond-false (test 0) 1 0 t))
    ]
shift test (suc n) =
    let before = shift test n in
    elim (cases_Bool (test (suc n))) [
      | inl t ↦
          let now : count_below test (suc (suc n)) ≡ suc (count_below test (suc n)) = cond-true (test (suc n)) _ _ t in
          let later : count_below (λ i. test (suc i)) (suc n) ≡ suc (count_below (λ i. test (suc i)) n) = cond-true (test (suc n)) _ _ t in
          omega (arith, before, now, later)
      | inr t ↦
          let now : count_below test (suc (suc n)) ≡ count_below test (suc n) = cond-false (test (suc n)) _ _ t in
          let later : count_below (λ i. test (suc i)) (suc n) ≡ count_below (λ i. test (suc i)) n = cond-false (test (suc n)) _ _ t in
          omega (arith, before, now, later)
    ]

counted : {X : Type 0} (p : X → Bool) (test : ℕ → Bool) (xs : List X) → ((i : ℕ) (x : X) → slice_get xs i ≡ Some x → test i ≡ p x) → count_below test (length xs) ≡ count_by p xs
counted p test [] same = refl
counted p test (x ∷ xs) same =
    shift test (length xs)
    ∙ ap (λ n. (if test 0 then 1 else 0) + n) (counted p (λ i. test (suc i)) xs (λ i y at. same (suc i) y at))
    ∙ ap (λ (b : Bool). (if b then 1 else 0) + count_by p xs) (same 0 x refl)
    ∙ sym (sum_by-cons (λ y. if p y then 1 else 0) x xs)

-- ---- commit blocks

module _ (s : Session) (m : Medium) (fits : FitsNotes s) (kept : (i : ℕ) → IsPut s.requests i → IsKept s.requests m.origins i) where
  commit_kept : (k i : ℕ) → IsCommit s k i → is_kept s.requests m.origins i ≡ true
  commit_kept k i at =
      let there = fits.log k i (commit_is_log s k i at) in
      kept-is_kept s.requests m.origins i (kept i (s.journal + there.0, there.2))

  by_note : (i : ℕ) (n : Note) → HasNote s i n → (is_commit n && is_kept s.requests m.origins i) ≡ is_commit n
  by_note i (Commit k) at = commit_kept k i at
  by_note i (Page birth index call) at = refl
  by_note i Super at = refl
  by_note i (Revoke k) at = refl
  by_note i (Descriptor k) at = refl
  by_note i (Body k block) at = refl
  by_note i (Home block) at = refl
  by_note i Flush at = refl
  by_note i Raw at = refl

  -- as many are found as commit blocks were submitted
  pub all_found : found s m ≡ count_by is_commit s.notes
  all_found = counted is_commit (is_kept_commit s m) s.notes (λ i n at. ap (λ o. option_map_or is_commit o false && is_kept s.requests m.origins i) at ∙ by_note i n at)

-- ---- how a session that nothing stopped has ended

failed_one : (cs : List Completion) → list_any is_failed cs ≡ true → (id : ℕ) × In (Failed id) cs
failed_one [] e = absurd (false≢true e)
failed_one (Failed id ∷ cs) e = (id, inl refl)
failed_one (Moved id ∷ cs) e = let more = failed_one cs e in (more.0, inr more.1)
failed_one (Flushed id ∷ cs) e = let more = failed_one cs e in (more.0, inr more.1)
failed_one (Cut ∷ cs) e = let more = failed_one cs e in (more.0, inr more.1)

in_front : {X : Type 0} (x : X) (xs ys : List X) → In x xs → In x (xs ++ ys)
in_front x [] ys there = absurd there
in_front x (y ∷ xs) ys there = ⊎_elim (λ e. inl e) (λ more. inr (in_front x xs ys more)) there

module _ (s : SessionScript) (end : EndState) (device : IsDeviceOf s end.dev) where
  -- of the four ends only the last is left
  pub unstopped_is_done : end.host.journal.flush.limit ≡ s.header.limit → HasEnded s.header.cut end.host end.sched end.dev → IsUnstopped s end → IsAllDone end.host end.sched end.dev
  unstopped_is_done limit is free =
      ⊎_elim
      (λ cut. absurd (false≢true (sym free.power ∙ device.power.cause.1 (device.setup.cut_at ∙ cut))))
      (⊎_elim
      (λ failed. let one = failed_one end.dev.sent failed in absurd (false≢true (sym free.failure ∙ (device.failure.known one.0 (in_front (Failed one.0) end.dev.sent end.dev.waiting one.1)).0)))
      (⊎_elim (λ full. let less = free.limit in absurd (omega (arith, limit, full, less))) (λ done. done)))
      is.ended

  -- a script without the two lines stops no session
  pub free_is_unstopped : RanFreely s end → IsUnstopped s end
  free_is_unstopped free = record {
    power = off (end.dev.off) refl;
    failure = failed (end.dev.failed) refl;
    limit = free.limit;
  }
    where
      off : (b : Bool) → end.dev.off ≡ b → b ≡ false
      off false e = refl
      off true e = absurd (none-some end.dev.steps (sym free.cut ∙ sym device.setup.cut_at ∙ device.power.cause.0 e))

      failed : (b : Bool) → end.dev.failed ≡ b → b ≡ false
      failed false e = refl
      failed true e = absurd (none-some end.dev.transfers_made (sym free.fail ∙ sym device.setup.fail_at ∙ device.failure.number e))
