-- What a transfer and a write to the medium keep, where the place that is picked is there and where it is not.
use Rattle.std.specs.Prelude.{◌≡◌, ℕ, ◌<◌, ◌≤◌, refl}
use Rattle.std.proofs.Common.{sym, subst, inl, inr, ⊎_elim, arith}
use Rattle.std.proofs.lemmas.Bool.{cases_lt}
use Rattle.order_model.specs.Device.{Seen, Grows}
use Rattle.order_model.specs.Steps.{Transfers, Persists}
use Rattle.journal_replay.specs.code.Runs.{StepKeeps}

stays : (s : Seen) → StepKeeps s s
stays s = record { given = record { base = refl; limit = refl; depth = refl; cut_at = refl; fail_at = refl; took = refl; sent = refl }; faults = omega arith; failed = inl refl }

transfers : (old new : Seen) → Transfers old new → Grows old new → StepKeeps old new
transfers old new t grows = record { given = t.given; faults = grows.faults; failed = ⊎_elim (λ done. inl done.failed) (λ fault. inr fault.faults) t.outcome }

persists : (old new : Seen) → Persists old new → Grows old new → StepKeeps old new
persists old new p grows = record { given = p.given; faults = grows.faults; failed = inl p.failed }

module _ {S : Type 0} (seen : S → Seen) (valid : S → Type 0) (s t : S) (here : valid s) (n pick : ℕ) (none : n ≤ pick → t ≡ s) (grows : Grows (seen s) (seen t)) where
  at_none : n ≤ pick → valid t × StepKeeps (seen s) (seen t)
  at_none past = subst (λ x. valid x × StepKeeps (seen s) (seen x)) (sym (none past)) (here, stays (seen s))

  pub transferred_keeps : (pick < n → valid t × Transfers (seen s) (seen t)) → valid t × StepKeeps (seen s) (seen t)
  transferred_keeps made = ⊎_elim (λ lt. let m = made lt in (m.0, transfers (seen s) (seen t) m.1 grows)) at_none (cases_lt pick n)

  pub persisted_keeps : (pick < n → valid t × Persists (seen s) (seen t)) → valid t × StepKeeps (seen s) (seen t)
  persisted_keeps made = ⊎_elim (λ lt. let m = made lt in (m.0, persists (seen s) (seen t) m.1 grows)) at_none (cases_lt pick n)
