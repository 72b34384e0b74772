-- Why a call that changes something waits.
use Rattle.std.specs.List.{filter}
use Rattle.std.proofs.Common.{◌≡◌, ◌⊎◌, ◌<◌, ◌≤◌, ◌+◌, ◌-◌, ℕ, suc, Bool, true, false, List, [], ◌∷◌, length, Option, Some, None, nat_lt, nat_le, refl, ap, sym, ◌∙◌, inl, inr, arith, lt-ltb, le-ltb, le-leb, if◌then◌else◌}
use Rattle.std.proofs.lemmas.Bool.{lt-leb, false≢true}
use Rattle.std.specs.Prelude.{◌≢◌, not}
use Rattle.commit_actor.specs.Journal.{Phase, Idle, Closing, Committing, is_closing}
use Rattle.host_machine.specs.Causes as causes
use Rattle.host_machine.specs.Causes.{Cause}
use Rattle.host_machine.specs.Host.{fits, plain, hindrance, hindered, advance}
use Rattle.host_machine.specs.Model.{Model, Freed}
use Rattle.host_machine.specs.Outcomes as outcomes
use Rattle.host_machine.specs.State.{SessionFull, Host, Setup}
use Rattle.host_tests.specs.machine.Asking.{HasRoom, HasNoRoom, IsPlain, ended, wanted}
use Rattle.host_tests.specs.machine.Shares.{FitsQuota, PassesQuota, FindsZones, LacksZones, freed_before, with_greatest_call, log_blocks}
use Rattle.host_tests.proofs.MachineLemmas.Answering.{plainly}

not_closing : (p : Phase) → p ≢ Closing → is_closing p ≡ false
not_closing Idle h = refl
not_closing Closing h = absurd (h refl)
not_closing (Committing p) h = refl

before_is : (k : ℕ) (zs : List Freed) → length (filter (λ (z : Freed). nat_lt z.transaction k) zs) ≡ freed_before k zs
before_is k [] = refl
before_is k (z ∷ zs) = by (nat_lt z.transaction k) (before_is k zs)
  where
    rest : List Freed
    rest = filter (λ (z : Freed). nat_lt z.transaction k) zs

    by : (b : Bool) → length rest ≡ freed_before k zs → length (if b then z ∷ rest else rest) ≡ (if b then suc (freed_before k zs) else freed_before k zs)
    by true e = ap suc e
    by false e = e

module _ {T V C R : Type 0} (m : Model T V C R) (u : Setup) (full : Bool) (s : Host V C R) (t : ℕ) (c : C) (rest : List C) (p : IsPlain m s t c rest) where
  pub still : m.hinders s.volume c ≡ false → (advance m u full s t).step ≡ outcomes.Done (m.apply s.volume (length s.history + 1) s.journal.running.number c).reply
  still e = rw (plainly m u full s t c rest p) (rw (plain, hindrance, e) refl)

  module _ (changes : m.hinders s.volume c ≡ true) where
    closes : s.journal.phase ≡ Closing → hindrance m u s c ≡ Some causes.Closing
    closes e = rw (hindrance, changes) (rw (hindrance, e) refl)

    fills : s.journal.phase ≢ Closing → PassesQuota u s.journal.running → hindrance m u s c ≡ Some (causes.TxFull (log_blocks u (length s.journal.running.touched) (length s.journal.running.revoked)))
    fills e over = rw (hindrance, changes) (rw (hindrance, not_closing s.journal.phase e) (rw (hindrance, fits, lt-leb (with_greatest_call u s.journal.running) u.quota over) refl))

    lacks : s.journal.phase ≢ Closing → FitsQuota u s.journal.running → LacksZones m s c → hindrance m u s c ≡ Some (causes.Quarantine (m.needs s.volume c - length (m.zones s.volume).free))
    lacks e within few = rw (hindrance, changes) (rw (hindrance, not_closing s.journal.phase e) (rw (hindrance, fits, le-leb (with_greatest_call u s.journal.running) u.quota within) (rw (lt-ltb (length (m.zones s.volume).free) (m.needs s.volume c) few) refl)))

    pub goes_on : s.journal.phase ≢ Closing → FitsQuota u s.journal.running → FindsZones m s c → (advance m u full s t).step ≡ outcomes.Done (m.apply s.volume (length s.history + 1) s.journal.running.number c).reply
    goes_on e within finds =
        let none : hindrance m u s c ≡ None = rw (hindrance, changes) (rw (hindrance, not_closing s.journal.phase e) (rw (hindrance, fits, le-leb (with_greatest_call u s.journal.running) u.quota within) (rw (le-ltb (length (m.zones s.volume).free) (m.needs s.volume c) finds) refl))) in
        rw (plainly m u full s t c rest p) (rw (plain, none) refl)

    module _ (room : HasRoom s) where
      below : nat_le s.journal.flush.limit (length s.journal.flush.requests) ≡ false
      below = lt-leb s.journal.flush.limit (length s.journal.flush.requests) room

      pub closing : s.journal.phase ≡ Closing → advance m u full s t ≡ record { host = s; step = outcomes.Waiting causes.Closing }
      closing e = plainly m u full s t c rest p ∙ rw (plain, closes e) (rw below refl)

      pub is_full : s.journal.phase ≢ Closing → PassesQuota u s.journal.running
          → advance m u full s t ≡ record { host = wanted s; step = outcomes.Waiting (causes.TxFull (log_blocks u (length s.journal.running.touched) (length s.journal.running.revoked))) }
      is_full e over = plainly m u full s t c rest p ∙ rw (plain, fills e over) (rw below refl)

      pub enough : s.journal.phase ≢ Closing → FitsQuota u s.journal.running → LacksZones m s c
          → m.needs s.volume c ≤ length (m.zones s.volume).free + freed_before s.journal.running.number (m.zones s.volume).waiting
          → advance m u full s t ≡ record { host = s; step = outcomes.Waiting (causes.Quarantine (m.needs s.volume c - length (m.zones s.volume).free)) }
      enough e within few most =
          let free = length (m.zones s.volume).free in
          let own = before_is s.journal.running.number (m.zones s.volume).waiting in
          let holds : nat_lt (length (filter (λ (z : Freed). nat_lt z.transaction s.journal.running.number) (m.zones s.volume).waiting)) (m.needs s.volume c - free) ≡ false = le-ltb _ _ (omega (arith, own, most, few)) in
          plainly m u full s t c rest p ∙ rw (plain, lacks e within few) (rw below (rw (hindered, holds) refl))

      pub too_few : s.journal.phase ≢ Closing → FitsQuota u s.journal.running → LacksZones m s c
          → length (m.zones s.volume).free + freed_before s.journal.running.number (m.zones s.volume).waiting < m.needs s.volume c
          → advance m u full s t ≡ record { host = wanted s; step = outcomes.Waiting (causes.Quarantine (m.needs s.volume c - length (m.zones s.volume).free)) }
      too_few e within few less =
          let free = length (m.zones s.volume).free in
          let own = before_is s.journal.running.number (m.zones s.volume).waiting in
          let past : nat_lt (length (filter (λ (z : Freed). nat_lt z.transaction s.journal.running.number) (m.zones s.volume).waiting)) (m.needs s.volume c - free) ≡ true = lt-ltb _ _ (omega (arith, own, less, few)) in
          plainly m u full s t c rest p ∙ rw (plain, lacks e within few) (rw below (rw (hindered, past) refl))

    abbrev HasCause : Option Cause → Type 0
    HasCause x = (why : Cause) × (x ≡ Some why)

    has_cause : (closed fits few : Bool) → (closed ≡ true) ⊎ ((fits ≡ false) ⊎ (few ≡ true))
        → HasCause (if closed then Some causes.Closing
        else if not fits then Some (causes.TxFull (log_blocks u (length s.journal.running.touched) (length s.journal.running.revoked)))
        else if few then Some (causes.Quarantine (m.needs s.volume c - length (m.zones s.volume).free)) else None)
    has_cause true fits few w = (causes.Closing, refl)
    has_cause false false few w = (causes.TxFull (log_blocks u (length s.journal.running.touched) (length s.journal.running.revoked)), refl)
    has_cause false true true w = (causes.Quarantine (m.needs s.volume c - length (m.zones s.volume).free), refl)
    has_cause false true false (inl e) = absurd (false≢true e)
    has_cause false true false (inr (inl e)) = absurd (false≢true (sym e))
    has_cause false true false (inr (inr e)) = absurd (false≢true e)

    by_tests : (s.journal.phase ≡ Closing) ⊎ (PassesQuota u s.journal.running ⊎ LacksZones m s c)
        → (is_closing s.journal.phase ≡ true) ⊎ ((nat_le (with_greatest_call u s.journal.running) u.quota ≡ false) ⊎ (nat_lt (length (m.zones s.volume).free) (m.needs s.volume c) ≡ true))
    by_tests (inl e) = inl (rw e refl)
    by_tests (inr (inl e)) = inr (inl (lt-leb (with_greatest_call u s.journal.running) u.quota e))
    by_tests (inr (inr e)) = inr (inr (lt-ltb (length (m.zones s.volume).free) (m.needs s.volume c) e))

    pub at_limit : HasNoRoom s → (s.journal.phase ≡ Closing) ⊎ (PassesQuota u s.journal.running ⊎ LacksZones m s c)
        → advance m u full s t ≡ record { host = ended s t c rest SessionFull; step = outcomes.SessionFull }
    at_limit most why =
        let found : HasCause (hindrance m u s c) = rw (hindrance, changes) (has_cause _ _ _ (by_tests why)) in
        let past : nat_le s.journal.flush.limit (length s.journal.flush.requests) ≡ true = le-leb s.journal.flush.limit (length s.journal.flush.requests) most in
        plainly m u full s t c rest p ∙ rw (plain, found.1) (rw past refl)
