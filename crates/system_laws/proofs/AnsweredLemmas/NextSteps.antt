-- A step of a thread whose call has not begun: it answers the call, lets it begin, or wants the running transaction closed.
use Rattle.std.specs.Prelude.{◌≡◌, ◌⊎◌, ℕ, ◌+◌, ◌<◌, nat_lt, not, Bool, true, false, List, [], ◌∷◌, length, Option, Some, None, refl, if◌then◌else◌}
use Rattle.std.specs.List.{filter}
use Rattle.std.proofs.Common.{sym, ap, subst, ◌∙◌, inl, inr, arith}
use Rattle.std.proofs.lemmas.Bool.{cases_Bool, le-ltb, lt-ltb}
use Rattle.blk_base.specs.Members.{In}
use Rattle.blk_base.specs.laws.Members.{slice_get-length, slice_get-push, slice_get-set_same}
use Rattle.flush_actor.specs.Kinds.{is_begun}
use Rattle.flush_actor.specs.Part.{is_over, at_limit}
use Rattle.host_machine.specs.Causes as causes
use Rattle.host_machine.specs.Causes.{Cause}
use Rattle.host_machine.specs.Host.{Stepped, end_with, begin, plain, change, hindrance, hindered, wanting, advance}
use Rattle.host_machine.specs.Model.{Model, Freed}
use Rattle.host_machine.specs.Outcomes as outcomes
use Rattle.host_machine.specs.State as machine
use Rattle.host_machine.specs.State.{Answered, SessionFull, Thread, Host, Setup}
use Rattle.call_sessions.specs.promises.Entries.{EndsAt}
use Rattle.system_laws.specs.progress.Commits.{IsNext, IsInCall}
use Rattle.system_laws.proofs.ProgressLemmas.Waiting.{starts}

-- ---- why a call waits

abbrev pub gate : Bool → Bool → Bool → Bool → Cause → Cause → Option Cause
gate hinders shut room lacks crowded lacking = if not hinders then None else (if shut then Some causes.Closing else (if not room then Some crowded else (if lacks then Some lacking else None)))

pub gate_cases : (hinders shut room lacks : Bool) (crowded lacking : Cause) → shut ≡ false →
    (gate hinders shut room lacks crowded lacking ≡ None) ⊎ ((gate hinders shut room lacks crowded lacking ≡ Some crowded) ⊎ ((gate hinders shut room lacks crowded lacking ≡ Some lacking) × (lacks ≡ true)))
gate_cases false shut room lacks crowded lacking a = inl refl
gate_cases true false true false crowded lacking a = inl refl
gate_cases true false false lacks crowded lacking a = inr (inl refl)
gate_cases true false true true crowded lacking a = inr (inr (refl, refl))
gate_cases true true room lacks crowded lacking a = absurd (let no : true ≡ false = a in cc)

-- where all zones that wait do so for the running transaction, none waits for an earlier one
none_before : (n : ℕ) (zs : List Freed) → ((z : Freed) → In z zs → z.transaction ≡ n) → filter (λ (z : Freed). nat_lt z.transaction n) zs ≡ []
none_before n [] all = refl
none_before n (z ∷ zs) all =
    ap (λ b. if b then z ∷ filter (λ (z : Freed). nat_lt z.transaction n) zs else filter (λ (z : Freed). nat_lt z.transaction n) zs) (le-ltb z.transaction n (let same = all z (inl refl) in omega (arith, same)))
    ∙ none_before n zs (λ y i. all y (inr i))

-- ---- a step of a thread whose call has not begun

module _ {T V C R : Type 0} (M : Model T V C R) (u : Setup) (h : Host V C R) (t : ℕ) (c : C) where
  -- it answers the call, or the call has begun by it
  pub data Done : Type 0 where
    replies : (reply : R) → EndsAt (advance M u false h t).host.history (length h.history) t c (Answered reply) → Done
    enters : IsInCall (advance M u false h t).host t c → Done

  module _ (next : IsNext h t c) (going : is_over h.journal.flush ≡ false) where
    abbrev Chosen : Option R → Host V C R
    Chosen o = (elim o as (λ _. Stepped V C R) [
      | Some refusal ↦ end_with M u h t c next.rest (Answered refusal)
      | None ↦ if is_begun (M.kind c) then begin M u h t c next.rest else plain M u h t c next.rest
    ]).host

    chosen : (o : Option R) → M.reply h.volume c ≡ o → (advance M u false h t).host ≡ Chosen o
    chosen o e = starts M u h going t c next ∙ ap Chosen e

    abbrev waiting_step : Cause → Bool → Stepped V C R
    waiting_step cause full_up = if full_up then end_with M u h t c next.rest SessionFull else record { host = hindered M u h cause; step = outcomes.Waiting cause }

    abbrev Hindered : Option Cause → Host V C R
    Hindered o = (elim o as (λ _. Stepped V C R) [
      | Some cause ↦ waiting_step cause (at_limit h.journal.flush)
      | None ↦
          let a = M.apply h.volume (length h.history + 1) h.journal.running.number c in
          end_with M u (change M u h c a) t c next.rest (Answered a.reply)
    ]).host

    entered : M.reply h.volume c ≡ None → is_begun (M.kind c) ≡ true → Done
    entered accepted kind = enters (subst (λ (x : Host V C R). IsInCall x t c) (sym (chosen None accepted ∙ opens)) (record {
      thread = _;
      rest = next.rest;
      begun = _;
      stands = slice_get-set_same h.threads t _ (slice_get-length h.threads t next.thread next.stands);
      calls = refl;
      has_begun = refl;
    }))
      where
        opens : Chosen None ≡ (begin M u h t c next.rest).host
        opens = ap (λ b. (if b then begin M u h t c next.rest else plain M u h t c next.rest).host) kind

    module _ (accepted : M.reply h.volume c ≡ None) (kind : is_begun (M.kind c) ≡ false) where
      as_plain : (o : Option Cause) → hindrance M u h c ≡ o → (advance M u false h t).host ≡ Hindered o
      as_plain o e = chosen None accepted ∙ (ap (λ b. (if b then begin M u h t c next.rest else plain M u h t c next.rest).host) kind ∙ ap Hindered e)

      pub acted : hindrance M u h c ≡ None → Done
      acted free = replies (M.apply h.volume (length h.history + 1) h.journal.running.number c).reply
          (subst (λ (x : Host V C R). EndsAt x.history (length h.history) t c (Answered (M.apply h.volume (length h.history + 1) h.journal.running.number c).reply)) (sym (as_plain None free))
          (slice_get-push h.history (record { thread = t; call = c; what = machine.Ends (Answered (M.apply h.volume (length h.history + 1) h.journal.running.number c).reply) })))

      pub hinders : at_limit h.journal.flush ≡ false → (cause : Cause) → hindrance M u h c ≡ Some cause → (advance M u false h t).host ≡ hindered M u h cause
      hinders free cause e = as_plain (Some cause) e ∙ ap (λ b. (waiting_step cause b).host) free

      pub full_up : at_limit h.journal.flush ≡ true → (cause : Cause) → hindrance M u h c ≡ Some cause → (advance M u false h t).host ≡ (end_with M u h t c next.rest SessionFull).host
      full_up full cause e = as_plain (Some cause) e ∙ ap (λ b. (waiting_step cause b).host) full

    -- a plain call that the tree accepts is left
    pub splits : (P : Type 0) → (Done → P) → (M.reply h.volume c ≡ None → is_begun (M.kind c) ≡ false → P) → P
    splits P done other = by (M.reply h.volume c) refl
      where
        by : (o : Option R) → M.reply h.volume c ≡ o → P
        by (Some why) e = done (replies why (subst (λ (x : Host V C R). EndsAt x.history (length h.history) t c (Answered why)) (sym (chosen (Some why) e)) (slice_get-push h.history (record { thread = t; call = c; what = machine.Ends (Answered why) }))))
        by None e = elim (cases_Bool (is_begun (M.kind c))) [ inl kind ↦ done (entered e kind) | inr kind ↦ other e kind ]

  -- where zones lack, and none waits for an earlier transaction, the running one is wanted
  pub lacks_zones : (n : ℕ) → 0 < n → ((z : Freed) → In z (M.zones h.volume).waiting → z.transaction ≡ h.journal.running.number) → hindered M u h (causes.Quarantine n) ≡ wanting M u h
  lacks_zones n some all =
      ap (λ (zs : List Freed). if nat_lt (length zs) n then wanting M u h else h) (none_before h.journal.running.number (M.zones h.volume).waiting all)
      ∙ ap (λ b. if b then wanting M u h else h) (lt-ltb 0 n some)
