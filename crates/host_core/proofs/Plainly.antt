-- What a step of a plain call leaves as it was.
use Rattle.std.proofs.Common.{◌≡◌, ℕ, Bool, true, false, not, List, [], length, nat_lt, Option, Some, None, if◌then◌else◌, refl, sym, ap, ◌∙◌}
use Rattle.std.specs.List.{filter}
use Rattle.blk_base.specs.laws.Members.{filter_all}
use Rattle.number_sets.specs.Sets.{has}
use Rattle.tree_model.specs.declared.call.Call.{Call}
use Rattle.tree_model.specs.declared.call.Reply.{Reply}
use Rattle.flush_actor.specs.Part.{at_limit}
use Rattle.volume_steps.specs.Now.{Change, tree_of_now, unchanged}
use Rattle.volume_steps.specs.Calls.{called, Called}
use Rattle.volume_steps.specs.Numbers.{number_in}
use Rattle.journal_ring.specs.running.Plan.{Writers}
use Rattle.host_machine.specs.Causes as causes
use Rattle.host_machine.specs.Causes.{Cause}
use Rattle.host_machine.specs.Model.{Freed}
use Rattle.minix_host.specs.Volumes.{zones_of}
use Rattle.host_core.specs.at_once.Steps.{hindrance_by, CallParts, PlainProgress, Answered, Full, Waits, Went, wanting, hindered, done_on, does, hinders, steps_plainly}
use Rattle.host_core.specs.code.Replies.{has_list}
use Rattle.host_core.proofs.ListReplies.{list_keeps}
use Rattle.host_core.proofs.SameDivision.{called_same}

-- no request is sent, each thread has its wait, and the volume its division
pub record IsSilent (p q : CallParts) : Type 0 where
  pub requests : q.journal.flush.requests ≡ p.journal.flush.requests
  pub waits : q.journal.flush.waits ≡ p.journal.flush.waits
  pub geometry : q.volume.geometry ≡ p.volume.geometry

abbrev same : {p : CallParts} → IsSilent p p
same = record { requests = refl; waits = refl; geometry = refl }

module _ (writers : Writers) (zmap most : ℕ) (p : CallParts) (n : ℕ) (c : Call) where
  abbrev call : Called
  call = called p.volume (number_in (tree_of_now p.volume) n) p.journal.running.number c

  hindered_silent : (cause : Cause) → IsSilent p (record p { journal = hindered p.volume cause p.journal })
  hindered_silent causes.Closing = same
  hindered_silent (causes.TxFull blocks) = record { requests = refl; waits = refl; geometry = refl }
  hindered_silent (causes.Quarantine lacks) = by (nat_lt (length (filter (λ (z : Freed). nat_lt z.transaction p.journal.running.number) (zones_of p.volume).waiting)) lacks)
    where
      by : (b : Bool) → IsSilent p (record p { journal = if b then wanting p.journal else p.journal })
      by true = record { requests = refl; waits = refl; geometry = refl }
      by false = same
  hindered_silent (causes.Conflict block holder) = same
  hindered_silent (causes.Commit k) = same
  hindered_silent (causes.Durable id) = same
  hindered_silent causes.QueueFull = same

  hinders_silent : (cause : Cause) → IsSilent p (hinders p cause).parts
  hinders_silent cause = by (at_limit p.journal.flush)
    where
      by : (b : Bool) → IsSilent p (let w : Went = if b then record { parts = p; progress = Full } else record { parts = record p { journal = hindered p.volume cause p.journal }; progress = Waits cause } in w.parts)
      by true = same
      by false = hindered_silent cause

  does_silent : IsSilent p (does p n c).parts
  does_silent = record { requests = refl; waits = refl; geometry = called_same p.volume (number_in (tree_of_now p.volume) n) p.journal.running.number c }

  pub plainly_silent : IsSilent p (steps_plainly writers zmap most p n c).parts
  plainly_silent = by (hindrance_by writers zmap most p.journal p.volume c)
    where
      by : (o : Option Cause) → IsSilent p (let w : Went = elim o as (λ _. Went) [ Some cause ↦ hinders p cause | None ↦ does p n c ] in w.parts)
      by (Some cause) = hinders_silent cause
      by None = does_silent

  -- ---- a reply

  abbrev with_change : Change → CallParts
  with_change x = done_on p n x.volume x.touched

  kept_all : (xs : List ℕ) → filter (λ x. not (has [] x)) xs ≡ xs
  kept_all xs = filter_all (λ x. not (has [] x)) xs (λ x i. refl)

  nothing_done : with_change (unchanged p.volume) ≡ p
  nothing_done = ap (λ (xs : List ℕ). record p { journal = record p.journal { running = record p.journal.running { touched = xs } } }) (kept_all p.journal.running.touched)

  -- a call that was answered was done, so this holds of its reply and of what it left
  answered_by : (q : CallParts) (reply : Reply) → (let w : Went = record { parts = q; progress = Answered reply } in w) ≡ steps_plainly writers zmap most p n c → (q ≡ (does p n c).parts) × (reply ≡ call.reply)
  answered_by q reply e = by (hindrance_by writers zmap most p.journal p.volume c) e
    where
      told : PlainProgress → Reply → Reply
      told (Answered r) other = r
      told Full other = other
      told (Waits cause) other = other

      no_answer : (cause : Cause) → (let w : Went = record { parts = q; progress = Answered reply } in w) ≡ hinders p cause → ⊥
      no_answer cause = stopped (at_limit p.journal.flush)
        where
          stopped : (b : Bool) → (let w : Went = record { parts = q; progress = Answered reply } in w) ≡ (if b then record { parts = p; progress = Full } else record { parts = record p { journal = hindered p.volume cause p.journal }; progress = Waits cause }) → ⊥
          stopped true e = let x : Answered reply ≡ Full = ap (λ w. w.progress) e in cc
          stopped false e = let x : Answered reply ≡ Waits cause = ap (λ w. w.progress) e in cc

      by : (o : Option Cause) → (let w : Went = record { parts = q; progress = Answered reply } in w) ≡ elim o as (λ _. Went) [ Some cause ↦ hinders p cause | None ↦ does p n c ] → (q ≡ (does p n c).parts) × (reply ≡ call.reply)
      by (Some cause) e = absurd (no_answer cause e)
      by None e = (ap (λ w. w.parts) e, ap (λ w. told w.progress reply) e)

  -- one with a list leaves all as it was
  pub list_still : (q : CallParts) (reply : Reply) → (let w : Went = record { parts = q; progress = Answered reply } in w) ≡ steps_plainly writers zmap most p n c → has_list reply ≡ true → q ≡ p
  list_still q reply e h =
      let d = answered_by q reply e in
      d.0 ∙ ap with_change (list_keeps p.volume (number_in (tree_of_now p.volume) n) p.journal.running.number c (sym (ap has_list d.1) ∙ h)) ∙ nothing_done
