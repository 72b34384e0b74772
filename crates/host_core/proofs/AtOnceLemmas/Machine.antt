-- A step of a plain call on its parts is that of the host.
use Rattle.std.proofs.Common.{◌≡◌, ℕ, ◌+◌, ◌∙◌, arith, Bool, true, false, if◌then◌else◌, List, length, filter, Option, Some, None, nat_lt, refl, sym, ap}
use Rattle.minix_layout.specs.declared.division.Geometry.{Geometry}
use Rattle.tree_model.specs.declared.call.Call.{Call}
use Rattle.tree_model.specs.declared.call.Reply.{Reply}
use Rattle.volume_steps.specs.Now.{VolumeNow, tree_of_now}
use Rattle.volume_steps.specs.Calls.{called}
use Rattle.volume_steps.specs.Numbers.{number_in}
use Rattle.flush_actor.specs.Part.{at_limit}
use Rattle.host_machine.specs.Causes as causes
use Rattle.host_machine.specs.Causes.{Cause}
use Rattle.host_machine.specs.Host as machine
use Rattle.host_machine.specs.Host.{Stepped}
use Rattle.host_machine.specs.Model.{Model, Freed}
use Rattle.host_machine.specs.Outcomes as outcomes
use Rattle.host_machine.specs.State as state
use Rattle.host_machine.specs.State.{Host, Setup}
use Rattle.minix_host.specs.Calls.{done_as}
use Rattle.minix_host.specs.PlainTrees.{PlainTree}
use Rattle.minix_host.specs.Sessions.{model_of}
use Rattle.minix_host.specs.Volumes.{zones_of}
use Rattle.host_core.specs.gates.Hindrances.{hindrance_by}
use Rattle.host_core.proofs.EffectsLemmas.Machine.{change_is}
use Rattle.host_core.specs.at_once.Parts.{parts_in, with_parts, after_going}
use Rattle.host_core.specs.at_once.Steps.{CallParts, Went, Full, Waits, wanting, hindered, does, hinders, steps_plainly}

module _ (g : Geometry) (u : Setup) (s : Host VolumeNow Call Reply) (t : ℕ) (c : Call) (rest : List Call) where
  abbrev m : Model PlainTree VolumeNow Call Reply
  m = model_of (λ (x : Call). x) g

  abbrev n : ℕ
  n = length s.history + 1

  abbrev p : CallParts
  p = parts_in s

  abbrev after : Went → Stepped VolumeNow Call Reply
  after w = after_going m u s t c rest w

  -- ---- it is hindered

  wants_is : (cause : Cause) → with_parts m u s (record { journal = hindered s.volume cause s.journal; volume = s.volume; pages = s.pages; owners = s.owners }) ≡ machine.hindered m u s cause
  wants_is (causes.TxFull blocks) = refl
  wants_is (causes.Quarantine lacks) = by (nat_lt (length (filter (λ (z : Freed). nat_lt z.transaction s.journal.running.number) (zones_of s.volume).waiting)) lacks)
    where
      by : (b : Bool) → with_parts m u s (record { journal = if b then wanting s.journal else s.journal; volume = s.volume; pages = s.pages; owners = s.owners }) ≡ (if b then machine.wanting m u s else s)
      by true = refl
      by false = refl
  wants_is causes.Closing = refl
  wants_is (causes.Conflict block holder) = refl
  wants_is (causes.Commit k) = refl
  wants_is (causes.Durable id) = refl
  wants_is causes.QueueFull = refl

  hinders_is : (cause : Cause) → after (hinders p cause)
      ≡ (if at_limit s.journal.flush then machine.end_with m u s t c rest state.SessionFull else record { host = machine.hindered m u s cause; step = outcomes.Waiting cause })
  hinders_is cause = by (at_limit s.journal.flush)
    where
      by : (b : Bool) → after (if b then record { parts = p; progress = Full } else record { parts = record p { journal = hindered p.volume cause p.journal }; progress = Waits cause })
          ≡ (if b then machine.end_with m u s t c rest state.SessionFull else record { host = machine.hindered m u s cause; step = outcomes.Waiting cause })
      by true = refl
      by false = ap (λ (h : Host VolumeNow Call Reply). record { host = h; step = outcomes.Waiting cause }) (wants_is cause)

  -- ---- it is done

  abbrev k : ℕ
  k = s.journal.running.number

  does_is : after (does p n c)
      ≡ machine.end_with m u (machine.change m u s c (done_as s.volume n k c)) t c rest (state.Answered (done_as s.volume n k c).reply)
  unfolding done_as
  does_is =
      let x = called s.volume (number_in (tree_of_now s.volume) n) k c in
      ap (λ (h : Host VolumeNow Call Reply). machine.end_with m u h t c rest (state.Answered x.reply)) (sym (change_is m u s c x.change.volume x.reply x.change.touched))

  -- ---- the step

  pub plain_is : after (steps_plainly u.writers u.zmap u.quota p n c) ≡ machine.plain m u s t c rest
  plain_is = by (hindrance_by u.writers u.zmap u.quota s.journal s.volume c)
    where
      by : (o : Option Cause) → after (elim o as (λ _. Went) [ Some cause ↦ hinders p cause | None ↦ does p n c ])
          ≡ elim o as (λ _. Stepped VolumeNow Call Reply) [
            | Some cause ↦ if at_limit s.journal.flush then machine.end_with m u s t c rest state.SessionFull else record { host = machine.hindered m u s cause; step = outcomes.Waiting cause }
            | None ↦
                let a = m.apply s.volume n k c in
                machine.end_with m u (machine.change m u s c a) t c rest (state.Answered a.reply)
          ]
      by (Some cause) = hinders_is cause
      by None =
          let e : n ≡ 0 + n = omega arith in
          does_is ∙ ap (λ x. machine.end_with m u (machine.change m u s c (done_as s.volume x k c)) t c rest (state.Answered (done_as s.volume x k c).reply)) e
