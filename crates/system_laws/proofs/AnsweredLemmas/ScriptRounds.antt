-- Rounds behind the events of a script, on the scheduler and the device that it says.
use Rattle.std.specs.Prelude.{◌≡◌, ℕ, ◌+◌, ◌<◌, ◌≤◌, Bool, true, false, List, [], ◌∷◌, ◌++◌, length, Option, Some, None, refl}
use Rattle.std.proofs.Common.{sym, ap, subst, ◌∙◌, arith}
use Rattle.std.proofs.lemmas.List.{append-nil, append_assoc}
use Rattle.order_model.specs.Machine.{Machine}
use Rattle.minix_layout.specs.declared.limits.TheConstants.{LEAST_JOURNAL, MOST_JOURNAL}
use Rattle.minix_layout.specs.declared.division.Geometry.{Geometry}
use Rattle.minix_layout.specs.Geometry.{IsSound}
use Rattle.mount_make.specs.Made.{made_image}
use Rattle.line_grammar.specs.declared.events.event.CoreEvent.{CoreEvent}
use Rattle.line_grammar.specs.declared.events.event.EventLine.{EventLine}
use Rattle.line_grammar.specs.declared.events.event.EventWord.TheVariants.{Round}
use Rattle.schedulers.specs.declared.reassign.scheduler.TheConstants.{CAPACITY}
use Rattle.schedulers.specs.reassign.Scheduler.{SchedSteps, IsNewScheduler}
use Rattle.schedulers.specs.reassign.Sched as plain
use Rattle.schedulers.specs.reassign.laws.Valid as plain_valid
use Rattle.schedulers.specs.reassign.laws.DispatchedLaws.{opened-valid}
use Rattle.schedulers.specs.elevator.Elevator as elevator
use Rattle.schedulers.specs.elevator.laws.Valid.{IsElevator}
use Rattle.schedulers.specs.elevator.laws.Scheduler.{opened_valid}
use Rattle.tree_model.specs.declared.call.Call.{Call}
use Rattle.stack_core.specs.Core.{epoch_machine, flash_machine}
use Rattle.session_grammar.specs.declared.session_script.SessionScript.{SessionScript}
use Rattle.session_grammar.specs.WellFormed.{IsWellFormed}
use Rattle.session_core.specs.Core.{IsNewFor, geometry_of, opening_of, start_of, device_for, flash_for, ended, core_on, core_as}
use Rattle.session_core.specs.run.machine.Machine.{core_session, events_of, word_events, repeated, round}
use Rattle.session_core.specs.run.machine.MadeStart.{IsNew}
use Rattle.session_core.proofs.Made.{of_program, is_new}
use Rattle.system_laws.specs.answered.Rounds.{HaveEnded, RoundsFinish, session_host}
use Rattle.system_laws.specs.answered.Scripts.{with_rounds, RoundsEnd}
use Rattle.system_laws.specs.transaction_size.Sizes.{HaveLines}
use Rattle.system_laws.proofs.SessionsLemmas.ScriptClean.{made_sound}

-- what is said of rounds on this scheduler and this device
abbrev pub RoundsLaw : {K S : Type 0} → SchedSteps K → Machine S → (K → Type 0) → (S → Type 0) → (S → Type 0) → (S → Type 0) → Type 0
RoundsLaw {K = K} {S = S} k m can valid on sound =
    (g : Geometry) (journal : ℕ) (wide : Bool) (limit capacity : ℕ) (programs : List (List Call)) (sched : K) (dev : S) (events : List CoreEvent) →
    IsSound g → LEAST_JOURNAL ≤ journal → journal ≤ MOST_JOURNAL → limit + journal < 4294967296 → HaveLines programs →
    1 ≤ capacity → can sched → 1 ≤ (k.seen sched).capacity → valid dev → on dev → sound dev → IsNew (made_image g journal wide) limit (k.seen sched) (m.seen dev) →
    RoundsFinish (session_host g journal wide limit capacity programs k m sched dev) events (length programs)

-- a line of rounds behind other lines is as many rounds behind their events
events_behind : (threads : ℕ) (lines : List EventLine) (n : ℕ) → events_of threads (lines ++ record { what = Round; count = n } ∷ []) ≡ events_of threads lines ++ repeated n (round threads)
unfolding events_of
events_behind threads [] n = append-nil (repeated n (round threads))
events_behind threads (l ∷ ls) n =
    ap (λ es. repeated l.count (word_events threads l.what) ++ es) (events_behind threads ls n)
    ∙ sym (append_assoc (repeated l.count (word_events threads l.what)) (events_of threads ls) (repeated n (round threads)))

module _ (s : SessionScript) (is : IsWellFormed s) where
  -- so many rounds are enough on this device
  pub record AreEnough {S : Type 0} (m : Machine S) (dev : S) : Type 0 where
    pub rounds : ℕ
    pub done : (n : ℕ) → rounds ≤ n → HaveEnded (core_on m (with_rounds s n) dev).host

  module _ {S : Type 0} (m : Machine S) (valid on sound : S → Type 0) (dev : S) (can : valid dev) (stays : on dev) (works : sound dev) (new : IsNewFor s (m.seen dev)) where
    finish : {K : Type 0} (k : SchedSteps K) (good : K → Type 0) (sched : K) → RoundsLaw k m good valid on sound → good sched → IsNewScheduler s.header.limit CAPACITY (k.seen sched) →
        RoundsFinish (session_host (geometry_of s) s.journal s.wide s.header.limit s.header.queue s.programs k m sched dev) (events_of (length s.programs) s.events) (length s.programs)
    finish k good sched law fine fresh =
        law (geometry_of s) s.journal s.wide s.header.limit s.header.queue s.programs sched dev (events_of (length s.programs) s.events)
        (made_sound s.inodes s.zones s.journal s.width is.sizes is.width) is.sizes.least_journal is.sizes.most_journal (let low = is.header.limit in let most = is.sizes.most_journal in omega (arith, low, most))
        (λ p c there here. is.calls c (of_program s.programs p c there here)) is.header.some_queue fine (let room = fresh.room in omega (arith, room)) can stays works (is_new s _ _ fresh new)

    on_parts : {K : Type 0} (k : SchedSteps K) (sched : K) (r : RoundsFinish (session_host (geometry_of s) s.journal s.wide s.header.limit s.header.queue s.programs k m sched dev) (events_of (length s.programs) s.events) (length s.programs)) →
        (n : ℕ) → r.rounds ≤ n → HaveEnded (ended k m (core_session (opening_of s) k m (start_of s) sched dev (with_rounds s n).events)).host
    on_parts k sched r n low =
        subst (λ es. HaveEnded (session_host (geometry_of s) s.journal s.wide s.header.limit s.header.queue s.programs k m sched dev es)) (sym (events_behind (length s.programs) s.events n)) (r.ended n low)

    pub on_device : RoundsLaw plain.sched_steps m plain_valid.IsValid valid on sound → RoundsLaw elevator.elevator_steps m IsElevator valid on sound → AreEnough m dev
    on_device first other = by s.header.elevator refl
      where
        fresh : IsNewScheduler s.header.limit CAPACITY (plain.seen_of (plain.opened s.header.limit CAPACITY))
        fresh = record { requests = refl; room = refl; accepted = refl; waiting = refl; unblocked = refl; sent_out = refl }

        fresh_elevator : IsNewScheduler s.header.limit CAPACITY (elevator.seen_of (elevator.opened s.header.limit CAPACITY))
        fresh_elevator = record { requests = refl; room = refl; accepted = refl; waiting = refl; unblocked = refl; sent_out = refl }

        by : (named : Bool) → s.header.elevator ≡ named → AreEnough m dev
        by true named =
            let r = finish elevator.elevator_steps IsElevator (elevator.opened s.header.limit CAPACITY) other (opened_valid s.header.limit CAPACITY) fresh_elevator in
            record { rounds = r.rounds; done = λ n low. rw named (on_parts elevator.elevator_steps (elevator.opened s.header.limit CAPACITY) r n low) }
        by false named =
            let r = finish plain.sched_steps plain_valid.IsValid (plain.opened s.header.limit CAPACITY) first (opened-valid s.header.limit CAPACITY) fresh in
            record { rounds = r.rounds; done = λ n low. rw named (on_parts plain.sched_steps (plain.opened s.header.limit CAPACITY) r n low) }

  -- on the device that its line `flash` says, or else on the model device
  pub rounds_end : AreEnough epoch_machine (device_for s) → ((segments : ℕ) → s.header.flash ≡ Some segments → AreEnough flash_machine (flash_for s segments)) → RoundsEnd s
  rounds_end model flash = by s.header.flash refl
    where
      by : (o : Option ℕ) → s.header.flash ≡ o → RoundsEnd s
      by None named = record { rounds = model.rounds; ended = λ n low. subst (λ o. HaveEnded (core_as (with_rounds s n) o).host) (sym named) (model.done n low) }
      by (Some segments) named =
          let r = flash segments named in
          record { rounds = r.rounds; ended = λ n low. subst (λ o. HaveEnded (core_as (with_rounds s n) o).host) (sym named) (r.done n low) }
