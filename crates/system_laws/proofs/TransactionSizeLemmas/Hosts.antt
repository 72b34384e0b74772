-- A host keeps the share of its running transaction, step by step.
use Rattle.std.specs.Prelude.{◌≡◌, ℕ, ◌+◌, ◌≤◌, Bool, true, false, not, if◌then◌else◌, List, [], ◌∷◌, length, set, Some, None, slice_get, refl}
use Rattle.std.proofs.Common.{sym, ap, subst, ◌∙◌, inl, inr, ⊎_elim}
use Rattle.std.proofs.lemmas.Bool.{cases_Bool, leb-true}
use Rattle.blk_base.specs.Members.{In}
use Rattle.blk_base.specs.laws.Members.{In-set_cases, slice_get-In}
use Rattle.line_grammar.specs.calls.WellFormed.{IsWellFormed}
use Rattle.log_model.specs.Marks.{Logged}
use Rattle.log_model.specs.Ring.{Ring}
use Rattle.number_sets.specs.Sets.{IsRising, with_all, without_all}
use Rattle.minix_layout.specs.declared.division.Geometry.{Geometry}
use Rattle.number_sets.specs.laws.Rising.{rising-with_all, rising-without_all}
use Rattle.tree_model.specs.declared.call.Reply.{Reply}
use Rattle.volume_steps.specs.Calls.{called}
use Rattle.volume_steps.specs.Called.{FindsRoom}
use Rattle.volume_steps.specs.Now.{VolumeNow, tree_of_now}
use Rattle.journal_ring.specs.running.Plan.{Planned}
use Rattle.journal_ring.specs.running.Running.{Running, fresh, log_blocks_for, log_needs}
use Rattle.commit_actor.specs.Journal.{Plan, is_closing}
use Rattle.host_machine.specs.Causes as causes
use Rattle.host_machine.specs.Causes.{Cause}
use Rattle.host_machine.specs.Host.{Stepped, end_with, checkpoint, plan_sent, hindrance, fits, change, advance, commit_step}
use Rattle.host_machine.specs.State.{Ending, Answered, SessionFull, Begun, Thread, Host}
use Rattle.host_machine.specs.Views.{tree_after}
use Rattle.host_machine.specs.runs.Runs.{Event, Call, Commit, WriteBack, FlushStep, TakeStep, stepped, steps, FitsWords}
use Rattle.host_machine.specs.runs.laws.Kept.{IsSound as IsSoundHost}
use Rattle.host_machine.specs.runs.laws.Written.{AreWritten}
use Rattle.host_machine.proofs.RunsLemmas.RunHost.{step_keeps, step_fits}
use Rattle.host_machine.proofs.RunsLemmas.Walks.{BegunEnds, FreshEnds, caller_walk, commit_walk, writeback_walk, flush_walk, take_walk}
use Rattle.host_machine.proofs.Steps.{enough}
use Rattle.minix_host.specs.ByteCalls.{ByteCall}
use Rattle.minix_host.specs.Calls.{refusal, would_change, done_as}
use Rattle.minix_host.specs.Numbers.{number_in}
use Rattle.minix_host.specs.Sessions.{Opening, over, Stands}
use Rattle.minix_host.proofs.Promises.{promises, blocks_are_whole}
use Rattle.minix_host.proofs.Telling.{finds_room}
use Rattle.system_laws.specs.transaction_size.Sizes.{HasFew}
use Rattle.system_laws.proofs.TransactionSizeLemmas.AnyCall.{few_blocks, few_revokes}
use Rattle.system_laws.proofs.TransactionSizeLemmas.Sets.{HasRoom, share_after}
use Rattle.system_laws.proofs.TransactionSizeLemmas.Still.{still_quiet}

-- a set without none of its numbers
filter_none : (xs : List ℕ) → without_all xs [] ≡ xs
filter_none [] = refl
filter_none (x ∷ xs) = ap (λ (ys : List ℕ). x ∷ ys) (filter_none xs)

-- a call that nothing hinders, and that would change something, finds that the transaction can grow
gate_open : (hinders closing room lacks : Bool) (full lacking : Cause) → hinders ≡ true →
    (if not hinders then None else (if closing then Some causes.Closing else (if not room then Some full else (if lacks then Some lacking else None)))) ≡ None → room ≡ true
gate_open true false true lacks full lacking e free = refl
gate_open true false false lacks full lacking e free = cc
gate_open true true room lacks full lacking e free = cc
gate_open false closing room lacks full lacking e free = cc

module _ (s : Opening) (log : Ring) where
  abbrev H : Type 0
  H = Host VolumeNow ByteCall Reply

  -- The running transaction needs no more log blocks than its share, the calls that are still to come have lines, and the
  -- log lies where it lay.
  pub record KeepsShare (h : H) : Type 0 where
    pub share : log_needs s.writers h.journal.running ≤ s.quota
    pub rising : IsRising h.journal.running.touched
    pub lines : (th : Thread ByteCall) (c : ByteCall) → In th h.threads → In c th.calls → IsWellFormed c.call
    pub places : h.journal.ring.places ≡ log

  module _ (room : HasRoom s.writers) (first : (k : ℕ) → log_needs s.writers (fresh k) ≤ s.quota) (h : H) (sound : IsSoundHost (promises s) h) (kept : KeepsShare h) where
    abbrev volume : VolumeNow
    volume = h.volume

    -- thread t has these calls now
    set_lines : (t : ℕ) (now : Thread ByteCall) → ((c : ByteCall) → In c now.calls → IsWellFormed c.call) → (th : Thread ByteCall) (c : ByteCall) → In th (set h.threads t now) → In c th.calls → IsWellFormed c.call
    set_lines t now lines th c i j = ⊎_elim (λ k. kept.lines th c k j) (λ same. lines c (subst (λ (th : Thread ByteCall). In c th.calls) (sym same) j)) (In-set_cases h.threads t now th i)

    abbrev After : Stepped VolumeNow ByteCall Reply → Type 0
    After x = KeepsShare x.host

    -- ---- a thread's first call

    module _ (t : ℕ) (th : Thread ByteCall) (c : ByteCall) (rest : List ByteCall) (at : slice_get h.threads t ≡ Some th) (is : th.calls ≡ c ∷ rest) where
      in_thread : (d : ByteCall) → In d (c ∷ rest) → IsWellFormed d.call
      in_thread d i = kept.lines th d (slice_get-In h.threads t th at) (subst (In d) (sym is) i)

      rest_lines : (d : ByteCall) → In d rest → IsWellFormed d.call
      rest_lines d i = in_thread d (inr i)

      ends : (e : Ending Reply) → After (end_with (over s).model (over s).setup h t c rest e)
      ends e = record { share = kept.share; rising = kept.rising; lines = set_lines t (record { calls = rest; begun = None }) rest_lines; places = kept.places }

      begun_ends : (full : Bool) (b : Begun) → BegunEnds (over s).model (over s).setup full h t c rest b After
      begun_ends full b = record {
        done = ends (Answered (over s).model.ok);
        full_up = λ e. ends SessionFull;
        rests = λ why. kept;
        waits = λ w why. record { share = kept.share; rising = kept.rising; lines = kept.lines; places = kept.places };
        wants = λ w why. record { share = kept.share; rising = kept.rising; lines = kept.lines; places = kept.places };
        sends = λ next is_next free empty. record { share = kept.share; rising = kept.rising; lines = set_lines t _ in_thread; places = kept.places };
      }

      abbrev N : ℕ
      N = number_in (tree_of_now volume) (s.first + (length h.history + 1))

      -- what a call that is done adds
      module _ (accepted : refusal volume c.call ≡ None) (free : hindrance (over s).model (over s).setup h c ≡ None) where
        stands : Stands s volume (tree_after (over s).model h.history (length h.history))
        stands = sound.rules.2.images.0.stands

        finds : FindsRoom volume N c.call
        finds = finds_room volume stands.plain (s.first + (length h.history + 1)) c.call accepted (enough (over s).model (over s).setup h c free)

        abbrev blocks : List ℕ
        blocks = (called volume N h.journal.running.number c.call).change.touched.blocks

        abbrev gone : List ℕ
        gone = (called volume N h.journal.running.number c.call).change.touched.revoked

        share_now : log_blocks_for s.writers (length (without_all (with_all h.journal.running.touched blocks) gone)) (length (with_all h.journal.running.revoked gone)) ≤ s.quota
        share_now = elim (cases_Bool (would_change volume c.call)) [
          | inl changes ↦
              let grows = gate_open (would_change volume c.call) (is_closing h.journal.phase) (fits (over s).model (over s).setup h.journal.running) _ _ _ changes free in
              share_after s.writers room s.geometry.zmap s.quota h.journal.running.touched h.journal.running.revoked blocks gone kept.rising
              (leb-true _ _ grows) (subst (λ g. HasFew blocks (g + 12)) (ap (λ (g : Geometry). g.zmap) stands.geometry) (few_blocks volume N h.journal.running.number c.call finds (in_thread c (inl refl))))
              (few_revokes volume N h.journal.running.number c.call finds (in_thread c (inl refl)))
          | inr still ↦
              let quiet = still_quiet h.journal.running.number volume N c.call finds still in
              rw (quiet.blocks, quiet.revoked) (subst (λ xs. log_blocks_for s.writers (length xs) (length h.journal.running.revoked) ≤ s.quota) (sym (filter_none h.journal.running.touched)) kept.share)
        ]

        acted : After (end_with (over s).model (over s).setup (change (over s).model (over s).setup h c ((over s).model.apply volume (length h.history + 1) h.journal.running.number c)) t c rest
            (Answered ((over s).model.apply volume (length h.history + 1) h.journal.running.number c).reply))
        unfolding done_as
        acted = record {
          share = share_now;
          rising = rising-without_all (with_all h.journal.running.touched blocks) gone (rising-with_all h.journal.running.touched blocks kept.rising);
          lines = set_lines t (record { calls = rest; begun = None }) rest_lines;
          places = kept.places;
        }

      fresh_ends : FreshEnds (over s).model (over s).setup h t c rest After
      fresh_ends = record {
        refused = λ why e. ends (Answered why);
        begins = λ accepted kind. record { share = kept.share; rising = kept.rising; lines = set_lines t _ in_thread; places = kept.places };
        full_up = λ why e limit. ends SessionFull;
        rests = λ why. kept;
        wants = λ why. record { share = kept.share; rising = kept.rising; lines = kept.lines; places = kept.places };
        acts = λ accepted kind free. acted accepted free;
      }

    caller_share : (full : Bool) (t : ℕ) → After (advance (over s).model (over s).setup full h t)
    caller_share full t = caller_walk (over s).model (over s).setup full h t After kept (λ th c rest at is. record {
      stopped = λ e stop. ends t th c rest at is e;
      goes_on = λ b going begun. begun_ends t th c rest at is full b;
      starts = λ going begun. fresh_ends t th c rest at is;
    })

    -- ---- the actors

    same : (x : H) → x.journal.running ≡ h.journal.running → x.journal.ring.places ≡ h.journal.ring.places → x.threads ≡ h.threads → KeepsShare x
    same x running ring threads = record {
      share = subst (λ r. log_needs s.writers r ≤ s.quota) (sym running) kept.share;
      rising = subst (λ (r : Running). IsRising r.touched) (sym running) kept.rising;
      lines = subst (λ (ths : List (Thread ByteCall)). (th : Thread ByteCall) (c : ByteCall) → In th ths → In c th.calls → IsWellFormed c.call) (sym threads) kept.lines;
      places = ring ∙ kept.places;
    }

    checkpoint_share : (homes : List Logged) → KeepsShare (checkpoint (over s).model (over s).setup h homes)
    checkpoint_share [] = same _ refl refl refl
    checkpoint_share (x ∷ xs) = same _ refl refl refl

    plan_share : (p : Plan) (next : Planned) (rest : List Planned) → KeepsShare (plan_sent (over s).model (over s).setup h p next rest)
    plan_share p next [] = same _ refl refl refl
    plan_share p next (q ∷ qs) = same _ refl refl refl

    commit_share : (full : Bool) → KeepsShare (commit_step (over s).model (over s).setup full h).host
    commit_share full = commit_walk (over s).model (over s).setup full h KeepsShare (record {
      rests = kept;
      closes = same _ refl refl refl;
      sends_page = λ p limit free. same _ refl refl refl;
      checkpoints = λ limit free. checkpoint_share h.journal.ring.homes;
      builds = record { share = first (h.journal.running.number + 1); rising = tt; lines = kept.lines; places = kept.places };
      sends_plan = λ p next rest phase is limit free. plan_share p next rest;
    })

    step_share : (e : Event) → KeepsShare (stepped (over s) h e)
    step_share (Call full t) = caller_share full t
    step_share (Commit full) = commit_share full
    step_share (WriteBack full pick) = writeback_walk (over s).model (over s).setup full h KeepsShare kept (λ p ordered limit free. same _ refl refl refl) pick
    step_share (FlushStep full next) = flush_walk (over s).model (over s).setup full h KeepsShare kept (λ limit free. same _ refl refl refl) (λ c. same _ refl refl refl) next
    step_share (TakeStep next) = take_walk (over s).model (over s).setup false h KeepsShare kept (λ c. same _ refl refl refl) next

  -- what is known of a host after some steps of a session
  pub record IsKept (h : H) : Type 0 where
    pub sound : IsSoundHost (promises s) h
    pub words : FitsWords (over s) h
    pub share : KeepsShare h

  module _ (room : HasRoom s.writers) (first : (k : ℕ) → log_needs s.writers (fresh k) ≤ s.quota) (written : AreWritten s.format s.writers) where
    pub step_kept : (h : H) (e : Event) → IsKept h → IsKept (stepped (over s) h e)
    step_kept h e k = record {
      sound = step_keeps (promises s) written (blocks_are_whole s) h e k.sound k.words;
      words = step_fits (promises s) written (blocks_are_whole s) h e k.sound k.words;
      share = step_share room first h k.sound k.share e;
    }

    -- so it is along whole runs
    pub steps_kept : (h : H) (events : List Event) → IsKept h → IsKept (steps (over s) h events)
    steps_kept h [] k = k
    steps_kept h (e ∷ events) k = steps_kept (stepped (over s) h e) events (step_kept h e k)
