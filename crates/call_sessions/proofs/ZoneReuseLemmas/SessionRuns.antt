-- Sessions on a volume: over calls with bytes, and over calls as code has them.
use Rattle.std.proofs.Common.{◌≡◌, ℕ, Bool, false, List, [], ◌∷◌, length, sym, ap, subst, inl, inr, arith}
use Rattle.std.proofs.lemmas.List.{length-map}
use Rattle.log_model.specs.Marks.{Transaction}
use Rattle.tree_model.specs.declared.call.Call.{Call}
use Rattle.tree_model.specs.Histories.{maps_block}
use Rattle.tree_model.specs.declared.call.Reply.{Reply}
use Rattle.volume_steps.specs.Now.{VolumeNow}
use Rattle.crash_laws.specs.History.{History}
use Rattle.crash_laws.specs.Volumes.{WalkEnd}
use Rattle.journal_ring.specs.LogRing.{LogRing}
use Rattle.host_machine.specs.State.{Host}
use Rattle.host_machine.specs.laws.Contract.{noted_history, session}
use Rattle.host_machine.specs.laws.Reuse.{ReusesFreed, OrderlessCommitted}
use Rattle.host_machine.specs.runs.Runs.{Event, stepped, steps}
use Rattle.host_machine.specs.runs.laws.Written.{AreWritten}
use Rattle.minix_host.specs.ByteCalls.{ByteCall}
use Rattle.minix_host.specs.Runs.{IsOpenedVolume, HasEmptyJournal, opened_host}
use Rattle.minix_host.specs.Sessions.{Opening, over, Stands}
use Rattle.minix_host.proofs.OpenedVolumes.{is_opened, fits_words}
use Rattle.minix_host.proofs.Promises.{promises, blocks_are_whole}
use Rattle.call_sessions.specs.CallsAs.{entry_as}
use Rattle.call_sessions.specs.Sessions.{WriteBytes, plain_call, plain_host, call_over, opened_with}
use Rattle.call_sessions.proofs.CallsKept.{all_with_bytes, is_plain}
use Rattle.call_sessions.proofs.RunsAs.{steps_on, history_as}
use Rattle.call_sessions.specs.zone_reuse.Freeing.{IsGivenUp, FreesNow, Frees}
use Rattle.call_sessions.specs.zone_reuse.Reusing.{KeptWithEntry, ReusesZones}
use Rattle.call_sessions.proofs.ZoneReuseLemmas.RunSteps.{run_reuses}

module _ (s : Opening) where
  -- ---- calls without their proofs

  step_on : (h : Host VolumeNow ByteCall Reply) (x : Event) → stepped (call_over s) (plain_host h) x ≡ plain_host (stepped (over s) h x)
  step_on h x = steps_on plain_call (call_over s) h (x ∷ [])

  entries : (h : Host VolumeNow ByteCall Reply) → length (plain_host h).history ≡ length h.history
  entries h = length-map h.history (entry_as plain_call)

  frees_now : (h : Host VolumeNow ByteCall Reply) (x : Event) (e z : ℕ) → FreesNow (call_over s) (plain_host h) x e z → FreesNow (over s) h x e z
  frees_now h x e z f =
      let next = f.next in
      let made = f.made in
      let here = entries h in
      let there = entries (stepped (over s) h x) in
      let same = ap (λ (y : Host VolumeNow Call Reply). length y.history) (step_on h x) in
      record { next = omega arith; made = omega arith; given_up = subst (λ (y : Host VolumeNow Call Reply). IsGivenUp (call_over s) h.volume y.volume z) (step_on h x) f.given_up }

  frees_plain : (h : Host VolumeNow ByteCall Reply) (events : List Event) (e z : ℕ) → Frees (call_over s) (plain_host h) events e z → Frees (over s) h events e z
  frees_plain h [] e z f = absurd f
  frees_plain h (x ∷ events) e z (inl f) = inl (frees_now h x e z f)
  frees_plain h (x ∷ events) e z (inr f) = inr (frees_plain (stepped (over s) h x) events e z (subst (λ (y : Host VolumeNow Call Reply). Frees (call_over s) y events e z) (step_on h x) f))

  same_history : (h : Host VolumeNow ByteCall Reply) → noted_history (call_over s) (Stands s) (plain_host h).history h.cuts ≡ noted_history (over s) (Stands s) h.history h.cuts
  same_history h = history_as plain_call (call_over s).model h.history (over s).place h.cuts

  -- what holds with the proofs holds without them
  module _ (first : Host VolumeNow ByteCall Reply) (events : List Event) where
    abbrev last : Host VolumeNow ByteCall Reply
    last = steps (over s) first events

    abbrev freed_in : List Transaction → (ℕ → ℕ → Bool) → Host VolumeNow Call Reply → Type 0
    freed_in closed frees h = ReusesFreed (noted_history (call_over s) (Stands s) h.history h.cuts) (session (call_over s) (Stands s) closed h) frees

    abbrev orderless_in : List Transaction → Host VolumeNow Call Reply → Type 0
    orderless_in closed h = OrderlessCommitted (noted_history (call_over s) (Stands s) h.history h.cuts) (session (call_over s) (Stands s) closed h)

    abbrev kept_in : List Transaction → Host VolumeNow Call Reply → Type 0
    kept_in closed h = KeptWithEntry (noted_history (call_over s) (Stands s) h.history h.cuts) (session (call_over s) (Stands s) closed h) (Frees (call_over s) (plain_host first) events)

    end : steps (call_over s) (plain_host first) events ≡ plain_host last
    end = steps_on plain_call (call_over s) first events

    back : (P : History WalkEnd → Type 0) → P (noted_history (over s) (Stands s) last.history last.cuts) → P (noted_history (call_over s) (Stands s) (plain_host last).history last.cuts)
    back P x = subst P (sym (same_history last)) x

    reuses_plain : ReusesZones (over s) (Stands s) first events → ReusesZones (call_over s) (Stands s) (plain_host first) events
    reuses_plain was = record {
      freed = λ closed frees told.
          subst (freed_in closed frees) (sym end) (back (λ x. ReusesFreed x (session (over s) (Stands s) closed last) frees) (was.freed closed frees (λ e z fr. frees_plain first events e z (told e z fr))));
      orderless = λ closed. subst (orderless_in closed) (sym end) (back (λ x. OrderlessCommitted x (session (over s) (Stands s) closed last)) (was.orderless closed));
      kept = λ closed.
          subst (kept_in closed) (sym end)
          (back (λ x. KeptWithEntry x (session (over s) (Stands s) closed last) (Frees (call_over s) (plain_host first) events))
          (record {
            commit = λ m order p f i w z e t lt freed. (was.kept closed).commit m order p f i w z e t lt (frees_plain first events e z freed);
            recovered = λ m order p f i w z e t lt freed. (was.kept closed).recovered m order p f i w z e t lt (frees_plain first events e z freed);
          }));
    }

  -- ---- sessions

  module _ (v : VolumeNow) (ring : LogRing) (limit : ℕ) (written : AreWritten s.format s.writers) (o : IsOpenedVolume s v) (j : HasEmptyJournal s ring limit) (empty : (f i : ℕ) → maps_block s.tree.tree f i ≡ false) where
    byte_session : (programs : List (List ByteCall)) (events : List Event) → ReusesZones (over s) (Stands s) (opened_host s v ring limit programs) events
    byte_session programs events =
        run_reuses (promises s) written (blocks_are_whole s) v ring s.geometry.zones limit programs (is_opened s v o ring limit programs j) (fits_words s v o ring limit programs j) empty (omega arith) events

    pub session_reuses : (programs : List (List Call)) → WriteBytes programs → (events : List Event) → ReusesZones (call_over s) (Stands s) (opened_with s v ring limit programs) events
    session_reuses programs bytes events =
        subst (λ (h : Host VolumeNow Call Reply). ReusesZones (call_over s) (Stands s) h events) (sym (is_plain s v ring limit programs written o j bytes []))
        (reuses_plain (opened_host s v ring limit (all_with_bytes programs bytes)) events (byte_session (all_with_bytes programs bytes) events))
