-- Sessions whose programs write bytes are sessions over calls with bytes.
use Rattle.std.proofs.Common.{◌≡◌, ℕ, ◌+◌, Bool, List, [], ◌∷◌, length, map, Option, Some, None, slice_get, option_map, refl, sym, ap, subst, ◌∙◌, inl, inr}
use Rattle.std.proofs.lemmas.List.{length-map}
use Rattle.std.proofs.lemmas.Option.{slice_get-map, same_Some, none-some}
use Rattle.blk_base.specs.Members.{In}
use Rattle.tree_model.specs.declared.call.Call.{Call}
use Rattle.tree_model.specs.declared.call.Reply.{Reply}
use Rattle.tree_model.specs.declared.call.Reply.TheVariants as replies
use Rattle.volume_steps.specs.Now.{VolumeNow}
use Rattle.journal_ring.specs.LogRing.{LogRing}
use Rattle.host_machine.specs.Host.{advance}
use Rattle.host_machine.specs.Outcomes.{Done}
use Rattle.host_machine.specs.State.{Begun, Thread, Host}
use Rattle.host_machine.specs.runs.Promises.{IsAnswered}
use Rattle.host_machine.specs.runs.Runs.{Event, steps}
use Rattle.host_machine.specs.runs.laws.Kept.{IsSound as IsSoundHost}
use Rattle.host_machine.specs.runs.laws.Written.{AreWritten}
use Rattle.host_machine.proofs.RunsLemmas.RunHost.{opened_has, steps_keep}
use Rattle.minix_host.specs.ByteCalls.{ByteCall, HasBytes}
use Rattle.minix_host.specs.Runs.{IsOpenedVolume, HasEmptyJournal, opened_host, host_after}
use Rattle.minix_host.specs.Sessions.{Opening, over, Stands}
use Rattle.minix_host.proofs.OpenedVolumes.{is_opened, fits_words}
use Rattle.minix_host.proofs.Promises.{promises, blocks_are_whole}
use Rattle.minix_host.proofs.SessionsKept.{session_runs, answered_in_run, flushes_in_run}
use Rattle.call_sessions.specs.CallsAs.{thread_as}
use Rattle.call_sessions.specs.Sessions.{WriteBytes, plain_call, plain_host, call_over, host_behind, KeepsCalls}
use Rattle.call_sessions.proofs.StepsAs.{advance_as}
use Rattle.call_sessions.proofs.RunsAs.{opened_as, steps_on}
use Rattle.call_sessions.proofs.SessionsAs.{answered_as, session_as}

-- ---- programs

with_bytes : (p : List Call) → ((c : Call) → In c p → HasBytes c) → List ByteCall
with_bytes [] h = []
with_bytes (c ∷ cs) h = record { call = c; bytes = h c (inl refl) } ∷ with_bytes cs (λ d i. h d (inr i))

same_calls : (p : List Call) (h : (c : Call) → In c p → HasBytes c) → map plain_call (with_bytes p h) ≡ p
unfolding with_bytes
same_calls [] h = refl
same_calls (c ∷ cs) h = ap (λ (ds : List Call). c ∷ ds) (same_calls cs (λ d i. h d (inr i)))

pub all_with_bytes : (ps : List (List Call)) → WriteBytes ps → List (List ByteCall)
all_with_bytes [] h = []
all_with_bytes (p ∷ ps) h = with_bytes p (λ c i. h p c (inl refl) i) ∷ all_with_bytes ps (λ q c i j. h q c (inr i) j)

same_programs : (ps : List (List Call)) (h : WriteBytes ps) → map (map plain_call) (all_with_bytes ps h) ≡ ps
unfolding all_with_bytes
same_programs [] h = refl
same_programs (p ∷ ps) h =
    ap (λ (x : List Call). x ∷ map (map plain_call) (all_with_bytes ps (λ q c i j. h q c (inr i) j))) (same_calls p (λ c i. h p c (inl refl) i))
    ∙ ap (λ (xs : List (List Call)). p ∷ xs) (same_programs ps (λ q c i j. h q c (inr i) j))

-- ---- threads

thread_was : (o : Option (Thread ByteCall)) (th : Thread Call) → option_map (thread_as plain_call) o ≡ Some th → (x : Thread ByteCall) × (o ≡ Some x) × (x.begun ≡ th.begun)
thread_was None th e = absurd (none-some th e)
thread_was (Some x) th e = (x, refl, ap (λ (y : Thread Call). y.begun) (same_Some (thread_as plain_call x) th e))

-- ---- sessions

module _ (s : Opening) (v : VolumeNow) (ring : LogRing) (limit : ℕ) (programs : List (List Call)) (written : AreWritten s.format s.writers) (o : IsOpenedVolume s v) (j : HasEmptyJournal s ring limit) (bytes : WriteBytes programs) where
  abbrev byte_programs : List (List ByteCall)
  byte_programs = all_with_bytes programs bytes

  abbrev byte_host : List Event → Host VolumeNow ByteCall Reply
  byte_host events = host_after s v ring limit byte_programs events

  pub is_plain : (events : List Event) → host_behind s v ring limit programs events ≡ plain_host (byte_host events)
  is_plain events =
      ap (λ ps. host_behind s v ring limit ps events) (sym (same_programs programs bytes))
      ∙ ap (λ h. steps (call_over s) h events) (opened_as plain_call (call_over s) v ring s.geometry.zones limit byte_programs)
      ∙ steps_on plain_call (call_over s) (opened_host s v ring limit byte_programs) events

  pub calls_kept : (events : List Event) → KeepsCalls s (host_behind s v ring limit programs events)
  calls_kept events =
      subst (KeepsCalls s) (sym (is_plain events))
      (session_as s (byte_host events) (session_runs s v ring limit byte_programs written o j events) (flushes_in_run s v ring limit byte_programs written o j events))

  steps_plain : (events more : List Event) → steps (call_over s) (host_behind s v ring limit programs events) more ≡ plain_host (steps (over s) (byte_host events) more)
  steps_plain events more = ap (λ h. steps (call_over s) h more) (is_plain events) ∙ steps_on plain_call (call_over s) (byte_host events) more

  pub calls_answered : (events more : List Event) (full : Bool) (t : ℕ) (th : Thread Call) (b : Begun) → slice_get (host_behind s v ring limit programs events).threads t ≡ Some th → th.begun ≡ Some b →
      (advance (call_over s).model (call_over s).setup full (host_behind s v ring limit programs events) t).step ≡ Done replies.Ok →
      IsAnswered (call_over s) (Stands s) (steps (call_over s) (host_behind s v ring limit programs events) more) (length (host_behind s v ring limit programs events).history + 1) b
  calls_answered events more full t th b at begun done =
      let h = byte_host events in
      let was = thread_was (slice_get h.threads t) th (sym (slice_get-map (thread_as plain_call) h.threads t) ∙ ap (λ x. slice_get x.threads t) (sym (is_plain events)) ∙ at) in
      let step : (advance (over s).model (over s).setup full h t).step ≡ Done replies.Ok =
      ap (λ x. x.step) (sym (advance_as plain_call (call_over s).model (call_over s).setup full h t)) ∙ ap (λ x. (advance (call_over s).model (call_over s).setup full x t).step) (sym (is_plain events)) ∙ done in
      let byte = answered_in_run s v ring limit byte_programs written o j events more full t was.0 b was.1 (was.2 ∙ begun) step in
      subst (λ x. IsAnswered (call_over s) (Stands s) x (length (host_behind s v ring limit programs events).history + 1) b) (sym (steps_plain events more))
      (subst (λ n. IsAnswered (call_over s) (Stands s) (plain_host (steps (over s) h more)) (n + 1) b)
      (sym (ap (λ x. length x.history) (is_plain events) ∙ length-map h.history _))
      (answered_as s (steps (over s) h more) (length h.history + 1) b byte))

  sound_byte : (events : List Event) → IsSoundHost (promises s) (byte_host events)
  sound_byte events =
      steps_keep (promises s) written (blocks_are_whole s) (opened_host s v ring limit byte_programs) events
      (opened_has (promises s) v ring s.geometry.zones limit byte_programs (is_opened s v o ring limit byte_programs j)) (fits_words s v o ring limit byte_programs j)

  -- the volume's division stays
  pub same_geometry : (events : List Event) → (host_behind s v ring limit programs events).volume.geometry ≡ s.geometry
  same_geometry events = ap (λ h. h.volume.geometry) (is_plain events) ∙ (sound_byte events).rules.2.images.0.stands.geometry
