-- In sessions on images that were made: transactions that are under way are committed, and barrier calls are answered.
use Rattle.std.specs.Prelude.{◌≡◌, ◌⊎◌, ℕ, zero, suc, ◌+◌, ◌<◌, ◌≤◌, Bool, true, false, List, [], ◌∷◌, ◌++◌, length, replicate, None, slice_get, slice_index_or}
use Rattle.std.proofs.lemmas.List.{append_assoc}
use Rattle.std.proofs.Common.{sym, ap, subst, ◌∙◌, inl, inr, arith}
use Rattle.blk_base.specs.laws.Members.{slice_get-push}
use Rattle.minix_layout.specs.declared.division.Geometry.{Geometry}
use Rattle.minix_layout.specs.declared.limits.TheConstants.{LEAST_JOURNAL, MOST_JOURNAL}
use Rattle.minix_layout.specs.Geometry.{IsSound}
use Rattle.line_grammar.specs.calls.WellFormed.{IsWellFormed}
use Rattle.tree_model.specs.declared.call.Call.{Call}
use Rattle.tree_model.specs.declared.call.Reply.{Reply}
use Rattle.tree_model.specs.declared.call.Reply.TheVariants as replies
use Rattle.volume_steps.specs.Now.{VolumeNow}
use Rattle.volume_steps.specs.Plain.{IsPlainNow}
use Rattle.volume_steps.specs.NewNow.{new_now}
use Rattle.flush_actor.specs.Kinds.{is_durable}
use Rattle.flush_actor.specs.Waits.{no_wait}
use Rattle.flush_actor.specs.Part.{has_stopped, is_over, at_limit}
use Rattle.flush_actor.specs.declared.wait.Wait.{Wait}
use Rattle.commit_actor.specs.Journal.{is_submitted}
use Rattle.host_machine.specs.State as machine
use Rattle.host_machine.specs.State.{Answered, Host}
use Rattle.crash_laws.specs.Volumes.{WalkEnd}
use Rattle.host_machine.specs.laws.Contract.{Over}
use Rattle.host_machine.specs.runs.Runs.{Event, Call as CallStep, Commit, stepped, steps}
use Rattle.minix_host.specs.ByteCalls.{ByteCall, HasBytes}
use Rattle.minix_host.specs.PlainTrees.{PlainTree}
use Rattle.minix_host.specs.Runs.{host_after}
use Rattle.minix_host.specs.Sessions.{over}
use Rattle.call_sessions.specs.Sessions.{call_over, made_now, made_ring, plain_host}
use Rattle.call_sessions.specs.power_cuts.calls.CallImages.{made_session}
use Rattle.call_sessions.specs.promises.Entries.{EndsAt}
use Rattle.call_sessions.proofs.PromisesLemmas.Origins.{steps_append}
use Rattle.system_laws.specs.progress.Commits.{IsUnderWay, wanted, closing, sending, IsThrough, committed, full, IsInBarrier, IsBarrierWaiting}
use Rattle.system_laws.specs.transaction_size.Sizes.{HaveLines}
use Rattle.system_laws.proofs.MadeSession as opened
use Rattle.system_laws.proofs.ProgressLemmas.CommitSteps.{under_way}
use Rattle.system_laws.proofs.ProgressLemmas.BegunSteps.{in_call}
use Rattle.system_laws.proofs.ProgressLemmas.Waiting.{Keeps, keeps_then, same, commit_keeps, done}
use Rattle.system_laws.proofs.TransactionSizeLemmas.MadeShare as made

module _ (g : Geometry) (journal : ℕ) (wide : Bool) (limit : ℕ) (programs : List (List Call)) (events : List Event) (sound : IsSound g) (least : LEAST_JOURNAL ≤ journal) (most : journal ≤ MOST_JOURNAL)
    (words : limit + journal < 4294967296) (lines : HaveLines programs) (bytes_of : (c : Call) → IsWellFormed c → HasBytes c) (new : IsPlainNow (new_now g)) where
  abbrev session : List Event → Host VolumeNow Call Reply
  session = made_session g journal wide limit programs

  abbrev now : Host VolumeNow ByteCall Reply
  now = host_after (made.o g journal wide limit programs events sound least most words lines bytes_of new) (made_now g) (made_ring journal) limit (made.byte_programs g journal wide limit programs events sound least most words lines bytes_of new) events

  -- the same session over calls with bytes
  same_after : (more : List Event) → session (events ++ more) ≡ plain_host (steps (over (made.o g journal wide limit programs events sound least most words lines bytes_of new)) now more)
  same_after more =
      opened.same_host g journal wide limit programs sound least most words (made.bytes g journal wide limit programs events sound least most words lines bytes_of new) new (events ++ more)
      ∙ ap plain_host (steps_append (over (made.o g journal wide limit programs events sound least most words lines bytes_of new)) _ events more)

  same_now : session events ≡ plain_host now
  same_now = opened.same_host g journal wide limit programs sound least most words (made.bytes g journal wide limit programs events sound least most words lines bytes_of new) new events

  with_bytes : (h : Host VolumeNow ByteCall Reply) (k : ℕ) → IsUnderWay (plain_host h) k → IsUnderWay h k
  with_bytes h k (wanted want none number) = wanted want none number
  with_bytes h k (closing is number) = closing is number
  with_bytes h k (sending p is number) = sending p is number

  without_bytes : (h : Host VolumeNow ByteCall Reply) (k : ℕ) → IsThrough h k → IsThrough (plain_host h) k
  without_bytes h k (committed t) = committed t
  without_bytes h k (full t) = full t

  pub commits : (k : ℕ) → is_over (session events).journal.flush ≡ false → IsUnderWay (session events) k → (n : ℕ) × IsThrough (session (events ++ replicate n (Commit false))) k
  commits k going way =
      let going_now = subst (λ (h : Host VolumeNow Call Reply). is_over h.journal.flush ≡ false) same_now going in
      let way_now = with_bytes now k (subst (λ (h : Host VolumeNow Call Reply). IsUnderWay h k) same_now way) in
      let r = under_way (made.o g journal wide limit programs events sound least most words lines bytes_of new) (made_ring journal).places (made.room g journal wide limit programs events sound least most words lines bytes_of new)
      (made.none_fits g journal wide limit programs events sound least most words lines bytes_of new) (opened.written g journal wide limit programs sound least most words (made.bytes g journal wide limit programs events sound least most words lines bytes_of new) new)
      (omega arith) now (record { kept = made.host_kept g journal wide limit programs events sound least most words lines bytes_of new; going = going_now }) k way_now in
      (r.0, subst (λ (h : Host VolumeNow Call Reply). IsThrough h k) (sym (same_after (replicate r.0 (Commit false)))) (without_bytes _ k r.1))

  -- ---- barrier calls

  abbrev m : Over WalkEnd PlainTree VolumeNow Call Reply
  m = call_over (made.o g journal wide limit programs events sound least most words lines bytes_of new)

  abbrev after : ℕ → Host VolumeNow Call Reply
  after n = session (events ++ replicate n (Commit false))

  commits_keep : (n : ℕ) (h : Host VolumeNow Call Reply) → Keeps m.model m.setup h (steps m h (replicate n (Commit false)))
  commits_keep zero h = same m.model m.setup h
  commits_keep (suc n) h = keeps_then m.model m.setup h (stepped m h (Commit false)) (steps m h (replicate (suc n) (Commit false))) (commit_keeps m.model m.setup h false) (commits_keep n (stepped m h (Commit false)))

  after_keeps : (n : ℕ) → Keeps m.model m.setup (session events) (after n)
  after_keeps n = subst (Keeps m.model m.setup (session events)) (sym (steps_append m _ events (replicate n (Commit false)))) (commits_keep n (session events))

  module _ (t : ℕ) (c : Call) (k : ℕ) (going : is_over (session events).journal.flush ≡ false) (waits : IsBarrierWaiting (session events) t c k) (no_need : (slice_index_or (session events).journal.flush.waits t no_wait).need ≡ None) where
    abbrev Ends : ℕ → Type 0
    Ends n = EndsAt (session (events ++ (replicate n (Commit false) ++ CallStep false t ∷ []))).history (length (after n).history) t c (Answered replies.Ok)

    -- where the transaction is through, a step of the thread answers
    answers : (n : ℕ) → is_submitted (after n).journal k ≡ true → Ends n
    answers n through =
        let k1 = after_keeps n in
        let w = k1.waits t waits.barrier in
        let call : IsInBarrier (after n) t c = record {
          called = in_call (session events) (after n) t c waits.call.called (ap (λ ths. slice_get ths t) k1.threads);
          barrier = waits.call.barrier;
        } in
        let step = done m.model m.setup (after n) t c call (ap has_stopped k1.taken ∙ going) k
        (ap (λ (w : Wait). is_durable w.kind) w ∙ waits.barrier) (ap (λ (w : Wait). w.need) w ∙ no_need) (ap (λ (w : Wait). w.target) w ∙ waits.target) through in
        let last : session (events ++ (replicate n (Commit false) ++ CallStep false t ∷ [])) ≡ stepped m (after n) (CallStep false t) =
        ap session (sym (append_assoc events (replicate n (Commit false)) (CallStep false t ∷ []))) ∙ steps_append m _ (events ++ replicate n (Commit false)) (CallStep false t ∷ []) in
        subst (λ (h : Host VolumeNow Call Reply). EndsAt h.history (length (after n).history) t c (Answered replies.Ok)) (sym (last ∙ step))
        (slice_get-push (after n).history (record { thread = t; call = c; what = machine.Ends (Answered replies.Ok) }))

    pub barrier_answered : IsUnderWay (session events) k ⊎ (is_submitted (session events).journal k ≡ true) → (n : ℕ) × ((at_limit (after n).journal.flush ≡ true) ⊎ Ends n)
    barrier_answered (inl way) = let r = commits k going way in (r.0, by r.0 r.1)
      where
        by : (n : ℕ) → IsThrough (after n) k → (at_limit (after n).journal.flush ≡ true) ⊎ Ends n
        by n (full e) = inl e
        by n (committed e) = inr (answers n e)
    barrier_answered (inr through) = (0, inr (answers 0 (subst (λ (h : Host VolumeNow Call Reply). is_submitted h.journal k ≡ true) (sym (steps_append m _ events [])) through)))
