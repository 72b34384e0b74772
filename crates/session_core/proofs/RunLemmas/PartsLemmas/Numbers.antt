-- The requests of a host: as if none of them was accepted yet.
use Rattle.std.proofs.Common.{◌≡◌, ℕ, ◌+◌, ◌≤◌, Bool, true, false, List, [], ◌∷◌, ◌++◌, length, Option, Some, None, refl, sym, ap, subst, ◌∙◌, arith}
use Rattle.std.proofs.lemmas.Option.{none-some}
use Rattle.order_model.specs.declared.completion.Completion.{Completion}
use Rattle.order_model.specs.Carrying.{SchedSeen}
use Rattle.order_model.specs.Device.{Seen}
use Rattle.stack_core.specs.BlockLayer.{QueuesState}
use Rattle.tree_model.specs.declared.call.Call.{Call}
use Rattle.tree_model.specs.declared.call.Reply.{Reply}
use Rattle.journal_ring.specs.LogRing.{LogRing}
use Rattle.volume_steps.specs.Now.{VolumeNow}
use Rattle.flush_actor.specs.Part.{FlushPart}
use Rattle.flush_actor.specs.Steps.{flush_due}
use Rattle.host_machine.specs.State.{Host}
use Rattle.host_machine.specs.runs.Runs.{Event, stepped, steps}
use Rattle.host_machine.specs.runs.Runs as runs
use Rattle.host_machine.specs.runs.laws.Written.{AreWritten}
use Rattle.host_machine.proofs.RunsLemmas.StartHost.{none_begun}
use Rattle.minix_host.specs.Calls.{kind_of}
use Rattle.minix_host.specs.Runs.{IsOpenedVolume, HasEmptyJournal}
use Rattle.minix_host.specs.Sessions.{Opening}
use Rattle.call_sessions.specs.Sessions.{WriteBytes, call_over, opened_with, host_behind}
use Rattle.call_sessions.proofs.CallsKept.{calls_kept}
use Rattle.session_core.specs.run.machine.Fits.{RequestsFit}
use Rattle.session_core.proofs.RunLemmas.MachineLemmas.Blocks.{have_blocks, stays_like}
use Rattle.session_core.proofs.RunLemmas.MachineLemmas.HostFits.{HaveBlocks, submitted_fits, limit_same}
use Rattle.session_core.proofs.RunLemmas.MachineLemmas.Sending.{Sends, advance_sends, commit_sends, writeback_sends, flush_sends, flush_takes, flush_idles}

module _ (image : List (List ℕ)) (limit : ℕ) where
  -- a scheduler that accepted nothing, and a device that took nothing
  abbrev none_accepted : SchedSeen
  none_accepted = record { limit = limit; capacity = 0; accepted = []; waiting = []; blocked = false; sent_out = [] }

  abbrev none_taken : Seen
  none_taken = record { base = image; limit = limit; depth = 0; cut_at = None; fail_at = None; took = []; moved = []; surface = image; origins = []; sent = []; waiting = []; off = false; failed = false; steps = 0; transfers_made = 0; faults = 0 }

  -- the requests are numbered, as many as there may be
  pub record AreFew (f : FlushPart) : Type 0 where
    pub limit_is : f.limit ≡ limit
    pub queues : QueuesState
    pub fit : RequestsFit f.requests limit queues none_accepted none_taken

  sent_few : (full : Bool) (old new : FlushPart) → Sends full old new → HaveBlocks (length image) new.requests → AreFew old → AreFew new
  sent_few full old new sends there v = record {
    limit_is = limit_same old new sends ∙ v.limit_is;
    queues = _;
    fit = submitted_fits limit v.queues none_accepted none_taken full old new sends v.limit_is there v.fit;
  }

module _ (s : Opening) (limit : ℕ) where
  abbrev Now : Type 0
  Now = Host VolumeNow Call Reply

  flush_few : (full : Bool) (h : Now) (next : Option Completion) → HaveBlocks (length s.image) (stepped (call_over s) h (runs.FlushStep full next)).journal.flush.requests → AreFew s.image limit h.journal.flush → AreFew s.image limit (stepped (call_over s) h (runs.FlushStep full next)).journal.flush
  flush_few full h next there v = by (flush_due h.journal.flush) next refl there
    where
      by : (b : Bool) (next : Option Completion) → flush_due h.journal.flush ≡ b → HaveBlocks (length s.image) (stepped (call_over s) h (runs.FlushStep full next)).journal.flush.requests → AreFew s.image limit (stepped (call_over s) h (runs.FlushStep full next)).journal.flush
      by true next due there = sent_few s.image limit full h.journal.flush (stepped (call_over s) h (runs.FlushStep full next)).journal.flush (flush_sends (call_over s).model (call_over s).setup full h next due) there v
      by false None due there = subst (λ (x : Now). AreFew s.image limit x.journal.flush) (sym (flush_idles (call_over s).model (call_over s).setup full h due)) v
      by false (Some c) due there =
          subst (λ (x : Now). AreFew s.image limit x.journal.flush) (sym (flush_takes (call_over s).model (call_over s).setup full h c due))
          (record { limit_is = v.limit_is; queues = v.queues; fit = v.fit })

  step_few : (h : Now) (e : Event) → HaveBlocks (length s.image) (stepped (call_over s) h e).journal.flush.requests → AreFew s.image limit h.journal.flush → AreFew s.image limit (stepped (call_over s) h e).journal.flush
  step_few h (runs.Call full t) there v = sent_few s.image limit full h.journal.flush (stepped (call_over s) h (runs.Call full t)).journal.flush (advance_sends (call_over s).model (call_over s).setup full h t) there v
  step_few h (runs.Commit full) there v = sent_few s.image limit full h.journal.flush (stepped (call_over s) h (runs.Commit full)).journal.flush (commit_sends (call_over s).model (call_over s).setup full h) there v
  step_few h (runs.WriteBack full pick) there v = sent_few s.image limit full h.journal.flush (stepped (call_over s) h (runs.WriteBack full pick)).journal.flush (writeback_sends (call_over s).model (call_over s).setup full h pick) there v
  step_few h (runs.FlushStep full next) there v = flush_few full h next there v
  step_few h (runs.TakeStep None) there v = v
  step_few h (runs.TakeStep (Some c)) there v = record { limit_is = v.limit_is; queues = v.queues; fit = v.fit }

  module _ (v : VolumeNow) (ring : LogRing) (programs : List (List Call)) (written : AreWritten s.format s.writers) (o : IsOpenedVolume s v) (j : HasEmptyJournal s ring limit) (bytes : WriteBytes programs) (blocks : s.geometry.zones + ring.places.past ≤ length s.image) where
    abbrev first : Now
    first = opened_with s v ring limit programs

    abbrev at : List Event → Now
    at done = host_behind s v ring limit programs done

    placed : (done : List Event) → HaveBlocks (length s.image) (at done).journal.flush.requests
    placed done =
        let kept = calls_kept s v ring limit programs written o j bytes done in
        let like = stays_like (call_over s) first (none_begun kind_of programs) done in
        have_blocks (call_over s).program _ kept.rules.order (length s.image) (subst (λ x. s.geometry.zones + x.past ≤ length s.image) (sym like.places) blocks)

    more : (h : Now) (xs : List Event) (e : Event) → steps (call_over s) h (xs ++ e ∷ []) ≡ stepped (call_over s) (steps (call_over s) h xs) e
    more h [] e = refl
    more h (x ∷ xs) e = more (stepped (call_over s) h x) xs e

    joined : (xs : List Event) (e : Event) (ys : List Event) → (xs ++ e ∷ []) ++ ys ≡ xs ++ e ∷ ys
    joined [] e ys = refl
    joined (x ∷ xs) e ys = ap (λ l. x ∷ l) (joined xs e ys)

    run_few : (done todo : List Event) → AreFew s.image limit (at done).journal.flush → AreFew s.image limit (at (done ++ todo)).journal.flush
    run_few done [] v = subst (λ l. AreFew s.image limit (at l).journal.flush) (sym (nil done)) v
      where
        nil : (l : List Event) → l ++ [] ≡ l
        nil [] = refl
        nil (x ∷ xs) = ap (λ r. x ∷ r) (nil xs)
    run_few done (e ∷ es) v =
        let next = more first done e in
        let there = subst (λ (h : Now). HaveBlocks (length s.image) h.journal.flush.requests) next (placed (done ++ e ∷ [])) in
        subst (λ l. AreFew s.image limit (at l).journal.flush) (joined done e es)
        (run_few (done ++ e ∷ []) es (subst (λ (h : Now). AreFew s.image limit h.journal.flush) (sym next) (step_few (at done) e there v)))

    pub requests_few : (events : List Event) → AreFew s.image limit (at events).journal.flush
    requests_few events = run_few [] events (record {
      limit_is = refl;
      queues = record { next = 0; capacity = 0; submission = []; kept = None; dispatched = [] };
      fit = record { counted = refl; submitted = refl; sent = refl; fitting = λ i q at. absurd (none-some q at); few = omega arith; scheduler = refl; device = omega arith };
    })
