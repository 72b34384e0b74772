-- Whole runs of a session: which steps of the host they are, and what holds after them.
use Rattle.std.proofs.Common.{◌≡◌, ℕ, ◌+◌, ◌==◌, ◌≤◌, zero, suc, Bool, true, false, List, [], ◌∷◌, ◌++◌, length, take, Option, Some, None, refl, sym, ap, subst, ◌∙◌, arith, if◌then◌else◌, append_assoc}
use Rattle.std.specs.Option.{option_to_list}
use Rattle.std.proofs.lemmas.List.{append-nil, take_at}
use Rattle.std.proofs.lemmas.Option.{none-some}
use Rattle.blk_base.specs.Members.{In}
use Rattle.blk_base.specs.laws.Members.{In-append_left}
use Rattle.order_model.specs.declared.command.Command.{Command}
use Rattle.order_model.specs.declared.completion.Completion.{Completion}
use Rattle.order_model.specs.declared.request.Request.{Request}
use Rattle.order_model.specs.Carrying.{SchedSeen, AreAtIds, Fits}
use Rattle.order_model.specs.Device.{Seen}
use Rattle.order_model.specs.Device as device_seen
use Rattle.order_model.specs.Machine.{Machine}
use Rattle.schedulers.specs.reassign.Scheduler.{SchedSteps, IsScheduler}
use Rattle.stack_core.specs.BlockLayer.{QueuesState, given_first}
use Rattle.stack_core.specs.Core.{times}
use Rattle.line_grammar.specs.declared.events.event.CoreEvent.{CoreEvent}
use Rattle.line_grammar.specs.declared.events.event.CoreEvent.TheVariants as events
use Rattle.tree_model.specs.declared.call.Call.{Call}
use Rattle.tree_model.specs.declared.call.Reply.{Reply}
use Rattle.volume_steps.specs.Now.{VolumeNow}
use Rattle.host_machine.specs.State.{Host}
use Rattle.host_machine.specs.runs.Runs.{Event, stepped, steps}
use Rattle.host_machine.specs.runs.laws.Written.{AreWritten}
use Rattle.host_machine.proofs.RunsLemmas.StartHost.{none_begun}
use Rattle.minix_host.specs.Calls.{kind_of}
use Rattle.minix_host.specs.Runs.{IsOpenedVolume, HasEmptyJournal}
use Rattle.minix_host.specs.Sessions.{Opening}
use Rattle.call_sessions.specs.Sessions.{WriteBytes, call_over, opened_with, host_behind}
use Rattle.call_sessions.proofs.CallsKept.{calls_kept}
use Rattle.session_core.specs.run.machine.Machine.{SessionState, Start, opened_session, is_full, completed, completed_option, answered_from, received, flushed, flush_event, by_host, call_step, may_flush, happens, run_events, host_event, host_events, repeated}
use Rattle.session_core.specs.run.machine.Fits.{IsDevice, RequestsFit, CompletionsFit, CanStart}
use Rattle.session_core.proofs.RunLemmas.MachineLemmas.Blocks.{have_blocks, stays_like}
use Rattle.session_core.proofs.RunLemmas.MachineLemmas.Events.{Holds, Placed, happens_holds}

-- ---- lists of steps and of events

steps_append : (s : Opening) (h : Host VolumeNow Call Reply) (xs ys : List Event) → steps (call_over s) h (xs ++ ys) ≡ steps (call_over s) (steps (call_over s) h xs) ys
steps_append s h [] ys = refl
steps_append s h (x ∷ xs) ys = steps_append s (stepped (call_over s) h x) xs ys

module _ {K S : Type 0} (s : Opening) (k : SchedSteps K) (m : Machine S) where
  pub events_append : (r : SessionState K S) (xs ys : List CoreEvent) → run_events s k m r (xs ++ ys) ≡ run_events s k m (run_events s k m r xs) ys
  unfolding run_events
  events_append r [] ys = refl
  events_append r (x ∷ xs) ys = events_append (happens s k m r x) xs ys

  pub events_repeat : (n : ℕ) (r : SessionState K S) (xs : List CoreEvent) → run_events s k m r (repeated n xs) ≡ times n (λ x. run_events s k m x xs) r
  unfolding run_events
  events_repeat zero r xs = refl
  events_repeat (suc n) r xs = events_append r xs (repeated n xs) ∙ events_repeat n (run_events s k m r xs) xs

  -- ---- the host's part

  completed_host : (r : SessionState K S) (c : Completion) → (completed r c).host ≡ r.host
  completed_host r c = by (is_full r.queues.capacity r.completions)
    where
      by : (b : Bool) → (if b then record r { kept = Some c } else record r { completions = r.completions ++ c ∷ []; kept = None }).host ≡ r.host
      by true = refl
      by false = refl

  answered_host : (r : SessionState K S) (o : Option Completion) → (answered_from m r o).host ≡ r.host
  answered_host r (Some c) = completed_host r c
  answered_host r None = by (m.next_answer r.dev)
    where
      by : (o : Option Completion) → (completed_option (record r { dev = m.answered r.dev }) o).host ≡ r.host
      by None = refl
      by (Some c) = completed_host (record r { dev = m.answered r.dev }) c

  received_host : (r : SessionState K S) (o : Option (Command × QueuesState)) → (received m r o).host ≡ r.host
  received_host r None = refl
  received_host r (Some g) = refl

  happens_host : (r : SessionState K S) (e : CoreEvent) → (happens s k m r e).host ≡ steps (call_over s) r.host (host_event r e)
  happens_host r (events.Call thread) = by (thread == 0)
    where
      by : (b : Bool) → (if b then r else by_host s r (call_step r thread)).host ≡ steps (call_over s) r.host (if b then [] else call_step r thread ∷ [])
      by true = refl
      by false = refl
  happens_host r events.Commit = refl
  happens_host r (events.Writeback pick) = refl
  happens_host r events.FlushStep = by (may_flush r)
    where
      by : (b : Bool) → (if b then flushed s r else r).host ≡ steps (call_over s) r.host (if b then flush_event r ∷ [] else [])
      by true = refl
      by false = refl
  happens_host r events.Submit = refl
  happens_host r events.Accept = refl
  happens_host r (events.Dispatch pick) = refl
  happens_host r events.Receive = by (m.has_room r.dev)
    where
      by : (b : Bool) → (if b then received m r (given_first r.queues r.queues.dispatched) else r).host ≡ r.host
      by true = received_host r (given_first r.queues r.queues.dispatched)
      by false = refl
  happens_host r (events.Transfer pick) = refl
  happens_host r (events.Persist pick) = refl
  happens_host r events.Answer = answered_host r r.kept

  pub run_host : (r : SessionState K S) (es : List CoreEvent) → (run_events s k m r es).host ≡ steps (call_over s) r.host (host_events s k m r es)
  unfolding run_events host_events
  run_host r [] = refl
  run_host r (e ∷ es) =
      run_host (happens s k m r e) es ∙ ap (λ h. steps (call_over s) h (host_events s k m (happens s k m r e) es)) (happens_host r e)
      ∙ sym (steps_append s r.host (host_event r e) (host_events s k m (happens s k m r e) es))

  module _ (sched_valid : K → Type 0) (dev_valid : S → Type 0) (scheduler : IsScheduler k sched_valid) (device : IsDevice m dev_valid) where
    abbrev HoldsAt : SessionState K S → Type 0
    HoldsAt r = Holds s k m sched_valid dev_valid scheduler device r

    -- ---- where it is opened

    pub opened_holds : (b : Start) (sched : K) (dev : S) → sched_valid sched → dev_valid dev → CanStart s b (k.seen sched) (m.seen dev) → HoldsAt (opened_session s b sched dev)
    opened_holds b sched dev ok can start = record {
      sched = ok;
      dev = can;
      image = start.image;
      fits = record {
        requests = record {
          counted = refl;
          submitted = append-nil (k.seen sched).accepted ∙ start.scheduler.accepted;
          sent = start.scheduler.sent_out ∙ ap (λ (l : List Command). l ++ [] ++ []) (sym start.took);
          fitting = λ i q at. absurd (none-some q at);
          few = omega arith;
          scheduler = start.scheduler.requests;
          device = start.ids;
        };
        completions = start.sent;
        capacity = record { submission = omega arith; dispatched = omega arith; completions_are = omega arith };
        taken = omega arith;
      };
    }

    -- ---- a run

    module _ (b : Start) (written : AreWritten s.format s.writers) (o : IsOpenedVolume s b.volume) (j : HasEmptyJournal s b.ring b.limit) (bytes : WriteBytes b.programs) (blocks : s.geometry.zones + b.ring.places.past ≤ length s.image) where
      abbrev at : List Event → Host VolumeNow Call Reply
      at steps_done = host_behind s b.volume b.ring b.limit b.programs steps_done

      placed : (done : List Event) (r : SessionState K S) → r.host ≡ at done → Placed s k m sched_valid dev_valid scheduler device r
      placed done r is =
          let kept = calls_kept s b.volume b.ring b.limit b.programs written o j bytes done in
          let like = stays_like (call_over s) (opened_with s b.volume b.ring b.limit b.programs) (none_begun kind_of b.programs) done in
          subst (λ (h : Host VolumeNow Call Reply). Placed s k m sched_valid dev_valid scheduler device (record r { host = h })) (sym is)
          (have_blocks (call_over s).program _ kept.rules.order (length s.image) (subst (λ x. s.geometry.zones + x.past ≤ length s.image) (sym like.places) blocks))

      pub run_holds : (done : List Event) (r : SessionState K S) → r.host ≡ at done → HoldsAt r → (es : List CoreEvent) → HoldsAt (run_events s k m r es)
      unfolding run_events
      run_holds done r is v [] = v
      run_holds done r is v (e ∷ es) =
          let next = happens_host r e ∙ ap (λ h. steps (call_over s) h (host_event r e)) is ∙ sym (steps_append s (opened_with s b.volume b.ring b.limit b.programs) done (host_event r e)) in
          run_holds (done ++ host_event r e) (happens s k m r e) next
          (happens_holds s k m sched_valid dev_valid scheduler device r e (placed (done ++ host_event r e) (happens s k m r e) next) v) es

-- ---- the order

-- what the law from requests to the medium asks for
pub requests_at_ids : (rs : List Request) (limit : ℕ) (q : QueuesState) (p : SchedSeen) (d : Seen) → RequestsFit rs limit q p d → AreAtIds rs
requests_at_ids rs limit q p d v i r at = (v.fitting i r at).named

pub prefixes : (rs : List Request) (limit : ℕ) (q : QueuesState) (p : SchedSeen) (d : Seen) → RequestsFit rs limit q p d → Fits rs p d
prefixes rs limit q p d v = record {
  accepted = (length p.accepted, sym (ap (take (length p.accepted)) (sym v.submitted) ∙ take_at p.accepted q.submission (length p.accepted) refl));
  took = (length d.took, sym (ap (take (length d.took)) (v.sent ∙ append_assoc d.took q.dispatched (option_to_list q.kept)) ∙ take_at d.took (q.dispatched ++ option_to_list q.kept) (length d.took) refl));
}

pub taken_were_sent : (taken completions : List Completion) (kept : Option Completion) (d : Seen) → CompletionsFit taken completions kept d → (c : Completion) → In c taken → In c (device_seen.completed d)
taken_were_sent taken completions kept d fits c i =
    In-append_left d.sent d.waiting c (subst (In c) (sym (fits ∙ append_assoc taken completions (option_to_list kept))) (In-append_left taken (completions ++ option_to_list kept) c i))
