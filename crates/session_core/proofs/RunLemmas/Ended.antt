-- Where a session begins and ends.
use Rattle.std.proofs.Common.{◌≡◌, ℕ, [], ◌++◌, length, sym, ap, subst, ◌∙◌}
use Rattle.order_model.specs.Device.{completed, origin_ids}
use Rattle.order_model.specs.Machine.{Machine}
use Rattle.schedulers.specs.reassign.Scheduler.{SchedSteps}
use Rattle.tree_model.specs.declared.call.Call.{Call}
use Rattle.tree_model.specs.declared.call.Reply.{Reply}
use Rattle.volume_steps.specs.Now.{VolumeNow}
use Rattle.stack_core.specs.Headline.{KeepsOrder}
use Rattle.host_core.specs.Now.{HostNow}
use Rattle.host_machine.specs.State.{Host}
use Rattle.minix_host.specs.Sessions.{Opening}
use Rattle.session_core.specs.run.machine.Machine.{SessionState, opened_session, run_events}
use Rattle.session_core.specs.declared.run.session.SessionEnd.{SessionEnd}
use Rattle.session_core.specs.run.code.Queues.{QueuesNow, no_items, layer_queues}
use Rattle.session_core.specs.run.code.Session.{session_of}
use Rattle.session_core.specs.run.Beginning.{Beginning, CanBegin}
use Rattle.session_core.specs.run.code.Reached.{IsHostOf, IsReached}
use Rattle.session_core.specs.run.End.{IsEndOf, EndKeepsOrder}

module _ {K S : Type 0} (b : Beginning K S) (h : HostNow) (q : QueuesNow) (capacity : ℕ) where
  -- the parts as they were made
  pub opened_parts : IsHostOf b [] h → b.start.capacity ≡ capacity → q ≡ no_items capacity → session_of h q b.sched b.dev ≡ opened_session b.opening b.start b.sched b.dev
  opened_parts host room made =
      let parts : Host VolumeNow Call Reply → ℕ → QueuesNow → SessionState K S = λ x n now. record {
        host = x;
        queues = layer_queues n now;
        sched = b.sched;
        dev = b.dev;
        completions = now.completions;
        kept = now.kept;
      } in
      ap (λ now. parts h.host (length h.host.journal.flush.requests) now) (made ∙ ap no_items (sym room))
      ∙ ap (λ (x : Host VolumeNow Call Reply). parts x (length x.journal.flush.requests) (no_items b.start.capacity)) host.host

  pub opened_reached : (k : SchedSteps K) (m : Machine S) (sched_valid : K → Type 0) (dev_valid : S → Type 0) → CanBegin k m sched_valid dev_valid b → IsHostOf b [] h → b.start.capacity ≡ capacity → q ≡ no_items capacity
      → IsReached k m sched_valid dev_valid b h (session_of h q b.sched b.dev)
  unfolding run_events
  opened_reached k m sched_valid dev_valid begins host room made = record { begins = begins; events = []; state = opened_parts host room made; steps = []; host = host }

-- the order that the law says of the device holds of what the power cut left
pub order_at_end : {K S : Type 0} (k : SchedSteps K) (m : Machine S) (s : Opening) (r : SessionState K S) (end : SessionEnd) → IsEndOf k m r end
    → KeepsOrder s.image r.host.journal.flush.requests (m.seen r.dev).surface (origin_ids (m.seen r.dev).took (m.seen r.dev).origins) (completed (m.seen r.dev)) → EndKeepsOrder m s r end
order_at_end k m s r end is order =
    subst (λ told. KeepsOrder s.image r.host.journal.flush.requests end.cut.image end.cut.origins (told ++ (m.seen r.dev).waiting)) (sym is.trace.sent)
    (subst (λ origins. KeepsOrder s.image r.host.journal.flush.requests end.cut.image origins (completed (m.seen r.dev))) (sym is.origins)
    (subst (λ image. KeepsOrder s.image r.host.journal.flush.requests image (origin_ids (m.seen r.dev).took (m.seen r.dev).origins) (completed (m.seen r.dev))) (sym is.image) order))
