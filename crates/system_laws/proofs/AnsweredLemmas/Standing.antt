-- A session goes on standing, whatever happens in it: queues and scheduler hold as much as before.
use Rattle.std.specs.Prelude.{◌≡◌, ℕ, ◌==◌, ◌<◌, ◌≤◌, Bool, true, false, List, [], ◌∷◌, ◌++◌, length, nat_lt, Option, Some, None, refl, if◌then◌else◌}
use Rattle.std.proofs.Common.{sym, ap, subst, ◌∙◌, append_assoc}
use Rattle.order_model.specs.declared.command.Command.{Command}
use Rattle.order_model.specs.declared.completion.Completion.{Completion}
use Rattle.order_model.specs.declared.request.Request.{Request}
use Rattle.order_model.specs.Machine.{Machine}
use Rattle.schedulers.specs.reassign.Scheduler.{SchedSteps, IsScheduler}
use Rattle.stack_core.specs.BlockLayer.{QueuesState, accepted_first, queued_or_kept, queued_or_kept_option, dispatched_from, given_first}
use Rattle.line_grammar.specs.declared.events.event.CoreEvent.{CoreEvent}
use Rattle.line_grammar.specs.declared.events.event.CoreEvent.TheVariants as events
use Rattle.host_machine.specs.runs.Runs.{Event}
use Rattle.minix_host.specs.Sessions.{Opening}
use Rattle.session_core.specs.run.machine.Machine.{SessionState, is_full, received, completed, completed_option, answered_from, may_flush, flushed, by_host, call_step, layer_of, happens, run_events, host_event, host_events}
use Rattle.session_core.proofs.RunLemmas.MachineLemmas.Events.{Holds}
use Rattle.session_core.proofs.RunLemmas.MachineLemmas.Layer.{acceptable}
use Rattle.system_laws.proofs.AnsweredLemmas.Emptied.{Stands}
use Rattle.system_laws.proofs.AnsweredLemmas.Going.{GoesOn}

module _ {K S : Type 0} (s : Opening) (k : SchedSteps K) (m : Machine S) where
  -- the steps of the host in one event more
  pub hosts_push : (r : SessionState K S) (es : List CoreEvent) (e : CoreEvent) → host_events s k m r (es ++ e ∷ []) ≡ host_events s k m r es ++ host_event (run_events s k m r es) e
  unfolding host_events run_events
  hosts_push r [] e = sym (none (host_event r e))
    where
      none : (hs : List Event) → hs ≡ hs ++ []
      none [] = refl
      none (h ∷ hs) = ap (λ (l : List Event). h ∷ l) (none hs)
  hosts_push r (x ∷ es) e = ap (λ (l : List Event). host_event r x ++ l) (hosts_push (happens s k m r x) es e) ∙ sym (append_assoc (host_event r x) (host_events s k m (happens s k m r x) es) (host_event (run_events s k m (happens s k m r x) es) e))

  -- ---- how much queues and scheduler hold

  queued : (q : QueuesState) (c : Command) → (queued_or_kept q c).capacity ≡ q.capacity
  queued q c = by (nat_lt (length q.dispatched) q.capacity)
    where
      by : (b : Bool) → (if b then record q { kept = None; dispatched = q.dispatched ++ c ∷ [] } else record q { kept = Some c }).capacity ≡ q.capacity
      by true = refl
      by false = refl

  completed_same : (r : SessionState K S) (c : Completion) → (completed r c).queues ≡ r.queues
  completed_same r c = by (is_full r.queues.capacity r.completions)
    where
      by : (b : Bool) → (if b then record r { kept = Some c } else record r { completions = r.completions ++ c ∷ []; kept = None }).queues ≡ r.queues
      by true = refl
      by false = refl

  completed_sched : (r : SessionState K S) (c : Completion) → (completed r c).sched ≡ r.sched
  completed_sched r c = by (is_full r.queues.capacity r.completions)
    where
      by : (b : Bool) → (if b then record r { kept = Some c } else record r { completions = r.completions ++ c ∷ []; kept = None }).sched ≡ r.sched
      by true = refl
      by false = refl

  module _ (sched_valid : K → Type 0) (good : S → Type 0) (left : S → ℕ) (scheduler : IsScheduler k sched_valid) (going : GoesOn m good left) where
    -- queues and scheduler of x hold as much as those of r
    record HoldsLike (r x : SessionState K S) : Type 0 where
      queues : x.queues.capacity ≡ r.queues.capacity
      sched : (k.seen x.sched).capacity ≡ (k.seen r.sched).capacity

    like : (r : SessionState K S) (x : SessionState K S) → x.queues.capacity ≡ r.queues.capacity → x.sched ≡ r.sched → HoldsLike r x
    like r x queues sched = record { queues = queues; sched = ap (λ p. (k.seen p).capacity) sched }

    module _ (r : SessionState K S) (v : Holds s k m sched_valid good scheduler going.device r) where
      accepts : HoldsLike r (happens s k m r events.Accept)
      accepts = by (k.can_accept r.sched) refl
        where
          first : k.can_accept r.sched ≡ true → (waiting : List Request) → r.queues.submission ≡ waiting → ((accepted_first k (layer_of r) waiting).queues.capacity ≡ r.queues.capacity) × ((k.seen (accepted_first k (layer_of r) waiting).sched).capacity ≡ (k.seen r.sched).capacity)
          first can [] is = (refl, refl)
          first can (q ∷ qs) is = (refl, (scheduler.accepts r.sched q v.sched (acceptable r.host.journal.flush.requests r.host.journal.flush.limit r.queues (k.seen r.sched) (m.seen r.dev) v.fits.requests q qs is) can).1.capacity)

          by : (b : Bool) → k.can_accept r.sched ≡ b → HoldsLike r (record r { queues = (if b then accepted_first k (layer_of r) r.queues.submission else layer_of r).queues; sched = (if b then accepted_first k (layer_of r) r.queues.submission else layer_of r).sched })
          by true can = let p = first can r.queues.submission refl in record { queues = p.0; sched = p.1 }
          by false can = like r r refl refl

      dispatches : (pick : ℕ) → HoldsLike r (happens s k m r (events.Dispatch pick))
      dispatches pick = by r.queues.kept
        where
          option : (q : QueuesState) (o : Option Command) → (queued_or_kept_option q o).capacity ≡ q.capacity
          option q None = refl
          option q (Some c) = queued q c

          by : (o : Option Command) → HoldsLike r (record r { queues = (dispatched_from k (layer_of r) pick o).queues; sched = (dispatched_from k (layer_of r) pick o).sched })
          by (Some c) = like r _ (queued r.queues c) refl
          by None = record { queues = option r.queues (k.command r.sched pick); sched = (scheduler.dispatches r.sched pick v.sched).1.capacity }

      receives : HoldsLike r (happens s k m r events.Receive)
      receives = by (m.has_room r.dev)
        where
          given : (cs : List Command) → HoldsLike r (received m r (given_first r.queues cs))
          given [] = like r r refl refl
          given (c ∷ cs) = like r _ refl refl

          by : (b : Bool) → HoldsLike r (if b then received m r (given_first r.queues r.queues.dispatched) else r)
          by true = given r.queues.dispatched
          by false = like r r refl refl

      answers : HoldsLike r (happens s k m r events.Answer)
      answers = by r.kept
        where
          next : (o : Option Completion) → HoldsLike r (completed_option (record r { dev = m.answered r.dev }) o)
          next None = like r _ refl refl
          next (Some c) = like r _ (ap (λ (q : QueuesState). q.capacity) (completed_same (record r { dev = m.answered r.dev }) c)) (completed_sched (record r { dev = m.answered r.dev }) c)

          by : (o : Option Completion) → HoldsLike r (answered_from m r o)
          by (Some c) = like r _ (ap (λ (q : QueuesState). q.capacity) (completed_same r c)) (completed_sched r c)
          by None = next (m.next_answer r.dev)

      all_alike : (e : CoreEvent) → HoldsLike r (happens s k m r e)
      all_alike (events.Call thread) = by (thread == 0)
        where
          by : (b : Bool) → HoldsLike r (if b then r else by_host s r (call_step r thread))
          by true = like r r refl refl
          by false = like r _ refl refl
      all_alike events.Commit = like r _ refl refl
      all_alike (events.Writeback pick) = like r _ refl refl
      all_alike events.FlushStep = by (may_flush r)
        where
          by : (b : Bool) → HoldsLike r (if b then flushed s r else r)
          by true = like r _ refl refl
          by false = like r r refl refl
      all_alike events.Submit = like r r refl refl
      all_alike events.Accept = accepts
      all_alike (events.Dispatch pick) = dispatches pick
      all_alike events.Receive = receives
      all_alike (events.Transfer pick) = like r _ refl refl
      all_alike (events.Persist pick) = like r _ refl refl
      all_alike events.Answer = answers

    -- ---- along a run

    -- where the parts fit after each event, a session that stood stands
    pub all_stand : (r : SessionState K S) → 1 ≤ r.queues.capacity → 1 ≤ (k.seen r.sched).capacity → ((es : List CoreEvent) → Holds s k m sched_valid good scheduler going.device (run_events s k m r es)) → (es : List CoreEvent) → Stands s k m sched_valid good left scheduler going (run_events s k m r es)
    unfolding run_events
    all_stand r queues waits fit [] =
        let v = fit [] in
        record {
          holds = v;
          placed = λ i q at block body put. subst (λ (b : List (List ℕ)). block < length b) v.image ((v.fits.requests.fitting i q at).within block body put);
          queues = queues;
          waits = waits;
        }
    all_stand r queues waits fit (e ∷ es) =
        let l = all_alike r (fit []) e in
        all_stand (happens s k m r e) (subst (λ n. 1 ≤ n) (sym l.queues) queues) (subst (λ n. 1 ≤ n) (sym l.sched) waits) (λ more. fit (e ∷ more)) es
