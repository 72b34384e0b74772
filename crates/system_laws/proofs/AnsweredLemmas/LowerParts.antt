-- Each event of what is below the host leaves the whole session as it is, or lowers something.
use Rattle.std.specs.Prelude.{◌≡◌, [], ◌⊎◌, ℕ, suc, ◌+◌, ◌<◌, ◌≤◌, nat_lt, Bool, true, false, List, ◌∷◌, ◌++◌, length, drop, Option, Some, None, slice_get, refl, if◌then◌else◌}
use Rattle.std.specs.Option.{option_to_list}
use Rattle.std.proofs.Common.{sym, ap, subst, ◌∙◌, inl, inr, ⊎_elim, arith}
use Rattle.std.proofs.lemmas.Bool.{cases_Bool, cases_lt, false≢true, le-leb}
use Rattle.std.proofs.lemmas.List.{append-nil, length-append, drop_all}
use Rattle.order_model.specs.declared.command.Command.{Command}
use Rattle.order_model.specs.declared.completion.Completion.{Completion}
use Rattle.order_model.specs.declared.request.Kind.TheVariants as puts
use Rattle.order_model.specs.declared.request.Request.{Request}
use Rattle.order_model.specs.Machine.{Machine}
use Rattle.schedulers.specs.reassign.Scheduler.{SchedSteps, IsScheduler}
use Rattle.stack_core.specs.BlockLayer.{accepted_first, queued_or_kept_option, dispatched_from, given_first}
use Rattle.line_grammar.specs.declared.events.event.CoreEvent.{CoreEvent}
use Rattle.line_grammar.specs.declared.events.event.CoreEvent.TheVariants as events
use Rattle.tree_model.specs.declared.call.Call.{Call}
use Rattle.tree_model.specs.declared.call.Reply.{Reply}
use Rattle.volume_steps.specs.Now.{VolumeNow}
use Rattle.flush_actor.specs.Outcomes.{sent_between}
use Rattle.flush_actor.specs.Part.{FlushPart, at_limit}
use Rattle.flush_actor.specs.Steps.{flush_due, submit_flush, take_completion}
use Rattle.host_machine.specs.Host.{flush_step, with_flush}
use Rattle.host_machine.specs.Model.{Model}
use Rattle.host_machine.specs.State.{Host, Setup}
use Rattle.host_machine.specs.runs.Runs.{stepped}
use Rattle.host_machine.specs.runs.Runs as runs
use Rattle.minix_host.specs.Sessions.{Opening}
use Rattle.call_sessions.specs.Sessions.{call_over}
use Rattle.session_core.specs.run.machine.Machine.{SessionState, is_full, with_submitted, submission_full, layer_of, with_layer, received, flushed, completed, completed_option, answered_from, happens}
use Rattle.session_core.proofs.RunLemmas.MachineLemmas.Layer.{acceptable}
use Rattle.session_core.proofs.RunLemmas.MachineLemmas.Sending.{flush_idles}
use Rattle.system_laws.proofs.AnsweredLemmas.Emptied.{Stands}
use Rattle.system_laws.proofs.AnsweredLemmas.Going.{GoesOn}
use Rattle.system_laws.proofs.AnsweredLemmas.Rounds.{requests_left, host_left, one_if_some, submits, Less, by_host, by_way, by_work, by_back, on_its_way}
use Rattle.system_laws.proofs.AnsweredLemmas.SchedulerWaits.{fewer_wait}
use Rattle.system_laws.proofs.AnsweredLemmas.TakingSteps.{with_part, takes}
use Rattle.system_laws.proofs.AnsweredLemmas.Told.{taken_few}

-- an event of what is below the host
pub data IsBelow : CoreEvent → Type 0 where
  accepts : IsBelow events.Accept
  dispatches : IsBelow (events.Dispatch 0)
  receives : IsBelow events.Receive
  transfers : IsBelow (events.Transfer 0)
  persists : IsBelow (events.Persist 0)
  answers : IsBelow events.Answer
  flushes : IsBelow events.FlushStep

same_is_at_most : (a b : ℕ) → a ≡ b → a ≤ b
same_is_at_most a b e = omega (arith, e)

-- ---- a step of the flush actor, where a flush is due

module _ {T V C R : Type 0} (M : Model T V C R) (u : Setup) (h : Host V C R) (next : Option Completion) (due : flush_due h.journal.flush ≡ true) where
  flush_at_limit : (full : Bool) → at_limit h.journal.flush ≡ true → (flush_step M u full h next).host ≡ h
  flush_at_limit full limit = rw due (rw limit refl)

  flush_waits : at_limit h.journal.flush ≡ false → (flush_step M u true h next).host ≡ h
  flush_waits free = rw due (rw free refl)

  flush_goes : at_limit h.journal.flush ≡ false → (flush_step M u false h next).host ≡ with_flush M u h (submit_flush h.journal.flush)
  flush_goes free = rw due (rw free refl)

fewer_left : (f : FlushPart) → at_limit f ≡ false → requests_left (submit_flush f) < requests_left f
fewer_left f free =
    let n = length-append f.requests (record { id = length f.requests; kind = puts.Flush; ordered = true; barrier = true } ∷ []) in
    ⊎_elim (λ room. omega (arith, room, n)) (λ full. absurd (false≢true (sym free ∙ le-leb f.limit (length f.requests) full))) (cases_lt (length f.requests) f.limit)

module _ {K S : Type 0} (k : SchedSteps K) (m : Machine S) (left : S → ℕ) where
  less_on_way : (x r : SessionState K S) → x.host ≡ r.host → on_its_way k m left x < on_its_way k m left r → Less k m left x r
  less_on_way x r host less =
      by_way
      (same_is_at_most (requests_left x.host.journal.flush) (requests_left r.host.journal.flush) (ap (λ (h : Host VolumeNow Call Reply). requests_left h.journal.flush) host))
      (same_is_at_most (host_left x.host) (host_left r.host) (ap (λ (h : Host VolumeNow Call Reply). host_left h) host))
      less

module _ {K S : Type 0} (s : Opening) (k : SchedSteps K) (m : Machine S) (sched_valid : K → Type 0) (good : S → Type 0) (left : S → ℕ) (scheduler : IsScheduler k sched_valid) (going : GoesOn m good left) where
  abbrev X : Type 0
  X = SessionState K S

  abbrev Lower : X → X → Type 0
  Lower r x = (x ≡ r) ⊎ Less k m left x r

  module _ (r : X) (st : Stands s k m sched_valid good left scheduler going r) where
    accept : Lower r (happens s k m r events.Accept)
    accept = by (k.can_accept r.sched) refl
      where
        first : k.can_accept r.sched ≡ true → (waiting : List Request) → r.queues.submission ≡ waiting → Lower r (with_layer r (accepted_first k (layer_of r) waiting))
        first can [] is = inl refl
        first can (q ∷ qs) is =
            let step = (scheduler.accepts r.sched q st.holds.sched (acceptable r.host.journal.flush.requests r.host.journal.flush.limit r.queues (k.seen r.sched) (m.seen r.dev) st.holds.fits.requests q qs is) can).1 in
            let more = ap length step.waiting in
            let n = length-append (k.seen r.sched).waiting (q.id ∷ []) in
            let shorter = ap length is in
            inr (less_on_way k m left (with_layer r (accepted_first k (layer_of r) (q ∷ qs))) r refl (omega (arith, more, n, shorter)))

        by : (b : Bool) → k.can_accept r.sched ≡ b → Lower r (with_layer r (if b then accepted_first k (layer_of r) r.queues.submission else layer_of r))
        by true can = first can r.queues.submission refl
        by false can = inl refl

    dispatch : Lower r (happens s k m r (events.Dispatch 0))
    dispatch = by r.queues.kept refl
      where
        moves : (c : Command) → r.queues.kept ≡ Some c → (b : Bool) → Lower r (record r { queues = if b then record r.queues { kept = None; dispatched = r.queues.dispatched ++ c ∷ [] } else record r.queues { kept = Some c } })
        moves c is true =
            let one = ap one_if_some is in
            let n = length-append r.queues.dispatched (c ∷ []) in
            inr (less_on_way k m left (record r { queues = record r.queues { kept = None; dispatched = r.queues.dispatched ++ c ∷ [] } }) r refl (omega (arith, one, n)))
        moves c is false = inl (ap (λ (o : Option Command). record r { queues = record r.queues { kept = o } }) (sym is))

        comes : r.queues.kept ≡ None → (c : Command) → k.command r.sched 0 ≡ Some c → (b : Bool)
            → Lower r (record r { queues = if b then record r.queues { kept = None; dispatched = r.queues.dispatched ++ c ∷ [] } else record r.queues { kept = Some c }; sched = k.dispatched r.sched 0 })
        comes is c e true =
            let none = ap one_if_some is in
            let n = length-append r.queues.dispatched (c ∷ []) in
            let fewer = fewer_wait k sched_valid scheduler r.sched st.holds.sched c e in
            inr (less_on_way k m left (record r { queues = record r.queues { kept = None; dispatched = r.queues.dispatched ++ c ∷ [] }; sched = k.dispatched r.sched 0 }) r refl (omega (arith, none, n, fewer)))
        comes is c e false =
            let none = ap one_if_some is in
            let fewer = fewer_wait k sched_valid scheduler r.sched st.holds.sched c e in
            inr (less_on_way k m left (record r { queues = record r.queues { kept = Some c }; sched = k.dispatched r.sched 0 }) r refl (omega (arith, none, fewer)))

        next : r.queues.kept ≡ None → (o : Option Command) → k.command r.sched 0 ≡ o → Lower r (record r { queues = queued_or_kept_option r.queues o; sched = k.dispatched r.sched 0 })
        next is None e = inl (ap (λ (p : K). record r { sched = p }) (scheduler.stays r.sched 0 e))
        next is (Some c) e = comes is c e (nat_lt (length r.queues.dispatched) r.queues.capacity)

        by : (o : Option Command) → r.queues.kept ≡ o → Lower r (with_layer r (dispatched_from k (layer_of r) 0 o))
        by (Some c) is = moves c is (nat_lt (length r.queues.dispatched) r.queues.capacity)
        by None is = next is (k.command r.sched 0) refl

    receive : Lower r (happens s k m r events.Receive)
    receive = by (m.has_room r.dev)
      where
        given : (cs : List Command) → r.queues.dispatched ≡ cs → Lower r (received m r (given_first r.queues cs))
        given [] is = inl refl
        given (c ∷ cs) is = let fewer = ap length is in inr (less_on_way k m left (record r { queues = record r.queues { dispatched = cs }; dev = m.received r.dev c }) r refl (omega (arith, fewer)))

        by : (b : Bool) → Lower r (if b then received m r (given_first r.queues r.queues.dispatched) else r)
        by true = given r.queues.dispatched refl
        by false = inl refl

    -- ---- the device

    less_work : (d : S) → left d < left r.dev → Lower r (record r { dev = d })
    less_work d less = inr (by_work (omega arith) (omega arith) (omega arith) less)

    transfer : Lower r (happens s k m r (events.Transfer 0))
    transfer =
        ⊎_elim (λ can. less_work (m.transferred r.dev 0) (going.transferred r.dev 0 st.holds.dev can)) (λ none. inl (ap (λ (d : S). record r { dev = d }) (going.device.no_transfer r.dev 0 none)))
        (cases_lt 0 (m.can_transfer r.dev))

    persist : Lower r (happens s k m r (events.Persist 0))
    persist =
        ⊎_elim (λ can. less_work (m.persisted r.dev 0) (going.persisted r.dev 0 st.holds.dev can)) (λ none. inl (ap (λ (d : S). record r { dev = d }) (going.device.no_persist r.dev 0 none)))
        (cases_lt 0 (m.can_persist r.dev))

    -- ---- completions

    answer : Lower r (happens s k m r events.Answer)
    answer = by r.kept refl
      where
        goes : (c : Completion) → r.kept ≡ Some c → (b : Bool) → Lower r (if b then record r { kept = Some c } else record r { completions = r.completions ++ c ∷ []; kept = None })
        goes c is true = inl (ap (λ (o : Option Completion). record r { kept = o }) (sym is))
        goes c is false =
            let one = ap one_if_some is in
            let n = length-append r.completions (c ∷ []) in
            inr (by_back (omega arith) (omega arith) (omega arith) (omega arith) (omega (arith, one, n)))

        comes : r.kept ≡ None → (c : Completion) → m.next_answer r.dev ≡ Some c → Lower r (completed (record r { dev = m.answered r.dev }) c)
        comes is c e = each (is_full r.queues.capacity r.completions)
          where
            none : one_if_some r.kept ≡ 0
            none = ap one_if_some is

            same : left (m.answered r.dev) ≤ left r.dev
            same = same_is_at_most (left (m.answered r.dev)) (left r.dev) (going.answered r.dev st.holds.dev)

            fewer : length (m.seen r.dev).waiting ≡ suc (length (m.seen (m.answered r.dev)).waiting)
            fewer = ap length ((going.device.answers r.dev st.holds.dev).1.waiting ∙ ap (λ o. option_to_list o ++ (m.seen (m.answered r.dev)).waiting) e)

            each : (b : Bool) → Lower r (if b then record r { dev = m.answered r.dev; kept = Some c } else record r { dev = m.answered r.dev; completions = r.completions ++ c ∷ []; kept = None })
            each true = inr (by_back (omega arith) (omega arith) (omega arith) same (omega (arith, none, fewer)))
            each false = let n = length-append r.completions (c ∷ []) in inr (by_back (omega arith) (omega arith) (omega arith) same (omega (arith, none, fewer, n)))

        next : r.kept ≡ None → (o : Option Completion) → m.next_answer r.dev ≡ o → Lower r (completed_option (record r { dev = m.answered r.dev }) o)
        next is None e = inl (ap (λ (d : S). record r { dev = d }) (going.unanswered r.dev e))
        next is (Some c) e = comes is c e

        by : (o : Option Completion) → r.kept ≡ o → Lower r (answered_from m r o)
        by (Some c) is = goes c is (is_full r.queues.capacity r.completions)
        by None is = next is (m.next_answer r.dev) refl

    -- ---- the flush actor

    abbrev f : FlushPart
    f = r.host.journal.flush

    abbrev H : Type 0
    H = Host VolumeNow Call Reply

    -- after a step of the flush actor
    abbrev stepping : H → List Completion → X
    stepping h cs = record r { host = h; queues = with_submitted r.queues (sent_between f h.journal.flush); completions = cs }

    few : length f.taken ≤ f.limit
    few = taken_few s k m sched_valid good left scheduler going r st

    may_step : happens s k m r events.FlushStep ≡ flushed s r
    may_step = ap (λ (b : Bool). if b then flushed s r else r) (le-leb (length f.taken) f.limit few)

    same_number : r.queues.next + 0 ≡ r.queues.next
    same_number = omega arith

    none_sent : stepping r.host r.completions ≡ r
    none_sent =
        ap (λ (l : List Request). record r { queues = with_submitted r.queues l }) (drop_all (length f.requests) f.requests (omega arith))
        ∙ (ap (λ (n : ℕ). record r { queues = record r.queues { next = n; submission = r.queues.submission ++ [] } }) same_number
        ∙ ap (λ (l : List Request). record r { queues = record r.queues { submission = l } }) (append-nil r.queues.submission))

    -- where a flush is due, no completion is taken
    where_due : flush_due f ≡ true → (full : Bool) → submission_full r ≡ full → (h : H) → (flush_step (call_over s).model (call_over s).setup full r.host (slice_get r.completions 0)).host ≡ h → happens s k m r events.FlushStep ≡ stepping h r.completions
    where_due due full is h goes =
        may_step
        ∙ (ap (λ (b : Bool). stepping (stepped (call_over s) r.host (runs.FlushStep b (slice_get r.completions 0))) (if flush_due f then r.completions else drop 1 r.completions)) is
        ∙ (ap (λ (x : H). stepping x (if flush_due f then r.completions else drop 1 r.completions)) goes
        ∙ ap (λ (b : Bool). stepping h (if b then r.completions else drop 1 r.completions)) due))

    where_idle : flush_due f ≡ false → r.completions ≡ [] → happens s k m r events.FlushStep ≡ r
    where_idle due none =
        may_step
        ∙ (ap (λ (l : List Completion). stepping (stepped (call_over s) r.host (runs.FlushStep (submission_full r) (slice_get l 0))) (if flush_due f then l else drop 1 l)) none
        ∙ (ap (λ (x : H). stepping x (if flush_due f then [] else [])) (flush_idles (call_over s).model (call_over s).setup (submission_full r) r.host due)
        ∙ (ap (λ (b : Bool). stepping r.host (if b then [] else [])) due
        ∙ (ap (stepping r.host) (sym none) ∙ none_sent))))

    less_back : (c : Completion) (cs : List Completion) → r.completions ≡ c ∷ cs → Less k m left (with_part s k m r (take_completion c f) cs) r
    less_back c cs first =
        let fewer = ap length first in
        let same = ap length (ap (λ l. r.queues.submission ++ l) (drop_all (length f.requests) f.requests (omega arith)) ∙ append-nil r.queues.submission) in
        by_back (omega arith) (omega arith) (omega (arith, same)) (omega arith) (omega (arith, fewer))

    flush : Lower r (happens s k m r events.FlushStep)
    flush = by (cases_Bool (flush_due f))
      where
        by_room : flush_due f ≡ true → at_limit f ≡ false → (full : Bool) → submission_full r ≡ full → Lower r (happens s k m r events.FlushStep)
        by_room due free true is = inl (where_due due true is r.host (flush_waits (call_over s).model (call_over s).setup r.host (slice_get r.completions 0) due free) ∙ none_sent)
        by_room due free false is =
            subst (Lower r) (sym (where_due due false is (with_flush (call_over s).model (call_over s).setup r.host (submit_flush f)) (flush_goes (call_over s).model (call_over s).setup r.host (slice_get r.completions 0) due free)))
            (inr (by_host (submits (fewer_left f free))))

        by_due : flush_due f ≡ true → (at_limit f ≡ true) ⊎ (at_limit f ≡ false) → Lower r (happens s k m r events.FlushStep)
        by_due due (inl limit) = inl (where_due due (submission_full r) refl r.host (flush_at_limit (call_over s).model (call_over s).setup r.host (slice_get r.completions 0) due (submission_full r) limit) ∙ none_sent)
        by_due due (inr free) = by_room due free (submission_full r) refl

        by_queue : flush_due f ≡ false → (cs : List Completion) → r.completions ≡ cs → Lower r (happens s k m r events.FlushStep)
        by_queue due [] none = inl (where_idle due none)
        by_queue due (c ∷ cs) first = subst (Lower r) (sym (takes s k m r c cs first due few)) (inr (less_back c cs first))

        by : (flush_due f ≡ true) ⊎ (flush_due f ≡ false) → Lower r (happens s k m r events.FlushStep)
        by (inl due) = by_due due (cases_Bool (at_limit f))
        by (inr due) = by_queue due r.completions refl

  pub lowers : (r : SessionState K S) → Stands s k m sched_valid good left scheduler going r → (e : CoreEvent) → IsBelow e → (happens s k m r e ≡ r) ⊎ Less k m left (happens s k m r e) r
  lowers r st e accepts = accept r st
  lowers r st e dispatches = dispatch r st
  lowers r st e receives = receive r st
  lowers r st e transfers = transfer r st
  lowers r st e persists = persist r st
  lowers r st e answers = answer r st
  lowers r st e flushes = flush r st
