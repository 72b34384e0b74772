-- What holds of each state that a session reaches, and how one event leads to the next one.
use Rattle.std.proofs.Common.{◌≡◌, ℕ, ◌+◌, ◌-◌, ◌==◌, ◌≤◌, true, false, List, [], ◌∷◌, ◌++◌, length, Option, slice_get, nat_le, refl, sym, ap, ap₂, subst, ◌∙◌, arith}
use Rattle.order_model.specs.declared.command.Command.{Command}
use Rattle.order_model.specs.declared.completion.Completion.{Completion}
use Rattle.order_model.specs.declared.request.Request.{Request}
use Rattle.order_model.specs.Device.{IsReceivable}
use Rattle.order_model.specs.Machine.{Machine}
use Rattle.schedulers.specs.reassign.Scheduler.{SchedSteps, IsAcceptable, IsScheduler}
use Rattle.stack_core.specs.BlockLayer.{BlockLayer, layer_accepted, layer_dispatched}
use Rattle.line_grammar.specs.declared.events.event.CoreEvent.{CoreEvent}
use Rattle.line_grammar.specs.declared.events.event.CoreEvent.TheVariants as events
use Rattle.flush_actor.specs.Outcomes.{sent_between}
use Rattle.tree_model.specs.declared.call.Call.{Call}
use Rattle.tree_model.specs.declared.call.Reply.{Reply}
use Rattle.volume_steps.specs.Now.{VolumeNow}
use Rattle.host_machine.specs.Host.{advance, commit_step, writeback, flush_step}
use Rattle.host_machine.specs.Model.{Model}
use Rattle.host_machine.specs.State.{Host, Setup}
use Rattle.host_core.specs.Now.{HostNow, with_host, model_now, setup_now}
use Rattle.host_machine.specs.runs.Runs.{Event, stepped}
use Rattle.host_machine.specs.runs.Runs as runs
use Rattle.minix_host.specs.PlainTrees.{PlainTree}
use Rattle.call_sessions.specs.Sessions.{call_over}
use Rattle.session_core.proofs.RunLemmas.HostsInSession.{model_is, setup_is, call_goes_on, commit_goes_on, writeback_goes_on, flush_goes_on}
use Rattle.session_core.specs.run.machine.Machine.{SessionState, opened_session, is_full, left_over, submission_full, by_host, call_step, flush_event, may_flush, flushed, layer_of, with_layer, happens, run_events}
use Rattle.session_core.specs.run.machine.Fits.{IsDevice}
use Rattle.session_core.proofs.RunLemmas.MachineLemmas.Events.{Holds}
use Rattle.session_core.proofs.RunLemmas.MachineLemmas.Layer.{acceptable, first_receivable}
use Rattle.session_core.proofs.RunLemmas.MachineLemmas.SessionRuns.{opened_holds, run_holds, events_append}
use Rattle.session_core.specs.run.code.Queues.{QueuesNow, with_sent, layer_queues}
use Rattle.session_core.specs.run.code.Session.{session_of}
use Rattle.session_core.specs.run.Beginning.{Beginning, CanBegin}
use Rattle.session_core.specs.run.code.Reached.{IsHostOf, IsReached, state_after}

-- the test of the flush step, as the code does it
pub within_limit : (taken limit : ℕ) → taken ≤ limit → nat_le taken limit ≡ true
within_limit taken limit le = grind (arith, le)

some_thread : (n : ℕ) → 1 ≤ n → n == 0 ≡ false
some_thread n le = grind (arith, le)

-- without those of thread 0
pub called_is : {K S : Type 0} (b : Beginning K S) (k : SchedSteps K) (m : Machine S) (r : SessionState K S) (thread : ℕ) → thread == 0 ≡ false → happens b.opening k m r (events.Call thread) ≡ by_host b.opening r (call_step r thread)
called_is b k m r thread e = rw e refl

module _ {K S : Type 0} (k : SchedSteps K) (m : Machine S) (sched_valid : K → Type 0) (dev_valid : S → Type 0) (scheduler : IsScheduler k sched_valid) (device : IsDevice m dev_valid) (b : Beginning K S) where
  abbrev AllHold : SessionState K S → Type 0
  AllHold r = Holds b.opening k m sched_valid dev_valid scheduler device r

  abbrev At : HostNow → SessionState K S → Type 0
  At h r = IsReached k m sched_valid dev_valid b h r

  abbrev next : SessionState K S → CoreEvent → SessionState K S
  next r e = happens b.opening k m r e

  -- ---- what holds

  after_holds : CanBegin k m sched_valid dev_valid b → (es : List CoreEvent) → AllHold (state_after k m b es)
  after_holds c es =
      run_holds b.opening k m sched_valid dev_valid scheduler device b.start c.written c.opened c.journal c.bytes c.starts.blocks [] (opened_session b.opening b.start b.sched b.dev) refl
      (opened_holds b.opening k m sched_valid dev_valid scheduler device b.start b.sched b.dev c.sched_is c.dev_is c.starts) es

  pub reached_holds : (h : HostNow) (r : SessionState K S) → At h r → AllHold r
  reached_holds h r at = subst AllHold (sym at.state) (after_holds at.begins at.events)

  -- one event more
  next_state : (h : HostNow) (r : SessionState K S) (e : CoreEvent) → (at : At h r) → next r e ≡ state_after k m b (at.events ++ e ∷ [])
  unfolding run_events
  next_state h r e at = ap (λ x. next x e) at.state ∙ sym (events_append b.opening k m (opened_session b.opening b.start b.sched b.dev) at.events (e ∷ []))

  next_holds : (h : HostNow) (r : SessionState K S) (e : CoreEvent) → At h r → AllHold (next r e)
  next_holds h r e at = subst AllHold (sym (next_state h r e at)) (after_holds at.begins (at.events ++ e ∷ []))

  -- an event led from there to here
  pub record Leads (r : SessionState K S) (e : CoreEvent) (h : HostNow) (now : SessionState K S) : Type 0 where
    pub step : now ≡ next r e
    pub reached : At h now

  led : (h new : HostNow) (r now : SessionState K S) (e : CoreEvent) (steps : List Event) → At h r → now ≡ next r e → IsHostOf b steps new → Leads r e new now
  led h new r now e steps at did host = record {
    step = did;
    reached = record {
      begins = at.begins;
      events = at.events ++ e ∷ [];
      state = did ∙ next_state h r e at;
      steps = steps;
      host = host;
    };
  }

  -- one that the host has no part in
  pub led_below : (h : HostNow) (r now : SessionState K S) (e : CoreEvent) → At h r → now ≡ next r e → Leads r e h now
  led_below h r now e at did = led h h r now e at.steps at did at.host

  -- ---- at the parts of the code

  module _ (h : HostNow) (q : QueuesNow) (sched : K) (dev : S) (at : At h (session_of h q sched dev)) where
    abbrev now : SessionState K S
    now = session_of h q sched dev

    -- the scheduler may be given the first request that waits
    pub may_accept : (r : Request) (more : List Request) → q.submission ≡ r ∷ more → IsAcceptable (k.seen sched) r
    may_accept r more waits =
        let v = reached_holds h now at in
        acceptable h.host.journal.flush.requests h.host.journal.flush.limit (layer_queues (length h.host.journal.flush.requests) q) (k.seen sched) (m.seen dev) v.fits.requests r more waits

    -- the device may be given the first command that waits
    pub may_receive : (c : Command) (cs : List Command) → q.dispatched ≡ c ∷ cs → IsReceivable (m.seen dev) c
    may_receive c cs waits =
        let v = reached_holds h now at in
        first_receivable h.host.journal.flush.requests h.host.journal.flush.limit (layer_queues (length h.host.journal.flush.requests) q) (k.seen sched) (m.seen dev) c cs v.fits.requests
        (scheduler.carries sched v.sched) (device.surface dev v.dev).blocks waits

    -- a step of the code's host is one of the machine's
    same_step : (step : Model PlainTree VolumeNow Call Reply → Setup → Host VolumeNow Call Reply) → step (model_now h) (setup_now h) ≡ step (call_over b.opening).model (call_over b.opening).setup
    same_step step =
        let c = at.begins in
        let model = model_is b.opening b.start.volume b.start.ring b.start.limit b.start.programs c.written c.opened c.journal c.bytes at.steps h at.host in
        let setup = setup_is b.opening b.start.volume b.start.ring b.start.limit b.start.programs c.written c.opened c.journal c.bytes at.steps h at.host in
        ap (λ x. step x (setup_now h)) model ∙ ap (step (call_over b.opening).model) setup

    -- the parts after a step of the host
    hosted : (new : HostNow) (x : Event) → new.host ≡ stepped (call_over b.opening) h.host x
        → length h.host.journal.flush.requests + length (sent_between h.host.journal.flush (stepped (call_over b.opening) h.host x).journal.flush) ≡ length (stepped (call_over b.opening) h.host x).journal.flush.requests
        → session_of new (with_sent q (sent_between h.host.journal.flush new.host.journal.flush)) sched dev ≡ by_host b.opening now x
    hosted new x did counted =
        let after = stepped (call_over b.opening) h.host x in
        let parts : Host VolumeNow Call Reply → ℕ → List Request → SessionState K S = λ y n sent. record {
          host = y;
          queues = layer_queues n (with_sent q sent);
          sched = sched;
          dev = dev;
          completions = q.completions;
          kept = q.kept;
        } in
        ap (λ (y : Host VolumeNow Call Reply). parts y (length y.journal.flush.requests) (sent_between h.host.journal.flush y.journal.flush)) did
        ∙ ap (λ n. parts after n (sent_between h.host.journal.flush after.journal.flush)) (sym counted)

    -- ---- each event of the host

    module _ (new : HostNow) (after : QueuesNow) where
      pub leads_call : (thread : ℕ) → 1 ≤ thread → new ≡ with_host h (advance (model_now h) (setup_now h) (is_full q.capacity q.submission) h.host (thread - 1)).host
          → after ≡ with_sent q (sent_between h.host.journal.flush new.host.journal.flush) → Leads now (events.Call thread) new (session_of new after sched dev)
      leads_call thread some did sent =
          let c = at.begins in
          let is = called_is b k m now thread (some_thread thread some) in
          let v = subst AllHold is (next_holds h now (events.Call thread) at) in
          let x = call_step now thread in
          let host = ap (λ y. y.host) did ∙ same_step (λ mm u. (advance mm u (is_full q.capacity q.submission) h.host (thread - 1)).host) in
          led h new now (session_of new after sched dev) (events.Call thread) (at.steps ++ x ∷ []) at
          (ap (λ y. session_of new y sched dev) sent ∙ hosted new x host v.fits.requests.counted ∙ sym is)
          (call_goes_on b.opening b.start.volume b.start.ring b.start.limit b.start.programs c.written c.opened c.journal c.bytes at.steps h at.host (is_full q.capacity q.submission) (thread - 1) new did)

      pub leads_commit : new ≡ with_host h (commit_step (model_now h) (setup_now h) (is_full q.capacity q.submission) h.host).host
          → after ≡ with_sent q (sent_between h.host.journal.flush new.host.journal.flush) → Leads now events.Commit new (session_of new after sched dev)
      leads_commit did sent =
          let c = at.begins in
          let v = next_holds h now events.Commit at in
          let x = runs.Commit (submission_full now) in
          let host = ap (λ y. y.host) did ∙ same_step (λ mm u. (commit_step mm u (is_full q.capacity q.submission) h.host).host) in
          led h new now (session_of new after sched dev) events.Commit (at.steps ++ x ∷ []) at
          (ap (λ y. session_of new y sched dev) sent ∙ hosted new x host v.fits.requests.counted)
          (commit_goes_on b.opening b.start.volume b.start.ring b.start.limit b.start.programs c.written c.opened c.journal c.bytes at.steps h at.host (is_full q.capacity q.submission) new did)

      pub leads_writeback : (pick : ℕ) → new ≡ with_host h (writeback (model_now h) (setup_now h) (is_full q.capacity q.submission) h.host pick).host
          → after ≡ with_sent q (sent_between h.host.journal.flush new.host.journal.flush) → Leads now (events.Writeback pick) new (session_of new after sched dev)
      leads_writeback pick did sent =
          let c = at.begins in
          let v = next_holds h now (events.Writeback pick) at in
          let x = runs.WriteBack (submission_full now) pick in
          let host = ap (λ y. y.host) did ∙ same_step (λ mm u. (writeback mm u (is_full q.capacity q.submission) h.host pick).host) in
          led h new now (session_of new after sched dev) (events.Writeback pick) (at.steps ++ x ∷ []) at
          (ap (λ y. session_of new y sched dev) sent ∙ hosted new x host v.fits.requests.counted)
          (writeback_goes_on b.opening b.start.volume b.start.ring b.start.limit b.start.programs c.written c.opened c.journal c.bytes at.steps h at.host (is_full q.capacity q.submission) pick new did)

      pub leads_flush : may_flush now ≡ true → new ≡ with_host h (flush_step (model_now h) (setup_now h) (is_full q.capacity q.submission) h.host (slice_get q.completions 0)).host
          → after ≡ record (with_sent q (sent_between h.host.journal.flush new.host.journal.flush)) { completions = left_over h.host.journal.flush q.completions }
          → Leads now events.FlushStep new (session_of new after sched dev)
      leads_flush may did sent =
          let c = at.begins in
          let is : next now events.FlushStep ≡ flushed b.opening now = rw may refl in
          let v = subst AllHold is (next_holds h now events.FlushStep at) in
          let x = flush_event now in
          let host = ap (λ y. y.host) did ∙ same_step (λ mm u. (flush_step mm u (is_full q.capacity q.submission) h.host (slice_get q.completions 0)).host) in
          led h new now (session_of new after sched dev) events.FlushStep (at.steps ++ x ∷ []) at
          (ap (λ y. session_of new y sched dev) sent
          ∙ ap (λ (y : SessionState K S). record y { completions = left_over h.host.journal.flush q.completions }) (hosted new x host v.fits.requests.counted) ∙ sym is)
          (flush_goes_on b.opening b.start.volume b.start.ring b.start.limit b.start.programs c.written c.opened c.journal c.bytes at.steps h at.host (is_full q.capacity q.submission) (slice_get q.completions 0) new did)

    -- ---- each event below it

    -- the parts after a step of the block layer
    layered : (after : QueuesNow) (new : K) (l : BlockLayer K) → record { queues = layer_queues (length h.host.journal.flush.requests) after; sched = new } ≡ l → after.completions ≡ q.completions → after.kept ≡ q.kept → session_of h after new dev ≡ with_layer now l
    layered after new l did completions kept =
        let parts : List Completion → Option Completion → SessionState K S = λ cs o. record {
          host = h.host;
          queues = layer_queues (length h.host.journal.flush.requests) after;
          sched = new;
          dev = dev;
          completions = cs;
          kept = o;
        } in
        ap₂ parts completions kept ∙ ap (with_layer now) did

    pub leads_accept : (after : QueuesNow) (new : K) → ((n : ℕ) → record { queues = layer_queues n after; sched = new } ≡ layer_accepted k (record { queues = layer_queues n q; sched = sched })) → after.completions ≡ q.completions → after.kept ≡ q.kept
        → Leads now events.Accept h (session_of h after new dev)
    leads_accept after new did completions kept =
        led_below h now (session_of h after new dev) events.Accept at (layered after new (layer_accepted k (layer_of now)) (did (length h.host.journal.flush.requests)) completions kept)

    pub leads_dispatch : (pick : ℕ) (after : QueuesNow) (new : K) → ((n : ℕ) → record { queues = layer_queues n after; sched = new } ≡ layer_dispatched k (record { queues = layer_queues n q; sched = sched }) pick) → after.completions ≡ q.completions → after.kept ≡ q.kept
        → Leads now (events.Dispatch pick) h (session_of h after new dev)
    leads_dispatch pick after new did completions kept =
        led_below h now (session_of h after new dev) (events.Dispatch pick) at (layered after new (layer_dispatched k (layer_of now) pick) (did (length h.host.journal.flush.requests)) completions kept)

    pub leads_transfer : (pick : ℕ) (new : S) → new ≡ m.transferred dev pick → Leads now (events.Transfer pick) h (session_of h q sched new)
    leads_transfer pick new did = led_below h now (session_of h q sched new) (events.Transfer pick) at (ap (session_of h q sched) did)

    pub leads_persist : (pick : ℕ) (new : S) → new ≡ m.persisted dev pick → Leads now (events.Persist pick) h (session_of h q sched new)
    leads_persist pick new did = led_below h now (session_of h q sched new) (events.Persist pick) at (ap (session_of h q sched) did)

    -- one that the parts say themselves
    pub leads_as : (e : CoreEvent) (host : HostNow) (after : QueuesNow) (sent : K) (new : S) → session_of host after sent new ≡ next now e → host ≡ h → Leads now e host (session_of host after sent new)
    leads_as e host after sent new did same =
        let below = led_below h now (session_of host after sent new) e at did in
        record { step = did; reached = subst (λ x. At x (session_of host after sent new)) (sym same) below.reached }
