-- Each event of a session keeps how its parts fit.
use Rattle.std.proofs.Common.{◌≡◌, ℕ, ◌+◌, ◌-◌, ◌==◌, ◌<◌, ◌≤◌, Bool, true, false, List, [], ◌∷◌, ◌++◌, length, drop, Option, Some, None, slice_get, nat_lt, nat_le, refl, sym, ap, subst, ◌∙◌, arith, if◌then◌else◌, append_assoc, ⊎_elim}
use Rattle.std.specs.Option.{option_to_list}
use Rattle.std.proofs.lemmas.List.{append-nil, length-append}
use Rattle.std.proofs.lemmas.Bool.{cases_lt}
use Rattle.order_model.specs.declared.command.Command.{Command}
use Rattle.order_model.specs.declared.completion.Completion.{Completion}
use Rattle.order_model.specs.Machine.{Machine}
use Rattle.order_model.specs.Device.{Seen}
use Rattle.schedulers.specs.reassign.Scheduler.{SchedSteps, IsScheduler}
use Rattle.stack_core.specs.BlockLayer.{QueuesState, BlockLayer, accepted_first, layer_accepted, queued_or_kept, queued_or_kept_option, dispatched_from, layer_dispatched, given_first}
use Rattle.line_grammar.specs.declared.events.event.CoreEvent.{CoreEvent}
use Rattle.line_grammar.specs.declared.events.event.CoreEvent.TheVariants as events
use Rattle.tree_model.specs.declared.call.Call.{Call}
use Rattle.tree_model.specs.declared.call.Reply.{Reply}
use Rattle.volume_steps.specs.Now.{VolumeNow}
use Rattle.flush_actor.specs.Part.{FlushPart}
use Rattle.flush_actor.specs.Outcomes.{sent_between}
use Rattle.flush_actor.specs.Steps.{flush_due, take_completion}
use Rattle.host_machine.specs.Host.{with_flush}
use Rattle.host_machine.specs.State.{Host}
use Rattle.host_machine.specs.runs.Runs.{Event, stepped}
use Rattle.host_machine.specs.runs.Runs as runs
use Rattle.minix_host.specs.Sessions.{Opening}
use Rattle.call_sessions.specs.Sessions.{call_over}
use Rattle.session_core.specs.run.machine.Machine.{SessionState, is_full, with_submitted, submission_full, by_host, call_step, flush_event, may_flush, flushed, layer_of, with_layer, received, completed, completed_option, answered_from, happens}
use Rattle.session_core.specs.run.machine.Fits.{IsDevice, RequestsFit, CompletionsFit, WithinCapacity, SessionFits}
use Rattle.session_core.proofs.RunLemmas.MachineLemmas.Sending.{Sends, Keeps, advance_sends, commit_sends, writeback_sends, flush_sends, flush_takes, flush_idles}
use Rattle.session_core.proofs.RunLemmas.MachineLemmas.HostFits.{HaveBlocks, submitted_fits, submitted_within, free_room, taken_same, limit_same}
use Rattle.session_core.proofs.RunLemmas.MachineLemmas.Layer.{IsLayer, accepted_fits, dispatched_fits, first_receivable, first_received, same_given}

-- ---- room in the queues

accepted_within : {K : Type 0} (k : SchedSteps K) (l : BlockLayer K) (completions : List Completion) → WithinCapacity l.queues completions → WithinCapacity (layer_accepted k l).queues completions
accepted_within k l completions w = by (k.can_accept l.sched)
  where
    first : (waiting : List _) → l.queues.submission ≡ waiting → WithinCapacity (accepted_first k l waiting).queues completions
    first [] e = w
    first (q ∷ qs) e = record { submission = (let s = w.submission in let n = ap length e in omega (arith, s, n)); dispatched = w.dispatched; completions_are = w.completions_are }

    by : (b : Bool) → WithinCapacity (if b then accepted_first k l l.queues.submission else l).queues completions
    by true = first l.queues.submission refl
    by false = w

le_of : (n m : ℕ) → nat_le n m ≡ true → n ≤ m
le_of n m e = grind (arith, e)

lt_of : (n m : ℕ) → nat_lt n m ≡ true → n < m
lt_of n m e = grind (arith, e)

queued_within : (q : QueuesState) (completions : List Completion) (c : Command) → WithinCapacity q completions → WithinCapacity (queued_or_kept q c) completions
queued_within q completions c w = by (nat_lt (length q.dispatched) q.capacity) refl
  where
    by : (b : Bool) → nat_lt (length q.dispatched) q.capacity ≡ b → WithinCapacity (if b then record q { kept = None; dispatched = q.dispatched ++ c ∷ [] } else record q { kept = Some c }) completions
    by true e = record { submission = w.submission; dispatched = (let less = lt_of (length q.dispatched) q.capacity e in let n = length-append q.dispatched (c ∷ []) in omega (arith, less, n)); completions_are = w.completions_are }
    by false e = record { submission = w.submission; dispatched = w.dispatched; completions_are = w.completions_are }

dispatched_within : {K : Type 0} (k : SchedSteps K) (l : BlockLayer K) (pick : ℕ) (completions : List Completion) → WithinCapacity l.queues completions → WithinCapacity (layer_dispatched k l pick).queues completions
dispatched_within k l pick completions w = by l.queues.kept
  where
    picked : (o : Option Command) → WithinCapacity (queued_or_kept_option l.queues o) completions
    picked None = w
    picked (Some c) = queued_within l.queues completions c w

    by : (o : Option Command) → WithinCapacity (dispatched_from k l pick o).queues completions
    by (Some c) = queued_within l.queues completions c w
    by None = picked (k.command l.sched pick)

-- ---- events

module _ {K S : Type 0} (s : Opening) (k : SchedSteps K) (m : Machine S) (sched_valid : K → Type 0) (dev_valid : S → Type 0) (scheduler : IsScheduler k sched_valid) (device : IsDevice m dev_valid) where
  -- what holds along a run
  pub record Holds (r : SessionState K S) : Type 0 where
    pub sched : sched_valid r.sched
    pub dev : dev_valid r.dev
    pub image : (m.seen r.dev).base ≡ s.image
    pub fits : SessionFits k m r

  -- the puts go to blocks that are there
  abbrev pub Placed : SessionState K S → Type 0
  Placed r = HaveBlocks (length s.image) r.host.journal.flush.requests

  -- ---- the host

  -- requests on their way once the host took a step
  sent_on : (r : SessionState K S) (new : FlushPart) → Sends (submission_full r) r.host.journal.flush new → HaveBlocks (length s.image) new.requests → Holds r
      → RequestsFit new.requests new.limit (with_submitted r.queues (sent_between r.host.journal.flush new)) (k.seen r.sched) (m.seen r.dev)
  sent_on r new sends there v =
      subst (λ n. RequestsFit new.requests n (with_submitted r.queues (sent_between r.host.journal.flush new)) (k.seen r.sched) (m.seen r.dev)) (sym (limit_same r.host.journal.flush new sends))
      (submitted_fits r.host.journal.flush.limit r.queues (k.seen r.sched) (m.seen r.dev) (submission_full r) r.host.journal.flush new sends refl (subst (λ b. HaveBlocks (length b) new.requests) (sym v.image) there) v.fits.requests)

  within_on : (r : SessionState K S) (new : FlushPart) → Sends (submission_full r) r.host.journal.flush new → Holds r → WithinCapacity (with_submitted r.queues (sent_between r.host.journal.flush new)) r.completions
  within_on r new sends v = record {
    submission = submitted_within (submission_full r) r.queues r.host.journal.flush new sends refl v.fits.capacity.submission;
    dispatched = v.fits.capacity.dispatched;
    completions_are = v.fits.capacity.completions_are;
  }

  host_holds : (r : SessionState K S) (x : Event) → Sends (submission_full r) r.host.journal.flush (stepped (call_over s) r.host x).journal.flush → Placed (by_host s r x) → Holds r → Holds (by_host s r x)
  host_holds r x sends there v =
      let new = (stepped (call_over s) r.host x).journal.flush in
      record {
        sched = v.sched;
        dev = v.dev;
        image = v.image;
        fits = record {
          requests = sent_on r new sends there v;
          completions = subst (λ t. CompletionsFit t r.completions r.kept (m.seen r.dev)) (sym (taken_same r.host.journal.flush new sends)) v.fits.completions;
          capacity = within_on r new sends v;
          taken = subst (λ n. length new.taken ≤ n + 1) (sym (limit_same r.host.journal.flush new sends)) (subst (λ t. length t ≤ r.host.journal.flush.limit + 1) (sym (taken_same r.host.journal.flush new sends)) v.fits.taken);
        };
      }

  -- the flush actor took the first completion
  took_holds : (r : SessionState K S) (c : Completion) (cs : List Completion) → r.completions ≡ c ∷ cs → length r.host.journal.flush.taken ≤ r.host.journal.flush.limit → HaveBlocks (length s.image) r.host.journal.flush.requests → Holds r
      → (let h = with_flush (call_over s).model (call_over s).setup r.host (take_completion c r.host.journal.flush) in
      Holds (record r { host = h; queues = with_submitted r.queues (sent_between r.host.journal.flush h.journal.flush); completions = cs }))
  took_holds r c cs first few there v =
      let same : FlushPart = record (take_completion c r.host.journal.flush) { taken = r.host.journal.flush.taken } in
      let sends : Sends (submission_full r) r.host.journal.flush same = Keeps refl refl refl in
      record {
        sched = v.sched;
        dev = v.dev;
        image = v.image;
        fits = record {
          requests = sent_on r same sends there v;
          completions =
              v.fits.completions ∙ ap (λ l. (r.host.journal.flush.taken ++ l) ++ option_to_list r.kept) first
              ∙ ap (λ l. l ++ option_to_list r.kept) (sym (append_assoc r.host.journal.flush.taken (c ∷ []) cs));
          capacity =
              let w = within_on r same sends v in
              record { submission = w.submission; dispatched = w.dispatched; completions_are = (let most = w.completions_are in let n = ap length first in omega (arith, most, n)) };
          taken = (let n = length-append r.host.journal.flush.taken (c ∷ []) in omega (arith, few, n));
        };
      }

  flush_holds : (r : SessionState K S) → length r.host.journal.flush.taken ≤ r.host.journal.flush.limit → Placed (flushed s r) → Holds r → Holds (flushed s r)
  flush_holds r few there v = by (flush_due r.host.journal.flush) refl
    where
      none : flush_due r.host.journal.flush ≡ false → r.completions ≡ [] → HaveBlocks (length s.image) (stepped (call_over s) r.host (runs.FlushStep (submission_full r) None)).journal.flush.requests
          → Holds (record (by_host s r (runs.FlushStep (submission_full r) None)) { completions = [] })
      none due e there =
          let sends = subst (λ (h : Host VolumeNow Call Reply). Sends (submission_full r) r.host.journal.flush h.journal.flush) (sym (flush_idles (call_over s).model (call_over s).setup (submission_full r) r.host due)) (Keeps refl refl refl) in
          subst (λ cs. Holds (record (by_host s r (runs.FlushStep (submission_full r) None)) { completions = cs })) e (host_holds r (runs.FlushStep (submission_full r) None) sends there v)

      some : (c : Completion) (cs : List Completion) → flush_due r.host.journal.flush ≡ false → r.completions ≡ c ∷ cs → HaveBlocks (length s.image) (stepped (call_over s) r.host (runs.FlushStep (submission_full r) (Some c))).journal.flush.requests
          → Holds (record (by_host s r (runs.FlushStep (submission_full r) (Some c))) { completions = cs })
      some c cs due e there =
          let is = flush_takes (call_over s).model (call_over s).setup (submission_full r) r.host c due in
          subst (λ (h : Host VolumeNow Call Reply). Holds (record r { host = h; queues = with_submitted r.queues (sent_between r.host.journal.flush h.journal.flush); completions = cs })) (sym is)
          (took_holds r c cs e few (subst (λ (h : Host VolumeNow Call Reply). HaveBlocks (length s.image) h.journal.flush.requests) is there) v)

      taking : (cs : List Completion) → flush_due r.host.journal.flush ≡ false → r.completions ≡ cs → HaveBlocks (length s.image) (stepped (call_over s) r.host (runs.FlushStep (submission_full r) (slice_get cs 0))).journal.flush.requests
          → Holds (record (by_host s r (runs.FlushStep (submission_full r) (slice_get cs 0))) { completions = drop 1 cs })
      taking [] due e there = none due e there
      taking (c ∷ cs) due e there = some c cs due e there

      by : (b : Bool) → flush_due r.host.journal.flush ≡ b → Holds (record (by_host s r (flush_event r)) { completions = (if b then r.completions else drop 1 r.completions) })
      by true due = host_holds r (flush_event r) (flush_sends (call_over s).model (call_over s).setup (submission_full r) r.host (slice_get r.completions 0) due) there v
      by false due = taking r.completions due refl there

  -- ---- the block layer

  layer_in : (r : SessionState K S) → Holds r → IsLayer r.host.journal.flush.requests r.host.journal.flush.limit k sched_valid scheduler (m.seen r.dev) (layer_of r)
  layer_in r v = record { keeps = v.sched; fits = v.fits.requests }

  layer_out : (r : SessionState K S) (l : BlockLayer K) → Holds r → IsLayer r.host.journal.flush.requests r.host.journal.flush.limit k sched_valid scheduler (m.seen r.dev) l → WithinCapacity l.queues r.completions → Holds (with_layer r l)
  layer_out r l v i w = record { sched = i.keeps; dev = v.dev; image = v.image; fits = record { requests = i.fits; completions = v.fits.completions; capacity = w; taken = v.fits.taken } }

  -- ---- the device

  received_holds : (r : SessionState K S) → m.has_room r.dev ≡ true → Holds r → (waiting : List Command) → r.queues.dispatched ≡ waiting → Holds (received m r (given_first r.queues waiting))
  received_holds r room v [] e = v
  received_holds r room v (c ∷ cs) e =
      let d = m.seen r.dev in
      let rs = r.host.journal.flush.requests in
      let limit = r.host.journal.flush.limit in
      let p = k.seen r.sched in
      let can = first_receivable rs limit r.queues p d c cs v.fits.requests (scheduler.carries r.sched v.sched) (device.surface r.dev v.dev).blocks e in
      let step = device.receives r.dev c v.dev can room in
      record {
        sched = v.sched;
        dev = step.0;
        image = ap (λ (x : Seen). x.base) step.1 ∙ v.image;
        fits = record {
          requests = subst (RequestsFit rs limit (record r.queues { dispatched = cs }) p) (sym step.1) (first_received rs limit r.queues p d c cs v.fits.requests e);
          completions = ap (λ (x : Seen). x.sent) step.1 ∙ v.fits.completions;
          capacity = record {
            submission = v.fits.capacity.submission;
            dispatched = (let most = v.fits.capacity.dispatched in let n = ap length e in omega (arith, most, n));
            completions_are = v.fits.capacity.completions_are;
          };
          taken = v.fits.taken;
        };
      }

  -- a step of the device that neither takes nor sends
  same_holds : (r : SessionState K S) (dev : S) → dev_valid dev → (m.seen dev).base ≡ (m.seen r.dev).base → (m.seen dev).limit ≡ (m.seen r.dev).limit → (m.seen dev).took ≡ (m.seen r.dev).took → (m.seen dev).sent ≡ (m.seen r.dev).sent → Holds r
      → Holds (record r { dev = dev })
  same_holds r dev valid base most took sent v = record {
    sched = v.sched;
    dev = valid;
    image = base ∙ v.image;
    fits = record {
      requests = same_given r.host.journal.flush.requests r.host.journal.flush.limit r.queues (k.seen r.sched) (m.seen r.dev) (m.seen dev) v.fits.requests base most took;
      completions = sent ∙ v.fits.completions;
      capacity = v.fits.capacity;
      taken = v.fits.taken;
    };
  }

  transferred_holds : (r : SessionState K S) (pick : ℕ) → Holds r → Holds (record r { dev = m.transferred r.dev pick })
  transferred_holds r pick v =
      ⊎_elim
      (λ lt. let step = device.transfers r.dev pick v.dev lt in let g = step.1.given in same_holds r (m.transferred r.dev pick) step.0 g.base g.limit g.took g.sent v)
      (λ le. subst (λ x. Holds (record r { dev = x })) (sym (device.no_transfer r.dev pick le)) v)
      (cases_lt pick (m.can_transfer r.dev))

  persisted_holds : (r : SessionState K S) (pick : ℕ) → Holds r → Holds (record r { dev = m.persisted r.dev pick })
  persisted_holds r pick v =
      ⊎_elim
      (λ lt. let step = device.persists r.dev pick v.dev lt in let g = step.1.given in same_holds r (m.persisted r.dev pick) step.0 g.base g.limit g.took g.sent v)
      (λ le. subst (λ x. Holds (record r { dev = x })) (sym (device.no_persist r.dev pick le)) v)
      (cases_lt pick (m.can_persist r.dev))

  -- ---- completions

  -- a completion that was sent goes into the queue, or is kept
  completed_holds : (r : SessionState K S) (c : Completion) → Holds (record r { kept = Some c }) → Holds (completed r c)
  completed_holds r c v = by (is_full r.queues.capacity r.completions) refl
    where
      by : (b : Bool) → is_full r.queues.capacity r.completions ≡ b → Holds (if b then record r { kept = Some c } else record r { completions = r.completions ++ c ∷ []; kept = None })
      by true e = v
      by false e = record {
        sched = v.sched;
        dev = v.dev;
        image = v.image;
        fits = record {
          requests = v.fits.requests;
          completions = v.fits.completions ∙ append_assoc r.host.journal.flush.taken r.completions (c ∷ []) ∙ sym (append-nil (r.host.journal.flush.taken ++ (r.completions ++ c ∷ [])));
          capacity = record {
            submission = v.fits.capacity.submission;
            dispatched = v.fits.capacity.dispatched;
            completions_are = (let less = free_room r.queues.capacity (length r.completions) e in let n = length-append r.completions (c ∷ []) in omega (arith, less, n));
          };
          taken = v.fits.taken;
        };
      }

  answered_holds : (r : SessionState K S) → Holds r → (o : Option Completion) → r.kept ≡ o → Holds (answered_from m r o)
  answered_holds r v (Some c) kept = completed_holds r c (subst (λ x. Holds (record r { kept = x })) kept v)
  answered_holds r v None kept = by (m.next_answer r.dev) refl
    where
      dev : S
      dev = m.answered r.dev

      by : (o : Option Completion) → m.next_answer r.dev ≡ o → Holds (completed_option (record r { dev = m.answered r.dev }) o)
      by None e =
          let step = device.answers r.dev v.dev in
          let rest = step.1.rest in
          same_holds r (m.answered r.dev) step.0 (ap (λ (x : Seen). x.base) rest) (ap (λ (x : Seen). x.limit) rest) (ap (λ (x : Seen). x.took) rest)
          (step.1.sent ∙ ap (λ a. (m.seen r.dev).sent ++ option_to_list a) e ∙ append-nil (m.seen r.dev).sent) v
      by (Some c) e =
          let step = device.answers r.dev v.dev in
          let rest = step.1.rest in
          completed_holds (record r { dev = m.answered r.dev }) c
          (record {
            sched = v.sched;
            dev = step.0;
            image = ap (λ (x : Seen). x.base) rest ∙ v.image;
            fits = record {
              requests = same_given r.host.journal.flush.requests r.host.journal.flush.limit r.queues (k.seen r.sched) (m.seen r.dev) (m.seen (m.answered r.dev)) v.fits.requests
                  (ap (λ (x : Seen). x.base) rest) (ap (λ (x : Seen). x.limit) rest) (ap (λ (x : Seen). x.took) rest);
              completions =
                  step.1.sent ∙ ap (λ a. (m.seen r.dev).sent ++ option_to_list a) e
                  ∙ ap (λ l. l ++ c ∷ []) (v.fits.completions ∙ ap (λ o. (r.host.journal.flush.taken ++ r.completions) ++ option_to_list o) kept ∙ append-nil (r.host.journal.flush.taken ++ r.completions));
              capacity = v.fits.capacity;
              taken = v.fits.taken;
            };
          })

  -- ---- all

  pub happens_holds : (r : SessionState K S) (e : CoreEvent) → Placed (happens s k m r e) → Holds r → Holds (happens s k m r e)
  happens_holds r (events.Call thread) there v = by (thread == 0) there
    where
      by : (b : Bool) → Placed (if b then r else by_host s r (call_step r thread)) → Holds (if b then r else by_host s r (call_step r thread))
      by true there = v
      by false there = host_holds r (call_step r thread) (advance_sends (call_over s).model (call_over s).setup (submission_full r) r.host (thread - 1)) there v
  happens_holds r events.Commit there v = host_holds r (runs.Commit (submission_full r)) (commit_sends (call_over s).model (call_over s).setup (submission_full r) r.host) there v
  happens_holds r (events.Writeback pick) there v = host_holds r (runs.WriteBack (submission_full r) pick) (writeback_sends (call_over s).model (call_over s).setup (submission_full r) r.host pick) there v
  happens_holds r events.FlushStep there v = by (may_flush r) refl there
    where
      by : (b : Bool) → may_flush r ≡ b → Placed (if b then flushed s r else r) → Holds (if b then flushed s r else r)
      by true few there = flush_holds r (le_of (length r.host.journal.flush.taken) r.host.journal.flush.limit few) there v
      by false few there = v
  happens_holds r events.Submit there v = v
  happens_holds r events.Accept there v =
      layer_out r (layer_accepted k (layer_of r)) v (accepted_fits r.host.journal.flush.requests r.host.journal.flush.limit k sched_valid scheduler (m.seen r.dev) (layer_of r) (layer_in r v))
      (accepted_within k (layer_of r) r.completions v.fits.capacity)
  happens_holds r (events.Dispatch pick) there v =
      layer_out r (layer_dispatched k (layer_of r) pick) v (dispatched_fits r.host.journal.flush.requests r.host.journal.flush.limit k sched_valid scheduler (m.seen r.dev) (layer_of r) pick (layer_in r v))
      (dispatched_within k (layer_of r) pick r.completions v.fits.capacity)
  happens_holds r events.Receive there v = by (m.has_room r.dev) refl
    where
      by : (b : Bool) → m.has_room r.dev ≡ b → Holds (if b then received m r (given_first r.queues r.queues.dispatched) else r)
      by true room = received_holds r room v r.queues.dispatched refl
      by false room = v
  happens_holds r (events.Transfer pick) there v = transferred_holds r pick v
  happens_holds r (events.Persist pick) there v = persisted_holds r pick v
  happens_holds r events.Answer there v = answered_holds r v r.kept refl
