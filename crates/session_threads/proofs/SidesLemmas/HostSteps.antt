-- What each step does to the host's side.
use Rattle.std.proofs.Common.{◌≡◌, ◌≢◌, ◌⊎◌, ℕ, ◌-◌, Bool, true, false, List, [], ◌∷◌, ◌++◌, length, drop, Option, Some, None, refl, sym, ap, subst, ◌∙◌, arith, ⊎_elim}
use Rattle.std.proofs.lemmas.List.{append-nil, length-append, drop_at}
use Rattle.std.proofs.lemmas.Bool.{true≢false}
use Rattle.order_model.specs.declared.completion.Completion.{Completion}
use Rattle.order_model.specs.declared.request.Request.{Request}
use Rattle.order_model.specs.declared.turn.Turn.TheVariants as turns
use Rattle.order_model.specs.declared.turn.Turn.{Turn}
use Rattle.flush_actor.specs.Part.{FlushPart}
use Rattle.flush_actor.specs.Outcomes.{is_queue_full, is_did, sent_between, first_since}
use Rattle.flush_actor.specs.Steps.{flush_due, take_completion}
use Rattle.host_answers.specs.declared.step.Step.{Step}
use Rattle.host_answers.specs.declared.step.Step.TheVariants as answers
use Rattle.host_machine.specs.Host.{Stepped, Turned, with_flush, advance, commit_step, writeback, flush_step, take_step}
use Rattle.host_machine.specs.State.{Host}
use Rattle.host_core.specs.Answers.{IfStepped, found_queue_full}
use Rattle.host_core.specs.Now.{HostNow, with_host, model_now, setup_now}
use Rattle.host_machine.specs.runs.Runs.{Event}
use Rattle.host_machine.specs.runs.Runs as runs
use Rattle.host_machine.specs.runs.laws.Written.{AreWritten}
use Rattle.minix_host.specs.Runs.{IsOpenedVolume, HasEmptyJournal}
use Rattle.minix_host.specs.Sessions.{Opening}
use Rattle.call_sessions.specs.Sessions.{WriteBytes}
use Rattle.tree_model.specs.declared.call.Call.{Call}
use Rattle.tree_model.specs.declared.call.Reply.{Reply}
use Rattle.volume_steps.specs.Now.{VolumeNow}
use Rattle.session_core.specs.run.machine.Machine.{Start}
use Rattle.session_core.proofs.RunLemmas.MachineLemmas.HostFits.{one_sent}
use Rattle.session_core.proofs.RunLemmas.MachineLemmas.Sending.{Sends, Keeps, Puts, advance_sends, commit_sends, writeback_sends, flush_sends, flush_takes}
use Rattle.session_core.specs.run.CodeHosts.{IsInSession}
use Rattle.session_core.proofs.RunLemmas.Answered.{stepped_host}
use Rattle.session_core.proofs.RunLemmas.HostsInSession.{call_goes_on, commit_goes_on, writeback_goes_on, flush_goes_on, take_goes_on}
use Rattle.session_core.specs.run.parts.Still.{is_still, AreSame}
use Rattle.session_core.proofs.RunLemmas.PartsLemmas.Waiting.{advance_leaves}
use Rattle.session_core.proofs.RunLemmas.PartsLemmas.Idling.{commit_leaves, writeback_leaves, flush_leaves, take_leaves}
use Rattle.session_threads.specs.sides.Noting.{is_still_answer}
use Rattle.thread_sides.specs.declared.events.HostEvent.{HostEvent}
use Rattle.thread_sides.specs.declared.events.HostEvent.TheVariants as noted
use Rattle.session_threads.specs.sides.HostReplay.{with_completions, takes, HostSideNow, IsHostReplay}
use Rattle.session_threads.proofs.SidesLemmas.HostEvents.{more_events, same_takes, more_taken, one_take}

-- ---- what was submitted

more_sent : (full : Bool) (old new : FlushPart) → Sends full old new → new.requests ≡ old.requests ++ sent_between old new
more_sent full old new (Keeps same taken most) =
    same ∙ sym (append-nil old.requests) ∙ ap (λ l. old.requests ++ l) (sym (ap (drop (length old.requests)) (same ∙ sym (append-nil old.requests)) ∙ drop_at old.requests [] (length old.requests) refl))
more_sent full old new (Puts r free room own more taken most) = more ∙ ap (λ l. old.requests ++ l) (sym (one_sent old new r more))

same_taken : (full : Bool) (old new : FlushPart) → Sends full old new → new.taken ≡ old.taken
same_taken full old new (Keeps same taken most) = taken
same_taken full old new (Puts r free room own more taken most) = taken

nothing_between : (f : FlushPart) → sent_between f f ≡ []
nothing_between f = ap (drop (length f.requests)) (sym (append-nil f.requests)) ∙ drop_at f.requests [] (length f.requests) refl

-- ---- a turn that is not Did

abbrev IsOther : Turn → Type 0
IsOther t = (t ≡ turns.Idle) ⊎ ((t ≡ turns.QueueFull) ⊎ ((t ≡ turns.SessionFull) ⊎ (t ≡ turns.NoMemory)))

pub other_turn : (t : Turn) → IsOther t → t ≢ turns.Did
other_turn t is did =
    let not_did : is_did t ≡ false = ⊎_elim (λ e. ap is_did e) (λ x. ⊎_elim (λ e. ap is_did e) (λ y. ⊎_elim (λ e. ap is_did e) (λ e. ap is_did e) y) x) is in
    true≢false (sym (ap is_did did) ∙ not_did)

-- memory was refused, or not
pub refused_or : (X : Type 0) (t : Turn) → IsOther t → (t ≡ turns.NoMemory → X) → (t ≢ turns.NoMemory → X) → X
refused_or X t is refused other =
    ⊎_elim (λ e. other (λ n. let never : ◌≡◌ {A = Turn} turns.Idle turns.NoMemory = sym e ∙ n in cc never))
    (λ x. ⊎_elim (λ e. other (λ n. let never : ◌≡◌ {A = Turn} turns.QueueFull turns.NoMemory = sym e ∙ n in cc never))
    (λ y. ⊎_elim (λ e. other (λ n. let never : ◌≡◌ {A = Turn} turns.SessionFull turns.NoMemory = sym e ∙ n in cc never)) (λ e. refused e) y) x) is

module _ (s : Opening) (b : Start) (old : HostSideNow) (is : IsHostReplay s b old) where
  abbrev h : HostNow
  h = old.host

  abbrev f : FlushPart
  f = old.host.host.journal.flush

  abbrev InSession : List Event → HostNow → Type 0
  InSession events new = IsInSession s b.volume b.ring b.limit b.programs events new

  -- a step that took no completion
  moved : (full : Bool) (x : HostEvent) (e : Event) (new : HostNow) (events : List HostEvent) (sent : List Request) → ((l : List Completion) → with_completions (x ∷ []) l ≡ e ∷ []) → takes (x ∷ []) ≡ 0
      → events ≡ old.events ++ x ∷ [] → InSession (with_completions old.events old.taken ++ e ∷ []) new → Sends full f new.host.journal.flush → sent ≡ old.sent ++ sent_between f new.host.journal.flush
      → IsHostReplay s b (record { host = new; events = events; sent = sent; taken = old.taken })
  moved full x e new events sent named none events_are inside sends sent_is = record {
    written = is.written;
    opened = is.opened;
    journal = is.journal;
    bytes = is.bytes;
    replay = subst (λ l. InSession l new) (sym (ap (λ l. with_completions l old.taken) events_are ∙ more_events old.events x e old.taken named)) inside;
    counted = ap takes events_are ∙ same_takes old.events x none ∙ is.counted;
    sent = sent_is ∙ ap (λ l. l ++ sent_between f new.host.journal.flush) is.sent ∙ sym (more_sent full f new.host.journal.flush sends);
    taken = is.taken ∙ sym (same_taken full f new.host.journal.flush sends);
  }

  -- a step that changed nothing
  pub stays : (new : HostNow) (events : List HostEvent) (sent : List Request) (taken : List Completion) → new ≡ h → events ≡ old.events → sent ≡ old.sent ++ sent_between f new.host.journal.flush → taken ≡ old.taken → IsHostReplay s b (record { host = new; events = events; sent = sent; taken = taken })
  stays new events sent taken same same_events sent_is same_taken =
      let none = sent_is ∙ ap (λ (x : HostNow). old.sent ++ sent_between f x.host.journal.flush) same ∙ ap (λ l. old.sent ++ l) (nothing_between f) ∙ append-nil old.sent in
      subst (λ (x : HostSideNow). IsHostReplay s b x) (λ i. record { host = sym same i; events = sym same_events i; sent = sym none i; taken = sym same_taken i }) is

  -- a step that took the next completion and did no more
  one_taken : (c : Completion) (new : HostNow) (events : List HostEvent) (sent : List Request) (taken : List Completion) → new ≡ with_host h new.host → new.host ≡ with_flush (model_now h) (setup_now h) h.host (take_completion c f)
      → sent ≡ old.sent ++ sent_between f new.host.journal.flush → taken ≡ old.taken ++ drop (length f.taken) new.host.journal.flush.taken → events ≡ old.events ++ noted.Take ∷ []
      → IsHostReplay s b (record { host = new; events = events; sent = sent; taken = taken })
  one_taken c new events sent taken same at sent_is taken_is events_are =
      let list : new.host.journal.flush.taken ≡ f.taken ++ c ∷ [] = ap (λ (x : Host VolumeNow Call Reply). x.journal.flush.taken) at in
      let one = taken_is ∙ ap (λ l. old.taken ++ drop (length f.taken) l) list ∙ ap (λ l. old.taken ++ l) (drop_at f.taken (c ∷ []) (length f.taken) refl) in
      subst (λ l. IsHostReplay s b (record { host = new; events = events; sent = sent; taken = l })) (sym one) (record {
        written = is.written;
        opened = is.opened;
        journal = is.journal;
        bytes = is.bytes;
        replay = subst (λ l. InSession l new) (sym (ap (λ l. with_completions l (old.taken ++ c ∷ [])) events_are ∙ more_taken old.events old.taken c is.counted))
            (take_goes_on s b.volume b.ring b.limit b.programs is.written is.opened is.journal is.bytes (with_completions old.events old.taken) h is.replay (Some c) new (same ∙ ap (with_host h) at));
        counted = ap takes events_are ∙ one_take old.events ∙ (let n = is.counted in let m = length-append old.taken (c ∷ []) in omega (arith, n, m));
        sent =
            sent_is ∙ ap (λ (x : Host VolumeNow Call Reply). old.sent ++ drop (length f.requests) x.journal.flush.requests) at ∙ ap (λ l. old.sent ++ l) (nothing_between f) ∙ append-nil old.sent ∙ is.sent
            ∙ sym (ap (λ (x : Host VolumeNow Call Reply). x.journal.flush.requests) at);
        taken = ap (λ l. l ++ c ∷ []) is.taken ∙ sym list;
      })

  -- a flush actor that has nothing to take does nothing
  idles : flush_due f ≡ false → flush_step (model_now h) (setup_now h) false h.host None ≡ record { host = h.host; turn = turns.Idle }
  idles due = rw due refl

  idles_not : (turn : Turn) (host : Host VolumeNow Call Reply) → record { host = host; turn = turn } ≡ flush_step (model_now h) (setup_now h) false h.host None → flush_due f ≡ false → turn ≡ turns.Did → ⊥
  idles_not turn host e due did = let never : ◌≡◌ {A = Turn} turns.Did turns.Idle = sym did ∙ ap (λ (y : Turned VolumeNow Call Reply). y.turn) (e ∙ idles due) in cc never

  -- ---- a caller

  module _ (t : ℕ) (new : HostNow) (answer : Step) (sent : List Request) (step_is : IfStepped answer (λ a. record { host = new.host; step = a } ≡ advance (model_now h) (setup_now h) (found_queue_full answer) h.host (t - 1))) (same : new ≡ with_host h new.host) (sent_is : sent ≡ old.sent ++ sent_between f new.host.journal.flush) where
    abbrev stepped : Stepped VolumeNow Call Reply
    stepped = advance (model_now h) (setup_now h) (found_queue_full answer) h.host (t - 1)

    pub call_noted : (events : List HostEvent) → answer ≢ answers.NoMemory → events ≡ old.events ++ noted.Call t (found_queue_full answer) ∷ [] → IsHostReplay s b (record { host = new; events = events; sent = sent; taken = old.taken })
    call_noted events some events_are =
        let did = stepped_host new.host stepped answer some step_is in
        moved (found_queue_full answer) (noted.Call t (found_queue_full answer)) (runs.Call (found_queue_full answer) (t - 1)) new events sent (λ l. refl) refl events_are
        (call_goes_on s b.volume b.ring b.limit b.programs is.written is.opened is.journal is.bytes (with_completions old.events old.taken) h is.replay (found_queue_full answer) (t - 1) new (same ∙ ap (with_host h) did))
        (subst (λ (x : Host VolumeNow Call Reply). Sends (found_queue_full answer) f x.journal.flush) (sym did) (advance_sends (model_now h) (setup_now h) (found_queue_full answer) h.host (t - 1)))
        sent_is

    still : (a : Step) (x : Stepped VolumeNow Call Reply) → IfStepped a (λ y. record { host = new.host; step = y } ≡ x) → is_still_answer a ≡ true → is_still x.step ≡ true
    still (answers.Waiting cause) x e waits = sym (ap (λ (y : Stepped VolumeNow Call Reply). is_still y.step) e)
    still answers.Ended x e waits = sym (ap (λ (y : Stepped VolumeNow Call Reply). is_still y.step) e)
    still (answers.Done r) x e waits = absurd (true≢false (sym waits))
    still answers.Begun x e waits = absurd (true≢false (sym waits))
    still (answers.Sent id) x e waits = absurd (true≢false (sym waits))
    still (answers.ReadOnly id) x e waits = absurd (true≢false (sym waits))
    still answers.Down x e waits = absurd (true≢false (sym waits))
    still answers.SessionFull x e waits = absurd (true≢false (sym waits))
    still answers.NoMemory x e waits = absurd (true≢false (sym waits))

    not_refused : (a : Step) → is_still_answer a ≡ true → a ≢ answers.NoMemory
    not_refused a waits e = true≢false (sym waits ∙ ap is_still_answer e)

    pub call_still : is_still_answer answer ≡ true → AreSame h.host new.host (t - 1) → new ≡ h
    call_still waits marks =
        let did = stepped_host new.host stepped answer (not_refused answer waits) step_is in
        let left = advance_leaves (model_now h) (setup_now h) (found_queue_full answer) h.host (t - 1) (still answer stepped step_is waits) (subst (λ (x : Host VolumeNow Call Reply). AreSame h.host x (t - 1)) did marks) in
        same ∙ ap (with_host h) (did ∙ left)

  -- ---- the actors

  module _ (new : HostNow) (turn : Turn) (sent : List Request) (same : new ≡ with_host h new.host) (sent_is : sent ≡ old.sent ++ sent_between f new.host.journal.flush) where
    abbrev Did : (Bool → Turned VolumeNow Call Reply) → Type 0
    Did step = record { host = new.host; turn = turn } ≡ step (is_queue_full turn)

    not_full : turn ≡ turns.Did → is_queue_full turn ≡ false
    not_full e = ap is_queue_full e

    host_of : (step : Bool → Turned VolumeNow Call Reply) → Did step → turn ≡ turns.Did → new.host ≡ (step false).host
    host_of step did e = ap (λ (x : Turned VolumeNow Call Reply). x.host) (did ∙ ap step (not_full e))

    pub commit_noted : (events : List HostEvent) → Did (λ full. commit_step (model_now h) (setup_now h) full h.host) → turn ≡ turns.Did → events ≡ old.events ++ noted.Commit ∷ [] → IsHostReplay s b (record { host = new; events = events; sent = sent; taken = old.taken })
    commit_noted events step did events_are =
        let at = host_of (λ full. commit_step (model_now h) (setup_now h) full h.host) step did in
        moved false noted.Commit (runs.Commit false) new events sent (λ l. refl) refl events_are
        (commit_goes_on s b.volume b.ring b.limit b.programs is.written is.opened is.journal is.bytes (with_completions old.events old.taken) h is.replay false new (same ∙ ap (with_host h) at))
        (subst (λ (x : Host VolumeNow Call Reply). Sends false f x.journal.flush) (sym at) (commit_sends (model_now h) (setup_now h) false h.host))
        sent_is

    pub writeback_noted : (pick : ℕ) (events : List HostEvent) → Did (λ full. writeback (model_now h) (setup_now h) full h.host pick) → turn ≡ turns.Did → events ≡ old.events ++ noted.Writeback pick ∷ [] → IsHostReplay s b (record { host = new; events = events; sent = sent; taken = old.taken })
    writeback_noted pick events step did events_are =
        let at = host_of (λ full. writeback (model_now h) (setup_now h) full h.host pick) step did in
        moved false (noted.Writeback pick) (runs.WriteBack false pick) new events sent (λ l. refl) refl events_are
        (writeback_goes_on s b.volume b.ring b.limit b.programs is.written is.opened is.journal is.bytes (with_completions old.events old.taken) h is.replay false pick new (same ∙ ap (with_host h) at))
        (subst (λ (x : Host VolumeNow Call Reply). Sends false f x.journal.flush) (sym at) (writeback_sends (model_now h) (setup_now h) false h.host pick))
        sent_is

    idle : (step : Bool → Turned VolumeNow Call Reply) → ((full : Bool) → (step full).turn ≢ turns.Did → (step full).host ≡ h.host) → Did step → turn ≢ turns.Did → new ≡ h
    idle step leaves did apart =
        same ∙ ap (with_host h) (ap (λ (x : Turned VolumeNow Call Reply). x.host) did ∙ leaves (is_queue_full turn) (λ e. apart (ap (λ (x : Turned VolumeNow Call Reply). x.turn) did ∙ e)))

    pub commit_idle : Did (λ full. commit_step (model_now h) (setup_now h) full h.host) → turn ≢ turns.Did → new ≡ h
    commit_idle step apart = idle (λ full. commit_step (model_now h) (setup_now h) full h.host) (λ full. commit_leaves (model_now h) (setup_now h) full h.host) step apart

    pub writeback_idle : (pick : ℕ) → Did (λ full. writeback (model_now h) (setup_now h) full h.host pick) → turn ≢ turns.Did → new ≡ h
    writeback_idle pick step apart = idle (λ full. writeback (model_now h) (setup_now h) full h.host pick) (λ full. writeback_leaves (model_now h) (setup_now h) full h.host pick) step apart

    -- ---- the flush actor

    module _ (taken : List Completion) (step : Did (λ full. flush_step (model_now h) (setup_now h) full h.host (first_since old.taken taken))) (taken_is : taken ≡ old.taken ++ drop (length f.taken) new.host.journal.flush.taken) where
      pub flush_idle : turn ≢ turns.Did → new ≡ h
      flush_idle apart = idle (λ full. flush_step (model_now h) (setup_now h) full h.host (first_since old.taken taken)) (λ full. flush_leaves (model_now h) (setup_now h) full h.host (first_since old.taken taken)) step apart

      none_taken : new ≡ h → taken ≡ old.taken
      none_taken e =
          taken_is ∙ ap (λ (x : HostNow). old.taken ++ drop (length f.taken) x.host.journal.flush.taken) e
          ∙ ap (λ l. old.taken ++ l) (ap (drop (length f.taken)) (sym (append-nil f.taken)) ∙ drop_at f.taken [] (length f.taken) refl) ∙ append-nil old.taken

      pub flush_still : (events : List HostEvent) → turn ≢ turns.Did → events ≡ old.events → IsHostReplay s b (record { host = new; events = events; sent = sent; taken = taken })
      flush_still events apart same_events = let e = flush_idle apart in stays new events sent taken e same_events sent_is (none_taken e)

      -- as many were taken as before: a flush was submitted
      pub flush_noted : (events : List HostEvent) → turn ≡ turns.Did → length new.host.journal.flush.taken ≡ length f.taken → events ≡ old.events ++ noted.Flush ∷ [] → IsHostReplay s b (record { host = new; events = events; sent = sent; taken = taken })
      flush_noted events did count events_are = by (flush_due f) refl
        where
          due_any : (x : Option Completion) → flush_due f ≡ true → flush_step (model_now h) (setup_now h) false h.host x ≡ flush_step (model_now h) (setup_now h) false h.host None
          due_any x due = rw due refl

          went : flush_due f ≡ true → new.host ≡ (flush_step (model_now h) (setup_now h) false h.host None).host
          went due = host_of (λ full. flush_step (model_now h) (setup_now h) full h.host (first_since old.taken taken)) step did ∙ ap (λ (x : Turned VolumeNow Call Reply). x.host) (due_any (first_since old.taken taken) due)

          -- none can be taken without one more
          not_taken : (x : Option Completion) → flush_due f ≡ false → record { host = new.host; turn = turn } ≡ flush_step (model_now h) (setup_now h) false h.host x → ⊥
          not_taken None due e = idles_not turn new.host e due did
          not_taken (Some c) due e =
              let more = ap (λ (y : Turned VolumeNow Call Reply). length y.host.journal.flush.taken) e ∙ ap (λ (x : Host VolumeNow Call Reply). length x.journal.flush.taken) (flush_takes (model_now h) (setup_now h) false h.host c due) ∙ length-append f.taken (c ∷ []) in
              omega (arith, more, count)

          by : (x : Bool) → flush_due f ≡ x → IsHostReplay s b (record { host = new; events = events; sent = sent; taken = taken })
          by true due =
              let sends : Sends false f new.host.journal.flush = subst (λ (x : Host VolumeNow Call Reply). Sends false f x.journal.flush) (sym (went due)) (flush_sends (model_now h) (setup_now h) false h.host None due) in
              let same_list = same_taken false f new.host.journal.flush sends in
              let none = taken_is ∙ ap (λ l. old.taken ++ drop (length f.taken) l) (same_list ∙ sym (append-nil f.taken)) ∙ ap (λ l. old.taken ++ l) (drop_at f.taken [] (length f.taken) refl) ∙ append-nil old.taken in
              subst (λ l. IsHostReplay s b (record { host = new; events = events; sent = sent; taken = l })) (sym none)
              (moved false noted.Flush (runs.FlushStep false None) new events sent (λ l. refl) refl events_are
              (flush_goes_on s b.volume b.ring b.limit b.programs is.written is.opened is.journal is.bytes (with_completions old.events old.taken) h is.replay false None new (same ∙ ap (with_host h) (went due)))
              sends sent_is)
          by false due = absurd (not_taken (first_since old.taken taken) due (step ∙ ap (λ full. flush_step (model_now h) (setup_now h) full h.host (first_since old.taken taken)) (not_full did)))

      -- one more was taken
      pub take_noted : (events : List HostEvent) → turn ≡ turns.Did → length new.host.journal.flush.taken ≢ length f.taken → events ≡ old.events ++ noted.Take ∷ [] → IsHostReplay s b (record { host = new; events = events; sent = sent; taken = taken })
      take_noted events did count events_are = by (flush_due f) (first_since old.taken taken) refl (step ∙ ap (λ full. flush_step (model_now h) (setup_now h) full h.host (first_since old.taken taken)) (not_full did))
        where
          by : (x : Bool) (o : Option Completion) → flush_due f ≡ x → record { host = new.host; turn = turn } ≡ flush_step (model_now h) (setup_now h) false h.host o → IsHostReplay s b (record { host = new; events = events; sent = sent; taken = taken })
          by true o due e =
              let sends : Sends false f new.host.journal.flush = subst (λ (x : Host VolumeNow Call Reply). Sends false f x.journal.flush) (sym (ap (λ (y : Turned VolumeNow Call Reply). y.host) e)) (flush_sends (model_now h) (setup_now h) false h.host o due) in
              absurd (count (ap length (same_taken false f new.host.journal.flush sends)))
          by false None due e = absurd (idles_not turn new.host e due did)
          by false (Some c) due e =
              let at : new.host ≡ with_flush (model_now h) (setup_now h) h.host (take_completion c f) = ap (λ (y : Turned VolumeNow Call Reply). y.host) e ∙ flush_takes (model_now h) (setup_now h) false h.host c due in
              one_taken c new events sent taken same at sent_is taken_is events_are

  -- ---- a completion alone

  module _ (new : HostNow) (turn : Turn) (same : new ≡ with_host h new.host) (taken : List Completion) (step : record { host = new.host; turn = turn } ≡ take_step (model_now h) (setup_now h) h.host (first_since old.taken taken)) (taken_is : taken ≡ old.taken ++ drop (length f.taken) new.host.journal.flush.taken) where
    unsent : (x : Option Completion) → old.sent ≡ old.sent ++ sent_between f (take_step (model_now h) (setup_now h) h.host x).host.journal.flush
    unsent None = sym (ap (λ l. old.sent ++ l) (nothing_between f) ∙ append-nil old.sent)
    unsent (Some c) = sym (ap (λ l. old.sent ++ l) (nothing_between f) ∙ append-nil old.sent)

    sent_is : old.sent ≡ old.sent ++ sent_between f new.host.journal.flush
    sent_is = unsent (first_since old.taken taken) ∙ sym (ap (λ (x : Turned VolumeNow Call Reply). old.sent ++ sent_between f x.host.journal.flush) step)

    pub take_still : (events : List HostEvent) → turn ≢ turns.Did → events ≡ old.events → IsHostReplay s b (record { host = new; events = events; sent = old.sent; taken = taken })
    take_still events apart same_events =
        let left = same ∙ ap (with_host h) (ap (λ (x : Turned VolumeNow Call Reply). x.host) step ∙ take_leaves (model_now h) (setup_now h) true h.host (first_since old.taken taken) (λ e. apart (ap (λ (x : Turned VolumeNow Call Reply). x.turn) step ∙ e))) in
        stays new events old.sent taken left same_events sent_is
        (taken_is ∙ ap (λ (x : HostNow). old.taken ++ drop (length f.taken) x.host.journal.flush.taken) left
        ∙ ap (λ l. old.taken ++ l) (ap (drop (length f.taken)) (sym (append-nil f.taken)) ∙ drop_at f.taken [] (length f.taken) refl) ∙ append-nil old.taken)

    not_idle : turn ≡ turns.Did → record { host = new.host; turn = turn } ≡ take_step (model_now h) (setup_now h) h.host None → ⊥
    not_idle did e = let never : ◌≡◌ {A = Turn} turns.Did turns.Idle = sym did ∙ ap (λ (y : Turned VolumeNow Call Reply). y.turn) e in cc never

    pub took_noted : (events : List HostEvent) → turn ≡ turns.Did → events ≡ old.events ++ noted.Take ∷ [] → IsHostReplay s b (record { host = new; events = events; sent = old.sent; taken = taken })
    took_noted events did events_are = by (first_since old.taken taken) step
      where
        by : (x : Option Completion) → record { host = new.host; turn = turn } ≡ take_step (model_now h) (setup_now h) h.host x → IsHostReplay s b (record { host = new; events = events; sent = old.sent; taken = taken })
        by None e = absurd (not_idle did e)
        by (Some c) e = one_taken c new events old.sent taken same (ap (λ (y : Turned VolumeNow Call Reply). y.host) e) sent_is taken_is events_are

-- ---- opening

-- a host of which nothing was asked is that of a side with no events
pub opens : (s : Opening) (b : Start) (h : HostNow) (events : List HostEvent) (sent : List Request) (taken : List Completion) → AreWritten s.format s.writers → IsOpenedVolume s b.volume → HasEmptyJournal s b.ring b.limit → WriteBytes b.programs
    → IsInSession s b.volume b.ring b.limit b.programs [] h → events ≡ [] → sent ≡ [] → taken ≡ [] → IsHostReplay s b (record { host = h; events = events; sent = sent; taken = taken })
opens s b h events sent taken written opened journal bytes here no_events none_sent none_taken =
    subst (λ (l : List HostEvent). IsHostReplay s b (record { host = h; events = l; sent = sent; taken = taken })) (sym no_events) (record {
      written = written;
      opened = opened;
      journal = journal;
      bytes = bytes;
      replay = here;
      counted = sym (ap length none_taken);
      sent = none_sent ∙ sym (ap (λ (x : Host VolumeNow Call Reply). x.journal.flush.requests) here.host);
      taken = none_taken ∙ sym (ap (λ (x : Host VolumeNow Call Reply). x.journal.flush.taken) here.host);
    })
