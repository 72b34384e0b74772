-- Ways on which a session on an image that was made may go on, on any scheduler and a device that stays on and does not fail.
use Rattle.std.specs.List.{list_any, range_with_len}
use Rattle.std.specs.Prelude.{◌≡◌, ◌⊎◌, ℕ, zero, suc, ◌+◌, ◌-◌, ◌==◌, ◌<◌, ◌≤◌, Bool, true, false, not, List, [], ◌∷◌, ◌++◌, length, map, drop, Option, option_map, Some, None, slice_get, slice_index_or, refl, if◌then◌else◌}
use Rattle.std.proofs.Common.{sym, ap, subst, ◌∙◌, inl, inr, arith}
use Rattle.std.proofs.lemmas.Bool.{cases_Bool, cases_lt, ne_eqb, lt-ltb}
use Rattle.std.proofs.lemmas.List.{append-nil, append_assoc, drop_all, length-map}
use Rattle.std.proofs.lemmas.Option.{none-some, same_Some, slice_get-map}
use Rattle.blk_base.specs.Members.{In}
use Rattle.blk_base.specs.laws.Members.{In-append_cases, In-append_left, In-append_right, In-map, map-In, slice_get-length}
use Rattle.order_model.specs.declared.completion.Completion.TheVariants as completions
use Rattle.order_model.specs.declared.completion.Completion.{Completion}
use Rattle.order_model.specs.declared.note.Note.TheVariants as notes
use Rattle.order_model.specs.Device.{completion_id}
use Rattle.order_model.specs.Machine.{Machine}
use Rattle.schedulers.specs.reassign.Scheduler.{SchedSteps, IsScheduler}
use Rattle.minix_layout.specs.declared.division.Geometry.{Geometry}
use Rattle.minix_layout.specs.declared.limits.TheConstants.{LEAST_JOURNAL, MOST_JOURNAL}
use Rattle.minix_layout.specs.Geometry.{IsSound}
use Rattle.stack_core.specs.BlockLayer.{QueuesState}
use Rattle.volume_model.specs.laws.CutTells.{range-In}
use Rattle.line_grammar.specs.calls.WellFormed.{IsWellFormed}
use Rattle.line_grammar.specs.declared.events.event.CoreEvent.{CoreEvent}
use Rattle.line_grammar.specs.declared.events.event.CoreEvent.TheVariants as events
use Rattle.tree_model.specs.declared.call.Call.{Call}
use Rattle.tree_model.specs.declared.call.Reply.{Reply}
use Rattle.volume_steps.specs.Now.{VolumeNow}
use Rattle.volume_steps.specs.Plain.{IsPlainNow}
use Rattle.volume_steps.specs.NewNow.{new_now}
use Rattle.flush_actor.specs.Part.{FlushPart, is_cut, first_failed, is_over, at_limit}
use Rattle.flush_actor.specs.Outcomes.{sent_between}
use Rattle.flush_actor.specs.Waits.{no_wait}
use Rattle.commit_actor.specs.Journal.{Plan, Committing, is_submitted}
use Rattle.crash_laws.specs.Volumes.{WalkEnd}
use Rattle.host_machine.specs.Host.{Stepped, advance, commit_step, step_thread}
use Rattle.host_machine.specs.Model.{Freed}
use Rattle.host_machine.specs.Outcomes as outcomes
use Rattle.host_machine.specs.State.{Thread, Host}
use Rattle.host_machine.specs.laws.Contract.{Over}
use Rattle.host_machine.specs.runs.Runs as runs
use Rattle.host_machine.specs.runs.Runs.{Event, Commit, stepped, steps}
use Rattle.minix_host.specs.ByteCalls.{ByteCall, HasBytes}
use Rattle.minix_host.specs.PlainTrees.{PlainTree}
use Rattle.minix_host.specs.Sessions.{Opening, over}
use Rattle.minix_host.specs.Volumes.{zones_of}
use Rattle.mount_make.specs.Made.{made_image}
use Rattle.call_sessions.specs.CallsAs.{thread_as}
use Rattle.call_sessions.specs.Sessions.{call_over, made_now, made_ring, plain_call, plain_host}
use Rattle.call_sessions.specs.power_cuts.calls.CallImages.{opening_on, made_session}
use Rattle.call_sessions.proofs.PromisesLemmas.Origins.{steps_append}
use Rattle.session_core.specs.run.machine.Fits.{CanStart}
use Rattle.session_core.specs.run.machine.Machine.{SessionState, Start, opened_session, is_full, submission_full, may_flush, flush_event, by_host, call_step, happens, run_events, host_event, host_events, with_submitted, repeated, round, back}
use Rattle.session_core.specs.run.machine.MadeStart.{made_start, IsNew}
use Rattle.session_core.proofs.RunLemmas.MachineLemmas.MadeStart.{made_can_start}
use Rattle.session_core.proofs.RunLemmas.MachineLemmas.SessionRuns.{events_append, run_host, opened_holds, run_holds}
use Rattle.system_laws.specs.answered.Rounds.{HaveEnded, RoundsFinish}
use Rattle.system_laws.specs.transaction_size.Sizes.{HaveLines}
use Rattle.system_laws.proofs.MadeSession as opened
use Rattle.system_laws.proofs.ProgressLemmas.MadeBarriers as barriers
use Rattle.system_laws.proofs.ProgressLemmas.CommitSteps.{IsGoing, some_rest}
use Rattle.system_laws.proofs.ProgressLemmas.Targets.{AreFor}
use Rattle.system_laws.proofs.TransactionSizeLemmas.Hosts.{IsKept}
use Rattle.system_laws.proofs.TransactionSizeLemmas.MadeShare as made
use Rattle.system_laws.proofs.AnsweredLemmas.BegunCalls.{AreFirst, none_begun, first_at, steps_first}
use Rattle.system_laws.proofs.AnsweredLemmas.HostFacts.{HasNoPlan}
use Rattle.system_laws.proofs.AnsweredLemmas.Emptied.{Stands}
use Rattle.system_laws.proofs.AnsweredLemmas.Ends.{Grows, steps_grow, no_calls, all_done}
use Rattle.system_laws.proofs.AnsweredLemmas.FullHosts.{none_due, full_ended}
use Rattle.system_laws.proofs.AnsweredLemmas.Going.{GoesOn}
use Rattle.system_laws.proofs.AnsweredLemmas.HoldFacts.{HoldFacts}
use Rattle.system_laws.proofs.AnsweredLemmas.HoldParts.{IsOf}
use Rattle.system_laws.proofs.AnsweredLemmas.Holds.{IsTimely, step_holds, has_commit, opened_holds as none_held}
use Rattle.system_laws.proofs.AnsweredLemmas.LessFirst.{less_then, least_first}
use Rattle.system_laws.proofs.AnsweredLemmas.LowerHosts.{caller_lowers, commit_lowers}
use Rattle.system_laws.proofs.AnsweredLemmas.LowerParts.{IsBelow, accepts, dispatches, receives, transfers, persists, answers as answers_come, flushes, lowers}
use Rattle.system_laws.proofs.AnsweredLemmas.MatchingHosts.{kept_matches}
use Rattle.system_laws.proofs.AnsweredLemmas.Matching.{Matches}
use Rattle.system_laws.proofs.AnsweredLemmas.Rounds.{HostLess, Less, by_host as by_host_less}
use Rattle.system_laws.proofs.AnsweredLemmas.SettledParts.{IsSettled, settled}
use Rattle.system_laws.proofs.AnsweredLemmas.StillHosts.{all_ended}
use Rattle.system_laws.proofs.AnsweredLemmas.Standing.{hosts_push, all_stand}
use Rattle.system_laws.proofs.AnsweredLemmas.Told.{timely, taken_told}
use Rattle.system_laws.proofs.AnsweredLemmas.WaitingZones.{ZonesWait, opened_wait, all_running, steps_wait, made_waits}
use Rattle.system_laws.proofs.AnsweredLemmas.HostFacts.{Facts, HasNoPlan}

-- neither a cut nor a failure was taken
not_stopped : (taken : List Completion) → (In completions.Cut taken → ⊥) → ((id : ℕ) → In (completions.Failed id) taken → ⊥) → (list_any is_cut taken ≡ false) × (first_failed taken ≡ None)
not_stopped [] uncut unfailed = (refl, refl)
not_stopped (completions.Cut ∷ cs) uncut unfailed = absurd (uncut (inl refl))
not_stopped (completions.Failed id ∷ cs) uncut unfailed = absurd (unfailed id (inl refl))
not_stopped (completions.Moved id ∷ cs) uncut unfailed = not_stopped cs (λ i. uncut (inr i)) (λ id i. unfailed id (inr i))
not_stopped (completions.Flushed id ∷ cs) uncut unfailed = not_stopped cs (λ i. uncut (inr i)) (λ id i. unfailed id (inr i))

-- the events of a round behind the commit actor's, and those below the host, are the same
is_below : (e : CoreEvent) → In e (drop 1 back) → IsBelow e
is_below e (inl is) = subst IsBelow is flushes
is_below e (inr (inl is)) = subst IsBelow is accepts
is_below e (inr (inr (inl is))) = subst IsBelow is dispatches
is_below e (inr (inr (inr (inl is)))) = subst IsBelow is receives
is_below e (inr (inr (inr (inr (inl is))))) = subst IsBelow is transfers
is_below e (inr (inr (inr (inr (inr (inl is)))))) = subst IsBelow is persists
is_below e (inr (inr (inr (inr (inr (inr (inl is))))))) = subst IsBelow is answers_come
is_below e (inr (inr (inr (inr (inr (inr (inr i))))))) = absurd i

below_in : (e : CoreEvent) → IsBelow e → In e (drop 1 back)
below_in e flushes = inl refl
below_in e accepts = inr (inl refl)
below_in e dispatches = inr (inr (inl refl))
below_in e receives = inr (inr (inr (inl refl)))
below_in e transfers = inr (inr (inr (inr (inl refl))))
below_in e persists = inr (inr (inr (inr (inr (inl refl)))))
below_in e answers_come = inr (inr (inr (inr (inr (inr (inl refl))))))

module _ {K S : Type 0} (k : SchedSteps K) (m : Machine S) (sched_valid : K → Type 0) (good : S → Type 0) (left : S → ℕ) (scheduler : IsScheduler k sched_valid) (going : GoesOn m good left)
    (g : Geometry) (journal : ℕ) (wide : Bool) (limit capacity : ℕ) (programs : List (List Call)) (sound : IsSound g) (least : LEAST_JOURNAL ≤ journal) (most : journal ≤ MOST_JOURNAL)
    (words : limit + journal < 4294967296) (lines : HaveLines programs) (bytes_of : (c : Call) → IsWellFormed c → HasBytes c) (new : IsPlainNow (new_now g))
    (sched : K) (dev : S) (can : sched_valid sched) (works : good dev) (start : IsNew (made_image g journal wide) limit (k.seen sched) (m.seen dev)) (queues : 1 ≤ capacity) (waits : 1 ≤ (k.seen sched).capacity) where
  abbrev pub o : Opening
  o = opening_on g journal wide

  abbrev b : Start
  b = made_start g journal limit capacity programs

  abbrev first : SessionState K S
  first = opened_session o b sched dev

  abbrev pub at : List CoreEvent → SessionState K S
  at es = run_events o k m first es

  abbrev pub host : List CoreEvent → Host VolumeNow Call Reply
  host es = (at es).host

  -- the steps that the host took
  abbrev pub hosts : List CoreEvent → List Event
  hosts es = host_events o k m first es

  abbrev session : List Event → Host VolumeNow Call Reply
  session = made_session g journal wide limit programs

  abbrev over_calls : Over WalkEnd PlainTree VolumeNow Call Reply
  over_calls = call_over o

  -- the same host over calls with bytes
  abbrev pub byte : List CoreEvent → Host VolumeNow ByteCall Reply
  byte es = barriers.byte g journal wide limit programs sound least most words lines bytes_of new (hosts es)

  pub same : (es : List CoreEvent) → host es ≡ plain_host (byte es)
  same es = run_host o k m first es ∙ barriers.same g journal wide limit programs sound least most words lines bytes_of new (hosts es)

  pub kept : (es : List CoreEvent) → IsKept o (made_ring journal).places (byte es)
  kept es = barriers.kept g journal wide limit programs sound least most words lines bytes_of new (hosts es)

  abbrev StandsAt : SessionState K S → Type 0
  StandsAt r = Stands o k m sched_valid good left scheduler going r

  can_start : CanStart o b (k.seen sched) (m.seen dev)
  can_start = made_can_start g journal wide o.quota limit capacity programs (k.seen sched) (m.seen dev) (omega (arith, least)) start

  pub stands : (es : List CoreEvent) → StandsAt (at es)
  stands es = all_stand o k m sched_valid good left scheduler going first queues waits
      (λ more. run_holds o k m sched_valid good scheduler going.device b (opened.written g journal wide limit programs sound least most words (made.bytes g journal wide limit programs [] sound least most words lines bytes_of new) new)
      (opened.volume g journal wide limit programs sound least most words (made.bytes g journal wide limit programs [] sound least most words lines bytes_of new) new)
      (opened.empty g journal wide limit programs sound least most words (made.bytes g journal wide limit programs [] sound least most words lines bytes_of new) new)
      (made.bytes g journal wide limit programs [] sound least most words lines bytes_of new) can_start.blocks [] first refl
      (opened_holds o k m sched_valid good scheduler going.device b sched dev can works can_start) more) es

  -- ---- what is known of its hosts

  matches : (es : List CoreEvent) → Matches (host es).journal.flush
  matches es = subst (λ (h : Host VolumeNow Call Reply). Matches h.journal.flush) (sym (same es)) (kept_matches o (made_ring journal).places (byte es) (kept es))

  unstopped : (es : List CoreEvent) → is_over (host es).journal.flush ≡ false
  unstopped es =
      let p = not_stopped (host es).journal.flush.taken
      (λ i. going.uncut (at es).dev (stands es).holds.dev (taken_told o k m sched_valid good left scheduler going (at es) (stands es) completions.Cut i))
      (λ id i. going.unfailed (at es).dev id (stands es).holds.dev (taken_told o k m sched_valid good left scheduler going (at es) (stands es) (completions.Failed id) i)) in
      rw (p.0, p.1) refl

  -- a completion that the host takes is of a request that was submitted
  of_one : (es : List CoreEvent) (c : Completion) → slice_get (at es).completions 0 ≡ Some c → IsOf (host es).journal.flush.notes c
  of_one es c is = by c is
    where
      below : (c : Completion) → slice_get (at es).completions 0 ≡ Some c → (id : ℕ) → completion_id c ≡ Some id → id < length (host es).journal.flush.notes
      below c is id named = subst (λ n. id < n) (sym (matches es).counted) (timely o k m sched_valid good left scheduler going (at es) (stands es) c is id named)

      by : (c : Completion) → slice_get (at es).completions 0 ≡ Some c → IsOf (host es).journal.flush.notes c
      by (completions.Moved id) is = below (completions.Moved id) is id refl
      by (completions.Flushed id) is = below (completions.Flushed id) is id refl
      by (completions.Failed id) is = tt
      by completions.Cut is = tt

  only : (f : FlushPart) (one : Event) → IsTimely f one → (h : Event) → In h (one ∷ []) → IsTimely f h
  only f one fits h (inl is) = subst (IsTimely f) is fits
  only f one fits h (inr i) = absurd i

  all_timely : (es : List CoreEvent) (e : CoreEvent) (h : Event) → In h (host_event (at es) e) → IsTimely (host es).journal.flush h
  all_timely es (events.Call thread) h i = by (thread == 0) i
    where
      by : (z : Bool) → In h (if z then [] else call_step (at es) thread ∷ []) → IsTimely (host es).journal.flush h
      by true i = absurd i
      by false (inl is) = subst (IsTimely (host es).journal.flush) is tt
      by false (inr i) = absurd i
  all_timely es events.Commit h i = only (host es).journal.flush (runs.Commit (submission_full (at es))) tt h i
  all_timely es (events.Writeback pick) h i = only (host es).journal.flush (runs.WriteBack (submission_full (at es)) pick) tt h i
  all_timely es events.FlushStep h i = by (may_flush (at es)) i
    where
      taken : (next : Option Completion) → slice_get (at es).completions 0 ≡ next → IsTimely (host es).journal.flush (runs.FlushStep (submission_full (at es)) next)
      taken None is = tt
      taken (Some c) is = of_one es c is

      by : (z : Bool) → In h (if z then flush_event (at es) ∷ [] else []) → IsTimely (host es).journal.flush h
      by true (inl is) = subst (IsTimely (host es).journal.flush) is (taken (slice_get (at es).completions 0) refl)
      by true (inr i) = absurd i
      by false i = absurd i
  all_timely es events.Submit h i = absurd i
  all_timely es events.Accept h i = absurd i
  all_timely es (events.Dispatch pick) h i = absurd i
  all_timely es events.Receive h i = absurd i
  all_timely es (events.Transfer pick) h i = absurd i
  all_timely es (events.Persist pick) h i = absurd i
  all_timely es events.Answer h i = absurd i

  few_steps : (es : List CoreEvent) (e : CoreEvent) → length (host_event (at es) e) ≤ 1
  few_steps es (events.Call thread) = by (thread == 0)
    where
      by : (z : Bool) → length (if z then [] else call_step (at es) thread ∷ []) ≤ 1
      by true = omega arith
      by false = omega arith
  few_steps es events.Commit = omega arith
  few_steps es (events.Writeback pick) = omega arith
  few_steps es events.FlushStep = by (may_flush (at es))
    where
      by : (z : Bool) → length (if z then flush_event (at es) ∷ [] else []) ≤ 1
      by true = omega arith
      by false = omega arith
  few_steps es events.Submit = omega arith
  few_steps es events.Accept = omega arith
  few_steps es (events.Dispatch pick) = omega arith
  few_steps es events.Receive = omega arith
  few_steps es (events.Transfer pick) = omega arith
  few_steps es (events.Persist pick) = omega arith
  few_steps es events.Answer = omega arith

  pushed : (es : List CoreEvent) (e : CoreEvent) → byte (es ++ e ∷ []) ≡ steps (over o) (byte es) (host_event (at es) e)
  pushed es e = ap (λ hs. barriers.byte g journal wide limit programs sound least most words lines bytes_of new hs) (hosts_push o k m first es e) ∙ steps_append (over o) _ (hosts es) (host_event (at es) e)

  abbrev Held : List CoreEvent → Type 0
  Held es = HoldFacts (byte es).journal

  held_push : (es : List CoreEvent) (e : CoreEvent) → Held es → Held (es ++ e ∷ [])
  held_push es e v = subst (λ (h : Host VolumeNow ByteCall Reply). HoldFacts h.journal) (sym (pushed es e)) (by (host_event (at es) e) (few_steps es e) (all_timely es e))
    where
      by : (hs : List Event) → length hs ≤ 1 → ((h : Event) → In h hs → IsTimely (host es).journal.flush h) → HoldFacts (steps (over o) (byte es) hs).journal
      by [] few fits = v
      by (h ∷ []) few fits = step_holds o (made_ring journal).places (byte es) (kept es) v h (subst (λ (x : Host VolumeNow Call Reply). IsTimely x.journal.flush h) (same es) (fits h (inl refl)))
      by (h ∷ i ∷ hs) few fits = absurd (omega (arith, few))

  held_on : (es more : List CoreEvent) → Held es → Held (es ++ more)
  held_on es [] v = subst Held (sym (append-nil es)) v
  held_on es (e ∷ more) v = subst Held (append_assoc es (e ∷ []) more) (held_on (es ++ e ∷ []) more (held_push es e v))

  held : (es : List CoreEvent) → Held es
  unfolding host_events
  held es = held_on [] es (none_held (over o).model (over o).setup (made_now g) (made_ring journal) g.zones limit (made.byte_programs g journal wide limit programs [] sound least most words lines bytes_of new))

  idle : (es : List CoreEvent) (t : ℕ) (th : Thread Call) → slice_get (host es).threads t ≡ Some th → th.begun ≡ None → slice_index_or (host es).journal.flush.waits t no_wait ≡ no_wait
  idle es t th at none =
      let there : slice_get (map (thread_as plain_call) (byte es).threads) t ≡ Some th = ap (λ (h : Host VolumeNow Call Reply). slice_get h.threads t) (sym (same es)) ∙ at in
      ap (λ (h : Host VolumeNow Call Reply). slice_index_or h.journal.flush.waits t no_wait) (same es) ∙ by (slice_get (byte es).threads t) refl (sym (slice_get-map (thread_as plain_call) (byte es).threads t) ∙ there)
    where
      by : (o : Option (Thread ByteCall)) → slice_get (byte es).threads t ≡ o → option_map (thread_as plain_call) o ≡ Some th → slice_index_or (byte es).journal.flush.waits t no_wait ≡ no_wait
      by None at is = absurd (none-some th is)
      by (Some x) at is = (kept es).sound.rules.3.idle t x at (ap (λ (th : Thread Call). th.begun) (same_Some (thread_as plain_call x) th is) ∙ none)

  pub facts : (es : List CoreEvent) → Facts (host es)
  facts es = record {
    going = unstopped es;
    waits = subst (λ (h : Host VolumeNow Call Reply). AreFor h.journal) (sym (run_host o k m first es)) (barriers.are_for g journal wide limit programs sound least most words lines bytes_of new (hosts es));
    holds = subst (λ (h : Host VolumeNow Call Reply). HoldFacts h.journal) (sym (same es)) (held es);
    commits = λ n some through. by n some (subst (λ (h : Host VolumeNow Call Reply). is_submitted h.journal n ≡ true) (same es) through);
    counted = subst (λ (h : Host VolumeNow Call Reply). length h.threads ≡ length h.journal.flush.waits) (sym (run_host o k m first es)) (barriers.counted g journal wide limit programs sound least most words lines bytes_of new (hosts es));
    idle = idle es;
    first = first_at (host es).threads (subst (λ (h : Host VolumeNow Call Reply). AreFirst h.threads) (sym (run_host o k m first es)) (steps_first over_calls first.host (none_begun programs) (hosts es)));
  }
    where
      by : (n : ℕ) → 1 ≤ n → is_submitted (byte es).journal n ≡ true → (id : ℕ) × (slice_get (host es).journal.flush.notes id ≡ Some (notes.Commit n))
      by n some through = let c = has_commit o (made_ring journal).places (byte es) (kept es) n some through in (c.0, ap (λ (h : Host VolumeNow Call Reply). slice_get h.journal.flush.notes c.0) (same es) ∙ c.1)

  -- ---- how it may go on

  abbrev pub Leads : List CoreEvent → List CoreEvent → Type 0
  Leads x y = (more : List CoreEvent) × (y ≡ x ++ more)

  at_more : (x more : List CoreEvent) → at (x ++ more) ≡ run_events o k m (at x) more
  at_more x more = events_append o k m first x more

  one_more : (x : List CoreEvent) (e : CoreEvent) → at (x ++ e ∷ []) ≡ happens o k m (at x) e
  unfolding run_events
  one_more x e = events_append o k m first x (e ∷ [])

  call_is : (r : SessionState K S) (t : ℕ) → (happens o k m r (events.Call (suc t))).host ≡ (advance over_calls.model over_calls.setup (submission_full r) r.host t).host
  call_is r t =
      ap (λ b. (if b then r else by_host o r (call_step r (suc t))).host) (ne_eqb (suc t) 0 (λ e. let no : 1 ≤ 0 = omega (arith, e) in omega (arith, no)))
      ∙ ap (λ n. stepped over_calls r.host (runs.Call (submission_full r) n)) (let less : suc t - 1 ≡ t = omega arith in less)

  is_going : (x : List CoreEvent) → IsGoing o (made_ring journal).places (made.room g journal wide limit programs [] sound least most words lines bytes_of new) (made.none_fits g journal wide limit programs [] sound least most words lines bytes_of new)
      (opened.written g journal wide limit programs sound least most words (made.bytes g journal wide limit programs [] sound least most words lines bytes_of new) new) (omega (arith, least)) (byte x)
  is_going x = record { kept = kept x; going = subst (λ (h : Host VolumeNow Call Reply). is_over h.journal.flush ≡ false) (same x) (unstopped x) }

  -- a plan that is being sent has a request left
  plan_left : (x : List CoreEvent) (p : Plan) → (host x).journal.phase ≡ Committing p → p.rest ≡ [] → ⊥
  plan_left x p phase none = some_rest o (made_ring journal).places (made.room g journal wide limit programs [] sound least most words lines bytes_of new) (made.none_fits g journal wide limit programs [] sound least most words lines bytes_of new)
      (opened.written g journal wide limit programs sound least most words (made.bytes g journal wide limit programs [] sound least most words lines bytes_of new) new) (omega (arith, least))
      (byte x) (is_going x) p (ap (λ (h : Host VolumeNow Call Reply). h.journal.phase) (sym (same x)) ∙ phase) none

  -- ---- room for calls

  zones_wait : (x : List CoreEvent) → ZonesWait o (made_ring journal).places (byte x)
  zones_wait x = steps_wait o (made_ring journal).places (made.room g journal wide limit programs [] sound least most words lines bytes_of new) (made.none_fits g journal wide limit programs [] sound least most words lines bytes_of new)
      (opened.written g journal wide limit programs sound least most words (made.bytes g journal wide limit programs [] sound least most words lines bytes_of new) new)
      _ (barriers.kept g journal wide limit programs sound least most words lines bytes_of new [])
      (opened_wait o (made_ring journal).places (made_now g) (made_ring journal) limit (made.byte_programs g journal wide limit programs [] sound least most words lines bytes_of new) (made_waits (made_now g) g (g.first ∷ []) refl)) (hosts x)

  zones_running : (x : List CoreEvent) → HasNoPlan (host x) → (z : Freed) → In z (zones_of (host x).volume).waiting → z.transaction ≡ (host x).journal.running.number
  zones_running x unsent z i =
      all_running o (made_ring journal).places (byte x) (zones_wait x) (λ p is. unsent p (ap (λ (h : Host VolumeNow Call Reply). h.journal.phase) (same x) ∙ is)) z (subst (λ (h : Host VolumeNow Call Reply). In z (zones_of h.volume).waiting) (same x) i)
      ∙ ap (λ (h : Host VolumeNow Call Reply). h.journal.running.number) (sym (same x))

  grows : (x y : List CoreEvent) → Leads x y → Grows (host x) (host y)
  grows x y lead =
      let is : at y ≡ run_events o k m (at x) lead.0 = ap at lead.1 ∙ at_more x lead.0 in
      subst (Grows (host x)) (sym (ap (λ (r : SessionState K S). r.host) is ∙ run_host o k m (at x) lead.0)) (steps_grow over_calls (host x) (host_events o k m (at x) lead.0))

  -- ---- rounds

  abbrev one_round : List CoreEvent
  one_round = round (length programs)

  none_sent : (f : FlushPart) → sent_between f f ≡ []
  none_sent f = drop_all (length f.requests) f.requests (omega arith)

  -- a step of the host that changes nothing leaves the session as it is
  host_rests : (r : SessionState K S) (e : Event) → stepped over_calls r.host e ≡ r.host → by_host o r e ≡ r
  host_rests r e is =
      ap (λ (h : Host VolumeNow Call Reply). record r { host = h; queues = with_submitted r.queues (sent_between r.host.journal.flush h.journal.flush) }) is
      ∙ ap (λ l. record r { queues = with_submitted r.queues l }) (none_sent r.host.journal.flush)
      ∙ ap (λ (q : QueuesState). record r { queues = q }) (nothing r.queues)
    where
      nothing : (q : QueuesState) → with_submitted q [] ≡ q
      nothing q = ap (λ n. record q { next = n; submission = q.submission ++ [] }) (let none : q.next + 0 ≡ q.next = omega arith in none) ∙ ap (λ l. record q { submission = l }) (append-nil q.submission)

  host_lowers : (r : SessionState K S) (e : Event) → (stepped over_calls r.host e ≡ r.host) ⊎ HostLess (stepped over_calls r.host e) r.host → (by_host o r e ≡ r) ⊎ Less k m left (by_host o r e) r
  host_lowers r e (inl is) = inl (host_rests r e is)
  host_lowers r e (inr lower) = inr (by_host_less lower)

  -- changes nothing, or lowers something
  abbrev Lowers : List CoreEvent → CoreEvent → Type 0
  Lowers x e = (happens o k m (at x) e ≡ at x) ⊎ Less k m left (happens o k m (at x) e) (at x)

  calls_lower : (x : List CoreEvent) (n : ℕ) → Lowers x (events.Call n)
  calls_lower x n = by (n == 0)
    where
      by : (b : Bool) → ((if b then at x else by_host o (at x) (call_step (at x) n)) ≡ at x) ⊎ Less k m left (if b then at x else by_host o (at x) (call_step (at x) n)) (at x)
      by true = inl refl
      by false = host_lowers (at x) (call_step (at x) n) (caller_lowers over_calls.model over_calls.setup (submission_full (at x)) (host x) (facts x).counted (n - 1))

  below_lowers : (x : List CoreEvent) (e : CoreEvent) → IsBelow e → Lowers x e
  below_lowers x e is = lowers o k m sched_valid good left scheduler going (at x) (stands x) e is

  back_lowers : (x : List CoreEvent) (e : CoreEvent) → In e back → Lowers x e
  back_lowers x e (inl is) = subst (Lowers x) is (host_lowers (at x) (runs.Commit (submission_full (at x))) (commit_lowers over_calls.model over_calls.setup (submission_full (at x)) (host x)))
  back_lowers x e (inr i) = below_lowers x e (is_below e i)

  all_lower : (x : List CoreEvent) (e : CoreEvent) → In e one_round → Lowers x e
  all_lower x e i = by (In-append_cases (map events.Call (range_with_len 1 (length programs))) back e i)
    where
      by : In e (map events.Call (range_with_len 1 (length programs))) ⊎ In e back → Lowers x e
      by (inr there) = back_lowers x e there
      by (inl there) = let n = In-map events.Call (range_with_len 1 (length programs)) e there in subst (Lowers x) n.2 (calls_lower x n.0)

  -- these events lower something, or each of them changes nothing
  abbrev AllLower : List CoreEvent → List CoreEvent → Type 0
  AllLower x es = Less k m left (run_events o k m (at x) es) (at x) ⊎ ((run_events o k m (at x) es ≡ at x) × ((e : CoreEvent) → In e es → happens o k m (at x) e ≡ at x))

  first_lowers : (x : List CoreEvent) (e : CoreEvent) (es : List CoreEvent) → Lowers x e → AllLower x es → AllLower (x ++ e ∷ []) es → AllLower x (e ∷ es)
  unfolding run_events
  first_lowers x e es (inl same) (inl less) more = inl (subst (λ r. Less k m left (run_events o k m r es) (at x)) (sym same) less)
  first_lowers x e es (inl same) (inr p) more = inr (ap (λ r. run_events o k m r es) same ∙ p.0, each)
    where
      each : (d : CoreEvent) → In d (e ∷ es) → happens o k m (at x) d ≡ at x
      each d (inl is) = subst (λ d. happens o k m (at x) d ≡ at x) is same
      each d (inr i) = p.1 d i
  first_lowers x e es (inr less) rest (inl more) =
      inl (subst (λ r. Less k m left (run_events o k m r es) (at x)) (one_more x e) (less_then k m left (at x) (at (x ++ e ∷ [])) _ (subst (λ r. Less k m left r (at x)) (sym (one_more x e)) less) more))
  first_lowers x e es (inr less) rest (inr p) = inl (subst (λ r. Less k m left r (at x)) (sym (ap (λ r. run_events o k m r es) (sym (one_more x e)) ∙ (p.0 ∙ one_more x e))) less)

  list_lowers : (x es : List CoreEvent) → ((e : CoreEvent) → In e es → In e one_round) → AllLower x es
  unfolding run_events
  list_lowers x [] within = inr (refl, λ e i. absurd i)
  list_lowers x (e ∷ es) within = first_lowers x e es (all_lower x e (within e (inl refl))) (list_lowers x es (λ d i. within d (inr i))) (list_lowers (x ++ e ∷ []) es (λ d i. within d (inr i)))

  -- ---- where a round changes nothing

  threads_stay : (x : List CoreEvent) → length (host x).threads ≡ length programs
  unfolding run_events
  threads_stay x = (grows [] x (x, refl)).many ∙ length-map programs _

  module _ (x : List CoreEvent) (still : (e : CoreEvent) → In e one_round → happens o k m (at x) e ≡ at x) where
    in_back : (e : CoreEvent) → In e back → happens o k m (at x) e ≡ at x
    in_back e i = still e (In-append_right (map events.Call (range_with_len 1 (length programs))) back e i)

    below_still : (e : CoreEvent) → IsBelow e → happens o k m (at x) e ≡ at x
    below_still e is = in_back e (inr (below_in e is))

    module _ (is : IsSettled o k m sched_valid good left scheduler going (at x)) where
      room : submission_full (at x) ≡ false
      room = ap (λ l. is_full (at x).queues.capacity l) is.empty ∙ ap not (lt-ltb 0 (at x).queues.capacity (stands x).queues)

      still_thread : (t : ℕ) → (advance over_calls.model over_calls.setup false (host x) t).host ≡ host x
      still_thread t = elim (cases_lt t (length programs)) [
        | inl low ↦
            ap (λ b. (advance over_calls.model over_calls.setup b (host x) t).host) (sym room)
            ∙ (ap (λ (h : Host VolumeNow Call Reply). h) (sym (called t)) ∙ ap (λ (r : SessionState K S). r.host) (still (events.Call (suc t)) (In-append_left (map events.Call (range_with_len 1 (length programs))) back (events.Call (suc t)) (map-In events.Call (range_with_len 1 (length programs)) (suc t) (range-In 1 (length programs) (suc t) (omega arith) (omega (arith, low)))))))
        | inr high ↦ none_there t high
      ]
        where
          called : (t : ℕ) → (happens o k m (at x) (events.Call (suc t))).host ≡ (advance over_calls.model over_calls.setup (submission_full (at x)) (host x) t).host
          called t = call_is (at x) t

          none_there : (t : ℕ) → length programs ≤ t → (advance over_calls.model over_calls.setup false (host x) t).host ≡ host x
          none_there t high = by (slice_get (host x).threads t) refl
            where
              by : (th : Option (Thread Call)) → slice_get (host x).threads t ≡ th → (advance over_calls.model over_calls.setup false (host x) t).host ≡ host x
              by None is = ap (λ (th : Option (Thread Call)). (elim th as (λ _. Stepped VolumeNow Call Reply) [ None ↦ record { host = host x; step = outcomes.Ended } | Some th ↦ step_thread over_calls.model over_calls.setup false (host x) t th.begun th.calls ]).host) is
              by (Some th) is = absurd (let low = slice_get-length (host x).threads t th is in let many = threads_stay x in omega (arith, low, many, high))

      below_limit : at_limit (host x).journal.flush ≡ false → HaveEnded (host x)
      below_limit free = all_ended over_calls.model over_calls.setup (host x) (facts x) (is.drained (is.due free)) free
          (λ plan z i. zones_running x plan z i)
          (λ p phase none. plan_left x p phase none)
          still_thread
          (ap (λ b. (commit_step over_calls.model over_calls.setup b (host x)).host) (sym room) ∙ ap (λ (r : SessionState K S). r.host) (in_back events.Commit (inl refl)))

      at_its_limit : at_limit (host x).journal.flush ≡ true → HaveEnded (host x)
      at_its_limit full = full_ended over_calls.model over_calls.setup (host x) (facts x) full still_thread (is.drained (none_due over_calls.model over_calls.setup (host x) (facts x) full still_thread))

      have_ended : HaveEnded (host x)
      have_ended = elim (cases_Bool (at_limit (host x).journal.flush)) [ inl full ↦ at_its_limit full | inr free ↦ below_limit free ]

    all_end : HaveEnded (host x)
    all_end = have_ended (settled o k m sched_valid good left scheduler going (at x) (stands x) (matches x) below_still)

  -- ---- so rounds get it done

  abbrev HaveDone : List CoreEvent → Type 0
  HaveDone x = HaveEnded (host x)

  abbrev DoneBy : List CoreEvent → Type 0
  DoneBy x = (n : ℕ) × HaveDone (x ++ repeated n one_round)

  round_done : (x : List CoreEvent) → ((y : List CoreEvent) → Less k m left (at y) (at x) → DoneBy y) → DoneBy x
  round_done x again = by (list_lowers x one_round (λ e i. i))
    where
      by : AllLower x one_round → DoneBy x
      by (inl less) =
          let rest = again (x ++ one_round) (subst (λ r. Less k m left r (at x)) (sym (at_more x one_round)) less) in
          (suc rest.0, subst HaveDone (append_assoc x one_round (repeated rest.0 one_round)) rest.1)
      by (inr p) = (0, subst HaveDone (sym (append-nil x)) (all_end x p.1))

  pub done_by : (x : List CoreEvent) → DoneBy x
  done_by x = least_first k m left (List CoreEvent) at DoneBy round_done x

  -- ---- and more rounds leave it so

  stay_done : (x more : List CoreEvent) → HaveDone x → HaveDone (x ++ more)
  stay_done x more all = all_done (host (x ++ more)).threads (let g = (grows x (x ++ more) (more, refl)).counted in let none = no_calls (host x).threads all in omega (arith, g, none))

  -- as many rounds, and more behind them
  more_rounds : (n i : ℕ) → repeated (n + i) one_round ≡ repeated n one_round ++ repeated i one_round
  more_rounds zero i = ap (λ n. repeated n one_round) (let none : 0 + i ≡ i = omega arith in none)
  more_rounds (suc n) i = ap (λ n. repeated n one_round) (let next : suc n + i ≡ suc (n + i) = omega arith in next) ∙ (ap (λ l. one_round ++ l) (more_rounds n i) ∙ sym (append_assoc one_round (repeated n one_round) (repeated i one_round)))

  pub rounds_finish : (es : List CoreEvent) → RoundsFinish host es (length programs)
  rounds_finish es = by (done_by es)
    where
      by : DoneBy es → RoundsFinish host es (length programs)
      by (n, done) = record {
        rounds = n;
        ended = λ i low. subst (λ l. HaveDone (es ++ l)) (sym (more_rounds n (i - n)) ∙ ap (λ n. repeated n one_round) (let sum : n + (i - n) ≡ i = omega (arith, low) in sum))
            (subst HaveDone (append_assoc es (repeated n one_round) (repeated (i - n) one_round)) (stay_done (es ++ repeated n one_round) (repeated (i - n) one_round) done));
      }
