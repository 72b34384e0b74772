-- What holds of the parts of a script's session in threads, once they are together.
use Rattle.std.proofs.Common.{◌≡◌, ℕ, ◌++◌, ◌==◌, true, List, [], ◌∷◌, length, zero, suc, Option, Some, slice_get, refl, sym, ap, subst, ◌∙◌, arith}
use Rattle.std.proofs.lemmas.Bool.{and_parts, eqb-true}
use Rattle.std.proofs.lemmas.Option.{none-some, same_Some}
use Rattle.order_model.specs.Carrying.{AreAtIds}
use Rattle.order_model.specs.OrderClosed.{IsPut, IsKept}
use Rattle.order_model.specs.Device.{TellsCut, TellsFailure, completed, origin_ids}
use Rattle.order_model.specs.Machine.{Machine}
use Rattle.order_model.specs.Steps.{IsTraceOf}
use Rattle.order_model.specs.declared.completion.Completion.{Completion}
use Rattle.order_model.specs.declared.cut_disk.CutDisk.{CutDisk}
use Rattle.order_model.specs.declared.request.Request.{Request}
use Rattle.order_model.specs.declared.sched_record.SchedRecord.{SchedRecord}
use Rattle.schedulers.specs.reassign.Scheduler.{SchedSteps, IsSchedRecord}
use Rattle.stack_core.specs.Headline.{KeepsOrder}
use Rattle.stack_core.specs.RequestPath.{AreRequests}
use Rattle.crash_laws.specs.LegalHistory.{of_thread}
use Rattle.tree_model.specs.declared.call.Call.{Call}
use Rattle.tree_model.specs.declared.call.Reply.{Reply}
use Rattle.volume_steps.specs.Now.{VolumeNow}
use Rattle.host_core.specs.Done.{is_done}
use Rattle.host_core.specs.Now.{HostNow}
use Rattle.host_machine.specs.State.{Host, Thread}
use Rattle.host_machine.specs.runs.Runs.{Event}
use Rattle.host_machine.proofs.RunsLemmas.StartHost.{none_begun}
use Rattle.minix_host.specs.Calls.{kind_of}
use Rattle.call_sessions.specs.Sessions.{KeepsCalls, call_over, host_behind, opened_with}
use Rattle.call_sessions.specs.power_cuts.calls.CallImages.{submitted_by}
use Rattle.call_sessions.proofs.PromisesLemmas.Growing.{run_grows}
use Rattle.call_sessions.specs.promises.Legal.{events_in, program_of}
use Rattle.session_core.specs.run.parts.Whole.{IsWhole}
use Rattle.session_grammar.specs.declared.session_script.SessionScript.{SessionScript}
use Rattle.session_core.specs.Core.{EndState, IsDeviceOf, IsNewFor, geometry_of, opening_of, start_of}
use Rattle.session_core.specs.Headline.{kept_in}
use Rattle.thread_sides.specs.declared.events.Effects.{Effects}
use Rattle.session_threads.specs.sides.Ended.{HasEnded, IsAllDone}
use Rattle.session_threads.specs.sides.HostReplay.{with_completions}
use Rattle.session_threads.specs.sides.Sides.{AreSides}
use Rattle.session_threads.proofs.AllFound.{all_found, unstopped_is_done, free_is_unstopped}
use Rattle.session_threads.proofs.Replays.{are_replayed}
use Rattle.session_threads.specs.Ran.{LeftBy, IsUnstopped, medium_in}

-- ---- threads without a call left

no_calls : {C : Type 0} (cs : List C) → length cs ≡ 0 → cs ≡ []
no_calls [] e = refl
no_calls (c ∷ cs) e = absurd (omega (arith, e))

done_calls : {C : Type 0} (ts : List (Thread C)) → is_done ts ≡ true → (t : ℕ) (th : Thread C) → slice_get ts t ≡ Some th → th.calls ≡ []
done_calls [] done t th at = absurd (none-some th at)
done_calls (x ∷ ts) done zero th at =
    let first = (and_parts (length x.calls == 0) (is_done ts) done).0 in
    ap (λ (y : Thread _). y.calls) (sym (same_Some x th at)) ∙ no_calls x.calls (eqb-true (length x.calls) 0 first)
done_calls (x ∷ ts) done (suc t) th at = done_calls ts (and_parts (length x.calls == 0) (is_done ts) done).1 t th at

-- ---- what is left of the device

order_in : (base image surface left : List (List ℕ)) (requests : List Request) (origins kept : List (Option ℕ)) (sent told waiting : List Completion) → base ≡ image → left ≡ surface → kept ≡ origins → told ≡ sent
    → KeepsOrder base requests surface origins (sent ++ waiting) → KeepsOrder image requests left kept (told ++ waiting)
order_in base image surface left requests origins kept sent told waiting same_base same_image same_origins same_sent order =
    subst (λ (x : List Completion). KeepsOrder image requests left kept (x ++ waiting)) (sym same_sent)
    (subst (λ (x : List (Option ℕ)). KeepsOrder image requests left x (sent ++ waiting)) (sym same_origins)
    (subst (λ (x : List (List ℕ)). KeepsOrder image requests x origins (sent ++ waiting)) (sym same_image)
    (subst (λ (x : List (List ℕ)). KeepsOrder x requests surface origins (sent ++ waiting)) same_base order)))

-- ---- the parts

module _ {K S : Type 0} (k : SchedSteps K) (m : Machine S) (s : SessionScript) (sched_first : K) (dev_first : S) (effects : Effects) (host : HostNow) (sched : K) (dev : S) (is : AreSides (opening_of s) (start_of s) k sched_first m dev_first effects host sched dev) where
  abbrev requests : List Request
  requests = host.host.journal.flush.requests

  abbrev pub events : List Event
  events = with_completions effects.host.items host.host.journal.flush.taken

  abbrev behind : Host VolumeNow Call Reply
  behind = host_behind (opening_of s) (start_of s).volume (start_of s).ring (start_of s).limit (start_of s).programs events

  host_is : host.host ≡ behind
  host_is = is.host_is.replay.host

  pub at_ids : AreRequests (length (opening_of s).image) behind.journal.flush.requests → AreAtIds requests
  at_ids fit = subst (λ (h : Host VolumeNow Call Reply). AreAtIds h.journal.flush.requests) (sym host_is) (λ i q at. (fit i q at).named)

  whole : HasEnded s.header.cut host.host (k.seen sched) (m.seen dev) → ((t : ℕ) → ((th : Thread Call) → slice_get behind.threads t ≡ Some th → th.calls ≡ []) → IsWhole (of_thread t (events_in behind.history)) (program_of s.programs t))
      → (t : ℕ) → IsWhole (of_thread t (events_in host.host.history)) (program_of s.programs t)
  whole ended law t =
      let done = ap (λ (h : Host VolumeNow Call Reply). is_done h.threads) (sym host_is) ∙ ended.programs in
      subst (λ (h : Host VolumeNow Call Reply). IsWhole (of_thread t (events_in h.history)) (program_of s.programs t)) (sym host_is)
      (law t (λ th at. done_calls behind.threads done t th at))

  device : IsNewFor s (m.seen dev_first) → TellsCut (m.seen dev) → TellsFailure (m.seen dev) → IsDeviceOf s (m.seen dev)
  device new power failure =
      let made = is.device_is.side.made in
      let setup = new.setup in
      record {
        setup = record { depth = made.depth ∙ setup.depth; cut_at = made.cut_at ∙ setup.cut_at; fail_at = made.fail_at ∙ setup.fail_at };
        power = power;
        failure = failure;
      }

  abbrev end : EndState
  end = record { host = host.host; sched = k.seen sched; dev = m.seen dev }

  limit_is : host.host.journal.flush.limit ≡ s.header.limit
  limit_is =
      let o = opening_of s in
      let b = start_of s in
      subst (λ (h : Host VolumeNow Call Reply). h.journal.flush.limit ≡ s.header.limit) (sym host_is)
      (run_grows (call_over o) (opened_with o b.volume b.ring b.limit b.programs) (none_begun kind_of b.programs) events).limit

  -- all puts of a quiet device are kept, and so all commit blocks
  found_all : KeepsCalls (opening_of s) host.host → (IsAllDone host.host (k.seen sched) (m.seen dev) → (i : ℕ) → IsPut requests i → IsKept requests (origin_ids (m.seen dev).took (m.seen dev).origins) i)
      → IsDeviceOf s (m.seen dev) → HasEnded s.header.cut host.host (k.seen sched) (m.seen dev) → IsUnstopped s end → kept_in s end (medium_in end) ≡ length host.host.cuts
  found_all keeps quiet is_device ended free =
      let done = unstopped_is_done s end is_device limit_is ended free in
      all_found (submitted_by (geometry_of s) s.journal s.wide keeps.closed host.host) (medium_in end) keeps.rules.order.fits (quiet done) ∙ done.closed

  pub left_by : (did : SchedRecord) (cut : CutDisk) → IsSchedRecord (k.seen sched) did → cut.image ≡ (m.seen dev).surface → cut.origins ≡ origin_ids (m.seen dev).took (m.seen dev).origins → IsTraceOf (m.seen dev) cut.trace
      → IsNewFor s (m.seen dev_first) → TellsCut (m.seen dev) → TellsFailure (m.seen dev)
      → KeepsOrder (m.seen dev).base requests (m.seen dev).surface (origin_ids (m.seen dev).took (m.seen dev).origins) (completed (m.seen dev))
      → HasEnded s.header.cut host.host (k.seen sched) (m.seen dev)
      → KeepsCalls (opening_of s) host.host
      → (IsAllDone host.host (k.seen sched) (m.seen dev) → (i : ℕ) → IsPut requests i → IsKept requests (origin_ids (m.seen dev).took (m.seen dev).origins) i)
      → ((t : ℕ) → ((th : Thread Call) → slice_get behind.threads t ≡ Some th → th.calls ≡ []) → IsWhole (of_thread t (events_in behind.history)) (program_of s.programs t))
      → LeftBy k m s sched_first dev_first (record { end = record { host = host; sched = did; cut = cut }; effects = effects })
  left_by did cut did_is image origins trace new power failure order ended keeps quiet law = record {
    end = end;
    ran = record {
      sched = sched;
      dev = dev;
      sched_seen = refl;
      dev_seen = refl;
      replayed = are_replayed (opening_of s) (start_of s) k sched_first m dev_first effects host sched dev is;
      ended = ended;
      whole = whole ended law;
      all_found = λ free. found_all keeps quiet (device new power failure) ended free;
      unstopped = free_is_unstopped s end (device new power failure);
    };
    is = record {
      left = record { host = refl; sched = did_is; image = image; origins = origins; trace = trace };
      calls = is.host_is.replay.calls;
      behind = record { events = events; host = host_is };
      fits = record { accepted = is.fit.accepted; received = is.fit.received; taken = is.fit.taken_is };
      device = device new power failure;
      order = order_in (m.seen dev).base (opening_of s).image (m.seen dev).surface cut.image requests (origin_ids (m.seen dev).took (m.seen dev).origins) cut.origins (m.seen dev).sent cut.trace.sent.items (m.seen dev).waiting
          (is.device_is.side.made.base ∙ new.image) image origins trace.sent order;
    };
  }
