-- Sides that were brought together are what their events make of them.
use Rattle.std.proofs.Common.{◌≡◌, ◌≤◌, List, [], ◌∷◌, ◌++◌, length, refl, sym, ap, ◌∙◌, append_assoc, arith}
use Rattle.std.specs.Option.{option_to_list}
use Rattle.order_model.specs.declared.completion.Completion.{Completion}
use Rattle.order_model.specs.declared.command.Command.{Command}
use Rattle.order_model.specs.declared.request.Request.{Request}
use Rattle.order_model.specs.Machine.{Machine}
use Rattle.schedulers.specs.reassign.Scheduler.{SchedSteps}
use Rattle.call_sessions.specs.Sessions.{host_behind}
use Rattle.host_core.specs.Now.{HostNow}
use Rattle.minix_host.specs.Sessions.{Opening}
use Rattle.session_core.specs.run.machine.Machine.{Start}
use Rattle.thread_sides.specs.declared.events.DeviceEvent.{DeviceEvent}
use Rattle.thread_sides.specs.declared.events.DeviceEvent.TheVariants as device_events
use Rattle.thread_sides.specs.declared.events.Effects.{Effects}
use Rattle.thread_sides.specs.declared.events.HostEvent.{HostEvent}
use Rattle.thread_sides.specs.declared.events.SchedEvent.{SchedEvent}
use Rattle.thread_sides.specs.declared.events.SchedEvent.TheVariants as sched_events
use Rattle.thread_sides.specs.DeviceReplay as device
use Rattle.thread_sides.specs.DeviceReplay.{with_commands, receives}
use Rattle.thread_sides.specs.SchedReplay as scheduler
use Rattle.thread_sides.specs.SchedReplay.{with_requests, accepts}
use Rattle.session_threads.specs.sides.HostReplay.{with_completions, takes}
use Rattle.session_threads.specs.Replayed.{AreReplayed}
use Rattle.session_threads.specs.sides.Sides.{AreSides}
use Rattle.session_threads.proofs.SidesLemmas.Fits.{rest_of}
use Rattle.session_threads.proofs.SidesLemmas.HostEvents as of_host

-- events that took these items do the same over a list that begins with them

requests_seen : (es : List SchedEvent) (rs more : List Request) → accepts es ≤ length rs → with_requests es (rs ++ more) ≡ with_requests es rs
requests_seen [] rs more le = refl
requests_seen (sched_events.Dispatch pick full ∷ es) rs more le = ap (λ l. scheduler.Sends pick full ∷ l) (requests_seen es rs more le)
requests_seen (sched_events.Accept ∷ es) [] more le = absurd (omega (arith, le))
requests_seen (sched_events.Accept ∷ es) (r ∷ rs) more le = ap (λ l. scheduler.Takes r ∷ l) (requests_seen es rs more (omega (arith, le)))

commands_seen : (es : List DeviceEvent) (cs more : List Command) → receives es ≤ length cs → with_commands es (cs ++ more) ≡ with_commands es cs
commands_seen [] cs more le = refl
commands_seen (device_events.Transfer pick ∷ es) cs more le = ap (λ l. device.Moves pick ∷ l) (commands_seen es cs more le)
commands_seen (device_events.Persist pick ∷ es) cs more le = ap (λ l. device.Writes pick ∷ l) (commands_seen es cs more le)
commands_seen (device_events.Answer full ∷ es) cs more le = ap (λ l. device.Sends full ∷ l) (commands_seen es cs more le)
commands_seen (device_events.Receive ∷ es) [] more le = absurd (omega (arith, le))
commands_seen (device_events.Receive ∷ es) (c ∷ cs) more le = ap (λ l. device.Takes c ∷ l) (commands_seen es cs more (omega (arith, le)))

requests_left : (es : List SchedEvent) (taken rest given : List Request) → accepts es ≡ length taken → given ≡ taken ++ rest → with_requests es taken ≡ with_requests es given
requests_left es taken rest given count e = sym (requests_seen es taken rest (omega (arith, count))) ∙ ap (with_requests es) (sym e)

commands_left : (es : List DeviceEvent) (taken rest given : List Command) → receives es ≡ length taken → given ≡ taken ++ rest → with_commands es taken ≡ with_commands es given
commands_left es taken rest given count e = sym (commands_seen es taken rest (omega (arith, count))) ∙ ap (with_commands es) (sym e)

completions_left : (es : List HostEvent) (taken rest given : List Completion) → takes es ≡ length taken → given ≡ taken ++ rest → with_completions es taken ≡ with_completions es given
completions_left es taken rest given count e = sym (of_host.front es taken rest (omega (arith, count))) ∙ ap (with_completions es) (sym e)

module _ {K S : Type 0} (s : Opening) (b : Start) (k : SchedSteps K) (sched_first : K) (m : Machine S) (dev_first : S) (effects : Effects) (host : HostNow) (sched : K) (dev : S) where
  pub are_replayed : AreSides s b k sched_first m dev_first effects host sched dev → AreReplayed s b k sched_first m dev_first effects host.host sched dev
  are_replayed is =
      let p = is.sched_is in
      let d = is.device_is in
      let h = is.host_is in
      let taken = host.host.journal.flush.taken in
      let rs = rest_of is.accepted host.host.journal.flush.requests is.requests in
      let cs = rest_of is.received is.sent_out is.commands in
      let xs = rest_of taken is.posted is.completions in
      record {
        host_is = h.replay.host ∙ ap (host_behind s b.volume b.ring b.limit b.programs)
            (completions_left effects.host.items taken (xs.0 ++ option_to_list d.kept) (m.seen dev).sent h.counted
            (d.side.sent ∙ ap (λ l. l ++ option_to_list d.kept) xs.1 ∙ append_assoc taken xs.0 (option_to_list d.kept)));
        sched_is = ap (λ (x : scheduler.SchedNow K). x.sched)
            (p.side.replay ∙ ap (scheduler.steps k (scheduler.opened_side k sched_first)) (requests_left effects.sched.items is.accepted rs.0 host.host.journal.flush.requests p.side.counted rs.1));
        dev_is = ap (λ (x : device.DeviceNow S). x.dev)
            (d.side.replay ∙ ap (device.steps m (device.opened_side m dev_first)) (commands_left effects.dev.items is.received (cs.0 ++ option_to_list p.kept) (k.seen sched).sent_out d.side.counted
            (p.side.sent ∙ ap (λ l. l ++ option_to_list p.kept) cs.1 ∙ append_assoc is.received cs.0 (option_to_list p.kept))));
      }
