-- Sessions on images that were made, on any scheduler and any device, and what rounds bring them to.
use Rattle.std.specs.Prelude.{◌≡◌, ℕ, ◌≤◌, Bool, List, [], ◌++◌, Some, slice_get}
use Rattle.minix_layout.specs.declared.division.Geometry.{Geometry}
use Rattle.line_grammar.specs.declared.events.event.CoreEvent.{CoreEvent}
use Rattle.order_model.specs.Machine.{Machine}
use Rattle.schedulers.specs.reassign.Scheduler.{SchedSteps}
use Rattle.tree_model.specs.declared.call.Call.{Call}
use Rattle.tree_model.specs.declared.call.Reply.{Reply}
use Rattle.volume_steps.specs.Now.{VolumeNow}
use Rattle.host_machine.specs.State.{Thread, Host}
use Rattle.call_sessions.specs.power_cuts.calls.CallImages.{opening_on}
use Rattle.session_core.specs.run.machine.Machine.{opened_session, run_events, repeated, round}
use Rattle.session_core.specs.run.machine.MadeStart.{made_start}

-- no thread has a call left
abbrev pub HaveEnded : {V C R : Type 0} → Host V C R → Type 0
HaveEnded {C = C} h = (t : ℕ) (th : Thread C) → slice_get h.threads t ≡ Some th → th.calls ≡ []

-- the host of a session on an image that was made, on this scheduler and this device, after these events
abbrev pub session_host : {K S : Type 0} → Geometry → ℕ → Bool → ℕ → ℕ → List (List Call) → SchedSteps K → Machine S → K → S → List CoreEvent → Host VolumeNow Call Reply
session_host g journal wide limit capacity programs k m sched dev events =
    (run_events (opening_on g journal wide) k m (opened_session (opening_on g journal wide) (made_start g journal limit capacity programs) sched dev) events).host

-- After so many rounds behind these events, in which each of so many threads and then each other part takes a step, and after any
-- more, no thread has a call left.
pub record RoundsFinish {V C R : Type 0} (session : List CoreEvent → Host V C R) (events : List CoreEvent) (threads : ℕ) : Type 0 where
  pub rounds : ℕ
  pub ended : (n : ℕ) → rounds ≤ n → HaveEnded (session (events ++ repeated n (round threads)))
