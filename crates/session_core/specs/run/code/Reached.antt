-- Which states a session reaches.
use Rattle.std.specs.Prelude.{◌≡◌, List}
use Rattle.order_model.specs.Machine.{Machine}
use Rattle.schedulers.specs.reassign.Scheduler.{SchedSteps}
use Rattle.line_grammar.specs.declared.events.event.CoreEvent.{CoreEvent}
use Rattle.host_core.specs.Now.{HostNow}
use Rattle.host_machine.specs.runs.Runs.{Event}
use Rattle.session_core.specs.run.CodeHosts.{IsInSession}
use Rattle.session_core.specs.run.machine.Machine.{SessionState, opened_session, run_events}
use Rattle.session_core.specs.run.Beginning.{Beginning, CanBegin}

-- the code's host is in this session, after these steps
abbrev pub IsHostOf : {K S : Type 0} → Beginning K S → List Event → HostNow → Type 0
IsHostOf b steps h = IsInSession b.opening b.start.volume b.start.ring b.start.limit b.start.programs steps h

-- where these events lead from there
abbrev pub state_after : {K S : Type 0} → SchedSteps K → Machine S → Beginning K S → List CoreEvent → SessionState K S
state_after k m b events = run_events b.opening k m (opened_session b.opening b.start b.sched b.dev) events

-- the session is in a state to which some events lead, and the code's host is its host
pub record IsReached {K S : Type 0} (k : SchedSteps K) (m : Machine S) (sched_valid : K → Type 0) (dev_valid : S → Type 0) (b : Beginning K S) (h : HostNow) (now : SessionState K S) : Type 0 where
  pub begins : CanBegin k m sched_valid dev_valid b
  pub events : List CoreEvent
  pub state : now ≡ state_after k m b events
  -- the steps of the host alone
  pub steps : List Event
  pub host : IsHostOf b steps h
