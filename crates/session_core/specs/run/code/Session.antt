-- The parts of a running session as the state of the machine.
use Rattle.std.specs.Prelude.{List, length}
use Rattle.order_model.specs.declared.device.OrderedDev as devices
use Rattle.order_model.specs.Machine.{machine_of}
use Rattle.schedulers.specs.declared.reassign.scheduler.Scheduler as schedulers
use Rattle.line_grammar.specs.declared.events.event.CoreEvent.{CoreEvent}
use Rattle.host_core.specs.Now.{HostNow}
use Rattle.minix_host.specs.Sessions.{Opening}
use Rattle.session_core.specs.run.machine.Machine.{SessionState, happens, run_events}
use Rattle.session_core.specs.declared.run.running.RunningSession.{RunningSession}
use Rattle.session_core.specs.run.code.Queues.{QueuesNow, layer_queues}
use Rattle.session_core.specs.run.Beginning.{Beginning}
use Rattle.session_core.specs.run.code.Reached.{IsReached}

-- host, queues, scheduler and device as a state of the machine
abbrev pub session_of : {K S : Type 0} → HostNow → QueuesNow → K → S → SessionState K S
session_of h q sched dev = record {
  host = h.host;
  queues = layer_queues (length h.host.journal.flush.requests) q;
  sched = sched;
  dev = dev;
  completions = q.completions;
  kept = q.kept;
}

module _ {A B : Type 0} (k : schedulers.Ghosts A) (d : devices.Ghosts B) where
  -- the running session as a state of the machine
  abbrev pub state_of : RunningSession A B → SessionState k.State d.State
  state_of r = session_of r.host r.queues (k.state r.sched) (d.state r.dev)

  -- where an event leads from there, and where these do, one after the other
  abbrev pub after_event : Opening → RunningSession A B → CoreEvent → SessionState k.State d.State
  after_event s r event = happens s k.steps (machine_of d) (state_of r) event

  abbrev pub after_events : Opening → RunningSession A B → List CoreEvent → SessionState k.State d.State
  after_events s r events = run_events s k.steps (machine_of d) (state_of r) events

  -- the session that begins so is there
  abbrev pub IsAt : Beginning k.State d.State → RunningSession A B → Type 0
  IsAt b r = IsReached k.steps (machine_of d) k.valid d.valid b r.host (state_of r)
