-- How a session's run on one scheduler and one device ends, for the code that runs it.
use Rattle.std.specs.Prelude.{◌≡◌, ◌++◌}
use Rattle.order_model.specs.Carrying.{IsPrefixOf}
use Rattle.order_model.specs.Device.{origin_ids}
use Rattle.order_model.specs.Machine.{Machine}
use Rattle.order_model.specs.Steps.{IsTraceOf}
use Rattle.schedulers.specs.reassign.Scheduler.{SchedSteps, IsSchedRecord}
use Rattle.stack_core.specs.Headline.{KeepsOrder}
use Rattle.session_grammar.specs.declared.session_script.SessionScript.{SessionScript}
use Rattle.session_core.specs.run.machine.Machine.{SessionState, core_session}
use Rattle.session_core.specs.declared.run.session.SessionEnd.{SessionEnd}
use Rattle.session_core.specs.Core.{EndState, IsDeviceOf, opening_of, start_of}
pub use Rattle.session_core.specs.Core.{IsBehind}

-- where the script's session ends on this scheduler and this device
abbrev pub session_on : {K S : Type 0} → SessionScript → SchedSteps K → Machine S → K → S → SessionState K S
session_on s k m sched dev = core_session (opening_of s) k m (start_of s) sched dev s.events

-- the values that the run leaves are those of this end
pub record EndsIn (end : EndState) (r : SessionEnd) : Type 0 where
  pub host : r.host.host ≡ end.host
  pub sched : IsSchedRecord end.sched r.sched
  pub image : r.cut.image ≡ end.dev.surface
  -- for each block the id of the part whose body it holds, where it holds one
  pub origins : r.cut.origins ≡ origin_ids end.dev.took end.dev.origins
  -- what the device took, transferred and sent, and its steps
  pub trace : IsTraceOf end.dev r.cut.trace

-- what the power cut left keeps the order of the requests, and what a flush completed
abbrev pub KeepsTheOrder : SessionScript → EndState → SessionEnd → Type 0
KeepsTheOrder s end r = KeepsOrder (opening_of s).image end.host.journal.flush.requests r.cut.image r.cut.origins (r.cut.trace.sent.items ++ end.dev.waiting)

-- How its parts fit: what was accepted are the first requests that its host submitted, what the device took are the first commands
-- that were sent out, and the completions that the host took are the first that the device sent.
pub record EndFits (end : EndState) : Type 0 where
  pub accepted : IsPrefixOf end.sched.accepted end.host.journal.flush.requests
  pub received : IsPrefixOf end.dev.took end.sched.sent_out
  pub taken : IsPrefixOf end.host.journal.flush.taken end.dev.sent

-- A session of the script ended in this state, on one thread or on many, and a power cut left this of it: its host has the script's calls
-- and took some steps from where the session begins, its parts fit, its device is one as the script's header says, and what is left keeps
-- the order of what was submitted.
pub record IsEndOfScript (s : SessionScript) (end : EndState) (r : SessionEnd) : Type 0 where
  pub left : EndsIn end r
  pub calls : r.host.programs ≡ s.programs
  pub behind : IsBehind s end
  pub fits : EndFits end
  pub device : IsDeviceOf s end.dev
  pub order : KeepsTheOrder s end r
