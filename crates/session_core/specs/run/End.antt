-- How a session ends.
use Rattle.std.specs.Prelude.{◌≡◌, ◌++◌}
use Rattle.order_model.specs.Device.{origin_ids}
use Rattle.order_model.specs.Steps.{IsTraceOf}
use Rattle.order_model.specs.Machine.{Machine}
use Rattle.schedulers.specs.reassign.Scheduler.{SchedSteps, IsSchedRecord}
use Rattle.stack_core.specs.Headline.{KeepsOrder}
pub use Rattle.host_core.specs.Entries.{entry_in, ArePlaced}
pub use Rattle.host_core.specs.Standings.{standing_of}
use Rattle.minix_host.specs.Sessions.{Opening}
pub use Rattle.call_sessions.specs.Sessions.{tree_behind}
use Rattle.session_core.specs.run.machine.Machine.{SessionState}
use Rattle.session_core.specs.declared.run.session.SessionEnd.{SessionEnd}

-- The session ended in this state: its host, what is seen of its scheduler, and what the power cut left of its device.
pub record IsEndOf {K S : Type 0} (k : SchedSteps K) (m : Machine S) (r : SessionState K S) (end : SessionEnd) : Type 0 where
  pub host : end.host.host ≡ r.host
  pub sched : IsSchedRecord (k.seen r.sched) end.sched
  pub image : end.cut.image ≡ (m.seen r.dev).surface
  -- for each block the id of the part whose body it holds, where it holds one
  pub origins : end.cut.origins ≡ origin_ids (m.seen r.dev).took (m.seen r.dev).origins
  -- what the device took, transferred and sent, and its steps
  pub trace : IsTraceOf (m.seen r.dev) end.cut.trace

-- What the power cut left is order-closed for the requests that the host of this state submitted over the session's
-- image, and where a flush completed, whether that was taken or not, all before it is kept.
abbrev pub EndKeepsOrder : {K S : Type 0} → Machine S → Opening → SessionState K S → SessionEnd → Type 0
EndKeepsOrder m s r end = KeepsOrder s.image r.host.journal.flush.requests end.cut.image end.cut.origins (end.cut.trace.sent.items ++ (m.seen r.dev).waiting)
