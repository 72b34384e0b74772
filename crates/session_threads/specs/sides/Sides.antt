-- Three sides that were brought together: each is the replay of its own events, over what it took, and they fit.
use Rattle.std.specs.Prelude.{List}
use Rattle.order_model.specs.declared.command.Command.{Command}
use Rattle.order_model.specs.declared.completion.Completion.{Completion}
use Rattle.order_model.specs.declared.request.Request.{Request}
use Rattle.order_model.specs.Carrying.{IsPrefixOf}
use Rattle.order_model.specs.Machine.{Machine}
use Rattle.schedulers.specs.reassign.Scheduler.{SchedSteps}
use Rattle.host_core.specs.Now.{HostNow}
use Rattle.minix_host.specs.Sessions.{Opening}
use Rattle.session_core.specs.run.parts.Joined.{PartsFit}
use Rattle.session_core.specs.run.machine.Machine.{Start}
use Rattle.thread_sides.specs.declared.events.Effects.{Effects}
use Rattle.thread_sides.specs.DeviceReplay as device
use Rattle.thread_sides.specs.SchedReplay as scheduler
use Rattle.session_threads.specs.sides.HostReplay.{IsHostReplay}

-- What the scheduler and the device took, and what they sent, are some lists; what one took is a prefix of what the one before it sent.
pub record AreSides {K S : Type 0} (s : Opening) (b : Start) (k : SchedSteps K) (sched_first : K) (m : Machine S) (dev_first : S) (effects : Effects) (host : HostNow) (sched : K) (dev : S) : Type 0 where
  -- what the scheduler took and sent, and what the device took and sent
  pub accepted : List Request
  pub sent_out : List Command
  pub received : List Command
  pub posted : List Completion
  -- each side is the replay of its events
  pub host_is : IsHostReplay s b (record { host = host; events = effects.host.items; sent = host.host.journal.flush.requests; taken = host.host.journal.flush.taken })
  pub sched_is : scheduler.WasInSide k sched_first sched effects.sched.items sent_out accepted
  pub device_is : device.WasInSide m dev_first dev effects.dev.items posted received
  -- each took the first of what came to it
  pub requests : IsPrefixOf accepted host.host.journal.flush.requests
  pub commands : IsPrefixOf received sent_out
  pub completions : IsPrefixOf host.host.journal.flush.taken posted
  -- so it is with what is seen of scheduler and device
  pub fit : PartsFit host.host.journal.flush.requests host.host.journal.flush.taken (k.seen sched) (m.seen dev)
