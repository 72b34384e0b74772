-- Three parts that are what their events make of them.
use Rattle.std.specs.Prelude.{◌≡◌}
use Rattle.order_model.specs.Machine.{Machine}
use Rattle.schedulers.specs.reassign.Scheduler.{SchedSteps}
use Rattle.call_sessions.specs.Sessions.{host_behind}
use Rattle.host_machine.specs.State.{Host}
use Rattle.tree_model.specs.declared.call.Call.{Call}
use Rattle.tree_model.specs.declared.call.Reply.{Reply}
use Rattle.volume_steps.specs.Now.{VolumeNow}
use Rattle.minix_host.specs.Sessions.{Opening}
use Rattle.session_core.specs.run.machine.Machine.{Start}
use Rattle.thread_sides.specs.declared.events.Effects.{Effects}
use Rattle.thread_sides.specs.DeviceReplay as device
use Rattle.thread_sides.specs.DeviceReplay.{with_commands}
use Rattle.thread_sides.specs.SchedReplay as scheduler
use Rattle.thread_sides.specs.SchedReplay.{with_requests}
use Rattle.session_threads.specs.sides.HostReplay.{with_completions}

-- Each part is led to by its events from the part that the session opens, over all that the part before it gave: the host by the
-- completions that the device sent, the scheduler by the requests of the host, and the device by the commands of the scheduler.
pub record AreReplayed {K S : Type 0} (s : Opening) (b : Start) (k : SchedSteps K) (sched_first : K) (m : Machine S) (dev_first : S) (effects : Effects) (host : Host VolumeNow Call Reply) (sched : K) (dev : S) : Type 0 where
  pub host_is : host ≡ host_behind s b.volume b.ring b.limit b.programs (with_completions effects.host.items (m.seen dev).sent)
  pub sched_is : sched ≡ (scheduler.steps k (scheduler.opened_side k sched_first) (with_requests effects.sched.items host.journal.flush.requests)).sched
  pub dev_is : dev ≡ (device.steps m (device.opened_side m dev_first) (with_commands effects.dev.items (k.seen sched).sent_out)).dev
