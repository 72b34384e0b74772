-- What a session begins with.
use Rattle.std.specs.Prelude.{◌≡◌, ℕ, [], length}
use Rattle.order_model.specs.declared.device.OrderedDev as devices
use Rattle.order_model.specs.Machine.{Machine, machine_of}
use Rattle.schedulers.specs.declared.reassign.scheduler.Scheduler as schedulers
use Rattle.schedulers.specs.reassign.Scheduler.{SchedSteps}
pub use Rattle.host_core.specs.Now.{HostNow}
use Rattle.host_machine.specs.runs.laws.Written.{AreWritten}
use Rattle.minix_host.specs.Runs.{IsOpenedVolume, HasEmptyJournal}
use Rattle.minix_host.specs.Sessions.{Opening}
pub use Rattle.call_sessions.specs.Sessions.{WriteBytes, call_over, made_now, made_opening, made_ring}
use Rattle.session_core.specs.run.CodeHosts.{IsInSession}
use Rattle.session_core.specs.run.machine.Machine.{Start}
use Rattle.session_core.specs.run.machine.Fits.{CanStart}

-- what a session begins with: its volume and journal, its queues and programs, a scheduler and a device
pub record Beginning (K S : Type 0) : Type 0 where
  pub opening : Opening
  pub start : Start
  pub sched : K
  pub dev : S

-- The volume and the journal can be opened, the programs write bytes, and scheduler and device are new.
pub record CanBegin {K S : Type 0} (k : SchedSteps K) (m : Machine S) (sched_valid : K → Type 0) (dev_valid : S → Type 0) (b : Beginning K S) : Type 0 where
  -- what the journal writes, its format reads
  pub written : AreWritten b.opening.format b.opening.writers
  -- a volume of the tree that is opened, whose blocks are the first of the image
  pub opened : IsOpenedVolume b.opening b.start.volume
  -- an empty journal after it, with sequences for all transactions that a session of this limit can have
  pub journal : HasEmptyJournal b.opening b.start.ring b.start.limit
  pub bytes : WriteBytes b.start.programs
  -- scheduler and device are in states that they may be in
  pub sched_is : sched_valid b.sched
  pub dev_is : dev_valid b.dev
  -- they are new, and allow as many requests as the session may have
  pub starts : CanStart b.opening b.start (k.seen b.sched) (m.seen b.dev)

-- The session on this opening and start can begin on this scheduler and this device, with queues of this capacity and so
-- many threads, and this is the host that was made for it.
pub record IsMadeFor {A B : Type 0} (k : schedulers.Ghosts A) (d : devices.Ghosts B) (s : Opening) (b : Start) (h : HostNow) (capacity threads : ℕ) (sched : k.State) (dev : d.State) : Type 0 where
  pub begins : CanBegin k.steps (machine_of d) k.valid d.valid (record { opening = s; start = b; sched = sched; dev = dev })
  pub host : IsInSession s b.volume b.ring b.limit b.programs [] h
  pub capacity_is : b.capacity ≡ capacity
  pub threads_are : length b.programs ≡ threads
