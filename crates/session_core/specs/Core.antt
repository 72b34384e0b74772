-- The session that a volume script says: what it opens, and where its events lead.
use Rattle.std.specs.Prelude.{◌≡◌, ℕ, zero, suc, ◌+◌, ◌≤◌, ◌++◌, List, [], ◌∷◌, Option, Some, None, if◌then◌else◌}
use Rattle.order_model.specs.Carrying.{SchedSeen}
use Rattle.order_model.specs.Device.{Seen, IsUntouched, TellsCut, TellsFailure}
use Rattle.order_model.specs.Machine.{Machine}
use Rattle.schedulers.specs.declared.reassign.scheduler.TheConstants.{CAPACITY}
use Rattle.schedulers.specs.reassign.Scheduler.{SchedSteps}
use Rattle.schedulers.specs.reassign.Sched as plain
use Rattle.schedulers.specs.elevator.Elevator as elevator
use Rattle.device_epochs.specs.declared.device.DeviceSetup.{DeviceSetup}
use Rattle.device_epochs.specs.Device as epochs
use Rattle.device_epochs.specs.Device.{DeviceState}
use Rattle.flog_device.specs.declared.device.FlogSetup.{FlogSetup}
use Rattle.flog_device.specs.Device as flash
use Rattle.flog_device.specs.Device.{FlogState}
use Rattle.minix_layout.specs.declared.division.Geometry.{Geometry}
use Rattle.minix_layout.specs.Geometry.{geometry_made}
use Rattle.tree_model.specs.declared.call.Call.{Call}
use Rattle.tree_model.specs.declared.call.Reply.{Reply}
use Rattle.volume_steps.specs.Now.{VolumeNow}
use Rattle.journal_ring.specs.running.Open.{quota}
use Rattle.mount_make.specs.Made.{new_journal, made_image}
use Rattle.host_answers.specs.declared.standing.Standing.{Standing}
use Rattle.host_machine.specs.State.{Host}
use Rattle.session_core.specs.opening.Opened.{opened_now}
pub use Rattle.session_core.specs.run.Beginning.{HostNow}
use Rattle.session_core.specs.run.Beginning.{made_opening}
pub use Rattle.session_core.specs.run.End.{entry_in, ArePlaced, standing_of}
use Rattle.host_machine.specs.runs.Runs.{Event}
use Rattle.minix_host.specs.Sessions.{Opening}
use Rattle.call_sessions.specs.power_cuts.calls.CallImages.{made_session}
use Rattle.stack_core.specs.Core.{epoch_machine, flash_machine}
use Rattle.session_grammar.specs.declared.session_script.SessionScript.{SessionScript}
use Rattle.session_core.specs.run.machine.Machine.{SessionState, Start, core_session}
use Rattle.session_core.specs.run.machine.MadeStart.{made_start}

-- how its volume is divided
abbrev pub geometry_of : SessionScript → Geometry
geometry_of s = geometry_made s.inodes s.zones s.width

-- a new volume with an empty journal behind it
abbrev pub opening_of : SessionScript → Opening
opening_of s = made_opening (geometry_of s) s.journal s.wide (quota (new_journal s.journal s.wide))

-- what the script's session begins on: the volume that is made, the empty ring and the threads' programs
abbrev pub start_of : SessionScript → Start
start_of s = made_start (geometry_of s) s.journal s.header.limit s.header.queue s.programs

-- a device over the image, with room for all requests, the power cut of the `cut` line, and the transfer of the `fail` line as the
-- one that fails
abbrev pub setup_for : SessionScript → DeviceSetup
setup_for s = record { depth = s.header.depth; limit = s.header.limit; fail_at = s.header.fail; bad_read = None; cut_at = s.header.cut }

-- a new model device over the image of the script's volume
abbrev pub device_for : SessionScript → DeviceState
device_for s = epochs.opened (made_image (geometry_of s) s.journal s.wide) (setup_for s)

-- a flash log of so many segments over the image, made so too
abbrev pub flash_setup_for : SessionScript → ℕ → FlogSetup
flash_setup_for s segments = record { depth = s.header.depth; limit = s.header.limit; segments = segments; fail_at = s.header.fail; cut_at = s.header.cut }

-- a new flash log of so many segments over the image of the script's volume
abbrev pub flash_for : SessionScript → ℕ → FlogState
flash_for s segments = flash.opened (made_image (geometry_of s) s.journal s.wide) (flash_setup_for s segments)

-- the host that it opens on that volume
abbrev pub opened_host : SessionScript → HostNow
opened_host s = opened_now (geometry_of s) s.journal s.wide s.header.limit s.programs

-- where a session ends, with what is seen of its scheduler and of its device
pub record EndState : Type 0 where
  pub host : Host VolumeNow Call Reply
  pub sched : SchedSeen
  pub dev : Seen

-- what is left of a session where it stops: the host, and what is seen of scheduler and device
abbrev pub ended : {K S : Type 0} → SchedSteps K → Machine S → SessionState K S → EndState
ended k m r = record { host = r.host; sched = k.seen r.sched; dev = m.seen r.dev }

-- its host took these steps from where the script's session begins
pub record IsBehind (s : SessionScript) (end : EndState) : Type 0 where
  pub events : List Event
  pub host : end.host ≡ made_session (geometry_of s) s.journal s.wide s.header.limit s.programs events

-- all events of a script on this device, on the parts that it opens and the scheduler that it names, in which `CAPACITY` requests
-- may wait
abbrev pub core_on : {S : Type 0} → Machine S → SessionScript → S → EndState
core_on m s dev =
    if s.header.elevator then
    ended elevator.elevator_steps m (core_session (opening_of s) elevator.elevator_steps m (start_of s) (elevator.opened s.header.limit CAPACITY) dev s.events)
    else ended plain.sched_steps m (core_session (opening_of s) plain.sched_steps m (start_of s) (plain.opened s.header.limit CAPACITY) dev s.events)

-- the same on a flash log of so many segments, or else on the model device
abbrev pub core_as : SessionScript → Option ℕ → EndState
core_as s None = core_on epoch_machine s (device_for s)
core_as s (Some segments) = core_on flash_machine s (flash_for s segments)

-- the same on the device that it opens: a flash log, where the line `flash` stands
abbrev pub core : SessionScript → EndState
core s = core_as s s.header.flash

-- The device was made as the script's header says: so many commands may wait, its power goes off at the steps of the `cut` line, where
-- there is one, and the transfer with the number of the `fail` line fails, where there is one.
pub record HasSetup (s : SessionScript) (d : Seen) : Type 0 where
  pub depth : d.depth ≡ s.header.depth
  pub cut_at : d.cut_at ≡ s.header.cut
  pub fail_at : d.fail_at ≡ s.header.fail

-- The device was made over the image of the script's volume, as its header says, and may take at least so many ids as the script may have
-- requests; nothing was asked of it yet.
pub record IsNewFor (s : SessionScript) (d : Seen) : Type 0 where
  pub image : d.base ≡ made_image (geometry_of s) s.journal s.wide
  pub setup : HasSetup s d
  pub untouched : IsUntouched d
  pub ids : s.header.limit ≤ d.limit

-- A device that was made as the script's header says, at any time of the session: its power is off exactly where as many steps were
-- made as the `cut` line says, and tells that exactly then; and a transfer of it failed exactly where it made as many as the `fail`
-- line says, which it tells exactly then.
pub record IsDeviceOf (s : SessionScript) (d : Seen) : Type 0 where
  pub setup : HasSetup s d
  pub power : TellsCut d
  pub failure : TellsFailure d

-- one more, where there is one
abbrev pub with_standing : List Standing → Option Standing → List Standing
with_standing ss None = ss
with_standing ss (Some s) = ss ++ s ∷ []

-- how so many threads stand, from the first on
abbrev pub standings_of : HostNow → ℕ → List Standing
standings_of h zero = []
standings_of h (suc n) = with_standing (standings_of h n) (standing_of h (n + 1))
