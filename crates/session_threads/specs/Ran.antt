-- A session of a script that ran in threads, and its report.
use Rattle.std.specs.Prelude.{◌≡◌, ◌<◌, ℕ, Bool, true, false, length, Option, Some, None, unwrap_or, replicate}
use Rattle.order_model.specs.Device.{origin_ids}
use Rattle.order_model.specs.Machine.{Machine}
use Rattle.schedulers.specs.declared.reassign.scheduler.TheConstants.{CAPACITY}
use Rattle.schedulers.specs.reassign.Scheduler.{SchedSteps}
use Rattle.schedulers.specs.reassign.Sched as plain
use Rattle.schedulers.specs.elevator.Elevator as elevator
use Rattle.schedulers.specs.dispatch.Opened.{HaveCapacity, ArePassesOf, AreNew}
use Rattle.stack_core.specs.Core.{epoch_machine, flash_machine}
use Rattle.crash_laws.specs.LegalHistory.{of_thread}
use Rattle.call_sessions.specs.promises.Legal.{events_in, program_of}
use Rattle.session_grammar.specs.declared.session_script.SessionScript.{SessionScript}
use Rattle.session_core.specs.CallEnds.{RanFreely}
use Rattle.session_core.specs.Core.{EndState, device_for, flash_for, opening_of, start_of}
use Rattle.session_core.specs.Headline.{HeadlineOn, Medium, kept_in}
use Rattle.session_core.specs.Report.{HasAttemptsAs, IsReportOf}
use Rattle.session_core.specs.code.Ends.{IsEndOfScript}
use Rattle.session_core.specs.run.parts.Whole.{IsWhole}
use Rattle.thread_sides.specs.Opened.{PartSetup}
use Rattle.thread_sides.specs.declared.events.Effects.{Effects}
use Rattle.session_threads.specs.sides.Ended.{HasEnded}
use Rattle.session_threads.specs.Replayed.{AreReplayed}
use Rattle.session_threads.specs.declared.report.ThreadsEnd.{ThreadsEnd}
use Rattle.session_threads.specs.declared.report.ThreadsReport.{ThreadsReport}
use Rattle.session_threads.specs.declared.running.SharedRoom.{SharedRoom}

-- with which numbers scheduler and device of a script's session are made
abbrev pub part_setup : SessionScript → PartSetup
part_setup s = record { limit = s.header.limit; depth = s.header.depth; segments = unwrap_or s.header.flash 0; fail_at = s.header.fail; cut_at = s.header.cut }

-- new queues with their passes, each for so many items, and for each of so many ids a flag that is down
pub record HasRoom (capacity limit : ℕ) (room : SharedRoom) : Type 0 where
  pub capacity_is : HaveCapacity capacity room.queues
  pub passes : ArePassesOf room.queues room.passes
  pub fresh : AreNew room.passes
  pub sched_ids : room.sched_ids ≡ replicate limit false
  pub device_ids : room.device_ids ≡ replicate limit false

-- ---- how it ran

-- what the session left on its device
abbrev pub medium_in : EndState → Medium
medium_in end = record { image = end.dev.surface; origins = origin_ids end.dev.took end.dev.origins }

-- Nothing stopped a session that ended so: the power of its device is on, no transfer failed, and it may submit more.
pub record IsUnstopped (s : SessionScript) (end : EndState) : Type 0 where
  pub power : end.dev.off ≡ false
  pub failure : end.dev.failed ≡ false
  pub limit : length end.host.journal.flush.requests < s.header.limit

-- A session of the script ran in threads, from this scheduler and this device on, and ended in this state: host, scheduler and device are
-- what these events make of them; it has ended; and the entries of each thread are its whole program, with an end for every call. (That
-- the three fit is a part of the headline.)
pub record RanInThreads {K S : Type 0} (k : SchedSteps K) (m : Machine S) (s : SessionScript) (sched_first : K) (dev_first : S) (effects : Effects) (end : EndState) : Type 0 where
  -- the scheduler and the device as the session left them
  pub sched : K
  pub dev : S
  pub sched_seen : end.sched ≡ k.seen sched
  pub dev_seen : end.dev ≡ m.seen dev
  pub replayed : AreReplayed (opening_of s) (start_of s) k sched_first m dev_first effects end.host sched dev
  pub ended : HasEnded s.header.cut end.host end.sched end.dev
  -- each thread did its whole program
  pub whole : (t : ℕ) → IsWhole (of_thread t (events_in end.host.history)) (program_of s.programs t)
  -- where nothing stopped it, the medium has the commit block of every transaction that was closed
  pub all_found : IsUnstopped s end → kept_in s end (medium_in end) ≡ length end.host.cuts
  -- nothing stops it where the script has neither a line `cut` nor a line `fail`, and it may submit more
  pub unstopped : RanFreely s end → IsUnstopped s end

-- on the elevator, or else on the plain scheduler
abbrev pub RanWith : {S : Type 0} → Machine S → SessionScript → S → Bool → Effects → EndState → Type 0
RanWith m s dev true effects end = RanInThreads elevator.elevator_steps m s (elevator.opened s.header.limit CAPACITY) dev effects end
RanWith m s dev false effects end = RanInThreads plain.sched_steps m s (plain.opened s.header.limit CAPACITY) dev effects end

-- on a flash log of so many segments, or else on the model device
abbrev pub RanAs : SessionScript → Option ℕ → Effects → EndState → Type 0
RanAs s None effects end = RanWith epoch_machine s (device_for s) s.header.elevator effects end
RanAs s (Some segments) effects end = RanWith flash_machine s (flash_for s segments) s.header.elevator effects end

-- ---- what a power cut left of it

-- the session ran in threads from these two parts, and this is what the script's end left
pub record LeftBy {K S : Type 0} (k : SchedSteps K) (m : Machine S) (s : SessionScript) (sched_first : K) (dev_first : S) (r : ThreadsEnd) : Type 0 where
  pub end : EndState
  pub ran : RanInThreads k m s sched_first dev_first r.effects end
  pub is : IsEndOfScript s end r.end

-- the same, with the scheduler that the script says
pub record LeftWith {S : Type 0} (m : Machine S) (s : SessionScript) (dev : S) (on_elevator : Bool) (r : ThreadsEnd) : Type 0 where
  pub end : EndState
  pub ran : RanWith m s dev on_elevator r.effects end
  pub is : IsEndOfScript s end r.end

-- ---- its report

-- The report of the script's session in threads, on a flash log of so many segments or else on the model device, and of the attempts of
-- recovery that the script asks for. It promises what the report of a session on one thread does.
pub record IsThreadsReport (s : SessionScript) (flash : Option ℕ) (r : ThreadsReport) : Type 0 where
  pub end : EndState
  pub ran : RanAs s flash r.effects end
  pub report : IsReportOf s end r.report
  pub headline : HeadlineOn s end r.report
  pub attempts : HasAttemptsAs s flash r.report
