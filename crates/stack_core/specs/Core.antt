-- The run of a script: the events one after the other, each by the steps of the part that it speaks of.
use Rattle.std.specs.Prelude.{ℕ, List, [], ◌∷◌, length, false, Option, Some, None, zero, suc, if◌then◌else◌}
use Rattle.blk_base.specs.Image.{zeros}
use Rattle.order_model.specs.declared.command.Command.{Command}
use Rattle.order_model.specs.declared.request.Request.{Request}
use Rattle.order_model.specs.Device.{Seen}
use Rattle.order_model.specs.Machine.{Machine}
use Rattle.schedulers.specs.declared.reassign.scheduler.TheConstants.{CAPACITY}
use Rattle.schedulers.specs.reassign.Scheduler.{SchedSteps}
use Rattle.schedulers.specs.reassign.Sched as plain
use Rattle.schedulers.specs.elevator.Elevator as elevator
use Rattle.order_model.specs.Carrying.{SchedSeen}
use Rattle.device_epochs.specs.declared.device.DeviceSetup.{DeviceSetup}
use Rattle.device_epochs.specs.Device as epochs
use Rattle.device_epochs.specs.Device.{DeviceState}
use Rattle.flog_device.specs.Device as flash
use Rattle.flog_device.specs.Device.{FlogState}
use Rattle.flog_device.specs.declared.device.FlogSetup.{FlogSetup}
use Rattle.script_grammar.specs.declared.script.Script.{Script}
use Rattle.script_grammar.specs.declared.script.EventLine.{EventLine}
use Rattle.script_grammar.specs.declared.script.EventWord.{EventWord}
use Rattle.script_grammar.specs.declared.script.EventWord.TheVariants.{One}
use Rattle.script_grammar.specs.declared.script.CoreEvent.{CoreEvent}
use Rattle.script_grammar.specs.declared.script.CoreEvent.TheVariants.{Submit, Accept, Dispatch, Receive, Transfer, Persist}
use Rattle.script_grammar.specs.Grammar.{blocks_of}
use Rattle.stack_core.specs.declared.request_path.RequestPath.{RequestPath}
use Rattle.stack_core.specs.RequestPath.{PathState, opened_path, scheduled_count, stepped, given}

-- the request path with its scheduler, and the device
pub record RunState (K S : Type 0) : Type 0 where
  pub path : RequestPath
  pub sched : K
  pub dev : S

-- a command goes to the device, where there is one
abbrev pub received_given : {K S : Type 0} → Machine S → RunState K S → Option (Command × RequestPath) → RunState K S
received_given m r None = r
received_given m r (Some g) = record { path = g.1; sched = r.sched; dev = m.received r.dev g.0 }

-- request path and scheduler, with this device behind them
abbrev pub on_device : {K S : Type 0} → PathState K → S → RunState K S
on_device f dev = record { path = f.path; sched = f.sched; dev = dev }

-- the run without its device
abbrev pub before_device : {K S : Type 0} → RunState K S → PathState K
before_device r = record { path = r.path; sched = r.sched }

-- an event that cannot act changes nothing
abbrev pub happens : {K S : Type 0} → SchedSteps K → Machine S → List Request → RunState K S → CoreEvent → RunState K S
happens k m requests r Submit = on_device (stepped k requests (before_device r) Submit) r.dev
happens k m requests r Accept = on_device (stepped k requests (before_device r) Accept) r.dev
happens k m requests r (Dispatch pick) = on_device (stepped k requests (before_device r) (Dispatch pick)) r.dev
happens k m requests r Receive = if m.has_room r.dev then received_given m r (given requests r.path) else r
happens k m requests r (Transfer pick) = record r { dev = m.transferred r.dev pick }
happens k m requests r (Persist pick) = record r { dev = m.persisted r.dev pick }

-- so many times
abbrev pub times : {S : Type 0} → ℕ → (S → S) → S → S
times zero f s = s
times (suc n) f s = times n f (f s)

abbrev pub happens_word : {K S : Type 0} → SchedSteps K → Machine S → List Request → RunState K S → EventWord → RunState K S
happens_word k m requests r (One event) = happens k m requests r event

-- the event of a line, as often as the line says
abbrev pub happens_line : {K S : Type 0} → SchedSteps K → Machine S → List Request → RunState K S → EventLine → RunState K S
happens_line k m requests r line = times line.count (λ s. happens_word k m requests s line.what) r

unfoldable pub run_lines : {K S : Type 0} → SchedSteps K → Machine S → List Request → RunState K S → List EventLine → RunState K S
run_lines k m requests r [] = r
run_lines k m requests r (l ∷ ls) = run_lines k m requests (happens_line k m requests r l) ls

-- the run of a script on this scheduler and this device
abbrev pub run_of : {K S : Type 0} → SchedSteps K → Machine S → Script → K → S → RunState K S
run_of k m s sched dev = run_lines k m s.puts (record { path = opened_path s; sched = sched; dev = dev }) s.events

-- where a run ends, with what is seen of its scheduler and of its device
pub record EndState : Type 0 where
  pub path : RequestPath
  pub sched : SchedSeen
  pub dev : Seen

abbrev pub ended : {K S : Type 0} → SchedSteps K → Machine S → RunState K S → EndState
ended k m r = record { path = r.path; sched = k.seen r.sched; dev = m.seen r.dev }

-- where a script ends on this device: on the scheduler that it names, in which `CAPACITY` requests may wait
abbrev pub end_on : {S : Type 0} → Machine S → Script → S → EndState
end_on m s dev =
    if s.header.elevator then ended elevator.elevator_steps m (run_of elevator.elevator_steps m s (elevator.opened (scheduled_count s) CAPACITY) dev)
    else ended plain.sched_steps m (run_of plain.sched_steps m s (plain.opened (scheduled_count s) CAPACITY) dev)

-- the steps of the device of epochs
abbrev pub epoch_machine : Machine DeviceState
epoch_machine = record {
  seen = epochs.seen;
  has_room = epochs.has_room;
  can_transfer = λ s. length (epochs.transferable s);
  can_persist = λ s. length (epochs.persistable s);
  received = epochs.received;
  transferred = epochs.transferred;
  persisted = epochs.persisted;
  next_answer = epochs.next_answer;
  answered = epochs.answered;
  read_fails = λ s. epochs.is_next s.bad_read;
  after_read = λ s block. epochs.after_read s;
}

-- the steps of the flash log, which may be read at any time
abbrev pub flash_machine : Machine FlogState
flash_machine = record {
  seen = flash.seen;
  has_room = flash.has_room;
  can_transfer = λ s. length (flash.transferable s);
  can_persist = λ s. length (flash.persistable s);
  received = flash.received;
  transferred = flash.transferred;
  persisted = flash.persisted;
  next_answer = flash.next_answer;
  answered = flash.answered;
  read_fails = λ _. false;
  after_read = λ s _. s;
}

-- how the device of a script is set up: with room for all its requests, the power cut of its `cut` line, and the transfer of its
-- `fail` line as the one that fails
abbrev pub setup_for : Script → DeviceSetup
setup_for s = record { depth = s.header.depth; limit = length s.puts; fail_at = s.header.fail; bad_read = None; cut_at = s.header.cut }

-- the device that a script opens, over zeros
abbrev pub opened_for : Script → DeviceState
opened_for s = epochs.opened (zeros (blocks_of s)) (setup_for s)

-- the same of a flash log of so many segments
abbrev pub flash_setup_for : Script → ℕ → FlogSetup
flash_setup_for s segments = record { depth = s.header.depth; limit = length s.puts; segments = segments; fail_at = s.header.fail; cut_at = s.header.cut }

abbrev pub flash_opened_for : Script → ℕ → FlogState
flash_opened_for s segments = flash.opened (zeros (blocks_of s)) (flash_setup_for s segments)

-- where a script ends on the device of its `flash` line: the model device where there is none
abbrev pub core_as : Script → Option ℕ → EndState
core_as s None = end_on epoch_machine s (opened_for s)
core_as s (Some segments) = end_on flash_machine s (flash_opened_for s segments)

-- where a script ends: all its events on the parts that it opens
abbrev pub core : Script → EndState
core s = core_as s s.header.flash
