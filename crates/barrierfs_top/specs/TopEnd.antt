-- What the top call says of its end.
use Rattle.std.specs.Prelude.{◌≡◌, ℕ, Bool, false, List, Option, Some, None, is_some}
use Rattle.blk_base.specs.Streams.{Rose}
use Rattle.barrierfs_top.specs.declared.command_line.InputTask.{InputTask}
use Rattle.barrierfs_top.specs.declared.command_line.InputTask.TheVariants as commands
use Rattle.barrierfs_top.specs.declared.command_line.Sizes.{Sizes}
use Rattle.barrierfs_top.specs.declared.command_line.Task.{Task}
use Rattle.barrierfs_top.specs.declared.command_line.Task.TheVariants as tasks
use Rattle.barrierfs_top.specs.declared.fault.TopFault.{TopFault}
use Rattle.barrierfs_top.specs.declared.fault.TopFault.TheVariants as faults
use Rattle.barrierfs_top.specs.declared.run_report.RunReport.{RunReport}
use Rattle.barrierfs_top.specs.KeptPuts.{TellsStore}
use Rattle.barrierfs_top.specs.Promise.{WentOut, TellsRun, TellsThreads}
use Rattle.barrierfs_top.specs.Top.{Stream, Did, IsUnread, Expects, EndsAs, EndsAsExpected}

-- Where this task is asked, or where none is and the words are bad: what is promised of the bytes of `replay`, of `run` and of `kv`;
-- what was done, by the fault; and how it ends where the input is told and neither stream fails. Counts of faults rise for a fault alone.
pub record EndsFor (asked : Option Task) (source sink : Stream) (report : Option RunReport) (fault : Option TopFault) : Type 0 where
  -- of the bytes that `replay` writes as text
  pub promise : (bytes : List ℕ) → asked ≡ Some (tasks.Read (commands.Replay false)) → WentOut sink.bytes sink.bytes_after bytes → TellsRun source.bytes source.bytes_after fault bytes
  -- of the bytes that `run` writes as text
  pub threads : (bytes : List ℕ) → asked ≡ Some (tasks.Read (commands.Run false)) → WentOut sink.bytes sink.bytes_after bytes → TellsThreads source.bytes source.bytes_after fault bytes
  -- of the bytes that `kv` writes
  pub kept_puts : (bytes : List ℕ) → asked ≡ Some (tasks.Read commands.Kv) → WentOut sink.bytes sink.bytes_after bytes → TellsStore source.bytes source.bytes_after fault bytes
  pub did : Did asked source sink report fault
  -- words that ask for no task are bad words, unless memory runs out before that is known
  pub words : asked ≡ None → EndsAs (Some faults.BadWords) fault
  -- a call that asks for no input leaves the source as it was
  pub unread : ((c : InputTask) → asked ≡ Some (tasks.Read c) → ⊥) → IsUnread source
  -- where the input is told and neither stream fails, the call ends as the input asks, or out of memory
  pub complete : (c : InputTask) → asked ≡ Some (tasks.Read c) → (text : List ℕ) → source.bytes ≡ Some text → (Rose source.faults source.faults_after → ⊥) → (Rose sink.faults sink.faults_after → ⊥)
      → EndsAsExpected c text fault
  -- a fault of an input that was read is reported even where the sink fails, unless memory runs out
  pub refused : (c : InputTask) → asked ≡ Some (tasks.Read c) → (text : List ℕ) → source.bytes ≡ Some text → (Rose source.faults source.faults_after → ⊥) → (wanted : TopFault) → Expects c text (Some wanted)
      → EndsAs (Some wanted) fault
  -- where the sink does not fail, `make` ends without a fault, or out of memory
  pub made : (s : Sizes) → asked ≡ Some (tasks.Make s) → (Rose sink.faults sink.faults_after → ⊥) → EndsAs None fault
  -- the same of `bulk`
  pub generated : (n : ℕ) → asked ≡ Some (tasks.Bulk n) → (Rose sink.faults sink.faults_after → ⊥) → EndsAs None fault
  -- a count of faults rises for a fault of its own stream alone
  pub source_steady : (fault ≡ Some faults.SourceFault → ⊥) → source.faults_after ≡ source.faults
  pub sink_steady : (fault ≡ Some faults.SinkFault → ⊥) → sink.faults_after ≡ sink.faults

-- a call ended so with some report, and this tells whether it had one
pub record EndsSome (asked : Option Task) (source sink : Stream) (reported : Bool) (fault : Option TopFault) : Type 0 where
  pub report : Option RunReport
  pub ends : EndsFor asked source sink report fault
  pub told : reported ≡ is_some report
