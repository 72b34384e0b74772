-- What the top call did, by its fault.
use Rattle.std.specs.Prelude.{◌≡◌, ℕ, ◌<◌, ◌≤◌, ◌⊎◌, ◌||◌, Bool, true, false, List, length, Option, Some, None, Result, Ok, Err, nat_lt, codes}
use Rattle.std.specs.List.{concat}
use Rattle.std.specs.Io.KnownBytes.{Keeps, Appends, Consumes}
use Rattle.blk_base.specs.Streams.{Rose, Drained, AppendsFront}
use Rattle.script_grammar.specs.declared.kinds.ScriptKind.{ScriptKind}
use Rattle.blk_base.specs.Image.{whole_blocks}
use Rattle.mount_make.specs.declared.fault.ImageFault.{ImageFault}
use Rattle.minix_layout.specs.declared.limits.TheConstants.{DEFAULT_WIDTH}
use Rattle.minix_layout.specs.Geometry.{geometry_made}
use Rattle.mount_make.specs.Made.{made_image}
use Rattle.barrierfs_top.specs.declared.command_line.InputTask.{InputTask}
use Rattle.barrierfs_top.specs.declared.command_line.Sizes.{Sizes}
use Rattle.barrierfs_top.specs.declared.command_line.Task.{Task}
use Rattle.barrierfs_top.specs.declared.command_line.Task.TheVariants as tasks
use Rattle.barrierfs_top.specs.Tasks.{most_of}
use Rattle.barrierfs_top.specs.declared.command_line.InputTask.TheVariants as commands
use Rattle.barrierfs_top.specs.Show.{shown}
use Rattle.barrierfs_top.specs.Widen.{IsWidened, widen_fault}
use Rattle.barrierfs_top.specs.Check.{IsChecked}
use Rattle.barrierfs_top.specs.Bulk.{IsWorkload}
use Rattle.barrierfs_top.specs.Runs.{IsRun, threads_script_of}
use Rattle.barrierfs_top.specs.Stores.{IsStoreRun}
use Rattle.barrierfs_top.specs.declared.fault.TopFault.{TopFault}
use Rattle.barrierfs_top.specs.declared.fault.TopFault.TheVariants as faults
use Rattle.script_grammar.specs.declared.script.Script.{Script}
use Rattle.script_grammar.specs.declared.script_error.ScriptError.{ScriptError}
use Rattle.script_grammar.specs.declared.script_error.ScriptError.TheVariants as errors
use Rattle.blk_base.specs.declared.reading.ReadEnd.{ReadEnd}
use Rattle.blk_base.specs.declared.reading.ReadEnd.TheVariants as ends
use Rattle.stack_core.specs.declared.report.Report.{Report}
use Rattle.script_grammar.specs.Grammar.{script_of}
use Rattle.session_grammar.specs.Grammar.{session_of}
use Rattle.store_grammar.specs.Grammar.{store_of}
use Rattle.barrierfs_top.specs.declared.run_report.RunReport.{RunReport}
use Rattle.barrierfs_top.specs.declared.run_report.RunReport.TheVariants as reports
use Rattle.barrierfs_top.specs.Sessions.{is_session, IsSessionReplay, IsImageReplay}
use Rattle.stack_core.specs.Report.{IsCoreReport, Headline}
use Rattle.barrierfs_top.specs.Text.{text_of}

-- the exit status of a fault
abbrev pub status_of : Option TopFault → ℕ
status_of None = 0
status_of (Some faults.BadWords) = 2
status_of (Some (faults.Script line kind)) = 3
status_of (Some (faults.Image kind block)) = 4
status_of (Some faults.SourceFault) = 5
status_of (Some faults.SinkFault) = 6
status_of (Some faults.TooLong) = 7
status_of (Some faults.NoMemory) = 8
status_of (Some faults.NoRoom) = 9
status_of (Some (faults.Unsound verdict)) = 10

-- what a call did to a stream: its bytes, where they are told, and its count of faults, before and after
pub record Stream : Type 0 where
  pub bytes : Option (List ℕ)
  pub bytes_after : Option (List ℕ)
  pub faults : ℕ
  pub faults_after : ℕ

-- the same, by what is told of a stream's bytes and by its count of faults
abbrev pub stream_of : {X : Type 0} → (X → Option (List ℕ)) → (X → ℕ) → X → X → Stream
stream_of bytes faults before after = record { bytes = bytes before; bytes_after = bytes after; faults = faults before; faults_after = faults after }

-- a source was read to its end, and its bytes are no more than the command may have
pub record WasRead (c : InputTask) (old new : Option (List ℕ)) (Holds : List ℕ → Type 0) : Type 0 where
  pub input : List ℕ
  pub drained : Drained old new input
  pub short : length input ≤ most_of c
  pub holds : Holds input

-- more bytes were read than the command may have
pub record IsTooLong (c : InputTask) (old new : Option (List ℕ)) : Type 0 where
  pub input : List ℕ
  pub long : most_of c < length input
  pub read : Consumes old new input

-- ---- what a command makes of its input

-- a script of block requests: the input spells it, the report is that of the script's core run and keeps the order that
-- the host asked for, and the text is the report's
pub record IsBlocksReplay (input : List ℕ) (report : Option RunReport) (text : List ℕ) : Type 0 where
  pub script : Script
  pub spelled : script_of input ≡ Ok script
  pub result : Report
  pub core : IsCoreReport script result
  pub order : Headline result
  pub reported : report ≡ Some (reports.Blocks result)
  pub printed : text ≡ text_of result

-- by the kind of the script
abbrev pub IsReplayAs : Bool → List ℕ → Option RunReport → List ℕ → Type 0
IsReplayAs true input report text = IsSessionReplay input report text
IsReplayAs false input report text = IsBlocksReplay input report text

-- `replay`, and with `--raw`, for which the script is a volume script
abbrev pub IsReplay : Bool → List ℕ → Option RunReport → List ℕ → Type 0
IsReplay true input report text = IsImageReplay input report text
IsReplay false input report text = IsReplayAs (is_session input) input report text

-- `make`: the bytes are those of a new image with these sizes and names of the default width, and there is no report
abbrev pub IsMade : Sizes → Option RunReport → List ℕ → Type 0
IsMade s report bytes = (bytes ≡ concat (made_image (geometry_made s.inodes s.zones DEFAULT_WIDTH) s.journal false)) × (report ≡ None)

-- `replay` and `run`: see above; `show`: the text is that of the tree that the image has once its journal was recovered; `widen`: it is that of the widened
-- image, or the bytes are those of this image; `check`: the image is clean, and the text says so; `kv`: it is that of a store's session
abbrev pub Makes : InputTask → List ℕ → Option RunReport → List ℕ → Type 0
Makes (commands.Replay raw) input report text = IsReplay raw input report text
Makes (commands.Run raw) input report text = IsRun raw input report text
Makes commands.Show input report text = (shown (whole_blocks input) ≡ Ok text) × (report ≡ None)
Makes (commands.Widen raw) input report text = IsWidened raw (whole_blocks input) text × (report ≡ None)
Makes commands.Check input report text = IsChecked (whole_blocks input) None × (text ≡ codes "clean\n") × (report ≡ None)
Makes commands.Kv input report text = IsStoreRun input report text

-- the first faulty line of a text that is no script, with its kind
abbrev pub script_fault : {S : Type 0} → Result S (ℕ × ScriptKind) → Option TopFault
script_fault (Ok s) = None
script_fault (Err (line, kind)) = Some (faults.Script line kind)

-- of a text that is to be a script of this kind
abbrev pub fault_as : Bool → List ℕ → Option TopFault
fault_as true input = script_fault (session_of input)
fault_as false input = script_fault (script_of input)

-- the first fault of an image, with its block
abbrev pub image_fault : Result (List ℕ) (ImageFault × ℕ) → Option TopFault
image_fault (Ok text) = None
image_fault (Err (kind, block)) = Some (faults.Image kind block)

-- A command ends so whose input this is: without a fault, or by the one that the input has.
abbrev pub Ends : InputTask → List ℕ → Option TopFault → Type 0
Ends (commands.Replay raw) input end = fault_as (raw || is_session input) input ≡ end
Ends (commands.Run raw) input end = script_fault (threads_script_of input) ≡ end
Ends commands.Show input end = image_fault (shown (whole_blocks input)) ≡ end
Ends (commands.Widen raw) input end = widen_fault raw (whole_blocks input) ≡ end
Ends commands.Check input end = IsChecked (whole_blocks input) end
Ends commands.Kv input end = script_fault (store_of input) ≡ end

-- this is the fault of the input; want of memory is free
abbrev pub IsInputFault : InputTask → List ℕ → TopFault → Type 0
IsInputFault c input (faults.Script line kind) = Ends c input (Some (faults.Script line kind))
IsInputFault c input (faults.Image kind block) = Ends c input (Some (faults.Image kind block))
IsInputFault c input faults.NoRoom = Ends c input (Some faults.NoRoom)
IsInputFault c input (faults.Unsound verdict) = Ends c input (Some (faults.Unsound verdict))
IsInputFault c input faults.NoMemory = Unit {0}
IsInputFault c input other = ⊥

-- the same of a script of one kind
abbrev pub IsFaultAs : Bool → List ℕ → TopFault → Type 0
IsFaultAs session input (faults.Script line kind) = fault_as session input ≡ Some (faults.Script line kind)
IsFaultAs session input faults.NoMemory = Unit {0}
IsFaultAs session input other = ⊥

-- this is the fault of a script of block requests
abbrev pub IsBlocksFault : List ℕ → TopFault → Type 0
IsBlocksFault input fault = IsFaultAs false input fault

-- this is the fault of a volume script
abbrev pub IsSessionFault : List ℕ → TopFault → Type 0
IsSessionFault input fault = IsFaultAs true input fault

-- the same of a script for threads
abbrev pub IsThreadsFault : List ℕ → TopFault → Type 0
IsThreadsFault input (faults.Script line kind) = script_fault (threads_script_of input) ≡ Some (faults.Script line kind)
IsThreadsFault input faults.NoMemory = Unit {0}
IsThreadsFault input other = ⊥

-- ---- what the top call did, where this task is asked, or where none is and the words are bad

-- nothing was read
abbrev pub IsUnread : Stream → Type 0
IsUnread source = (source.bytes_after ≡ source.bytes) × (source.faults_after ≡ source.faults)

-- what a command makes of the source, the image that is made, or the summary of a workload
abbrev pub IsDone : Task → Stream → Option RunReport → List ℕ → Type 0
IsDone (tasks.Read c) source report text = WasRead c source.bytes source.bytes_after (λ input. Makes c input report text)
IsDone (tasks.Make s) source report text = IsUnread source × IsMade s report text
IsDone (tasks.Bulk n) source report text = IsUnread source × IsWorkload n report text

-- a task is asked, and this is done
pub record Does (asked : Option Task) (source : Stream) (report : Option RunReport) (text : List ℕ) : Type 0 where
  pub task : Task
  pub asks : asked ≡ Some task
  pub done : IsDone task source report text

-- a command is asked, and this is the fault of the source's bytes
pub record IsRefused (asked : Option Task) (source : Stream) (fault : TopFault) : Type 0 where
  pub command : InputTask
  pub asks : asked ≡ Some (tasks.Read command)
  pub read : WasRead command source.bytes source.bytes_after (λ input. Ends command input (Some fault))

-- the cause of a fault for which nothing is written; want of memory is free
abbrev pub Cause : Option Task → Stream → TopFault → Type 0
Cause asked source faults.BadWords = asked ≡ None
Cause asked source (faults.Script line kind) = IsRefused asked source (faults.Script line kind)
Cause asked source (faults.Image kind block) = IsRefused asked source (faults.Image kind block)
Cause asked source faults.SourceFault = (c : InputTask) × (asked ≡ Some (tasks.Read c)) × Rose source.faults source.faults_after
Cause asked source faults.SinkFault = ⊥
Cause asked source faults.TooLong = (c : InputTask) × (asked ≡ Some (tasks.Read c)) × IsTooLong c source.bytes source.bytes_after
Cause asked source faults.NoMemory = Unit {0}
Cause asked source faults.NoRoom = IsRefused asked source faults.NoRoom
Cause asked source (faults.Unsound verdict) = IsRefused asked source (faults.Unsound verdict)

-- what was done to source and sink, by the fault
abbrev pub Did : Option Task → Stream → Stream → Option RunReport → Option TopFault → Type 0
-- the sink took exactly what is to be written
Did asked source sink report None = (text : List ℕ) × Does asked source report text × Appends sink.bytes sink.bytes_after text
-- a front of it went out
Did asked source sink report (Some faults.SinkFault) =
    (text : List ℕ) × Does asked source report text × AppendsFront sink.bytes sink.bytes_after text × Rose sink.faults sink.faults_after
-- nothing was written
Did asked source sink report (Some fault) = Cause asked source fault × (report ≡ None) × Keeps sink.bytes sink.bytes_after

-- the sink took exactly this, or a front of it and failed
abbrev pub WasWritten : List ℕ → Stream → Option TopFault → Type 0
WasWritten text sink None = Appends sink.bytes sink.bytes_after text
WasWritten text sink (Some faults.SinkFault) = AppendsFront sink.bytes sink.bytes_after text × Rose sink.faults sink.faults_after
WasWritten text sink (Some fault) = ⊥

-- ---- how a call ends where the input is told and neither stream fails

-- by its length where it is too long, else by what it is
abbrev pub ExpectsAs : Bool → InputTask → List ℕ → Option TopFault → Type 0
ExpectsAs true c text end = Some faults.TooLong ≡ end
ExpectsAs false c text end = Ends c text end

-- the end that this input asks for
abbrev pub Expects : InputTask → List ℕ → Option TopFault → Type 0
Expects c text end = ExpectsAs (nat_lt (most_of c) (length text)) c text end

-- so, or by want of memory
abbrev pub EndsAsExpected : InputTask → List ℕ → Option TopFault → Type 0
EndsAsExpected c text fault = Expects c text fault ⊎ (fault ≡ Some faults.NoMemory)

-- by this fault, or without one, or by want of memory
abbrev pub EndsAs : Option TopFault → Option TopFault → Type 0
EndsAs wanted fault = (fault ≡ wanted) ⊎ (fault ≡ Some faults.NoMemory)

-- ---- faults of the parts

-- why a text is not read as a script, as a fault of the top call
abbrev pub top_fault : ScriptError → TopFault
top_fault (errors.Fault line kind) = faults.Script line kind
top_fault errors.NoMemory = faults.NoMemory

-- why the source was not read to its end, as a fault of the top call
abbrev pub end_fault : ReadEnd → TopFault
end_fault ends.Fault = faults.SourceFault
end_fault ends.TooLong = faults.TooLong
end_fault ends.NoMemory = faults.NoMemory
