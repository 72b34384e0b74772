-- What lists of words ask for.
use Rattle.std.specs.Prelude.{ℕ, ◌<◌, ◌≤◌, Bool, ◌&&◌, nat_lt, nat_le, if◌then◌else◌, List, Option, Some, None, is_some, option_and_then}
use Rattle.std.specs.Option.{option_map}
use Rattle.clap_words.specs.Table.{Said, asked_by}
use Rattle.script_grammar.specs.declared.limits.TheConstants.{MOST_SCRIPT_BYTES}
use Rattle.script_words.specs.Spelling.{numeral}
use Rattle.minix_layout.specs.Words.{first_zone}
use Rattle.session_report.specs.declared.bulk.limits.TheConstants.{MOST_GENERATED}
use Rattle.barrierfs_top.specs.declared.command_line.TheConstants.{MOST_IMAGE_BYTES}
use Rattle.barrierfs_top.specs.declared.command_line.InputTask.{InputTask}
use Rattle.barrierfs_top.specs.declared.command_line.InputTask.TheVariants as commands
use Rattle.barrierfs_top.specs.declared.command_line.Sizes.{Sizes}
use Rattle.barrierfs_top.specs.declared.command_line.Task.{Task}
use Rattle.barrierfs_top.specs.declared.command_line.Task.TheVariants as tasks
use Rattle.minix_layout.specs.declared.limits.TheConstants.{LEAST_JOURNAL, MOST_JOURNAL, MOST_NUMBERED}

-- the most bytes of a script, and of an image
abbrev pub most_of : InputTask → ℕ
most_of (commands.Replay raw) = MOST_SCRIPT_BYTES
most_of (commands.Run raw) = MOST_SCRIPT_BYTES
most_of commands.Show = MOST_IMAGE_BYTES
most_of (commands.Widen raw) = MOST_IMAGE_BYTES
most_of commands.Check = MOST_IMAGE_BYTES
most_of commands.Kv = MOST_SCRIPT_BYTES

-- an image can be made: of 1 to `MOST_NUMBERED` inodes, as many blocks, which leave a zone of data, and `LEAST_JOURNAL` to
-- `MOST_JOURNAL` blocks of journal
abbrev pub can_make : ℕ → ℕ → ℕ → Bool
can_make inodes zones journal =
    nat_lt 0 inodes && (nat_le inodes MOST_NUMBERED && (nat_le zones MOST_NUMBERED && (nat_le LEAST_JOURNAL journal && (nat_le journal MOST_JOURNAL && nat_lt (first_zone inodes zones) zones))))

-- the sizes of an image, where all three are numbers and it can be made
abbrev pub sizes_of : Option ℕ → Option ℕ → Option ℕ → Option Sizes
sizes_of (Some inodes) (Some zones) (Some journal) = if can_make inodes zones journal then Some (record { inodes = inodes; zones = zones; journal = journal }) else None
sizes_of inodes zones journal = None

-- a workload of 1 to `MOST_GENERATED` calls
abbrev pub workload_of : Option ℕ → Option Task
workload_of None = None
workload_of (Some n) = if nat_lt 0 n && nat_le n MOST_GENERATED then Some (tasks.Bulk n) else None

-- what is done, where the words say so and the numbers may be done
abbrev pub task_said : Said → Option Task
task_said (Said.replay raw) = Some (tasks.Read (commands.Replay raw))
task_said (Said.run raw) = Some (tasks.Read (commands.Run raw))
task_said Said.show = Some (tasks.Read commands.Show)
task_said (Said.widen raw) = Some (tasks.Read (commands.Widen raw))
task_said Said.check = Some (tasks.Read commands.Check)
task_said Said.kv = Some (tasks.Read commands.Kv)
task_said (Said.make i z j) = option_map tasks.Make (sizes_of (numeral i) (numeral z) (numeral j))
task_said (Said.bulk n) = workload_of (numeral n)

-- what lists of words ask for
abbrev pub task_of : List (List ℕ) → Option Task
task_of words = option_and_then task_said (asked_by words)

-- ---- what is done without threads

-- whether a task is a run in threads, and then whether it is for the image that the run leaves
abbrev pub run_of : Task → Option Bool
run_of (tasks.Read (commands.Run raw)) = Some raw
run_of task = None

-- the same where it may be that no task is asked
abbrev pub run_in : Option Task → Option Bool
run_in None = None
run_in (Some task) = run_of task

-- the task, where it is no run in threads
abbrev pub without_run : Option Task → Option Task
without_run None = None
without_run (Some task) = if is_some (run_of task) then None else Some task

-- what words ask of `alone`, which runs nothing in threads: to it, those for such a run are bad words
abbrev pub lone_task_of : List (List ℕ) → Option Task
lone_task_of words = without_run (task_of words)

-- what holds of a task that words ask for
abbrev pub CanDo : Task → Type 0
CanDo (tasks.Read c) = Unit {0}
CanDo (tasks.Bulk n) = (0 < n) × (n ≤ MOST_GENERATED)
CanDo (tasks.Make s) = (0 < s.inodes) × (first_zone s.inodes s.zones < s.zones) × (LEAST_JOURNAL ≤ s.journal) × (s.journal ≤ MOST_JOURNAL)
