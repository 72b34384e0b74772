-- The lists of words that ask for something, as one table.
use Rattle.std.specs.Prelude.{ℕ, ◌<◌, ◌≤◌, true, false, List, [], ◌∷◌, codes}
use Rattle.std.specs.Fmt.{decimal}
use Rattle.session_report.specs.declared.bulk.limits.TheConstants.{MOST_GENERATED}
use Rattle.minix_layout.specs.Words.{first_zone}
use Rattle.minix_layout.specs.declared.limits.TheConstants.{LEAST_JOURNAL, MOST_JOURNAL, MOST_NUMBERED}
use Rattle.barrierfs_top.specs.declared.command_line.InputTask.TheVariants as commands
use Rattle.barrierfs_top.specs.declared.command_line.Sizes.{Sizes}
use Rattle.barrierfs_top.specs.declared.command_line.Task.{Task}
use Rattle.barrierfs_top.specs.declared.command_line.Task.TheVariants as tasks

-- an image can be made of these sizes
pub record AreSizes (s : Sizes) : Type 0 where
  pub some_inode : 0 < s.inodes
  pub most_inodes : s.inodes ≤ MOST_NUMBERED
  pub most_zones : s.zones ≤ MOST_NUMBERED
  pub some_data : first_zone s.inodes s.zones < s.zones
  pub least_journal : LEAST_JOURNAL ≤ s.journal
  pub most_journal : s.journal ≤ MOST_JOURNAL

-- The words ask for the task. Numbers are decimal, without a sign or a leading zero.
pub data AskFor : List (List ℕ) → Task → Type 0 where
  replay : AskFor (codes "replay" ∷ []) (tasks.Read (commands.Replay false))
  raw_replay : AskFor (codes "replay" ∷ codes "--raw" ∷ []) (tasks.Read (commands.Replay true))
  run : AskFor (codes "run" ∷ []) (tasks.Read (commands.Run false))
  raw_run : AskFor (codes "run" ∷ codes "--raw" ∷ []) (tasks.Read (commands.Run true))
  show : AskFor (codes "show" ∷ []) (tasks.Read commands.Show)
  widen : AskFor (codes "widen" ∷ []) (tasks.Read (commands.Widen false))
  raw_widen : AskFor (codes "widen" ∷ codes "--raw" ∷ []) (tasks.Read (commands.Widen true))
  check : AskFor (codes "check" ∷ []) (tasks.Read commands.Check)
  kv : AskFor (codes "kv" ∷ []) (tasks.Read commands.Kv)
  bulk : (n : ℕ) → 0 < n → n ≤ MOST_GENERATED → AskFor (codes "bulk" ∷ decimal n ∷ []) (tasks.Bulk n)
  make : (s : Sizes) → AreSizes s → AskFor (codes "make" ∷ decimal s.inodes ∷ decimal s.zones ∷ decimal s.journal ∷ []) (tasks.Make s)
