-- What a recovery has still to send.
use Rattle.std.specs.Prelude.{ℕ, ◌-◌, List, ◌++◌, drop}
use Rattle.order_model.specs.declared.command.Command.{Command}
use Rattle.log_model.specs.Marks.{Logged}
use Rattle.journal_replay.specs.Commands.{home_writes, ending}

-- the homes that are left of so many, and then what stands behind them, once this many commands were sent
abbrev pub left_of : ℕ → ℕ → List Logged → Logged → List Command
left_of count at hs superblock = home_writes at hs ++ drop (at - count) (ending count superblock)
