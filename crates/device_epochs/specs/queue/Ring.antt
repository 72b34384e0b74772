-- The commands between a scheduler and a device, as contracts see them.
use Rattle.std.specs.Prelude.{ℕ, List}
use Rattle.order_model.specs.declared.command.Command.{Command}

pub record RingState : Type 0 where
  -- the most commands that it holds
  pub capacity : ℕ
  -- the commands in it, first in first
  pub held : List Command
