-- A queue of one thread, as contracts see it.
use Rattle.std.specs.Prelude.{ℕ, List}

-- what a queue holds now, and all that went through it
pub record ListQueueState (T : Type 0) : Type 0 where
  -- the most items that it holds
  pub capacity : ℕ
  -- the items in it, first in first
  pub held : List T
  -- all items that were put and taken
  pub sent : List T
  pub taken : List T
