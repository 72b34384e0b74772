-- Sources and sinks in memory.
use Rattle.std.specs.Prelude.{ℕ, List}

-- the bytes that are left, how many reads there were, which are to fail, and how many did
pub record MemSourceState : Type 0 where
  pub left : List ℕ
  pub calls : ℕ
  pub fails : List ℕ
  pub faults : ℕ

-- the bytes that were taken, how many writes there were, which are to fail, and how many did
pub record MemSinkState : Type 0 where
  pub taken : List ℕ
  pub calls : ℕ
  pub fails : List ℕ
  pub faults : ℕ
