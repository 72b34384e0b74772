-- Why a call waits.
use Rattle.std.specs.Prelude.{ℕ}

pub data Cause : Type 0 where
  -- the running transaction is being closed
  Closing : Cause
  -- it is full: so many log blocks
  TxFull : ℕ → Cause
  -- so many zones are lacking that freed ones which wait will give
  Quarantine : ℕ → Cause
  -- a block of the running transaction is held by an earlier one
  Conflict : ℕ → ℕ → Cause
  -- the commit block of this transaction is not submitted
  Commit : ℕ → Cause
  -- this request is not known to be durable
  Durable : ℕ → Cause
  -- the submission queue was full
  QueueFull : Cause
