-- What a step of a caller answers.
use Rattle.std.specs.Prelude.{ℕ}
use Rattle.host_machine.specs.Causes.{Cause}

pub data Step (R : Type 0) : Type 0 where
  -- the call is done, with this reply
  Done : R → Step R
  -- a barrier or sync call has begun
  Begun : Step R
  -- it sent a page, as this request
  Sent : ℕ → Step R
  Waiting : Cause → Step R
  -- the thread has no call left
  Ended : Step R
  -- what ended the call: a failed request, the power that went, the session's limit
  ReadOnly : ℕ → Step R
  Down : Step R
  SessionFull : Step R
