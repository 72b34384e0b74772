-- A scheduler's fields, and what they keep.
use Rattle.std.specs.Prelude.{◌≡◌}
use Rattle.schedulers.specs.declared.epochs.sched.Sched.TheInside.{Inside}
use Rattle.schedulers.specs.reassign.Sched.{SchedState}
use Rattle.schedulers.specs.reassign.laws.Valid.{IsValid}

abbrev pub state_of : Inside → SchedState
state_of s = record { limit = s.limit; accepted = s.trace.accepted.items; sent_out = s.trace.sent_out.items; queue = s.queue }

-- the state keeps what a scheduler keeps, and both histories have room for all requests
pub record IsSched (s : Inside) : Type 0 where
  pub valid : IsValid (state_of s)
  -- both histories are of what may be accepted
  pub accepted : s.trace.accepted.room ≡ s.limit
  pub sent_out : s.trace.sent_out.room ≡ s.limit
