-- An elevator's fields, and what they keep.
use Rattle.std.specs.Prelude.{◌≡◌}
use Rattle.schedulers.specs.declared.elevator.elevator.Elevator.TheInside.{Inside}
use Rattle.schedulers.specs.elevator.Elevator.{ElevatorState}
use Rattle.schedulers.specs.elevator.laws.Valid.{IsElevator}

abbrev pub state_of : Inside → ElevatorState
state_of s = record { limit = s.limit; accepted = s.trace.accepted.items; sent_out = s.trace.sent_out.items; queue = s.queue; head = s.head }

-- the state keeps what an elevator keeps, and both histories have room for all requests
pub record IsInside (s : Inside) : Type 0 where
  pub valid : IsElevator (state_of s)
  -- both histories are of what may be accepted
  pub accepted : s.trace.accepted.room ≡ s.limit
  pub sent_out : s.trace.sent_out.room ≡ s.limit
