-- How the commands of a ring are kept: each in a slot, one behind the other, and behind the last slot comes the first.
use Rattle.std.specs.Prelude.{ℕ, zero, suc, ◌+◌, ◌-◌, ◌^◌, ◌≤◌, ◌<◌, List, [], ◌∷◌, if◌then◌else◌, nat_lt, length, slice_index_or, vec_len}
use Rattle.order_model.specs.declared.command.Command.{Command}
use Rattle.order_model.specs.Single.{blank_command}
use Rattle.device_epochs.specs.declared.queue.ring.CommandRing.TheInside.{Inside}

-- the place of a number below twice the capacity
abbrev pub wrapped : ℕ → ℕ → ℕ
wrapped place capacity = if nat_lt place capacity then place else place - capacity

-- so many commands from a place on
abbrev pub held_from : List Command → ℕ → ℕ → List Command
held_from slots place zero = []
held_from slots place (suc count) = slice_index_or slots place blank_command ∷ held_from slots (wrapped (place + 1) (length slots)) count

-- the fields of a ring
pub record IsRing (r : Inside) : Type 0 where
  pub small : vec_len r.slots < 2 ^ 32
  pub few : r.count ≤ vec_len r.slots
  pub within : 1 ≤ vec_len r.slots → r.first < vec_len r.slots
