-- How the commands that wait are kept: each lies in a slot, and a seat says which one, in order of arrival.
use Rattle.std.specs.Prelude.{◌≡◌, ℕ, ◌+◌, ◌≤◌, ◌<◌, ◌==◌, ◌||◌, Bool, List, map, count_by, cond, nat_lt, Some, slice_get, length, slice_index_or, vec_len}
use Rattle.std.specs.List.{list_any}
use Rattle.std.specs.Vec.{vec_capacity}
use Rattle.order_model.specs.declared.part.Part.{Part}
use Rattle.order_model.specs.declared.command.Command.{Command}
use Rattle.order_model.specs.Device.{is_ordered}
use Rattle.order_model.specs.Single.{blank_command}
use Rattle.device_epochs.specs.declared.queue.queue.Seat.{Seat}
use Rattle.device_epochs.specs.declared.queue.queue.CommandQueue.TheInside.{Inside}
use Rattle.device_epochs.specs.queue.Queue.{Waiting, AreNumbered, have_common_block, eligible}

-- the command of a seat, with its number
abbrev pub waiting_at : List Command → Seat → Waiting
waiting_at slots s = record { number = s.number; command = slice_index_or slots s.slot blank_command }

-- the commands of these seats
abbrev pub seated : List Command → List Seat → List Waiting
seated slots seats = map (waiting_at slots) seats

-- a part of this block is among them
abbrev pub has_block : List Part → ℕ → Bool
has_block parts block = list_any (λ (p : Part). block == p.block) parts

-- the later of the two may not pass the earlier one
abbrev pub are_kept_in_order : Command → Command → Bool
are_kept_in_order c d = is_ordered c.priority || (is_ordered d.priority || have_common_block c.parts d.parts)

-- each slot below depth is the slot of one seat, or stands once among the free ones
pub record EachOnce (depth : ℕ) (seats : List Seat) (free : List ℕ) : Type 0 where
  pub once : (slot : ℕ) → count_by (λ (s : Seat). s.slot == slot) seats + count_by (λ f. f == slot) free ≡ cond (nat_lt slot depth) 1 0

-- the command of the seat at place i is the one at place pick of the eligible list
pub record IsPicked (slots : List Command) (seats : List Seat) (pick i : ℕ) : Type 0 where
  pub within : i < length seats
  pub there : (d : Seat) → slice_get (eligible (seated slots seats)) pick ≡ Some (waiting_at slots (slice_index_or seats i d))

-- the fields of a queue of commands
pub record IsSeated (q : Inside) : Type 0 where
  pub some : 1 ≤ q.depth
  pub few : q.depth ≤ 64
  pub slots : vec_len q.slots ≡ q.depth
  pub all : vec_len q.seats + vec_len q.free ≡ q.depth
  pub room_seats : q.depth ≤ vec_capacity q.seats
  pub room_free : q.depth ≤ vec_capacity q.free
  pub apart : EachOnce q.depth q.seats.items q.free.items
  pub numbered : AreNumbered q.next (seated q.slots.items q.seats.items)
