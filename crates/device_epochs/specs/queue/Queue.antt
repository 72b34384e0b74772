-- The commands that wait in a device, and which of them may go next: SIMPLE and ORDERED tasks after the
-- SCSI architecture model (SAM-5), with commands of one block kept in order.
use Rattle.std.specs.Prelude.{ℕ, ◌+◌, ◌==◌, ◌||◌, ◌&&◌, not, Bool, List, [], ◌∷◌, ◌++◌, nat_lt, Option, Some, None}
use Rattle.std.specs.List.{list_any, list_all}
use Rattle.order_model.specs.declared.part.Part.{Part}
use Rattle.order_model.specs.declared.command.Command.{Command}
use Rattle.order_model.specs.Device.{is_ordered}
use Rattle.order_model.specs.Arrivals as arrivals

-- a command that waits, with its number in the order of arrival, from 0 on
pub record Waiting : Type 0 where
  pub number : ℕ
  pub command : Command

-- how many may wait, the number of the next one to arrive, and those that wait, in order of arrival
pub record QueueState : Type 0 where
  pub depth : ℕ
  pub next : ℕ
  pub waiting : List Waiting

-- the two have a block in common
abbrev pub have_common_block : List Part → List Part → Bool
have_common_block ps qs = list_any (λ (p : Part). list_any (λ (q : Part). p.block == q.block) qs) ps

-- w arrived before v and stands in its way: one of the two is ORDERED, or they have a block in common
abbrev pub stands_in_way : Waiting → Waiting → Bool
stands_in_way w v = nat_lt w.number v.number && (is_ordered w.command.priority || (is_ordered v.command.priority || have_common_block w.command.parts v.command.parts))

-- nothing that waits stands in the way of v
abbrev pub is_free : List Waiting → Waiting → Bool
is_free waiting v = list_all (λ w. not (stands_in_way w v)) waiting

-- the commands that may go next, in order of arrival
abbrev pub eligible : List Waiting → List Waiting
eligible waiting = arrivals.eligible is_free waiting

-- all but the command with this number
abbrev pub without : ℕ → List Waiting → List Waiting
without number waiting = arrivals.without (λ (w : Waiting). w.number) number waiting

-- a command arrives
abbrev pub arrived : QueueState → Command → QueueState
arrived s c = record s { next = s.next + 1; waiting = s.waiting ++ record { number = s.next; command = c } ∷ [] }

-- the command at place pick of the eligible list
abbrev pub picked : QueueState → ℕ → Option Waiting
picked s pick = arrivals.picked is_free s.waiting pick

-- a command that was picked leaves
abbrev pub departed : QueueState → Option Waiting → QueueState
departed s None = s
departed s (Some w) = record s { waiting = without w.number s.waiting }

-- those that wait are numbered in order of arrival, below next
abbrev pub AreNumbered : ℕ → List Waiting → Type 0
AreNumbered next waiting = arrivals.AreNumbered (λ (w : Waiting). w.number) next waiting
