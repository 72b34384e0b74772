-- What a device shows that completes commands before they are on the medium and keeps the order of barrier
-- epochs, and the laws that it keeps. Parts and origins are named by places in the list of what was taken.
use Rattle.std.specs.Prelude.{◌≡◌, ◌↔◌, ℕ, suc, ◌+◌, ◌<◌, ◌≤◌, ◌++◌, ◌||◌, ◌&&◌, ◌==◌, not, nat_lt, Bool, true, false, List, [], length, map, All, Option, Some, None, is_some, slice_get}
use Rattle.std.specs.Option.{option_map, option_and_then}
use Rattle.blk_base.specs.Members.{In}
use Rattle.order_model.specs.declared.part.Part.{Part}
use Rattle.order_model.specs.declared.command.Command.{Command}
use Rattle.order_model.specs.declared.command.Priority.{Priority}
use Rattle.order_model.specs.declared.command.Priority.TheVariants.{Simple, Ordered}
use Rattle.order_model.specs.declared.completion.Completion.{Completion}
use Rattle.order_model.specs.declared.completion.Completion.TheVariants.{Moved, Flushed, Failed, Cut}
use Rattle.order_model.specs.declared.history.Transfer.{Transfer}
use Rattle.order_model.specs.Received.{all_parts, part_at, command_of_part, ids_of, all_ids, IsBarrier, IsFlush}

-- what is seen of a device
pub record Seen : Type 0 where
  -- the image that it was made over
  pub base : List (List ℕ)
  -- the ids that it may take in all, and how many commands may wait at once
  pub limit : ℕ
  pub depth : ℕ
  -- the steps at which its power goes off, and the number of the transfer that fails, counted from 1
  pub cut_at : Option ℕ
  pub fail_at : Option ℕ
  -- the commands that it received
  pub took : List Command
  -- the parts that were transferred, by place, with their epoch
  pub moved : List Transfer
  -- the medium, and for each block the place of the part whose body it holds
  pub surface : List (List ℕ)
  pub origins : List (Option ℕ)
  -- completions handed out, and not yet handed out
  pub sent : List Completion
  pub waiting : List Completion
  -- the power is off; one of its transfers failed
  pub off : Bool
  pub failed : Bool
  -- writes to the medium and transfers, those that failed too; transfers alone, those that failed too; failed transfers and reads
  pub steps : ℕ
  pub transfers_made : ℕ
  pub faults : ℕ

-- the origins by id
abbrev pub origin_ids : List Command → List (Option ℕ) → List (Option ℕ)
origin_ids took origins = map (λ o. option_and_then (λ place. option_map (λ (p : Part). p.id) (part_at took place)) o) origins

abbrev pub is_ordered : Priority → Bool
is_ordered Simple = false
is_ordered Ordered = true

-- no number stands twice
abbrev pub NoneTwice : List ℕ → Type 0
NoneTwice ids = (i j id : ℕ) → slice_get ids i ≡ Some id → slice_get ids j ≡ Some id → i ≡ j

-- a command that the device may be given
pub record IsReceivable (s : Seen) (c : Command) : Type 0 where
  pub small : length c.parts ≤ 16
  -- it is a flush, or has parts
  pub whole : is_some c.flush ≡ (length c.parts == 0)
  -- a barrier or a flush is ORDERED
  pub ordered : (c.barrier || is_some c.flush) ≡ true → c.priority ≡ Ordered
  pub within : All (λ (p : Part). p.block < length s.surface) c.parts
  -- its ids differ, and none of them was taken before
  pub fresh : NoneTwice (all_ids s.took ++ ids_of c)
  pub few : length (all_ids s.took ++ ids_of c) ≤ s.limit

-- the part at this place was transferred
abbrev pub IsMoved : Seen → ℕ → Type 0
IsMoved s place = (epoch : ℕ) × In (record { epoch = epoch; part = place }) s.moved

-- The part at this place is kept: the medium holds at its block that part or a later one.
pub record IsPartKept (s : Seen) (place : ℕ) : Type 0 where
  pub part : Part
  pub taken : part_at s.took place ≡ Some part
  pub origin : ℕ
  pub held : slice_get s.origins part.block ≡ Some (Some origin)
  pub later : place ≤ origin

-- every part is on the medium, and every flush was answered
pub record IsQuiet (s : Seen) : Type 0 where
  pub kept : (place : ℕ) → place < length (all_parts s.took) → IsPartKept s place
  pub flushed : (k id : ℕ) → IsFlush s.took k id → In (Flushed id) s.sent

-- the completions, handed out or not
abbrev pub completed : Seen → List Completion
completed s = s.sent ++ s.waiting

-- The power is on, and fewer commands wait than the command queue holds. A device of which a transfer failed still has room.
abbrev pub has_free_slot : Seen → Bool
has_free_slot s = not s.off && nat_lt (length s.took) (s.depth + s.transfers_made)

-- every part that was transferred is kept
abbrev pub IsSettled : Seen → Type 0
IsSettled s = (place : ℕ) → IsMoved s place → IsPartKept s place

-- A device of which nothing was asked yet. By the laws below no transfer of it has failed, and its medium is what it was made over.
pub record IsUntouched (s : Seen) : Type 0 where
  pub took : s.took ≡ []
  pub moved : s.moved ≡ []
  pub sent : s.sent ≡ []
  pub steps : s.steps ≡ 0
  pub transfers_made : s.transfers_made ≡ 0
  pub faults : s.faults ≡ 0

-- ---- the laws

-- Surface law: each block with an origin holds the body of that part, which was transferred; every other
-- block holds what the device was made with.
pub record IsSurface (s : Seen) : Type 0 where
  pub blocks : length s.surface ≡ length s.base
  pub places : length s.origins ≡ length s.base
  pub written : (block place : ℕ) → slice_get s.origins block ≡ Some (Some place)
      → (p : Part) × (part_at s.took place ≡ Some p) × (p.block ≡ block) × (slice_get s.surface block ≡ Some p.body) × IsMoved s place
  pub untouched : (block : ℕ) → slice_get s.origins block ≡ Some None → slice_get s.surface block ≡ slice_get s.base block

-- Epoch order law: if a part of one command is kept, and a barrier stands at or after an earlier command and
-- before it, then every part of the earlier command is kept. Two parts of one block are kept in order.
pub record KeepsEpochOrder (s : Seen) : Type 0 where
  pub epochs : (x y b : ℕ) → x < length (all_parts s.took) → IsBarrier s.took b → command_of_part s.took x ≤ b → b < command_of_part s.took y → IsPartKept s y → IsPartKept s x
  pub blocks : (x y : ℕ) (p q : Part) → x ≤ y → part_at s.took x ≡ Some p → part_at s.took y ≡ Some q → p.block ≡ q.block → IsPartKept s y → IsPartKept s x

-- Flush law: where a flush completed, every part of the commands before it is kept.
abbrev pub KeepsFlush : Seen → Type 0
KeepsFlush s = (k id x : ℕ) → In (Flushed id) (completed s) → IsFlush s.took k id → x < length (all_parts s.took) → command_of_part s.took x < k → IsPartKept s x

-- the id of a completion, where it has one
abbrev pub completion_id : Completion → Option ℕ
completion_id (Moved id) = Some id
completion_id (Flushed id) = Some id
completion_id (Failed id) = Some id
completion_id Cut = None

-- Completion law: each id completes at most once; a part completes as moved only where it was moved; a
-- flush completes only where it was taken; and only moved parts are kept.
pub record Completes (s : Seen) : Type 0 where
  pub once : (i j id : ℕ) → option_and_then completion_id (slice_get (completed s) i) ≡ Some id → option_and_then completion_id (slice_get (completed s) j) ≡ Some id → i ≡ j
  pub moved : (id : ℕ) → In (Moved id) (completed s) → (place : ℕ) × (p : Part) × (part_at s.took place ≡ Some p) × (p.id ≡ id) × IsMoved s place
  pub flushed : (id : ℕ) → In (Flushed id) (completed s) → (k : ℕ) × IsFlush s.took k id
  pub kept : (place : ℕ) → IsPartKept s place → IsMoved s place

-- Power-cut law: the cut is told exactly where the power is off, and once; the power is off exactly where as many steps were made
-- as the device was made with, and no further step is made.
pub record TellsCut (s : Seen) : Type 0 where
  pub told : In Cut (completed s) ↔ (s.off ≡ true)
  pub once : (i j : ℕ) → slice_get (completed s) i ≡ Some Cut → slice_get (completed s) j ≡ Some Cut → i ≡ j
  pub cause : (s.off ≡ true) ↔ (s.cut_at ≡ Some s.steps)
  pub steps : (n : ℕ) → s.cut_at ≡ Some n → s.steps ≤ n

-- A command with this id was taken, and no part of it was transferred.
pub record IsUnmoved (s : Seen) (id : ℕ) : Type 0 where
  pub number : ℕ
  pub command : Command
  pub taken : slice_get s.took number ≡ Some command
  pub named : In id (ids_of command)
  pub unmoved : (place : ℕ) → command_of_part s.took place ≡ number → IsMoved s place → ⊥

-- Failure law: that a transfer failed is told, once it did and only then, by the ids of a command that was
-- taken and of which no part was transferred. The transfer that failed is the last one, and that with the number which the device
-- was made with; once that one was made, it failed.
pub record TellsFailure (s : Seen) : Type 0 where
  pub told : s.failed ≡ true → (id : ℕ) × In (Failed id) (completed s)
  pub known : (id : ℕ) → In (Failed id) (completed s) → (s.failed ≡ true) × IsUnmoved s id
  pub number : s.failed ≡ true → s.fail_at ≡ Some s.transfers_made
  pub made : (n : ℕ) → s.fail_at ≡ Some (suc n) → n < s.transfers_made → s.failed ≡ true

-- Monotone law: what is kept stays kept, and no count falls.
pub record Grows (old new : Seen) : Type 0 where
  pub kept : (place : ℕ) → IsPartKept old place → IsPartKept new place
  pub steps : old.steps ≤ new.steps
  pub faults : old.faults ≤ new.faults
