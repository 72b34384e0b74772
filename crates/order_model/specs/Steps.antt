-- What each call of a device does to what is seen of it.
use Rattle.std.specs.Prelude.{◌≡◌, ℕ, ◌+◌, ◌<◌, ◌≤◌, ◌++◌, ◌⊎◌, Bool, true, false, List, [], ◌∷◌, Option, Some, None, slice_get}
use Rattle.std.specs.Option.{option_to_list}
use Rattle.blk_base.specs.Members.{In}
use Rattle.blk_base.specs.Streams.{Rose}
use Rattle.order_model.specs.declared.command.Command.{Command}
use Rattle.order_model.specs.declared.completion.Completion.{Completion}
use Rattle.order_model.specs.declared.completion.Completion.TheVariants.{Cut}
use Rattle.order_model.specs.declared.history.DeviceRecord.{DeviceRecord}
use Rattle.order_model.specs.Received.{all_ids, first_part, epoch_of, completions_of, failures_of, transfers}
use Rattle.order_model.specs.Device.{Seen, completed, completion_id}

-- the record has what is seen
pub record IsTraceOf (s : Seen) (trace : DeviceRecord) : Type 0 where
  pub took : trace.took.items ≡ s.took
  pub moved : trace.moved.items ≡ s.moved
  pub sent : trace.sent.items ≡ s.sent
  pub steps : trace.steps ≡ s.steps

-- A device that was made as this one: over the same image, for as many ids and as many commands that wait, with the same power cut and
-- the same transfer that fails.
pub record IsMadeAs (first s : Seen) : Type 0 where
  pub base : s.base ≡ first.base
  pub limit : s.limit ≡ first.limit
  pub depth : s.depth ≡ first.depth
  pub cut_at : s.cut_at ≡ first.cut_at
  pub fail_at : s.fail_at ≡ first.fail_at

-- a command was received, and nothing else changed
abbrev pub Receives : Seen → Command → Seen → Type 0
Receives old c new = new ≡ record old { took = old.took ++ c ∷ [] }

-- what no step of the device changes
pub record KeepsGiven (old new : Seen) : Type 0 where
  pub base : new.base ≡ old.base
  pub limit : new.limit ≡ old.limit
  pub depth : new.depth ≡ old.depth
  pub cut_at : new.cut_at ≡ old.cut_at
  pub fail_at : new.fail_at ≡ old.fail_at
  pub took : new.took ≡ old.took
  pub sent : new.sent ≡ old.sent

-- completions went behind those that wait; where the power went off by the step, that is told behind them
abbrev pub Tells : Seen → List Completion → Seen → Type 0
Tells old done new = (new.waiting ≡ old.waiting ++ done) ⊎ ((old.off ≡ false) × (new.off ≡ true) × (new.waiting ≡ (old.waiting ++ done) ++ Cut ∷ []))

-- the next transfer has the number of the one that fails
abbrev pub FailsNext : Seen → Type 0
FailsNext s = s.fail_at ≡ Some (s.transfers_made + 1)

-- The command with this number was performed: its parts were transferred, in the epoch that the barriers taken before it say, and
-- it completed. This was not the transfer that fails.
pub record Performs (old : Seen) (number : ℕ) (c : Command) (new : Seen) : Type 0 where
  pub cause : FailsNext old → ⊥
  pub moved : new.moved ≡ old.moved ++ transfers (epoch_of old.took number) (first_part old.took number) c.parts
  pub told : Tells old (completions_of c) new
  pub failed : new.failed ≡ old.failed
  pub faults : new.faults ≡ old.faults

-- The command was not performed, since this was the transfer that fails: none of its parts was transferred, each of its ids
-- completed as failed, and a fault was counted.
pub record Fails (old : Seen) (c : Command) (new : Seen) : Type 0 where
  pub cause : FailsNext old
  pub moved : new.moved ≡ old.moved
  pub told : Tells old (failures_of c) new
  pub failed : new.failed ≡ true
  pub faults : Rose old.faults new.faults

-- a command that was taken was performed, or its transfer failed; and the medium stayed
pub record Transfers (old new : Seen) : Type 0 where
  pub given : KeepsGiven old new
  pub surface : new.surface ≡ old.surface
  pub origins : new.origins ≡ old.origins
  pub steps : new.steps ≡ old.steps + 1
  pub transfers_made : new.transfers_made ≡ old.transfers_made + 1
  pub number : ℕ
  pub command : Command
  pub taken : slice_get old.took number ≡ Some command
  pub outcome : Performs old number command new ⊎ Fails old command new

-- What was transferred and completed stayed; of the medium only the device's laws speak. Where the power went off by it,
-- that is told behind what waits.
pub record Persists (old new : Seen) : Type 0 where
  pub given : KeepsGiven old new
  pub moved : new.moved ≡ old.moved
  pub waiting : (new.waiting ≡ old.waiting) ⊎ ((old.off ≡ false) × (new.off ≡ true) × (new.waiting ≡ old.waiting ++ Cut ∷ []))
  pub failed : new.failed ≡ old.failed
  pub faults : new.faults ≡ old.faults
  pub steps : new.steps ≡ old.steps + 1
  pub transfers_made : new.transfers_made ≡ old.transfers_made

-- a completion was handed out, the first that waits, and nothing else changed
pub record Answers (old : Seen) (answer : Option Completion) (new : Seen) : Type 0 where
  pub rest : new ≡ record old { sent = new.sent; waiting = new.waiting }
  pub sent : new.sent ≡ old.sent ++ option_to_list answer
  pub waiting : old.waiting ≡ option_to_list answer ++ new.waiting
  pub none : answer ≡ None → old.waiting ≡ []

-- a read may fail, and changes nothing else
abbrev pub OnlyReads : Seen → Seen → Type 0
OnlyReads old new = (new ≡ record old { faults = new.faults }) × (old.faults ≤ new.faults)

-- while work is left some step can be taken; once none is left there is room, and each id has completed
pub record Progresses (s : Seen) (left : ℕ) (has_room : Bool) (can_transfer can_persist : ℕ) : Type 0 where
  pub works : 0 < left → (0 < can_transfer) ⊎ (0 < can_persist)
  pub room : left ≡ 0 → has_room ≡ true
  pub done : left ≡ 0 → (id : ℕ) → In id (all_ids s.took) → (c : Completion) × In c (completed s) × (completion_id c ≡ Some id)
