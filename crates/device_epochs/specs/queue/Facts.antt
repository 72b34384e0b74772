-- What any device keeps of the commands that it received: which wait, which are done, what was transferred and what completed. A
-- command whose transfer failed has left the queue, but was not done: the facts take it as one that still waits.
use Rattle.std.specs.Prelude.{◌≡◌, ℕ, ◌+◌, ◌<◌, ◌≤◌, ◌||◌, ◌==◌, ◌⊎◌, Bool, true, false, List, length, Option, Some, None, is_some, slice_get, if◌then◌else◌, suc}
use Rattle.std.specs.Option.{option_and_then}
use Rattle.blk_base.specs.Members.{In}
use Rattle.order_model.specs.declared.part.Part.{Part}
use Rattle.order_model.specs.declared.command.Command.{Command}
use Rattle.order_model.specs.declared.command.Priority.TheVariants.{Ordered}
use Rattle.order_model.specs.declared.completion.Completion.{Completion}
use Rattle.order_model.specs.declared.completion.Completion.TheVariants.{Cut}
use Rattle.order_model.specs.declared.history.Transfer.{Transfer}
use Rattle.order_model.specs.Received.{all_parts, command_of_part, all_ids, epoch_of, completions_of, failures_of}
use Rattle.order_model.specs.Device.{NoneTwice, completion_id}
use Rattle.device_epochs.specs.queue.Queue.{QueueState, Waiting, AreNumbered, stands_in_way, without}
use Rattle.device_epochs.specs.queue.Faults.{to_come}

-- command k was received, and waits no more
pub record IsDone (took : List Command) (waiting : List Waiting) (k : ℕ) : Type 0 where
  pub taken : k < length took
  pub gone : (w : Waiting) → In w waiting → w.number ≡ k → ⊥

-- the command k is the next to arrive, or waits
abbrev pub IsAhead : List Command → List Waiting → ℕ → Type 0
IsAhead took waiting k = (k ≡ length took) ⊎ ((w : Waiting) × In w waiting × (w.number ≡ k))

-- the queue with these in it
abbrev pub with_waiting : QueueState → List Waiting → QueueState
with_waiting q ws = record q { waiting = ws }

-- ---- what was received, and what waits

-- each command received is a flush or has parts; barriers and flushes are ORDERED; all blocks are there;
-- no id stands twice, and there are at most `limit` of them
pub record CommandFacts (blocks limit : ℕ) (took : List Command) : Type 0 where
  pub whole : (c : Command) → In c took → is_some c.flush ≡ (length c.parts == 0)
  pub ordered : (c : Command) → In c took → (c.barrier || is_some c.flush) ≡ true → c.priority ≡ Ordered
  pub within : (p : Part) → In p (all_parts took) → p.block < blocks
  pub fresh : NoneTwice (all_ids took)
  pub few : length (all_ids took) ≤ limit

-- each command that waits was received with its number, and none is done that had to wait for it
pub record QueueFacts (took : List Command) (queue : QueueState) : Type 0 where
  pub some_depth : 0 < queue.depth
  pub next : queue.next ≡ length took
  pub numbered : AreNumbered queue.next queue.waiting
  pub queued : (w : Waiting) → In w queue.waiting → slice_get took w.number ≡ Some w.command
  -- nothing was done in whose way an earlier command stands that still waits
  pub passed : (w : Waiting) (k : ℕ) (c : Command) → In w queue.waiting → IsDone took queue.waiting k → slice_get took k ≡ Some c → stands_in_way w (record { number = k; command = c }) ≡ false

-- the present epoch is that of each command ahead that no waiting barrier stands before
abbrev pub IsPresent : List Command → List Waiting → ℕ → Type 0
IsPresent took waiting epoch = (k : ℕ) → IsAhead took waiting k → ((w : Waiting) → In w waiting → w.number < k → w.command.barrier ≡ false) → epoch_of took k ≡ epoch

-- the parts that were moved are those of the commands that are done, each with its epoch
pub record MovedFacts (took : List Command) (waiting : List Waiting) (moved : List Transfer) : Type 0 where
  pub place : (t : Transfer) → In t moved → t.part < length (all_parts took)
  pub done : (t : Transfer) → In t moved → IsDone took waiting (command_of_part took t.part)
  pub epoch : (t : Transfer) → In t moved → t.epoch ≡ epoch_of took (command_of_part took t.part)
  pub all : (x : ℕ) → x < length (all_parts took) → IsDone took waiting (command_of_part took x) → In (record { epoch = epoch_of took (command_of_part took x); part = x }) moved

-- ---- failed transfers

-- those that wait in the queue, out of those that were not done: all but the lost command
abbrev pub in_queue : Option ℕ → List Waiting → List Waiting
in_queue None pending = pending
in_queue (Some n) pending = without n pending

-- the command with the number `lost` left the queue and was not done
pub record PendingFacts (waiting pending : List Waiting) (lost : Option ℕ) (failed : Bool) : Type 0 where
  pub queue : waiting ≡ in_queue lost pending
  pub known : failed ≡ is_some lost
  pub there : (n : ℕ) → lost ≡ Some n → (w : Waiting) × In w pending × (w.number ≡ n)

-- The transfer that failed is the last of those that were made, and has the number that was given; once the one with this number was
-- made, it has failed. A fault comes only where one was to come.
pub record FaultFacts (fail_at : Option ℕ) (count : ℕ) (bad_read : Option ℕ) (failed : Bool) (faults : ℕ) : Type 0 where
  pub number : failed ≡ true → fail_at ≡ Some count
  pub made : (n : ℕ) → fail_at ≡ Some (suc n) → n < count → failed ≡ true
  pub few : faults + to_come bad_read ≤ (if failed then 2 else 1)

-- ---- completions

-- the completion is that of command k: where it is lost, it was not done
pub record IsCompletionOf (took : List Command) (waiting : List Waiting) (lost : Option ℕ) (x : Completion) (k : ℕ) (c : Command) : Type 0 where
  pub taken : slice_get took k ≡ Some c
  pub cause : (IsDone took waiting k × In x (completions_of c)) ⊎ ((lost ≡ Some k) × In x (failures_of c))

-- the completions are those of the commands that are done, the failures of the lost one, and the cut where it was
-- told; each of them comes once
pub record CompletionFacts (took : List Command) (waiting : List Waiting) (lost : Option ℕ) (completions : List Completion) (off told : Bool) : Type 0 where
  pub once : (i j id : ℕ) → option_and_then completion_id (slice_get completions i) ≡ Some id → option_and_then completion_id (slice_get completions j) ≡ Some id → i ≡ j
  pub source : (x : Completion) → In x completions → ((x ≡ Cut) × (told ≡ true)) ⊎ ((k : ℕ) × (c : Command) × IsCompletionOf took waiting lost x k c)
  pub all : (k : ℕ) (c : Command) (x : Completion) → IsCompletionOf took waiting lost x k c → In x completions
  pub cut_once : (i j : ℕ) → slice_get completions i ≡ Some Cut → slice_get completions j ≡ Some Cut → i ≡ j
  pub told_off : told ≡ true → off ≡ true
  pub told_there : told ≡ true → In Cut completions
