-- The states that the device can reach: facts that each call keeps, and from which the laws follow. A command
-- whose transfer failed has left the queue, but was not done: the facts take it as one that still waits.
use Rattle.std.specs.Prelude.{◌≡◌, ℕ, ◌+◌, ◌<◌, ◌≤◌, ◌++◌, ◌⊎◌, false, List, [], ◌∷◌, length, sum_by, Option, Some, None, slice_get, if◌then◌else◌}
use Rattle.blk_base.specs.Members.{In}
use Rattle.order_model.specs.declared.part.Part.{Part}
use Rattle.order_model.specs.declared.command.Command.{Command}
use Rattle.order_model.specs.Received.{all_parts, part_at, command_of_part, ids_of, all_ids, epoch_of, IsFlush}
use Rattle.device_epochs.specs.queue.Queue.{Waiting}
use Rattle.device_epochs.specs.queue.Facts.{IsDone, CommandFacts, QueueFacts, IsPresent, MovedFacts, PendingFacts, FaultFacts, CompletionFacts, with_waiting}
use Rattle.device_epochs.specs.declared.cache.Entry.{Entry}
use Rattle.device_epochs.specs.Cache.{same_place}
use Rattle.device_epochs.specs.Device.{DeviceState, is_off}

-- ---- the cache

-- an entry is of a part that is done, with its block and epoch
pub record IsEntry (took : List Command) (waiting : List Waiting) (epoch : ℕ) (e : Entry) : Type 0 where
  pub part : Part
  pub taken : part_at took e.part ≡ Some part
  pub block : part.block ≡ e.block
  pub done : IsDone took waiting (command_of_part took e.part)
  pub in_epoch : e.epoch ≡ epoch_of took (command_of_part took e.part)
  pub past : e.epoch ≤ epoch

-- no two entries have one epoch and block
abbrev pub AreUnique : List Entry → Type 0
AreUnique [] = Unit {0}
AreUnique (e ∷ es) = ((f : Entry) → In f es → same_place e f ≡ false) × AreUnique es

-- epochs never fall
abbrev pub AreSorted : List Entry → Type 0
AreSorted [] = Unit {0}
AreSorted (e ∷ es) = ((f : Entry) → In f es → e.epoch ≤ f.epoch) × AreSorted es

pub record CacheFacts (took : List Command) (waiting : List Waiting) (epoch : ℕ) (cache : List Entry) : Type 0 where
  pub entries : (e : Entry) → In e cache → IsEntry took waiting epoch e
  pub unique : AreUnique cache
  pub sorted : AreSorted cache

-- ---- the medium

-- a part of this place and block, or a later one, is on the medium
abbrev pub IsHeld : List (Option ℕ) → ℕ → ℕ → Type 0
IsHeld origins block x = (o : ℕ) × (slice_get origins block ≡ Some (Some o)) × (x ≤ o)

-- a part of this place and block, or a later one of its epoch, is in the cache
pub record IsCached (cache : List Entry) (epoch block x : ℕ) : Type 0 where
  pub entry : Entry
  pub there : In entry cache
  pub same_block : entry.block ≡ block
  pub same_epoch : entry.epoch ≡ epoch
  pub later : x ≤ entry.part

pub record MediumFacts (base : List (List ℕ)) (took : List Command) (waiting : List Waiting) (cache : List Entry) (surface : List (List ℕ)) (origins : List (Option ℕ)) : Type 0 where
  pub blocks : length surface ≡ length base
  pub places : length origins ≡ length base
  pub written : (b x : ℕ) → slice_get origins b ≡ Some (Some x)
      → (p : Part) × (part_at took x ≡ Some p) × (p.block ≡ b) × (slice_get surface b ≡ Some p.body) × IsDone took waiting (command_of_part took x)
  pub untouched : (b : ℕ) → slice_get origins b ≡ Some None → slice_get surface b ≡ slice_get base b
  -- what is on the medium is of no later epoch than what is in the cache, and of an earlier place than an entry of its block
  pub older : (b x : ℕ) (e : Entry) → slice_get origins b ≡ Some (Some x) → In e cache → epoch_of took (command_of_part took x) ≤ e.epoch
  pub newer : (x : ℕ) (e : Entry) → slice_get origins e.block ≡ Some (Some x) → In e cache → x < e.part
  -- what is done is in the cache or on the medium
  pub covered : (x : ℕ) (p : Part) → part_at took x ≡ Some p → IsDone took waiting (command_of_part took x)
      → IsCached cache (epoch_of took (command_of_part took x)) p.block x ⊎ IsHeld origins p.block x
  -- behind a flush that is done, all is on the medium
  pub flushed : (k id x : ℕ) (p : Part) → IsFlush took k id → IsDone took waiting k → part_at took x ≡ Some p → command_of_part took x < k → IsHeld origins p.block x

-- ---- counts

-- what is left to do: for each command that waits one step and one for each part, and one for each entry
abbrev pub work_left : DeviceState → ℕ
work_left s = sum_by (λ (w : Waiting). length w.command.parts + 1) s.queue.waiting + length s.cache

pub record CountFacts (s : DeviceState) (pending : List Waiting) : Type 0 where
  pub fits : length s.queue.waiting ≤ s.queue.depth
  -- what was taken waits, or its transfer was made
  pub queued : length s.queue.waiting + s.transfers_made ≡ length s.took
  pub steps : work_left s + s.steps ≤ length s.took + length (all_parts s.took)
  pub epochs : s.epoch ≤ s.steps
  pub moved : length s.moved + sum_by (λ (w : Waiting). length w.command.parts) pending ≡ length (all_parts s.took)
  pub completions : length s.sent + length s.waiting + sum_by (λ (w : Waiting). length (ids_of w.command)) s.queue.waiting ≡ length (all_ids s.took) + (if s.told then 1 else 0)
  pub cut : (n : ℕ) → s.cut_at ≡ Some n → s.steps ≤ n

-- ---- all of it

pub record IsValid (s : DeviceState) : Type 0 where
  -- the commands that were not done, in order of arrival, and the number of the one that is lost
  pub pending : List Waiting
  pub lost : Option ℕ
  pub losses : PendingFacts s.queue.waiting pending lost s.failed
  pub faults : FaultFacts s.fail_at s.transfers_made s.bad_read s.failed s.faults
  pub commands : CommandFacts (length s.base) s.limit s.took
  pub queue : QueueFacts s.took (with_waiting s.queue pending)
  pub present : IsPresent s.took pending s.epoch
  pub moved : MovedFacts s.took pending s.moved
  pub cache : CacheFacts s.took pending s.epoch s.cache
  pub medium : MediumFacts s.base s.took pending s.cache s.surface s.origins
  pub completions : CompletionFacts s.took pending lost (s.sent ++ s.waiting) (is_off s) s.told
  pub counts : CountFacts s pending
