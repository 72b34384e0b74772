-- The states that the device can reach: facts that each call keeps, and from which the laws follow. A command whose transfer
-- failed has left the queue, but was not done: the facts take it as one that still waits.
use Rattle.std.specs.Prelude.{◌≡◌, ℕ, ◌+◌, ◌*◌, ◌<◌, ◌≤◌, ◌++◌, List, length, map, sum_by, Option, Some, None, slice_get, if◌then◌else◌}
use Rattle.blk_base.specs.Members.{In}
use Rattle.order_model.specs.declared.part.Part.{Part}
use Rattle.order_model.specs.declared.command.Command.{Command}
use Rattle.order_model.specs.declared.history.Transfer.{Transfer}
use Rattle.order_model.specs.Received.{all_parts, all_ids, ids_of, part_at, command_of_part, epoch_of, IsFlush}
use Rattle.device_epochs.specs.queue.Queue.{Waiting}
pub use Rattle.device_epochs.specs.queue.Facts.{with_waiting}
use Rattle.device_epochs.specs.queue.Facts.{IsDone, CommandFacts, QueueFacts, IsPresent, MovedFacts, PendingFacts, FaultFacts, CompletionFacts}
use Rattle.flog_device.specs.Log.{Place, Page, prefix, places}
use Rattle.flog_device.specs.Device.{FlogState, is_off}
use Rattle.flog_device.specs.laws.LogFacts.{InOrder, Rises, top, body_over}

-- what is left to do: for each command that waits one step and two for each part; for each page two, or one where it is programmed
abbrev pub work : Waiting → ℕ
work w = 2 * length w.command.parts + 1

abbrev pub page_work : Page → ℕ
page_work p = if p.programmed then 1 else 2

abbrev pub work_left : FlogState → ℕ
work_left s = sum_by work s.queue.waiting + sum_by page_work s.log

-- ---- the log

abbrev pub part_of : Place → ℕ
part_of p = p.part

abbrev pub moved_part : Transfer → ℕ
moved_part t = t.part

-- how many barriers stand before the command of a part
abbrev pub epoch_at : List Command → ℕ → ℕ
epoch_at took x = epoch_of took (command_of_part took x)

-- the first is of no later epoch
abbrev pub NoLater : List Command → Place → Place → Type 0
NoLater took p q = epoch_at took p.part ≤ epoch_at took q.part

-- all places of the log that were given, and those that are kept, where these were folded
abbrev pub given : List Place → List Page → List Place
given gone log = gone ++ places log

abbrev pub kept_places : List Place → List Page → List Place
kept_places gone log = gone ++ places (prefix log)

pub record LogFacts (base : List (List ℕ)) (took : List Command) (pending : List Waiting) (moved : List Transfer) (gone : List Place) (log : List Page) (area : List (List ℕ)) (origins : List (Option ℕ)) : Type 0 where
  pub blocks : length area ≡ length base
  pub origin_blocks : length origins ≡ length base
  -- the places are those of the parts that were moved, in this order
  pub parts : map part_of (given gone log) ≡ map moved_part moved
  pub taken : (p : Place) → In p (given gone log) → (q : Part) × (part_at took p.part ≡ Some q) × (q.block ≡ p.block)
  pub rising : InOrder Rises (given gone log)
  pub epochs : InOrder (NoLater took) (given gone log)
  -- where no kept page lies over a block, the data area has the last place of it that was folded
  pub held : (b : ℕ) → b < length base → top (places (prefix log)) b ≡ None → slice_get origins b ≡ Some (top gone b)
  pub bodies : (b : ℕ) → b < length base → top (places (prefix log)) b ≡ None → slice_get area b ≡ body_over took (top gone b) (slice_get base b)
  -- behind a flush that is done, all is kept
  pub flushed : (k id x : ℕ) (p : Part) → IsFlush took k id → IsDone took pending k → part_at took x ≡ Some p → command_of_part took x < k → In (record { block = p.block; part = x }) (kept_places gone log)

-- ---- counts

pub record CountFacts (s : FlogState) (pending : List Waiting) : Type 0 where
  pub steps : work_left s + s.steps ≤ length s.took + 2 * length (all_parts s.took)
  pub epochs : s.epoch ≤ s.steps
  pub moved : length s.moved + sum_by (λ (w : Waiting). length w.command.parts) pending ≡ length (all_parts s.took)
  pub completions : length s.sent + length s.waiting + sum_by (λ (w : Waiting). length (ids_of w.command)) s.queue.waiting ≡ length (all_ids s.took) + (if s.told then 1 else 0)

-- ---- all of it

pub record IsValid (s : FlogState) : Type 0 where
  -- the commands that were not done, in order of arrival, and the number of the one that is lost
  pub pending : List Waiting
  pub lost : Option ℕ
  -- the places that were folded
  pub gone : List Place
  pub counted : length gone ≡ s.folded
  pub some_segments : 3 ≤ s.segments
  pub small : (c : Command) → In c s.took → length c.parts ≤ 16
  pub queued : length s.queue.waiting + s.transfers_made ≡ length s.took
  pub cut : (n : ℕ) → s.cut_at ≡ Some n → s.steps ≤ n
  pub losses : PendingFacts s.queue.waiting pending lost s.failed
  pub faults : FaultFacts s.fail_at s.transfers_made None s.failed s.faults
  pub commands : CommandFacts (length s.base) s.limit s.took
  pub queue : QueueFacts s.took (with_waiting s.queue pending)
  pub present : IsPresent s.took pending s.epoch
  pub moved : MovedFacts s.took pending s.moved
  pub log : LogFacts s.base s.took pending s.moved gone s.log s.data_area s.origins
  pub completions : CompletionFacts s.took pending lost (s.sent ++ s.waiting) (is_off s) s.told
  pub counts : CountFacts s pending
