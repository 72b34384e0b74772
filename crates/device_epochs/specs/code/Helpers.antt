-- What the private functions of the code ask, find and answer.
use Rattle.std.specs.Prelude.{◌≡◌, ℕ, ◌≤◌, true, List, Some, slice_get, ◌==◌, ◌&&◌, ◌||◌, not, Bool, false, length, is_some}
use Rattle.blk_base.specs.Members.{In}
use Rattle.device_epochs.specs.declared.cache.Entry.{Entry}
use Rattle.device_epochs.specs.Cache.{same_place}
use Rattle.device_epochs.specs.laws.Valid.{AreUnique, AreSorted}
use Rattle.std.specs.Option.{option_map, option_map_or}
use Rattle.order_model.specs.declared.command.Command.{Command}
use Rattle.device_epochs.specs.queue.Queue.{QueueState, Waiting, picked}
use Rattle.device_epochs.specs.Device.{DeviceState, has_stopped}

-- ---- the cache

-- no two entries are of one epoch and block, and epochs never fall
pub record IsPlain (cache : List Entry) : Type 0 where
  pub unique : AreUnique cache
  pub sorted : AreSorted cache

-- no entry is of a later epoch
pub record EndsAt (epoch : ℕ) (cache : List Entry) : Type 0 where
  pub within : (f : Entry) → In f cache → f.epoch ≤ epoch

-- the entry at place i is of the epoch and block of e
pub record IsPlaceOf (e : Entry) (cache : List Entry) (i : ℕ) : Type 0 where
  pub found : Entry
  pub there : slice_get cache i ≡ Some found
  pub same : same_place e found ≡ true

-- ---- what holds commands back

-- the first command that may go is a flush
abbrev pub starts_with_flush : QueueState → Bool
starts_with_flush q = option_map_or (λ (c : Command). is_some c.flush) (option_map (λ (w : Waiting). w.command) (picked q 0)) false

-- a flush may go but for the cache, which is not empty
abbrev pub flush_waits : DeviceState → Bool
flush_waits s = not (length s.cache == 0) && starts_with_flush s.queue

-- no command may go
abbrev pub is_held : DeviceState → Bool
is_held s = has_stopped s || flush_waits s
