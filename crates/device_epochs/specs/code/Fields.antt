-- The fields of a device, as its state.
use Rattle.std.specs.Prelude.{◌≡◌, ◌+◌, ◌^◌, ◌<◌, ◌≤◌, length}
use Rattle.device_epochs.specs.declared.device.EpochDevice.TheInside.{Inside}
use Rattle.device_epochs.specs.Device.{DeviceState}
use Rattle.device_epochs.specs.laws.Valid.{IsValid}

abbrev pub state_of : Inside → DeviceState
state_of d = record {
  base = d.base.items;
  surface = d.surface;
  origins = d.origins.items;
  took = d.trace.took.items;
  moved = d.trace.moved.items;
  sent = d.trace.sent.items;
  waiting = d.waiting.items;
  queue = d.queue;
  cache = d.cache.items;
  epoch = d.epoch;
  steps = d.trace.steps;
  limit = d.limit;
  cut_at = d.cut_at;
  told = d.told;
  fail_at = d.fail_at;
  transfers_made = d.transfers_made;
  bad_read = d.bad_read;
  failed = d.failed;
  faults = d.faults;
}

-- the state is one that the calls reach, and each list has room for what its limit allows
pub record IsDevice (d : Inside) : Type 0 where
  pub valid : IsValid (state_of d)
  pub few : d.limit < 2 ^ 31
  pub took : d.limit ≤ d.trace.took.room
  pub moved : d.limit ≤ d.trace.moved.room
  pub sent : d.limit + 1 ≤ d.trace.sent.room
  pub waiting : d.limit ≤ d.waiting.capacity
  pub cache : d.limit + d.limit ≤ d.cache.room
  -- the cache knows each block, and no more entries were appended to it than parts were moved
  pub blocks : d.cache.blocks ≡ length d.surface
  pub appended : d.cache.appended ≤ length d.trace.moved.items
