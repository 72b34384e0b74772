-- The fields of a device, as its state.
use Rattle.std.specs.Prelude.{◌≡◌, ◌+◌, ◌*◌, ◌^◌, ◌<◌, ◌≤◌, length}
use Rattle.flog_device.specs.declared.device.FlogDevice.TheInside.{Inside}
use Rattle.flog_device.specs.Device.{FlogState}
use Rattle.flog_device.specs.laws.Valid.{IsValid}

abbrev pub state_of : Inside → FlogState
state_of d = record {
  base = d.base.items;
  data_area = d.data_area;
  origins = d.origins.items;
  log = d.log.items;
  folded = d.folded;
  segments = d.segments;
  took = d.trace.took.items;
  moved = d.trace.moved.items;
  sent = d.trace.sent.items;
  waiting = d.waiting.items;
  queue = d.queue;
  epoch = d.epoch;
  steps = d.trace.steps;
  limit = d.limit;
  cut_at = d.cut_at;
  told = d.told;
  fail_at = d.fail_at;
  transfers_made = d.transfers_made;
  failed = d.failed;
  faults = d.faults;
}

-- the state is one that the calls reach, and each list has room for what its limit allows
pub record IsDevice (d : Inside) : Type 0 where
  pub valid : IsValid (state_of d)
  pub few : d.limit < 2 ^ 31
  pub took : d.limit ≤ d.trace.took.room
  pub moved : d.limit ≤ d.trace.moved.room
  pub sent : d.limit + 1 ≤ d.trace.sent.room
  pub waiting : d.limit ≤ d.waiting.capacity
  pub log : 16 * d.segments ≤ d.log.capacity
  pub area : d.log.area ≡ length d.data_area
