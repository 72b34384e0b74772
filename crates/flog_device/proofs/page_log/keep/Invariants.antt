use Rattle.std.proofs.Common.{◌≡◌, ◌≤◌, length, take}
use Rattle.flog_device.specs.Log.{prefix, places}
use Rattle.flog_device.specs.code.Logged.{AreLast}
use Rattle.flog_device.proofs.page_log.keep.Given as goal

abbrev pub invariant-loop-at : goal.invariant-loop-at
invariant-loop-at l = record {
  kept : l.at ≤ length (prefix l.pages.items);
  last : AreLast l.last.items (places (take l.at l.pages.items));
  blocks : length l.last.items ≡ length l.initial.last.items;
}
