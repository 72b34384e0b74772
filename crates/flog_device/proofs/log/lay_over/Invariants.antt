use Rattle.std.proofs.Common.{◌≡◌, drop, length}
use Rattle.flog_device.specs.Log.{prefix, places, laid, laid_origins}
use Rattle.flog_device.proofs.log.lay_over.Given as goal

abbrev pub invariant-loop-at : goal.invariant-loop-at
invariant-loop-at l =
    record {
      area : laid l.took.items (places (prefix (drop l.at l.log.items))) l.area ≡ laid l.took.items (places (prefix l.log.items)) l.initial.area;
      origins : laid_origins (places (prefix (drop l.at l.log.items))) l.origins.items ≡ laid_origins (places (prefix l.log.items)) l.initial.origins.items;
      blocks : length l.area ≡ length l.initial.area;
      places : length l.origins.items ≡ length l.initial.origins.items;
    }
