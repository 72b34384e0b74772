use Rattle.std.proofs.Common.{◌≡◌, ◌++◌, drop, slice_get}
use Rattle.flog_device.specs.Device.{programs, folds, writes}
use Rattle.flog_device.proofs.log.pick_write.Given as goal

abbrev pub invariant-loop-at : goal.invariant-loop-at
invariant-loop-at l =
    slice_get (writes l.log.items) l.pick ≡ slice_get (programs l.at (drop l.at l.log.items) ++ folds l.log.items) l.left
