use Rattle.std.proofs.Common.{◌≡◌, ◌+◌, ◌++◌, arith, length, drop, slice_get, sym, ap, ◌∙◌}
use Rattle.flog_device.specs.Log.{prefix}
use Rattle.flog_device.specs.Device.{programs, folds}
use Rattle.flog_device.proofs.Kept.{open-behind}
use Rattle.flog_device.proofs.log.pick_write.Goals as goal

pub loop-at-init : goal.loop-at-init
loop-at-init c =
    let log = c.args.log.now.items in
    let none : 0 + length (prefix log) ≡ length (prefix log) = omega arith in
    ap (λ l. slice_get (l ++ folds log) c.args.pick) (open-behind 0 log ∙ ap (λ k. programs k (drop (length (prefix log)) log)) none ∙ ap (λ k. programs k (drop k log)) (sym c.requires))
