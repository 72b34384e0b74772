use Rattle.std.proofs.Common.{◌<◌, length, arith, rules}
use Rattle.device_epochs.specs.queue.Queue.{eligible}
use Rattle.flog_device.proofs.Pages.{count-yes, count-no}
use Rattle.flog_device.proofs.choice.count_fitting.Goals as goal
use Rattle.flog_device.proofs.choice.count_fitting.Goals.{then-fits_at, else-fits_at}

pub loop-at-preserved : goal.loop-at-preserved
loop-at-preserved c =
    let q = c.args.queue.now in
    let inv = c.loop-at.invariant in
    let lt : c.loop-at.at < length (eligible q.waiting) = search rules in
    elim c.if-fits_at.branch [
      | then-fits_at w ↦
          let told = count-yes c.args.free c.args.programmed q c.loop-at.at c.loop-at.count lt (search rules) inv.told in
          record { told = search (rules, told, arith); few = search (rules, arith) }
      | else-fits_at w ↦
          let told = count-no c.args.free c.args.programmed q c.loop-at.at c.loop-at.count lt (search rules) inv.told in
          record { told = search (rules, told, arith); few = search (rules, arith) }
    ]
