use Rattle.std.proofs.Common.{◌<◌, length, arith, rules}
use Rattle.device_epochs.specs.queue.Queue.{eligible}
use Rattle.flog_device.proofs.Pages.{chosen-here, pick-yes, pick-no}
use Rattle.flog_device.proofs.choice.find_fitting.Goals as goal
use Rattle.flog_device.proofs.choice.find_fitting.Goals.{then-fits_at+else-left-eq0, else-fits_at}

pub returns-then-left-eq0 : goal.returns-then-left-eq0
returns-then-left-eq0 c =
    let q = c.args.queue.now in
    let lt : c.loop-at.at < length (eligible q.waiting) = search rules in
    chosen-here c.args.free c.args.programmed q c.args.pick c.loop-at.at c.loop-at.left lt c.if-fits_at.ensures c.loop-at.invariant (search rules)

pub loop-at-preserved : goal.loop-at-preserved
loop-at-preserved c =
    let q = c.args.queue.now in
    let lt : c.loop-at.at < length (eligible q.waiting) = search rules in
    elim c.if-fits_at.branch [
      | then-fits_at+else-left-eq0 w ↦
          pick-yes c.args.free c.args.programmed q c.args.pick c.loop-at.at c.loop-at.left c.if-fits_at.left lt (search rules) (search (rules, arith)) c.loop-at.invariant
      | else-fits_at w ↦
          pick-no c.args.free c.args.programmed q c.args.pick c.loop-at.at c.loop-at.left c.if-fits_at.left lt (search rules) (search rules) c.loop-at.invariant
    ]
