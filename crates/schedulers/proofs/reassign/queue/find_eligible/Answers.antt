-- The list has no more requests than wait.
use Rattle.std.proofs.Common.{arith}
use Rattle.std.proofs.lemmas.Option.{slice_get_past}
use Rattle.std.proofs.lemmas.List.Sums.{length-filter, count_by-le-length}
use Rattle.schedulers.specs.reassign.Epoch.{may_leave, eligible}
use Rattle.schedulers.proofs.reassign.queue.find_eligible.Goals as goal

pub returns-then-pick-len : goal.returns-then-pick-len
returns-then-pick-len c =
    let ws = c.args.waiting.now.items in
    slice_get_past (eligible ws) c.args.pick (omega (arith, length-filter (may_leave ws) ws, count_by-le-length (may_leave ws) ws))
