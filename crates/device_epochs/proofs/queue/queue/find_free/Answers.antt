-- No more commands are free than wait.
use Rattle.std.proofs.Common.{length, arith}
use Rattle.std.proofs.lemmas.Option.{slice_get_past}
use Rattle.std.proofs.lemmas.List.{length-map}
use Rattle.std.proofs.lemmas.List.Sums.{length-filter, count_by-le-length}
use Rattle.device_epochs.specs.queue.Queue.{eligible, is_free}
use Rattle.device_epochs.specs.queue.code.Seats.{seated, waiting_at}
use Rattle.device_epochs.proofs.queue.queue.find_free.Goals as goal

pub returns-then-pick-seats : goal.returns-then-pick-seats
returns-then-pick-seats c =
    let ws = seated c.args.slots.now c.args.seats.now in
    slice_get_past (eligible ws) c.args.pick (omega (arith, length-filter (is_free ws) ws, count_by-le-length (is_free ws) ws, length-map c.args.seats.now (waiting_at c.args.slots.now)))
