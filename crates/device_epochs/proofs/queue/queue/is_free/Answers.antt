use Rattle.std.proofs.Common.{◌≡◌, ◌∙◌, not, sym, rules, tests}
use Rattle.std.specs.List.{list_all}
use Rattle.std.proofs.lemmas.Iterator.{YieldsList-from_slice}
use Rattle.std.proofs.lemmas.Iterator.Search.{all_from_yields_List}
use Rattle.std.proofs.lemmas.List.Folds.{list_all-map}
use Rattle.device_epochs.specs.declared.queue.queue.Seat.{Seat}
use Rattle.device_epochs.specs.queue.Queue.{Waiting, stands_in_way}
use Rattle.device_epochs.specs.queue.code.Seats.{waiting_at}
use Rattle.device_epochs.proofs.queue.queue.is_free.Goals as goal

pub returns : goal.returns
returns c =
    let slots = c.args.slots.now in
    let seats = c.args.seats.now in
    let v = waiting_at slots c.args.v in
    let test = λ (s : Seat). not (stands_in_way (waiting_at slots s) v) in
    let by_seat : c.all.result ≡ list_all test seats = all_from_yields_List test _ _ _ c.all.ensures.ran (YieldsList-from_slice seats cc) (λ x b q k. search (rules, tests)) in
    by_seat ∙ sym (list_all-map (λ (w : Waiting). not (stands_in_way w v)) (waiting_at slots) seats)
