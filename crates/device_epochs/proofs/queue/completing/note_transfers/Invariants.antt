use Rattle.std.proofs.Common.{◌≡◌, ◌+◌, ◌++◌, drop, length}
use Rattle.order_model.specs.Received.{transfers}
use Rattle.device_epochs.proofs.queue.completing.note_transfers.Given as goal

abbrev pub invariant-loop : goal.invariant-loop
invariant-loop l =
    record {
      place : l.place ≡ l.first + l.index;
      room : l.moved.room ≡ l.initial.moved.room;
      len : length l.moved.items ≡ length l.initial.moved.items + l.index;
      rest : l.moved.items ++ transfers l.epoch l.place (drop l.index l.parts) ≡ l.initial.moved.items ++ transfers l.epoch l.first l.parts;
    }
