use Rattle.std.proofs.Common.{◌≡◌, ◌++◌, drop, map, take}
use Rattle.std.specs.Prelude.{vec_len}
use Rattle.order_model.specs.Received.{all_parts}
use Rattle.device_epochs.specs.queue.Told.{id_at}
use Rattle.device_epochs.proofs.queue.completing.read_ids.Given as goal

abbrev pub invariant-loop-i : goal.invariant-loop-i
invariant-loop-i l =
    record {
      len : vec_len l.ids ≡ vec_len l.initial.ids;
      rest : l.ids.items ≡ map (id_at (all_parts l.took.items)) (take l.i l.initial.ids.items) ++ drop l.i l.initial.ids.items;
    }
