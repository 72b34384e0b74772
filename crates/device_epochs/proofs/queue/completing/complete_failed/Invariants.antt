use Rattle.std.proofs.Common.{◌≡◌, ◌+◌, ◌++◌, drop, length, map}
use Rattle.order_model.specs.declared.part.Part.{Part}
use Rattle.order_model.specs.declared.completion.Completion.TheVariants.{Failed}
use Rattle.device_epochs.proofs.queue.completing.complete_failed.Given as goal

abbrev pub invariant-loop-part : goal.invariant-loop-part
invariant-loop-part l =
    record {
      room : l.waiting.capacity ≡ l.initial.waiting.capacity;
      len : length l.waiting.items ≡ length l.initial.waiting.items + l.part-index;
      rest : l.waiting.items ++ map (λ (p : Part). Failed p.id) (drop l.part-index l.part-items) ≡ l.initial.waiting.items ++ map (λ (p : Part). Failed p.id) l.part-items;
    }
