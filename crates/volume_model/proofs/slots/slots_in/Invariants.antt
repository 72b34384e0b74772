use Rattle.std.proofs.Common.{◌≡◌, map}
use Rattle.std.specs.List.{range_with_len}
use Rattle.volume_model.specs.Plain.{slot_in}
use Rattle.volume_model.proofs.slots.slots_in.Given as goal

abbrev pub invariant-loop-k : goal.invariant-loop-k
invariant-loop-k l = l.slots.items ≡ map (slot_in l.g l.disk l.inode) (range_with_len 0 l.k)
