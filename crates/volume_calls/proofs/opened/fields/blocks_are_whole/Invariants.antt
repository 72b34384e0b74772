use Rattle.std.proofs.Common.{◌≡◌, ℕ, ◌<◌, length, slice_index}
use Rattle.volume_ops.specs.Volume.{disk_of}
use Rattle.volume_calls.proofs.opened.fields.blocks_are_whole.Given as goal

abbrev pub invariant-loop-b : goal.invariant-loop-b
invariant-loop-b l = (b : ℕ) → b < l.b → (length (disk_of l.disk b) ≡ 1024) × ((k : ℕ) → slice_index (disk_of l.disk b) k < 256)
