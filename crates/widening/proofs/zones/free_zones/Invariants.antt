use Rattle.std.proofs.Common.{◌≡◌, ◌≤◌, Ok}
use Rattle.volume_ops.specs.Volume.{walked}
use Rattle.volume_ops.specs.Walk.{Walked}
use Rattle.widening.specs.Directories.{is_free}
use Rattle.widening.proofs.FreeSteps.{passed}
use Rattle.widening.proofs.zones.free_zones.Given as goal

abbrev pub invariant-loop-zone : goal.invariant-loop-zone
invariant-loop-zone l =
    (l.volume.geometry.first ≤ l.zone) ×
    ((all : Walked) → walked l.volume.geometry l.volume.blocks ≡ Ok all →
    l.zones.items ≡ passed (is_free l.volume.geometry l.volume.blocks all.zones) l.volume.geometry.first l.zone)
