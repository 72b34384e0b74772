use Rattle.std.proofs.Common.{drop, ℕ}
use Rattle.volume_in_use.specs.bytes.code.Cutting.{numbers_freed}
use Rattle.volume_in_use.proofs.BytesLemmas.Freeing.{AreTurns}
use Rattle.volume_in_use.proofs.bytes.cutting.free_numbers.Given as goal

abbrev pub invariant-loop-zone : goal.invariant-loop-zone
invariant-loop-zone l =
    AreTurns l.tx (λ (zone : ℕ). zone) (numbers_freed l.tx) (drop l.zone-index l.gone) (numbers_freed l.tx l.gone (record { volume = l.initial.v; touched = l.initial.touched.touched }))
    (record { volume = l.v; touched = l.touched.touched }) l.touched.spare l.gone l.initial.touched.spare
