use Rattle.std.proofs.Common.{drop}
use Rattle.volume_in_use.specs.bytes.code.Cutting.{blocks_freed}
use Rattle.volume_in_use.proofs.BytesLemmas.Freeing.{AreTurns}
use Rattle.volume_ops.specs.declared.found.Mapped.{Mapped}
use Rattle.volume_in_use.proofs.bytes.cutting.free_blocks.Given as goal

abbrev pub invariant-loop-m : goal.invariant-loop-m
invariant-loop-m l =
    AreTurns l.tx (λ (m : Mapped). m.zone) (blocks_freed l.tx l.birth) (drop l.m-index l.gone) (blocks_freed l.tx l.birth l.gone (record { volume = l.initial.v; touched = l.initial.touched.touched }))
    (record { volume = l.v; touched = l.touched.touched }) l.touched.spare l.gone l.initial.touched.spare
