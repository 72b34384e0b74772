use Rattle.std.proofs.Common.{ap, sym, ◌∙◌, ◌+◌, drop}
use Rattle.std.proofs.lemmas.List.{drop_more}
use Rattle.volume_ops.specs.declared.found.Mapped.{Mapped}
use Rattle.volume_steps.specs.Now.{Change}
use Rattle.volume_in_use.specs.bytes.code.Cutting.{blocks_freed}
use Rattle.volume_in_use.proofs.BytesLemmas.Freeing.{next_turn, zone_keeps}
use Rattle.volume_in_use.proofs.bytes.cutting.free_blocks.Goals as goal

pub loop-m-preserved : goal.loop-m-preserved
loop-m-preserved c =
    next_turn c.args.tx (λ (m : Mapped). m.zone) (blocks_freed c.args.tx c.args.birth) _ _ c.args.gone.now _ _ (record { volume = c.loop-m.v; touched = c.loop-m.touched.touched })
    (record { volume = c.free_block.new.v; touched = c.free_block.new.touched.touched }) c.loop-m.touched.spare c.free_block.new.touched.spare c.args.touched.now.spare
    (drop_more c.args.gone.now c.loop-m.m-index _ c.loop-m-test.true) c.loop-m.invariant
    (ap (blocks_freed c.args.tx c.args.birth (drop (c.loop-m.m-index + 1) c.args.gone.now)) (sym c.free_block.ensures.change))
    (ap (λ (c : Change). c.volume.zones) c.free_block.ensures.change ∙ (zone_keeps c.args.tx _ (record { volume = c.loop-m.v; touched = c.loop-m.touched.touched })).0)
    (ap (λ (c : Change). c.volume.geometry) c.free_block.ensures.change ∙ (zone_keeps c.args.tx _ (record { volume = c.loop-m.v; touched = c.loop-m.touched.touched })).1)
    c.free_block.ensures.spare
