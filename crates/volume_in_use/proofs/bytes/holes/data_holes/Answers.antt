use Rattle.std.proofs.Common.{rules}
use Rattle.volume_model.specs.Volume.{zone_in}
use Rattle.volume_in_use.proofs.BytesLemmas.Wants.{data_step, data_done}
use Rattle.volume_in_use.proofs.bytes.holes.data_holes.Goals as goal

pub loop-index-preserved : goal.loop-index-preserved
loop-index-preserved c = (
  data_step (λ x. zone_in c.args.blocks.now c.args.inode.now x) c.loop-index.index c.args.end c.loop-index.holes c.from-holes.result c.block_zone.result _ c.loop-index-test.true c.loop-index.invariant.0 c.block_zone.ensures (search rules),
  search rules,
  search rules,
)

pub returns-clause-count : goal.returns-clause-count
returns-clause-count c =
    data_done (λ x. zone_in c.args.blocks.now c.args.inode.now x) c.loop-index.index c.args.end c.loop-index.holes _ (search rules) c.loop-index.invariant.0
