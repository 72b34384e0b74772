use Rattle.std.proofs.Common.{rules}
use Rattle.volume_model.specs.Volume.{zone_in}
use Rattle.volume_in_use.proofs.BytesLemmas.Wants.{group_step, group_done, group_stop}
use Rattle.volume_in_use.proofs.bytes.holes.group_holes.Goals as goal

pub loop-group-preserved : goal.loop-group-preserved
loop-group-preserved c = (
  group_step (λ x. zone_in c.args.blocks.now c.args.inode.now x) c.args.first c.args.end c.loop-group.group c.loop-group.holes c.from-holes.result _ c.lacks_group.result c.loop-group-test.true c.loop-group.invariant.0 c.lacks_group.ensures (search rules),
  search rules,
)

pub returns-clause-count : goal.returns-clause-count
returns-clause-count c =
    group_done (λ x. zone_in c.args.blocks.now c.args.inode.now x) c.args.first c.args.end c.loop-group.group c.loop-group.holes _ (search rules) c.loop-group.invariant.0

pub returns-then-end-from-clause-count : goal.returns-then-end-from-clause-count
returns-then-end-from-clause-count c =
    group_stop (λ x. zone_in c.args.blocks.now c.args.inode.now x) c.args.first c.args.end c.loop-group.group c.loop-group.holes _ (search rules) c.loop-group.invariant.0
