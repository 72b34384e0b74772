use Rattle.std.proofs.Common.{map}
use Rattle.std.specs.List.{range_with_len}
use Rattle.volume_model.specs.Volume.{block, zone_in}
use Rattle.volume_names.proofs.RemovalsLemmas.Metadata.{next_zone}
use Rattle.volume_names.proofs.removals.gone.slot_zones.Goals as goal

pub loop-index-preserved : goal.loop-index-preserved
loop-index-preserved c =
    next_zone (λ index. zone_in c.args.blocks.now c.args.inode.now (block index)) (map (λ index. zone_in c.args.blocks.now c.args.inode.now (block index)) (range_with_len 0 c.args.count)) c.args.count
    c.loop-index.zones.items c.push.new.self.items c.loop-index.index c.block_zone.result c.loop-index-test.true c.block_zone.ensures c.in_ok-push.ensures.items c.loop-index.invariant
