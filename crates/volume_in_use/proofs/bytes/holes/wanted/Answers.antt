use Rattle.std.proofs.Common.{rules}
use Rattle.volume_model.specs.Volume.{zone_in}
use Rattle.volume_in_use.proofs.BytesLemmas.Wants.{wanted_is}
use Rattle.volume_in_use.proofs.bytes.holes.wanted.Goals as goal

pub returns : goal.returns
returns c indices rising is =
    wanted_is (λ x. zone_in c.args.blocks.now c.args.inode.now x) indices c.args.off c.args.len c.block_count-count.result c.data_holes.result c.named_holes.result c.group_holes.result rising is
    (search rules) c.block_count-count.ensures.blocks c.data_holes.ensures.count (c.named_holes.ensures.count c.args.blocks.now) c.group_holes.ensures.count
