use Rattle.volume_ops.specs.laws.ReadsLaws.{answer-agrees, blocks_read-agree}
use Rattle.volume_ops.specs.Volume.{disk_of, walked}
use Rattle.volume_ops.specs.Walk.{walk_volume}
use Rattle.volume_ops.proofs.laws.walks_read_metadata_alone.Goals as goal

pub returns : goal.returns
unfolding walked
returns c = record {
  same = λ g blocks other agree. (
    answer-agrees (disk_of blocks) (disk_of other) (walk_volume g) agree,
    blocks_read-agree (disk_of blocks) (disk_of other) (walk_volume g) agree,
  );
}
