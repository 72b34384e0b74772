use Rattle.volume_ops.proofs.BlockPlaces.{metadata_stays}
use Rattle.volume_ops.proofs.MetadataReads.{walk_reads_metadata}
use Rattle.volume_ops.proofs.SameWalks.{same_walk, same_trees}
use Rattle.volume_ops.proofs.laws.metadata_gives_trees.Goals as goal

pub returns : goal.returns
returns c = record { read = walk_reads_metadata; walk = same_walk; alike = same_trees; stays = metadata_stays }
