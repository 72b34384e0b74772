use Rattle.volume_model.proofs.ToldBlocks.{inode_is_told, zone_is_told}
use Rattle.volume_model.proofs.laws.changed_blocks_are_told.Goals as goal

pub returns : goal.returns
returns c = record { inode = inode_is_told; numbers = zone_is_told }
