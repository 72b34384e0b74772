use Rattle.minix_layout.specs.laws.InodeLaws.{inode_read_back, other_inode, byte_beside_inode}
use Rattle.minix_layout.proofs.laws.inodes_are_read.Goals as goal

pub returns : goal.returns
returns c = record { read = inode_read_back; other = other_inode; bytes = byte_beside_inode }
