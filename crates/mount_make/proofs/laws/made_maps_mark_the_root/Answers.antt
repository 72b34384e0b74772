use Rattle.mount_make.proofs.MadeMaps.{inode_marked, zone_marked, other_marked}
use Rattle.mount_make.proofs.laws.made_maps_mark_the_root.Goals as goal

pub returns : goal.returns
returns c = record {
  inodes = λ g journal wide inode sound. inode_marked g journal wide sound inode;
  zones = λ g journal wide zone sound. zone_marked g journal wide sound zone;
  others = λ g journal wide p sound. other_marked g journal wide sound p;
}
