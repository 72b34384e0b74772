use Rattle.minix_layout.specs.laws.BitLaws.{place_read_back, other_place, inode_bits_apart, zone_bits_apart, maps_apart}
use Rattle.minix_layout.proofs.laws.maps_are_read.Goals as goal

pub returns : goal.returns
returns c = record {
  read = place_read_back;
  other = other_place;
  inodes_apart = inode_bits_apart;
  zones_apart = zone_bits_apart;
  maps_apart = maps_apart;
}
