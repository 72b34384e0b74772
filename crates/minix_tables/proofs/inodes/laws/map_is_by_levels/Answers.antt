use Rattle.minix_tables.specs.inodes.laws.MapLaws.{zone_at-direct, zone_at-no_indirect, zone_at-indirect, zone_at-no_double, zone_at-no_inner, zone_at-double, zone_at-past}
use Rattle.minix_tables.proofs.inodes.laws.map_is_by_levels.Goals as goal

pub returns : goal.returns
returns c = record {
  direct = zone_at-direct;
  no_indirect = zone_at-no_indirect;
  indirect = zone_at-indirect;
  no_double = zone_at-no_double;
  no_inner = zone_at-no_inner;
  double = zone_at-double;
  past = zone_at-past;
}
