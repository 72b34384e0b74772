use Rattle.std.proofs.Common.{◌≡◌, ◌-◌, map}
use Rattle.std.specs.List.{range_with_len}
use Rattle.byte_fields.specs.Fields.{written}
use Rattle.byte_fields.specs.Fields.Order.{little}
use Rattle.minix_layout.specs.Inodes.{zone_field}
use Rattle.minix_layout.proofs.table.put_zones.Given as goal

abbrev pub invariant-loop-k : goal.invariant-loop-k
invariant-loop-k l = l.bytes ≡ written little (map (zone_field l.zones) (range_with_len l.k (9 - l.k))) l.initial.bytes
