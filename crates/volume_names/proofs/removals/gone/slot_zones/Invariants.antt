use Rattle.std.proofs.Common.{◌≡◌, ◌-◌, ◌++◌, map}
use Rattle.std.specs.List.{range_with_len}
use Rattle.volume_model.specs.Volume.{block, zone_in}
use Rattle.volume_names.proofs.removals.gone.slot_zones.Given as goal

abbrev pub invariant-loop-index : goal.invariant-loop-index
invariant-loop-index l =
    l.zones.items ++ map (λ index. zone_in l.blocks l.inode (block index)) (range_with_len l.index (l.count - l.index))
    ≡ map (λ index. zone_in l.blocks l.inode (block index)) (range_with_len 0 l.count)
