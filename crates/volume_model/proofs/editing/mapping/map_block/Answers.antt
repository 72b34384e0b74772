use Rattle.std.proofs.Common.{rules}
use Rattle.volume_model.specs.MapBlock.{OpenInode}
use Rattle.volume_model.proofs.EditingLemmas.MapSteps.{map_direct, map_single_by, map_twice_by, map_past}
use Rattle.volume_model.proofs.editing.mapping.map_block.Goals as goal

pub returns-then-index-lt7 : goal.returns-then-index-lt7
returns-then-index-lt7 c = map_direct _ _ _ _ _ _ (search rules) c.fill_slot.ensures

pub returns-then-index-lt519 : goal.returns-then-index-lt519
returns-then-index-lt519 c =
    let u : OpenInode = record { blocks = c.fill_slot-then-index-lt519.new.blocks; inode = c.fill_slot-then-index-lt519.new.inode } in
    map_single_by _ _ _ _ u _ c.args.index c.fill-none.result c.zone.result (search rules) (search rules) (search rules) c.zone.ensures c.fill_slot-then-index-lt519.ensures (search rules)

pub returns-then-index-lt262663 : goal.returns-then-index-lt262663
returns-then-index-lt262663 c =
    let u : OpenInode = record { blocks = c.fill_slot-then-index-lt262663.new.blocks; inode = c.fill_slot-then-index-lt262663.new.inode } in
    let w : OpenInode = record { blocks = c.fill_entry-then-index-lt262663.new.blocks; inode = c.fill_slot-then-index-lt262663.new.inode } in
    map_twice_by _ _ _ _ u w _ c.args.index c.fill-none.result c.zone-then-index-lt262663.result c.zone-then-index-lt262663-2.result c.zone_entry-pointer_block.result (search rules) (search rules) (search rules) (search rules) (search rules) (search rules) (search rules) (search rules) (search rules)

pub returns-else-index-lt262663 : goal.returns-else-index-lt262663
returns-else-index-lt262663 c = map_past _ _ _ _ _ (search rules)
