use Rattle.std.proofs.Common.{rules, ap, ◌∙◌, ◌-◌, ◌/◌}
use Rattle.minix_tables.specs.inodes.Map.{entry_behind}
use Rattle.volume_model.specs.MapBlock.{own_of}
use Rattle.volume_model.specs.Ways.{entry_of}
use Rattle.volume_in_use.proofs.BytesLemmas.Steps.{single_noted, twice_noted}
use Rattle.volume_in_use.proofs.bytes.numbers.note_numbers.Goals as goal

pub returns-then-index-lt519-clause-told : goal.returns-then-index-lt519-clause-told
returns-then-index-lt519-clause-told c =
    single_noted (own_of (record { blocks = c.args.blocks.now; inode = c.args.inode.now })) (record { data_zone = c.args.taken.now.data_zone; outer = c.args.taken.now.outer; second = c.args.taken.now.second }) c.args.index c.args.touched.now.touched
    c.zone.result c.note_single.new.touched.touched (search rules) c.if-index-lt519.true c.zone.ensures c.note_single.ensures.told

pub returns-clause-told : goal.returns-clause-told
returns-clause-told c =
    twice_noted (own_of (record { blocks = c.args.blocks.now; inode = c.args.inode.now })) (record { data_zone = c.args.taken.now.data_zone; outer = c.args.taken.now.outer; second = c.args.taken.now.second }) c.args.index c.args.touched.now.touched
    c.zone-outer.result c.zone_entry-second.result c.held.result c.note_outer.new.touched.touched c.note_second.new.touched.touched (search rules) c.zone-outer.ensures
    (c.zone_entry-second.ensures ∙ ap (λ z. entry_behind (entry_of c.args.blocks.now) z ((c.args.index - 519) / 512)) c.zone-outer.ensures)
    c.held.ensures c.note_outer.ensures.told c.note_second.ensures.told
