use Rattle.std.proofs.Common.{rules, ap, ◌∙◌, ◌-◌, ◌/◌, ◌%◌, refl}
use Rattle.minix_tables.specs.inodes.Map.{entry_behind}
use Rattle.volume_model.specs.Volume.{inner, zone_in}
use Rattle.volume_model.specs.Ways.{entry_of}
use Rattle.volume_model.specs.editing.code.Cutting.{keeps_listed}
use Rattle.volume_model.proofs.EditingLemmas.WrittenSteps.{single_written, twice_written}
use Rattle.volume_model.proofs.editing.written.zones_written.Goals as goal

pub returns-then-from-lt519 : goal.returns-then-from-lt519
returns-then-from-lt519 c =
    single_written c.args.blocks.now (λ x. zone_in c.args.blocks.now c.args.inode.now x) c.args.zones.now c.args.from c.keeps_indirect-keep.result c.zone.result (c.args.from - 7) c.if_cut.result
    (search rules) c.if-from-lt519.true c.keeps_indirect-keep.ensures c.zone.ensures refl c.if_cut.ensures

pub returns-then-from-lt262663 : goal.returns-then-from-lt262663
returns-then-from-lt262663 c =
    twice_written c.args.blocks.now (λ x. zone_in c.args.blocks.now c.args.inode.now x) c.args.zones.now c.args.from c.keeps_double.result c.keeps_inner-group.result c.zone-outer.result c.zone_entry-inner.result
    ((c.args.from - 519) % 512) c.end_of.result
    c.if_cut-then-from-lt262663-2.result c.if_cut-then-from-lt262663.result (search rules) c.if-from-lt262663.true
    (c.keeps_inner-group.ensures ∙ ap (λ k. keeps_listed c.args.zones.now c.args.from (inner k)) c.into.ensures) c.keeps_double.ensures
    (c.zone_entry-inner.ensures ∙ ap (λ z. entry_behind (entry_of c.args.blocks.now) z ((c.args.from - 519) / 512)) c.zone-outer.ensures)
    c.zone-outer.ensures refl c.end_of.ensures.value c.if_cut-then-from-lt262663.ensures c.if_cut-then-from-lt262663-2.ensures
