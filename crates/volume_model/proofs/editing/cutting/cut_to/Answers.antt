use Rattle.std.proofs.Common.{rules, ◌∙◌}
use Rattle.volume_model.specs.MapBlock.{OpenInode}
use Rattle.volume_model.specs.editing.code.Cutting.{keeps_listed}
use Rattle.volume_model.proofs.EditingLemmas.CutSteps.{below, cut_near_by, cut_far_by, cut_single_by, cut_twice_by}
use Rattle.volume_model.proofs.editing.cutting.cut_to.Goals as goal

pub returns-then-from-lt7 : goal.returns-then-from-lt7
returns-then-from-lt7 c =
    let s : OpenInode = record { blocks = c.args.blocks.now; inode = c.args.inode.now } in
    cut_near_by c.args.g.now (keeps_listed c.args.zones.now c.args.from) s c.args.from c.zones_left-left.result c.zones_left-left.ensures c.if-from-lt7.true
    ∙ below c.args.g.now c.args.zones.now c.args.from s

pub returns-then-from-lt519 : goal.returns-then-from-lt519
returns-then-from-lt519 c =
    let s : OpenInode = record { blocks = c.args.blocks.now; inode = c.args.inode.now } in
    cut_single_by c.args.g.now (keeps_listed c.args.zones.now c.args.from) s c.args.from c.zones_left-left.result c.clear_step.new.blocks c.keeps_indirect.result c.zone.result
    c.zones_left-left.ensures (search rules) (search rules) c.keeps_indirect.ensures c.zone.ensures (search rules)
    ∙ below c.args.g.now c.args.zones.now c.args.from s

pub returns-then-from-lt262663 : goal.returns-then-from-lt262663
returns-then-from-lt262663 c =
    let s : OpenInode = record { blocks = c.args.blocks.now; inode = c.args.inode.now } in
    cut_twice_by c.args.g.now (keeps_listed c.args.zones.now c.args.from) s c.args.from c.zones_left-left.result
    c.clear_step-then-from-lt262663.new.blocks c.clear_step-then-from-lt262663-2.new.blocks c.keeps_inner-group.result c.keeps_double.result c.zone-outer.result c.zone_entry-pointer_block.result c.end_of.result
    c.zones_left-left.ensures (search rules) (search rules) (search rules) c.keeps_double.ensures c.zone-outer.ensures (search rules) c.end_of.ensures.value (search rules) c.clear_step-then-from-lt262663-2.ensures
    ∙ below c.args.g.now c.args.zones.now c.args.from s

pub returns : goal.returns
returns c =
    let s : OpenInode = record { blocks = c.args.blocks.now; inode = c.args.inode.now } in
    cut_far_by c.args.g.now (keeps_listed c.args.zones.now c.args.from) s c.args.from c.zones_left-left.result c.zones_left-left.ensures (search rules)
    ∙ below c.args.g.now c.args.zones.now c.args.from s
