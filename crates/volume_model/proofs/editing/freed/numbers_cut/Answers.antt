use Rattle.std.proofs.Common.{ap, arith}
use Rattle.volume_model.specs.Volume.{inner}
use Rattle.volume_model.specs.editing.code.Cutting.{keeps_listed}
use Rattle.volume_model.proofs.EditingLemmas.FreedSteps.{first_numbers, next_number, all_numbers}
use Rattle.volume_model.proofs.editing.freed.numbers_cut.Goals as goal

pub loop-group-init : goal.loop-group-init
loop-group-init c =
    first_numbers c.args.blocks.now c.args.inode.now (keeps_listed c.args.zones.now c.args.from) c.new-gone.result.items c.push_gone.new.gone.items c.push_gone-2.new.gone.items
    c.zone-indirect.result c.zone-double.result c.keeps_indirect.result c.keeps_double.result
    c.zone-indirect.ensures c.zone-double.ensures c.keeps_indirect.ensures c.keeps_double.ensures c.new-gone.ensures.items c.in_ok-push_gone.ensures c.in_ok-push_gone-2.ensures

pub loop-group-preserved : goal.loop-group-preserved
loop-group-preserved c =
    next_number c.args.blocks.now c.args.inode.now (keeps_listed c.args.zones.now c.args.from) c.loop-group.gone.items c.push_inner.new.gone.items
    c.loop-group.group c.zone-double.result c.zone_entry-zone.result (keeps_listed c.args.zones.now c.args.from (inner c.into.result)) c.loop-group-test.true c.zone-double.ensures c.zone_entry-zone.ensures
    (ap (λ k. keeps_listed c.args.zones.now c.args.from (inner k)) c.into.ensures)
    c.in_ok-push_inner.ensures c.loop-group.invariant

pub returns : goal.returns
returns c =
    all_numbers c.args.blocks.now c.args.inode.now (keeps_listed c.args.zones.now c.args.from) c.loop-group.gone.items c.loop-group.group
    (let far = c.loop-group-test.false in omega arith) c.loop-group.invariant
