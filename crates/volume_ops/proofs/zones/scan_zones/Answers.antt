use Rattle.std.proofs.Common.{rules, ◌∙◌}
use Rattle.std.proofs.lemmas.Result.{err_from_is_err_and}
use Rattle.volume_ops.specs.Volume.{disk_of}
use Rattle.volume_ops.proofs.ZoneScans.{told_by_data, told_by_indirect, past_indirect, told_by_double}
use Rattle.volume_ops.proofs.zones.scan_zones.Goals as goal

pub returns-in_err-take_blocks-clause-fault : goal.returns-in_err-take_blocks-clause-fault
returns-in_err-take_blocks-clause-fault c = search (rules, told_by_data)

pub returns-in_err-take_indirect-clause-fault : goal.returns-in_err-take_indirect-clause-fault
returns-in_err-take_indirect-clause-fault c =
    let p = err_from_is_err_and c.from_residual-in_err-take_indirect.result c.from_residual-in_err-take_indirect.ensures.1 in
    rw (p.1, p.2)
    (told_by_indirect (disk_of c.args.disk.now) c.args.g.now c.args.pointer_block c.args.zones.now c.args.met.now _ _ _ _ _
    c.as_slice.ensures.value c.new-mapped.ensures c.zone.ensures c.in_ok-take_blocks.ensures.ok c.in_err-take_indirect.ensures.fault)

pub returns-in_err-take_double-clause-fault : goal.returns-in_err-take_double-clause-fault
returns-in_err-take_double-clause-fault c =
    let p = err_from_is_err_and c.from_residual-in_err-take_double.result c.from_residual-in_err-take_double.ensures.1 in
    rw (p.1, p.2)
    (told_by_double (disk_of c.args.disk.now) c.args.g.now c.args.pointer_block c.args.zones.now c.args.met.now _ _ _ _ _ _ _
    c.as_slice.ensures.value c.new-mapped.ensures c.zone.ensures c.zone-2.ensures c.in_ok-take_blocks.ensures.ok c.in_ok-take_indirect.ensures.ok c.in_err-take_double.ensures.fault)

pub returns-clause-ok : goal.returns-clause-ok
returns-clause-ok c =
    past_indirect (disk_of c.args.disk.now) c.args.g.now c.args.pointer_block c.args.zones.now c.args.met.now _ _ _ _ _ _
    c.as_slice.ensures.value c.new-mapped.ensures c.zone.ensures c.zone-2.ensures c.in_ok-take_blocks.ensures.ok c.in_ok-take_indirect.ensures.ok
    ∙ c.in_ok-take_double.ensures.ok
