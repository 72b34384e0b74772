use Rattle.volume_ops.specs.Volume.{disk_of}
use Rattle.volume_ops.proofs.GoesOn.{told_at_exit}
use Rattle.volume_ops.proofs.Visited.{directory_zones_fault, directory_slots_fault, directory_visited, pending_pushed}
use Rattle.volume_ops.proofs.visit.Walker.visit_directory.Goals as goal

pub returns-in_err-zones-clause-fault : goal.returns-in_err-zones-clause-fault
returns-in_err-zones-clause-fault c =
    rw (← c.self.view_is, ← c.e.view_is)
    (told_at_exit _ _ _ _ c.from_residual.ensures.1
    (directory_zones_fault (disk_of c.args.disk.now) c.args.g.now _ c.args.i.now _ _ c.table_block-pointer_block.ensures)
    c.in_err-zones.ensures.fault)

pub returns-in_err-names-clause-fault : goal.returns-in_err-names-clause-fault
returns-in_err-names-clause-fault c =
    rw (← c.self.view_is, ← c.e.view_is)
    (told_at_exit _ _ _ _ c.from_residual-in_err-names.ensures.1
    (λ f h. directory_slots_fault (disk_of c.args.disk.now) c.args.g.now _ c.args.i.now _ _ c.table_block-pointer_block.ensures _ f c.in_ok-zones.ensures.ok (rw (c.as_slice.ensures, c.slot_size.ensures) at h))
    c.in_err-names.ensures.fault)

pub returns-clause-within : goal.returns-clause-within
returns-clause-within c = pending_pushed c.args.g.now _ _ _ _ c.in_ok-names.ensures.within c.in_ok-push_names.ensures

pub returns-clause-ok : goal.returns-clause-ok
returns-clause-ok c =
    rw (← c.self.view_is, ← c.e.view_is)
    (directory_visited (disk_of c.args.disk.now) c.args.g.now _ c.args.i.now _ _ c.table_block-pointer_block.ensures _ _ _ _ _ _ c.in_ok-zones.ensures.ok (rw (c.as_slice.ensures, c.slot_size.ensures) at c.in_ok-names.ensures.ok) c.birth_of.ensures c.in_ok-push_names.ensures (rw c.slot_size.ensures at c.in_ok-meet.ensures))
