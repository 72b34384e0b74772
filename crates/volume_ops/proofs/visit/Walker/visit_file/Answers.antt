use Rattle.volume_ops.specs.Volume.{disk_of}
use Rattle.volume_ops.proofs.GoesOn.{told_at_exit}
use Rattle.volume_ops.proofs.Visited.{file_visited, file_fault}
use Rattle.volume_ops.proofs.visit.Walker.visit_file.Goals as goal

pub returns-in_err-zones-clause-fault : goal.returns-in_err-zones-clause-fault
returns-in_err-zones-clause-fault c = rw (← c.self.view_is) (told_at_exit _ _ _ _ c.from_residual.ensures.1 (λ f e. file_fault (disk_of c.args.disk.now) c.args.g.now _ c.args.i.now _ _ f c.table_block-pointer_block.ensures e) c.in_err-zones.ensures.fault)

pub returns-clause-ok : goal.returns-clause-ok
returns-clause-ok c = rw (← c.self.view_is) (file_visited (disk_of c.args.disk.now) c.args.g.now _ c.args.i.now _ _ _ _ c.table_block-pointer_block.ensures c.in_ok-zones.ensures.ok c.in_ok-meet.ensures)
