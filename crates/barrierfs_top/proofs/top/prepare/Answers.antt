use Rattle.std.proofs.Common.{Some, ap, ◌∙◌, refl}
use Rattle.barrierfs_top.specs.declared.command_line.Task.TheVariants as tasks
use Rattle.barrierfs_top.specs.Top.{stream_of}
use Rattle.barrierfs_top.proofs.Ends.{made_if, ran_if, memory_cause}
use Rattle.barrierfs_top.proofs.top.prepare.Goals as goal

pub returns-in-Read-Replay-clause-ok : goal.returns-in-Read-Replay-clause-ok
returns-in-Read-Replay-clause-ok g c = c.read_and_run.ensures.ok c.args.asked (c.in-Some.is ∙ ap Some (c.in-Read-Replay.is ∙ ap tasks.Read (rw c.in-Read-Replay.is at c.in-Read-Replay.field-0-is)))

pub returns-in-Read-Replay-clause-err : goal.returns-in-Read-Replay-clause-err
returns-in-Read-Replay-clause-err g c = c.read_and_run.ensures.err c.args.asked (c.in-Some.is ∙ ap Some (c.in-Read-Replay.is ∙ ap tasks.Read (rw c.in-Read-Replay.is at c.in-Read-Replay.field-0-is)))

pub returns-in-Read-Show-clause-ok : goal.returns-in-Read-Show-clause-ok
returns-in-Read-Show-clause-ok g c = c.read_and_show.ensures.ok c.args.asked (c.in-Some.is ∙ ap Some (c.in-Read-Show.is ∙ ap tasks.Read (rw c.in-Read-Show.is at c.in-Read-Show.field-0-is)))

pub returns-in-Read-Show-clause-err : goal.returns-in-Read-Show-clause-err
returns-in-Read-Show-clause-err g c = c.read_and_show.ensures.err c.args.asked (c.in-Some.is ∙ ap Some (c.in-Read-Show.is ∙ ap tasks.Read (rw c.in-Read-Show.is at c.in-Read-Show.field-0-is)))

pub returns-in-Make-clause-ok : goal.returns-in-Make-clause-ok
returns-in-Make-clause-ok g c =
    made_if c.args.asked (stream_of g.R.Source.left g.R.Source.faults c.args.src.now c.args.src.now) c.in-Make.sizes c.make.result
    (c.in-Some.is ∙ ap Some c.in-Make.is) (refl, refl) c.make.ensures.ok

pub returns-in-Make-clause-err : goal.returns-in-Make-clause-err
returns-in-Make-clause-err g c = memory_cause c.args.asked (stream_of g.R.Source.left g.R.Source.faults c.args.src.now c.args.src.now) c.make.result c.make.ensures.err

pub returns-in-Read-Widen-clause-ok : goal.returns-in-Read-Widen-clause-ok
returns-in-Read-Widen-clause-ok g c = c.read_and_widen.ensures.ok c.args.asked (c.in-Some.is ∙ ap Some (c.in-Read-Widen.is ∙ ap tasks.Read (rw c.in-Read-Widen.is at c.in-Read-Widen.field-0-is)))

pub returns-in-Read-Widen-clause-err : goal.returns-in-Read-Widen-clause-err
returns-in-Read-Widen-clause-err g c = c.read_and_widen.ensures.err c.args.asked (c.in-Some.is ∙ ap Some (c.in-Read-Widen.is ∙ ap tasks.Read (rw c.in-Read-Widen.is at c.in-Read-Widen.field-0-is)))

pub returns-in-Read-Check-clause-ok : goal.returns-in-Read-Check-clause-ok
returns-in-Read-Check-clause-ok g c = c.read_and_check.ensures.ok c.args.asked (c.in-Some.is ∙ ap Some (c.in-Read-Check.is ∙ ap tasks.Read (rw c.in-Read-Check.is at c.in-Read-Check.field-0-is)))

pub returns-in-Read-Check-clause-err : goal.returns-in-Read-Check-clause-err
returns-in-Read-Check-clause-err g c = c.read_and_check.ensures.err c.args.asked (c.in-Some.is ∙ ap Some (c.in-Read-Check.is ∙ ap tasks.Read (rw c.in-Read-Check.is at c.in-Read-Check.field-0-is)))

pub returns-in-Read-Kv-clause-ok : goal.returns-in-Read-Kv-clause-ok
returns-in-Read-Kv-clause-ok g c = c.read_and_keep.ensures.ok c.args.asked (c.in-Some.is ∙ ap Some (c.in-Read-Kv.is ∙ ap tasks.Read (rw c.in-Read-Kv.is at c.in-Read-Kv.field-0-is)))

pub returns-in-Read-Kv-clause-err : goal.returns-in-Read-Kv-clause-err
returns-in-Read-Kv-clause-err g c = c.read_and_keep.ensures.err c.args.asked (c.in-Some.is ∙ ap Some (c.in-Read-Kv.is ∙ ap tasks.Read (rw c.in-Read-Kv.is at c.in-Read-Kv.field-0-is)))

pub returns-in-Bulk-clause-ok : goal.returns-in-Bulk-clause-ok
returns-in-Bulk-clause-ok g c =
    ran_if c.args.asked (stream_of g.R.Source.left g.R.Source.faults c.args.src.now c.args.src.now) c.in-Bulk.number c.run_workload.result
    (c.in-Some.is ∙ ap Some c.in-Bulk.is) (refl, refl) c.run_workload.ensures.ok

pub returns-in-Bulk-clause-err : goal.returns-in-Bulk-clause-err
returns-in-Bulk-clause-err g c = memory_cause c.args.asked (stream_of g.R.Source.left g.R.Source.faults c.args.src.now c.args.src.now) c.run_workload.result c.run_workload.ensures.err
