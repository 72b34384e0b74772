use Rattle.std.specs.Prelude.{◌≤◌, length}
use Rattle.std.proofs.Common.{Some, arith, refl}
use Rattle.blk_base.specs.Streams.{Drained}
use Rattle.barrierfs_top.specs.declared.command_line.InputTask.TheVariants as commands
use Rattle.barrierfs_top.specs.declared.command_line.Task.TheVariants as tasks
use Rattle.barrierfs_top.specs.Tasks.{most_of}
use Rattle.barrierfs_top.specs.Top.{stream_of}
use Rattle.barrierfs_top.proofs.Ends.{does_if, cause_if}
use Rattle.barrierfs_top.proofs.threads.read_and_run.Goals as goal

pub returns-in-Ok-clause-ok : goal.returns-in-Ok-clause-ok
returns-in-Ok-clause-ok g c =
    let source = stream_of g.R.Source.left g.R.Source.faults c.args.src.now c.read_all.new.src in
    let bytes = c.deref.result.now in
    let drained : Drained source.bytes source.bytes_after bytes = rw c.deref.ensures.value c.in-Ok.ensures.all in
    let short : length bytes ≤ most_of (commands.Run c.args.raw) = grind (arith, c.in-Ok.ensures.short, c.most.ensures, c.in-Ok.bytes.ok, c.deref.ensures.len) in
    does_if (Some (tasks.Read (commands.Run c.args.raw))) source (commands.Run c.args.raw) bytes c.run_script.result refl drained short c.run_script.ensures.ok

pub returns-in-Ok-clause-err : goal.returns-in-Ok-clause-err
returns-in-Ok-clause-err g c =
    let source = stream_of g.R.Source.left g.R.Source.faults c.args.src.now c.read_all.new.src in
    let bytes = c.deref.result.now in
    let drained : Drained source.bytes source.bytes_after bytes = rw c.deref.ensures.value c.in-Ok.ensures.all in
    let short : length bytes ≤ most_of (commands.Run c.args.raw) = grind (arith, c.in-Ok.ensures.short, c.most.ensures, c.in-Ok.bytes.ok, c.deref.ensures.len) in
    cause_if (Some (tasks.Read (commands.Run c.args.raw))) source (commands.Run c.args.raw) bytes c.run_script.result refl drained short c.run_script.ensures.err
