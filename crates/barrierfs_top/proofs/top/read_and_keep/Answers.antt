use Rattle.std.specs.Prelude.{◌≤◌, length}
use Rattle.std.proofs.Common.{arith}
use Rattle.blk_base.specs.Streams.{Drained}
use Rattle.barrierfs_top.specs.declared.command_line.InputTask.TheVariants as commands
use Rattle.barrierfs_top.specs.Tasks.{most_of}
use Rattle.barrierfs_top.specs.Top.{stream_of}
use Rattle.barrierfs_top.proofs.Ends.{does_if, cause_if}
use Rattle.barrierfs_top.proofs.top.read_and_keep.Goals as goal

pub returns-in-Ok-clause-ok : goal.returns-in-Ok-clause-ok
returns-in-Ok-clause-ok g c = λ asked e.
    let source = stream_of g.R.Source.left g.R.Source.faults c.args.src.now c.read_all.new.src in
    let bytes = c.deref.result.now in
    let drained : Drained source.bytes source.bytes_after bytes = rw c.deref.ensures.value c.in-Ok.ensures.all in
    let short : length bytes ≤ most_of commands.Kv = grind (arith, c.in-Ok.ensures.short, c.most.ensures, c.in-Ok.bytes.ok, c.deref.ensures.len) in
    does_if asked source commands.Kv bytes c.run_store_text.result e drained short c.run_store_text.ensures.ok

pub returns-in-Ok-clause-err : goal.returns-in-Ok-clause-err
returns-in-Ok-clause-err g c = λ asked e.
    let source = stream_of g.R.Source.left g.R.Source.faults c.args.src.now c.read_all.new.src in
    let bytes = c.deref.result.now in
    let drained : Drained source.bytes source.bytes_after bytes = rw c.deref.ensures.value c.in-Ok.ensures.all in
    let short : length bytes ≤ most_of commands.Kv = grind (arith, c.in-Ok.ensures.short, c.most.ensures, c.in-Ok.bytes.ok, c.deref.ensures.len) in
    cause_if asked source commands.Kv bytes c.run_store_text.result e drained short c.run_store_text.ensures.err
