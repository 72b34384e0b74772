use Rattle.std.proofs.Common.{Option, refl, subst}
use Rattle.barrierfs_top.specs.declared.command_line.Task.{Task}
use Rattle.barrierfs_top.specs.Tasks.{lone_task_of}
use Rattle.barrierfs_top.specs.Top.{stream_of}
use Rattle.barrierfs_top.specs.TopEnd.{EndsFor}
use Rattle.barrierfs_top.proofs.Endings.{ends_unasked}
use Rattle.barrierfs_top.proofs.top.alone.Goals as goal

pub returns-in-Ok-clause-ends : goal.returns-in-Ok-clause-ends
returns-in-Ok-clause-ends g c =
    let source = stream_of g.R.Source.left g.R.Source.faults c.args.src.now c.do_asked.new.src in
    let sink = stream_of g.W.Sink.taken g.W.Sink.faults c.args.out.now c.do_asked.new.out in
    subst (λ (o : Option Task). EndsFor o source sink c.do_asked.result.report c.do_asked.result.fault) c.in-Ok.ensures.value c.do_asked.ensures.ends

pub returns-in-Err-clause-ends : goal.returns-in-Err-clause-ends
returns-in-Err-clause-ends g c =
    let source = stream_of g.R.Source.left g.R.Source.faults c.args.src.now c.args.src.now in
    let sink = stream_of g.W.Sink.taken g.W.Sink.faults c.args.out.now c.args.out.now in
    ends_unasked (lone_task_of c.args.words.now) source sink c.failed.result.report c.failed.result.fault c.failed.ensures.report c.failed.ensures.fault (refl, refl) refl refl
