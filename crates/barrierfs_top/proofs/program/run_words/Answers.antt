use Rattle.barrierfs_top.proofs.Endings.{ends_some}
use Rattle.barrierfs_top.specs.Tasks.{lone_task_of}
use Rattle.barrierfs_top.specs.Top.{stream_of}
use Rattle.barrierfs_top.proofs.program.run_words.Goals as goal

pub returns-clause-ends : goal.returns-clause-ends
returns-clause-ends g c =
    let source = stream_of g.R.Source.left g.R.Source.faults c.args.src.now c.alone.new.src in
    let sink = stream_of g.W.Sink.taken g.W.Sink.faults c.args.out.now c.alone.new.out in
    ends_some (lone_task_of c.args.words.now) source sink c.alone.result c.let_go.result c.let_go.ensures.fault c.let_go.ensures.reported c.alone.ensures.ends
