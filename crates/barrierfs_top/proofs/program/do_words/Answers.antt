use Rattle.barrierfs_top.proofs.Endings.{ends_some}
use Rattle.barrierfs_top.specs.Tasks.{task_of}
use Rattle.barrierfs_top.specs.Top.{stream_of}
use Rattle.barrierfs_top.proofs.program.do_words.Goals as goal

pub returns-clause-ends : goal.returns-clause-ends
returns-clause-ends g c =
    let source = stream_of g.R.Source.left g.R.Source.faults c.args.src.now c.barrierfs.new.src in
    let sink = stream_of g.W.Sink.taken g.W.Sink.faults c.args.out.now c.barrierfs.new.out in
    ends_some (task_of c.args.words.now) source sink c.barrierfs.result c.let_go.result c.let_go.ensures.fault c.let_go.ensures.reported c.barrierfs.ensures.ends
