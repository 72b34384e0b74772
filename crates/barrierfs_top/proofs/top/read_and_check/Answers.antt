use Rattle.barrierfs_top.specs.Top.{stream_of}
use Rattle.barrierfs_top.proofs.Ends.{checks_if, check_cause}
use Rattle.barrierfs_top.proofs.top.read_and_check.Goals as goal

pub returns-in-Ok-clause-ok : goal.returns-in-Ok-clause-ok
returns-in-Ok-clause-ok g c = λ asked e.
    let source = stream_of g.R.Source.left g.R.Source.faults c.args.src.now c.read_image.new.src in
    checks_if asked source c.most.result c.in-Ok.image c.check.result e c.in-Ok.ensures.all c.most.ensures c.check.ensures.ok

pub returns-in-Ok-clause-err : goal.returns-in-Ok-clause-err
returns-in-Ok-clause-err g c = λ asked e.
    let source = stream_of g.R.Source.left g.R.Source.faults c.args.src.now c.read_image.new.src in
    check_cause asked source c.most.result c.in-Ok.image c.check.result e c.in-Ok.ensures.all c.most.ensures c.check.ensures.err
