use Rattle.barrierfs_top.specs.Top.{stream_of}
use Rattle.barrierfs_top.proofs.Ends.{widens_if, widen_cause}
use Rattle.barrierfs_top.proofs.top.read_and_widen.Goals as goal

pub returns-in-Ok-clause-ok : goal.returns-in-Ok-clause-ok
returns-in-Ok-clause-ok g c = λ asked e.
    let source = stream_of g.R.Source.left g.R.Source.faults c.args.src.now c.read_image.new.src in
    widens_if asked source c.args.raw c.most.result c.in-Ok.image c.widen.result e c.in-Ok.ensures.all c.most.ensures c.widen.ensures.ok

pub returns-in-Ok-clause-err : goal.returns-in-Ok-clause-err
returns-in-Ok-clause-err g c = λ asked e.
    let source = stream_of g.R.Source.left g.R.Source.faults c.args.src.now c.read_image.new.src in
    widen_cause asked source c.args.raw c.most.result c.in-Ok.image c.widen.result e c.in-Ok.ensures.all c.most.ensures c.widen.ensures.err
