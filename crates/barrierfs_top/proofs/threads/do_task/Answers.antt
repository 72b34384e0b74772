use Rattle.std.proofs.Common.{Option, sym, subst, ◌∙◌}
use Rattle.barrierfs_top.specs.declared.command_line.Task.{Task}
use Rattle.barrierfs_top.specs.Top.{stream_of}
use Rattle.barrierfs_top.specs.TopEnd.{EndsFor}
use Rattle.barrierfs_top.proofs.Endings.{asks_run, lone_task}
use Rattle.barrierfs_top.proofs.threads.do_task.Goals as goal

pub returns-in-Some-clause-ends : goal.returns-in-Some-clause-ends
returns-in-Some-clause-ends g c =
    let source = stream_of g.R.Source.left g.R.Source.faults c.args.src.now c.run.new.src in
    let sink = stream_of g.W.Sink.taken g.W.Sink.faults c.args.out.now c.run.new.out in
    subst (λ (o : Option Task). EndsFor o source sink c.run.result.report c.run.result.fault) (sym (asks_run c.args.asked c.in-Some.raw (sym c.run_asked.ensures ∙ c.in-Some.is))) c.run.ensures.ends

pub do_asked-requires-clause-lone : goal.do_asked-requires-clause-lone
do_asked-requires-clause-lone g c = lone_task c.args.asked (sym c.run_asked.ensures ∙ c.in-None.is)
