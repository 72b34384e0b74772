use Rattle.std.proofs.Common.{Option, Some, sym, subst, refl, ap, inl}
use Rattle.barrierfs_top.specs.declared.fault.TopFault.TheVariants as faults
use Rattle.barrierfs_top.specs.declared.run_report.RunReport.{RunReport}
use Rattle.barrierfs_top.specs.Text.{output_bytes}
use Rattle.barrierfs_top.specs.Top.{stream_of}
use Rattle.barrierfs_top.specs.TopEnd.{EndsFor}
use Rattle.barrierfs_top.proofs.Endings.{ends_written, ends_refused, refused_as}
use Rattle.barrierfs_top.proofs.OneEnd.{not_both, same_err}
use Rattle.barrierfs_top.proofs.top.do_asked.Goals as goal

pub returns-in-Ok-clause-ends : goal.returns-in-Ok-clause-ends
returns-in-Ok-clause-ends g c =
    let source = stream_of g.R.Source.left g.R.Source.faults c.args.src.now c.prepare.new.src in
    let sink = stream_of g.W.Sink.taken g.W.Sink.faults c.args.out.now c.written.new.out in
    let printed = c.in-Ok.printed in
    let asked = c.args.asked in
    subst (λ (o : Option RunReport). EndsFor asked source sink o c.written.result.fault) (sym c.written.ensures.report)
    (ends_written asked source sink printed.report (output_bytes printed.output) c.in-Ok.ensures.ok c.written.result.fault c.written.ensures.written
    (c.in-Ok.ensures.steady (λ is. not_both printed faults.SourceFault is)) c.written.ensures.steady)

pub returns-in-Err-clause-ends : goal.returns-in-Err-clause-ends
returns-in-Err-clause-ends g c =
    let source = stream_of g.R.Source.left g.R.Source.faults c.args.src.now c.prepare.new.src in
    let sink = stream_of g.W.Sink.taken g.W.Sink.faults c.args.out.now c.args.out.now in
    let fault = c.in-Err.fault in
    let asked = c.args.asked in
    refused_as asked source sink fault c.failed.result.report c.failed.result.fault c.failed.ensures.report c.failed.ensures.fault
    (ends_refused asked source sink fault (record {
      cause = c.in-Err.ensures.err;
      words = λ none. inl (ap Some (same_err fault faults.BadWords (c.in-Err.ensures.words none)));
      made = λ s asks. c.in-Err.ensures.made s asks;
      generated = λ n asks. c.in-Err.ensures.generated n asks;
      unread = c.in-Err.ensures.unread;
      steady = λ other. c.in-Err.ensures.steady (λ is. other (same_err fault faults.SourceFault is));
    }) refl refl)
