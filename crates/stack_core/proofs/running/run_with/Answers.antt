-- The report keeps the order that the host asked for, by the law from its requests to the medium.
use Rattle.std.proofs.Common.{List, ◌++◌, subst, sym, ap, ap₂, ◌∙◌, take}
use Rattle.order_model.specs.declared.completion.Completion.{Completion}
use Rattle.order_model.specs.Machine.{machine_of}
use Rattle.stack_core.specs.RequestPath.{opened_path, submitted_count, carried}
use Rattle.stack_core.specs.Core.{RunState, run_lines}
use Rattle.stack_core.proofs.Paths.{path-carried, order_reported}
use Rattle.stack_core.proofs.Fitting.{IsAfter, run-after, kind_after, unused_after, parts_fit}
use Rattle.stack_core.proofs.running.run_with.Goals as goal

pub returns-clause-order : goal.returns-clause-order
returns-clause-order g c =
    let t = g.D.OrderedDev in
    let k = g.S.Scheduler in
    let rs = c.args.script.now.puts in
    let path = c.do_lines.new.path in
    let sched = k.state c.do_lines.new.sched in
    let s = t.state c.do_lines.new.dev in
    let m = machine_of t in
    let end = c.do_lines.ensures.run ∙ ap₂ (λ f lines. run_lines k.steps m rs (record { path = f; sched = k.state c.args.sched; dev = t.state c.args.dev }) lines) c.in_ok-path.ensures c.as_slice.ensures in
    let b = path-carried k.steps k.valid rs path sched (t.seen s) g.met.S.Scheduler.keeps c.do_lines.ensures.scheduler c.do_lines.ensures.path in
    let law = c.keeps_order_to_the_medium.ensures in
    let front = take (submitted_count path) rs in
    let seen = carried k.steps rs path sched in
    order_reported front _ (t.seen s) _ _ _ _
    (sym c.do_lines.ensures.base)
    (c.in_ok-submitted.ensures ∙ ap (λ n. take n rs) c.submitted.ensures)
    c.cut.ensures.image c.cut.ensures.origins
    (ap₂ (λ (a b : List Completion). a ++ b) c.cut.ensures.trace.sent (ap (λ (r : RunState k.State t.State). (t.seen r.dev).waiting) (sym end)))
    (law.closed front seen b.ids b.carries b.fits)
    (law.flushed front seen b.ids b.carries b.fits)

pub returns-clause-fits : goal.returns-clause-fits
returns-clause-fits g c =
    let t = g.D.OrderedDev in
    let k = g.S.Scheduler in
    let script = c.args.script.now in
    let rs = script.puts in
    let path = c.do_lines.new.path in
    let sched = k.state c.do_lines.new.sched in
    let s = t.state c.do_lines.new.dev in
    let m = machine_of t in
    let old = k.state c.args.sched in
    let dev = t.state c.args.dev in
    let end = c.do_lines.ensures.run ∙ ap₂ (λ f lines. run_lines k.steps m rs (record { path = f; sched = old; dev = dev }) lines) c.in_ok-path.ensures c.as_slice.ensures in
    let now : RunState k.State t.State = record { path = path; sched = sched; dev = s } in
    let after = subst (IsAfter (record { path = opened_path script; sched = old; dev = dev })) (sym end) (run-after k.steps m rs (record { path = opened_path script; sched = old; dev = dev }) script.events) in
    parts_fit script path (k.steps.seen sched) (t.seen s) _
    (kind_after script now old dev after)
    (λ e. ap (λ x. (k.steps.seen x).accepted) (unused_after script now old dev after e) ∙ c.requires.new.accepted)
    c.do_lines.ensures.path
    c.in_ok-script.ensures
    (c.in_ok-submitted.ensures ∙ ap (λ n. take n rs) c.submitted.ensures)
    c.into_trace.ensures
    c.cut.ensures.trace
