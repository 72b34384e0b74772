-- The session begins as it was opened, and ends as the machine says.
use Rattle.std.proofs.Common.{length, refl, sym, ap, subst, ◌∙◌}
use Rattle.order_model.specs.Machine.{machine_of}
use Rattle.minix_host.specs.Sessions.{Opening}
use Rattle.session_core.specs.run.machine.Machine.{SessionState, Start, opened_session, core_session, events_of}
use Rattle.session_core.specs.declared.run.session.SessionEnd.{SessionEnd}
use Rattle.session_core.specs.run.Beginning.{Beginning}
use Rattle.session_core.specs.run.Beginning.{IsMadeFor}
use Rattle.session_core.specs.run.End.{IsEndOf}
use Rattle.session_core.proofs.RunLemmas.Lines.{run}
use Rattle.session_core.proofs.RunLemmas.Ended.{opened_parts, opened_reached, order_at_end}
use Rattle.session_core.proofs.run.session.run_session.Goals as goal

pub do_lines-requires : goal.do_lines-requires
do_lines-requires g c =
    let k = g.S.Scheduler in
    let d = g.D.OrderedDev in
    let made = c.requires.2 in
    let b : Beginning k.State d.State = record { opening = c.requires.0; start = c.requires.1; sched = k.state c.args.sched; dev = d.state c.args.dev } in
    (b, opened_reached b c.args.host c.in-Ok.queues c.args.capacity k.steps (machine_of d) k.valid d.valid made.begins made.host made.capacity_is c.in-Ok.ensures)

pub returns : goal.returns
returns g c =
    let k = g.S.Scheduler in
    let d = g.D.OrderedDev in
    let new = c.do_lines.new.self in
    let beginning : Opening → Start → Beginning k.State d.State = λ s b. record { opening = s; start = b; sched = k.state c.args.sched; dev = d.state c.args.dev } in
    let state = λ (s : Opening) (b : Start). core_session s k.steps (machine_of d) b (k.state c.args.sched) (d.state c.args.dev) c.args.lines.now in
    let at = λ (s : Opening) (b : Start) (made : IsMadeFor k d s b c.args.host c.args.capacity c.args.threads (k.state c.args.sched) (d.state c.args.dev)).
    opened_reached (beginning s b) c.args.host c.in-Ok.queues c.args.capacity k.steps (machine_of d) k.valid d.valid made.begins made.host made.capacity_is c.in-Ok.ensures in
    let end = λ (s : Opening) (b : Start) (made : IsMadeFor k d s b c.args.host c.args.capacity c.args.threads (k.state c.args.sched) (d.state c.args.dev)).
    c.in-Ok-do_lines.ensures.step (beginning s b) (at s b made)
    ∙ ap (λ r. run s k.steps (machine_of d) r (events_of c.args.threads c.args.lines.now)) (opened_parts (beginning s b) c.args.host c.in-Ok.queues c.args.capacity made.host made.capacity_is c.in-Ok.ensures)
    ∙ ap (λ n. run s k.steps (machine_of d) (opened_session s b (k.state c.args.sched) (d.state c.args.dev)) (events_of n c.args.lines.now)) (sym made.threads_are) in
    let left : SessionEnd = record { host = new.host; sched = c.into_trace.result; cut = c.cut.result } in
    let is = λ (s : Opening) (b : Start) (made : IsMadeFor k d s b c.args.host c.args.capacity c.args.threads (k.state c.args.sched) (d.state c.args.dev)).
    subst (λ (x : SessionState k.State d.State). IsEndOf k.steps (machine_of d) x left) (end s b made)
    (record { host = refl; sched = c.into_trace.ensures; image = c.cut.ensures.image; origins = c.cut.ensures.origins; trace = c.cut.ensures.trace }) in
    record {
      end = λ s b made. is s b made;
      calls = λ s b made. (c.in-Ok-do_lines.ensures.reached (beginning s b) (at s b made)).host.calls;
      order = λ s b made.
          order_at_end k.steps (machine_of d) s (state s b) left (is s b made)
          (c.sessions_keep_order_to_the_medium.ensures.order s b (k.state c.args.sched) (d.state c.args.dev) (events_of (length b.programs) c.args.lines.now) made.begins.written made.begins.opened made.begins.journal made.begins.bytes
          made.begins.sched_is made.begins.dev_is made.begins.starts (sym (ap (λ (x : SessionState k.State d.State). x.dev) (end s b made))));
    }
