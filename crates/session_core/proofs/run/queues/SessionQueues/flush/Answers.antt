-- The step of the flush actor is the machine's for both queues as they were.
use Rattle.std.proofs.Common.{ap, ◌∙◌}
use Rattle.host_core.specs.Now.{with_host, model_now, setup_now}
use Rattle.session_core.proofs.RunLemmas.Answered.{turn_full}
use Rattle.session_core.proofs.RunLemmas.HostSteps.{took_flush}
use Rattle.session_core.proofs.run.queues.SessionQueues.flush.Goals as goal

pub returns : goal.returns
returns c =
    let h = c.args.host.now in
    let turn = c.flush_step.result in
    let said = c.flush_step.ensures in
    let took =
    took_flush (model_now h) (setup_now h) h.host c.flush_step.new.self.host turn c.self.inside c.flush_step.new.out c.flush_step.new.from c.args.self.now c.self.view_is
    said.step (λ e. said.full (turn_full turn e)) said.sent said.out c.known.ensures.sent c.known-3.ensures.sent c.known-3.ensures.held
    said.taken said.empty said.from c.known-2.ensures.sent c.known-4.ensures.sent in
    record { host = said.same ∙ ap (with_host h) took.host; queues = took.queues }
