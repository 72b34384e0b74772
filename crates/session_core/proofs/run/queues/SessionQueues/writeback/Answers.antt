-- The step of the write-back is the machine's for the submission queue as it was.
use Rattle.std.proofs.Common.{Bool, ap, ◌∙◌}
use Rattle.flush_actor.specs.Outcomes.{is_queue_full}
use Rattle.host_machine.specs.Host.{Turned, writeback}
use Rattle.host_core.specs.Now.{with_host, model_now, setup_now}
use Rattle.tree_model.specs.declared.call.Call.{Call}
use Rattle.tree_model.specs.declared.call.Reply.{Reply}
use Rattle.volume_steps.specs.Now.{VolumeNow}
use Rattle.session_core.proofs.RunLemmas.MachineLemmas.FullQueue.{writeback_agrees, either_is}
use Rattle.session_core.proofs.RunLemmas.Answered.{turn_full}
use Rattle.session_core.proofs.RunLemmas.HostSteps.{took_parts}
use Rattle.session_core.proofs.run.queues.SessionQueues.writeback.Goals as goal

pub returns : goal.returns
returns c =
    let h = c.args.host.now in
    let turn = c.writeback.result in
    let said = c.writeback.ensures in
    let step : Bool → Turned VolumeNow Call Reply = λ full. writeback (model_now h) (setup_now h) full h.host c.args.pick in
    let took =
    took_parts (λ (x : Turned VolumeNow Call Reply). x.host) step h.host c.writeback.new.self.host (is_queue_full turn) c.self.inside c.writeback.new.out c.args.self.now c.self.view_is
    (either_is h.host (λ (x : Turned VolumeNow Call Reply). x.host) _ _ (writeback_agrees (model_now h) (setup_now h) h.host c.args.pick))
    (ap (λ (x : Turned VolumeNow Call Reply). x.host) said.step)
    (λ e. said.full (turn_full turn e)) said.sent said.rest c.known.ensures.sent c.known-2.ensures.sent c.known-2.ensures.held in
    record { host = said.same ∙ ap (with_host h) took.host; queues = took.queues }
