-- The step of the commit actor is the machine's for the submission queue as it was.
use Rattle.std.proofs.Common.{◌≡◌, ◌≢◌, Bool, ap, ◌∙◌}
use Rattle.order_model.specs.declared.turn.Turn.TheVariants as turns
use Rattle.flush_actor.specs.Outcomes.{is_queue_full}
use Rattle.host_machine.specs.Host.{Turned, commit_step}
use Rattle.host_core.specs.Now.{HostNow, with_host, model_now, setup_now}
use Rattle.tree_model.specs.declared.call.Call.{Call}
use Rattle.tree_model.specs.declared.call.Reply.{Reply}
use Rattle.volume_steps.specs.Now.{VolumeNow}
use Rattle.session_core.proofs.RunLemmas.MachineLemmas.FullQueue.{commit_agrees, either_is}
use Rattle.session_core.proofs.RunLemmas.Answered.{turn_full}
use Rattle.session_core.proofs.RunLemmas.HostSteps.{took_parts, stayed_parts}
use Rattle.session_core.proofs.RunLemmas.Lines.{err_map, ok_map}
use Rattle.session_core.proofs.run.queues.SessionQueues.commit.Goals as goal

pub returns : goal.returns
returns c =
    let h = c.args.host.now in
    let turn = c.commit_step-turn.result in
    let said = c.commit_step-turn.ensures in
    let step : Bool → Turned VolumeNow Call Reply = λ full. commit_step (model_now h) (setup_now h) full h.host in
    let took = λ (some : turn ≢ turns.NoMemory).
    took_parts (λ (x : Turned VolumeNow Call Reply). x.host) step h.host c.commit_step-turn.new.self.host (is_queue_full turn) c.self.inside c.commit_step-turn.new.out c.args.self.now c.self.view_is
    (either_is h.host (λ (x : Turned VolumeNow Call Reply). x.host) _ _ (commit_agrees (model_now h) (setup_now h) h.host))
    (ap (λ (x : Turned VolumeNow Call Reply). x.host) (said.step some))
    (λ e. said.full (turn_full turn e)) said.sent said.rest c.known.ensures.sent c.known-2.ensures.sent c.known-2.ensures.held in
    let stayed = λ (same : c.commit_step-turn.new.self ≡ h).
    stayed_parts h.host c.commit_step-turn.new.self.host c.self.inside c.commit_step-turn.new.out c.args.self.now (ap (λ (x : HostNow). x.host) same) c.self.view_is said.sent said.rest c.known.ensures.sent c.known-2.ensures.sent in
    record {
      host = ok_map c.unless_out_of_memory.result _ _ (λ some. said.same ∙ ap (with_host h) (took some).host) c.unless_out_of_memory.ensures.ok;
      queues = ok_map c.unless_out_of_memory.result _ _ (λ some. (took some).queues) c.unless_out_of_memory.ensures.ok;
      err = err_map c.unless_out_of_memory.result _ _ (λ none. ((said.memory none).1, stayed (said.memory none).1)) c.unless_out_of_memory.ensures.err;
    }
