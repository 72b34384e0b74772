-- The step of a thread is the machine's for the submission queue as it was.
use Rattle.std.proofs.Common.{◌≡◌, ◌≢◌, ◌-◌, Bool, ap, ◌∙◌}
use Rattle.host_answers.specs.declared.step.Step.TheVariants as answers
use Rattle.host_core.specs.Answers.{found_queue_full}
use Rattle.host_machine.specs.Host.{Stepped, advance}
use Rattle.host_core.specs.Now.{HostNow, with_host, model_now, setup_now}
use Rattle.tree_model.specs.declared.call.Call.{Call}
use Rattle.tree_model.specs.declared.call.Reply.{Reply}
use Rattle.volume_steps.specs.Now.{VolumeNow}
use Rattle.session_core.proofs.RunLemmas.MachineLemmas.FullQueue.{advance_agrees, either_is}
use Rattle.session_core.proofs.RunLemmas.Answered.{step_full, stepped_host}
use Rattle.session_core.proofs.RunLemmas.HostSteps.{took_parts, stayed_parts}
use Rattle.session_core.proofs.RunLemmas.Lines.{err_map, ok_map}
use Rattle.session_core.proofs.run.queues.SessionQueues.call.Goals as goal

pub returns : goal.returns
returns c =
    let h = c.args.host.now in
    let t = c.args.thread - 1 in
    let answer = c.advance-step.result in
    let said = c.advance-step.ensures in
    let step : Bool → Stepped VolumeNow Call Reply = λ full. advance (model_now h) (setup_now h) full h.host t in
    let took = λ (some : answer ≢ answers.NoMemory).
    took_parts (λ (x : Stepped VolumeNow Call Reply). x.host) step h.host c.advance-step.new.self.host (found_queue_full answer) c.self.inside c.advance-step.new.out c.args.self.now c.self.view_is
    (either_is h.host (λ (x : Stepped VolumeNow Call Reply). x.host) _ _ (advance_agrees (model_now h) (setup_now h) h.host t))
    (stepped_host c.advance-step.new.self.host (step (found_queue_full answer)) answer some said.step)
    (λ e. said.full (step_full answer e)) said.sent said.rest c.known.ensures.sent c.known-2.ensures.sent c.known-2.ensures.held in
    let stayed = λ (same : c.advance-step.new.self ≡ h).
    stayed_parts h.host c.advance-step.new.self.host c.self.inside c.advance-step.new.out c.args.self.now (ap (λ (x : HostNow). x.host) same) c.self.view_is said.sent said.rest c.known.ensures.sent c.known-2.ensures.sent in
    record {
      host = ok_map c.unless_refused.result _ _ (λ some. said.same ∙ ap (with_host h) (took some).host) c.unless_refused.ensures.ok;
      queues = ok_map c.unless_refused.result _ _ (λ some. (took some).queues) c.unless_refused.ensures.ok;
      err = err_map c.unless_refused.result _ _ (λ none. (said.memory none, stayed (said.memory none))) c.unless_refused.ensures.err;
    }
