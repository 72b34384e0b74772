-- What a step of the host answered.
use Rattle.std.proofs.Common.{◌≡◌, ◌≢◌, true, refl, ap}
use Rattle.std.proofs.lemmas.Bool.{false≢true}
use Rattle.order_model.specs.declared.turn.Turn.TheVariants as turns
use Rattle.order_model.specs.declared.turn.Turn.{Turn}
use Rattle.flush_actor.specs.Outcomes.{is_queue_full}
use Rattle.host_answers.specs.declared.step.Cause.TheVariants as reasons
use Rattle.host_answers.specs.declared.step.Cause.{Cause}
use Rattle.host_answers.specs.declared.step.Step.TheVariants as answers
use Rattle.host_answers.specs.declared.step.Step.{Step}
use Rattle.host_machine.specs.Host.{Stepped}
use Rattle.host_machine.specs.State.{Host}
use Rattle.tree_model.specs.declared.call.Reply.{Reply}
use Rattle.host_core.specs.Answers.{IfStepped, found_queue_full}

-- a turn or an answer that says so is that
pub turn_full : (t : Turn) → is_queue_full t ≡ true → t ≡ turns.QueueFull
turn_full turns.QueueFull e = refl
turn_full turns.Idle e = absurd (false≢true e)
turn_full turns.Did e = absurd (false≢true e)
turn_full turns.SessionFull e = absurd (false≢true e)
turn_full turns.NoMemory e = absurd (false≢true e)

waits_full : (c : Cause) → found_queue_full (answers.Waiting c) ≡ true → answers.Waiting c ≡ answers.Waiting reasons.QueueFull
waits_full reasons.QueueFull e = refl
waits_full reasons.Closing e = absurd (false≢true e)
waits_full (reasons.TxFull n) e = absurd (false≢true e)
waits_full (reasons.Quarantine n) e = absurd (false≢true e)
waits_full (reasons.Conflict n k) e = absurd (false≢true e)
waits_full (reasons.Commit k) e = absurd (false≢true e)
waits_full (reasons.Durable id) e = absurd (false≢true e)

pub step_full : (t : Step) → found_queue_full t ≡ true → t ≡ answers.Waiting reasons.QueueFull
step_full (answers.Done r) e = absurd (false≢true e)
step_full answers.Begun e = absurd (false≢true e)
step_full (answers.Sent id) e = absurd (false≢true e)
step_full (answers.Waiting c) e = waits_full c e
step_full answers.Ended e = absurd (false≢true e)
step_full (answers.ReadOnly id) e = absurd (false≢true e)
step_full answers.Down e = absurd (false≢true e)
step_full answers.SessionFull e = absurd (false≢true e)
step_full answers.NoMemory e = absurd (false≢true e)

-- the host of a step that was not refused memory
module _ {V C : Type 0} (new : Host V C Reply) (x : Stepped V C Reply) where
  pub stepped_host : (t : Step) → t ≢ answers.NoMemory → IfStepped t (λ a. record { host = new; step = a } ≡ x) → new ≡ x.host
  stepped_host (answers.Done r) some e = ap (λ (y : Stepped V C Reply). y.host) e
  stepped_host answers.Begun some e = ap (λ (y : Stepped V C Reply). y.host) e
  stepped_host (answers.Sent id) some e = ap (λ (y : Stepped V C Reply). y.host) e
  stepped_host (answers.Waiting c) some e = ap (λ (y : Stepped V C Reply). y.host) e
  stepped_host answers.Ended some e = ap (λ (y : Stepped V C Reply). y.host) e
  stepped_host (answers.ReadOnly id) some e = ap (λ (y : Stepped V C Reply). y.host) e
  stepped_host answers.Down some e = ap (λ (y : Stepped V C Reply). y.host) e
  stepped_host answers.SessionFull some e = ap (λ (y : Stepped V C Reply). y.host) e
  stepped_host answers.NoMemory some e = absurd (some refl)
