-- What a step of a caller answers, as the machine has it.
use Rattle.std.specs.Prelude.{Bool, true, false}
use Rattle.tree_model.specs.declared.call.Reply.{Reply}
use Rattle.host_answers.specs.declared.step.Step.{Step}
use Rattle.host_answers.specs.declared.step.Step.TheVariants as answers
use Rattle.host_answers.specs.declared.step.Cause.TheVariants as reasons
use Rattle.host_machine.specs.Outcomes as outcomes
use Rattle.host_core.specs.begun.Causes.{cause_is}

-- this holds of the machine's answer, where memory was not refused
abbrev pub IfStepped : Step → (outcomes.Step Reply → Type 0) → Type 0
IfStepped (answers.Done reply) Holds = Holds (outcomes.Done reply)
IfStepped answers.Begun Holds = Holds outcomes.Begun
IfStepped (answers.Sent id) Holds = Holds (outcomes.Sent id)
IfStepped (answers.Waiting cause) Holds = Holds (outcomes.Waiting (cause_is cause))
IfStepped answers.Ended Holds = Holds outcomes.Ended
IfStepped (answers.ReadOnly id) Holds = Holds (outcomes.ReadOnly id)
IfStepped answers.Down Holds = Holds outcomes.Down
IfStepped answers.SessionFull Holds = Holds outcomes.SessionFull
IfStepped answers.NoMemory Holds = Unit {0}

abbrev pub found_queue_full : Step → Bool
found_queue_full (answers.Waiting reasons.QueueFull) = true
found_queue_full other = false
