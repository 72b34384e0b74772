-- What the code answers, as the steps have it.
use Rattle.std.specs.Prelude.{Bool, true, false}
use Rattle.host_core.specs.begun.Causes.{cause_is}
use Rattle.host_core.specs.at_once.Steps as steps
use Rattle.host_core.specs.declared.at_once.step.PlainProgress.{PlainProgress}
use Rattle.host_core.specs.declared.at_once.step.PlainProgress.TheVariants as told

abbrev pub progress_is : PlainProgress → steps.PlainProgress
progress_is (told.Answered reply) = steps.Answered reply
progress_is told.Full = steps.Full
progress_is (told.Waiting cause) = steps.Waits (cause_is cause)

abbrev pub is_waiting : PlainProgress → Bool
is_waiting (told.Waiting cause) = true
is_waiting other = false
