-- The causes for which a call waits, as the host's machine has them.
use Rattle.host_answers.specs.declared.step.Cause.{Cause}
use Rattle.host_answers.specs.declared.step.Cause.TheVariants as answers
use Rattle.host_machine.specs.Causes as causes

-- the block comes before its holder in both
abbrev pub cause_is : Cause → causes.Cause
cause_is answers.Closing = causes.Closing
cause_is (answers.TxFull blocks) = causes.TxFull blocks
cause_is (answers.Quarantine lacks) = causes.Quarantine lacks
cause_is (answers.Conflict block holder) = causes.Conflict block holder
cause_is (answers.Commit k) = causes.Commit k
cause_is (answers.Durable id) = causes.Durable id
cause_is answers.QueueFull = causes.QueueFull
