-- The tree is the call's.
use Rattle.volume_steps.proofs.AllCalls.{any_call}
use Rattle.volume_steps.proofs.laws.calls_do_the_tree_step.Goals as goal

pub returns : goal.returns
returns c = λ v n tx call h. (any_call tx v n call h).tree_is
