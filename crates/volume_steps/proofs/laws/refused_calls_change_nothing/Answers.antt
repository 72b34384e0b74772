use Rattle.volume_steps.specs.Calls.{called, called_by}
use Rattle.std.proofs.Common.{ap}
use Rattle.volume_steps.proofs.laws.refused_calls_change_nothing.Goals as goal

pub returns : goal.returns
unfolding called
returns c = λ v n tx call why refused. ap (called_by v n tx call) refused
