-- The volume stays plain.
use Rattle.volume_steps.proofs.AllCalls.{any_call}
use Rattle.volume_steps.proofs.laws.calls_keep_volumes_plain.Goals as goal

pub returns : goal.returns
returns c = λ v n tx call h. (any_call tx v n call h).plain
