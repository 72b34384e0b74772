-- What is taken, and what waits.
use Rattle.volume_steps.specs.Calls.{called}
use Rattle.volume_steps.proofs.AllCalls.{any_call}
use Rattle.volume_steps.proofs.CallEnds.{balance}
use Rattle.volume_steps.proofs.laws.calls_take_what_they_need.Goals as goal

pub returns : goal.returns
returns c = record {
  taken = λ v n tx call d h done. (any_call tx v n call h).taken d done;
  lowest = λ v n tx call h. (any_call tx v n call h).steady.lowest;
  waiting = λ v n tx call h. (any_call tx v n call h).waiting;
  balance = λ v n tx call h. let k = any_call tx v n call h in balance v (called v n tx call).change h.plain.in_use k.steady.in_use k.steady.geometry k.waiting;
}
