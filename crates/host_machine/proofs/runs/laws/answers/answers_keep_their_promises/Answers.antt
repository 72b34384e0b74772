use Rattle.std.specs.Prelude.{refl}
use Rattle.host_machine.proofs.RunsLemmas.Answered.{answered_now, answer_stays}
use Rattle.host_machine.proofs.runs.laws.answers.answers_keep_their_promises.Goals as goal

pub returns : goal.returns
returns g c = record {
  now = λ o tree contract s full t th b kept at begun done. answered_now contract s kept full t th b at begun o.model.ok refl done;
  later = λ o tree contract s es e b written blocks kept fits begun ok. answer_stays contract written blocks s es e b kept fits begun ok;
}
