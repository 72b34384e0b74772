use Rattle.call_sessions.proofs.PromisesLemmas.SessionHistory.{causes, answers_own}
use Rattle.call_sessions.proofs.promises.laws.calls_end_for_a_cause.Goals as goal

pub returns : goal.returns
returns c = record {
  causes = causes;
  answers = λ s v ring limit programs events e t d r there. answers_own s v ring limit programs events e t d r there;
}
