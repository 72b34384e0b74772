use Rattle.call_sessions.specs.Sessions.{call_over, opened_with}
use Rattle.call_sessions.proofs.PromisesLemmas.Ceases.{ceases}
use Rattle.call_sessions.proofs.PromisesLemmas.SessionHistory.{begun_first}
use Rattle.call_sessions.proofs.promises.laws.nothing_is_submitted_behind_a_failure.Goals as goal

pub returns : goal.returns
returns c = λ s v ring limit programs events more over. ceases (call_over s) (opened_with s v ring limit programs) (begun_first s v ring limit programs) events more over
