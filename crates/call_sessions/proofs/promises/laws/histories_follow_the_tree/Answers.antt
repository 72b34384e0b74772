use Rattle.call_sessions.proofs.PromisesLemmas.SessionHistory.{legal_in_run}
use Rattle.call_sessions.proofs.PromisesLemmas.SessionReplies.{follows_tree}
use Rattle.call_sessions.proofs.promises.laws.histories_follow_the_tree.Goals as goal

pub returns : goal.returns
returns c = record {
  follows = λ s v ring limit programs events written opened journal bytes. follows_tree s v ring limit programs written opened journal bytes events;
  legal = λ s v ring limit programs events written opened journal bytes. legal_in_run s v ring limit programs written opened journal bytes events;
}
