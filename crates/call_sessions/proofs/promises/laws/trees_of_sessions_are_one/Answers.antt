use Rattle.call_sessions.proofs.PromisesLemmas.SessionHistory.{trees_of_events}
use Rattle.call_sessions.proofs.PromisesLemmas.SessionTrees.{tree_told}
use Rattle.call_sessions.proofs.promises.laws.trees_of_sessions_are_one.Goals as goal

pub returns : goal.returns
returns c = record {
  told = tree_told;
  legal = λ s v ring limit programs events n le. trees_of_events s v ring limit programs events n le;
}
