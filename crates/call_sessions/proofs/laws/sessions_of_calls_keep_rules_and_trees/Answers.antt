use Rattle.call_sessions.proofs.CallsKept.{calls_kept, calls_answered}
use Rattle.call_sessions.proofs.laws.sessions_of_calls_keep_rules_and_trees.Goals as goal

pub returns : goal.returns
returns c = record {
  kept = λ s v ring limit programs events written opened journal bytes. calls_kept s v ring limit programs written opened journal bytes events;
  answered = λ s v ring limit programs events more full t th b written opened journal bytes at begun done.
      calls_answered s v ring limit programs written opened journal bytes events more full t th b at begun done;
}
