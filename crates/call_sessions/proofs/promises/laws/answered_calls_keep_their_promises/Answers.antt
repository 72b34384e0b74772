use Rattle.call_sessions.proofs.PromisesLemmas.SessionAnswers.{promises_kept, ok_causes}
use Rattle.call_sessions.proofs.promises.laws.answered_calls_keep_their_promises.Goals as goal

pub returns : goal.returns
returns c = record {
  promises = λ s v ring limit programs events written opened journal bytes. promises_kept s v ring limit programs written opened journal bytes events;
  causes = λ s v ring limit programs events e t d written opened journal bytes ok metadata.
      ok_causes s v ring limit programs written opened journal bytes events e t d ok metadata;
}
