use Rattle.minix_host.proofs.SessionsKept.{answered_in_run, flushes_in_run}
use Rattle.minix_host.proofs.laws.sessions.answers_of_sessions_hold.Goals as goal

pub returns : goal.returns
returns c = record {
  answered = λ s v ring limit programs events more full t th b written opened journal at begun done.
      answered_in_run s v ring limit programs written opened journal events more full t th b at begun done;
  flushes = λ s v ring limit programs events written opened journal. flushes_in_run s v ring limit programs written opened journal events;
}
