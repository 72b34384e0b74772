use Rattle.crash_laws.proofs.SessionSentences.{sentences}
use Rattle.crash_laws.proofs.laws.sessions.sentences_follow_from_the_rules.Goals as goal

pub returns : goal.returns
returns c = record {
  sentences = λ run m recovered sent rules closed flushed taken recovers. sentences run rules m closed recovered recovers sent flushed taken;
}
