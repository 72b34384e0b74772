use Rattle.journal_replay.specs.laws.Attempts.{attempt_keeps}
use Rattle.journal_replay.proofs.laws.attempts_keep_the_recovered_image.Goals as goal

pub returns : goal.returns
returns c = attempt_keeps
