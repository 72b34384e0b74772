use Rattle.journal_replay.specs.laws.Revokes.{replayed-is}
use Rattle.journal_replay.proofs.laws.replays_by_revokes_are_exact.Goals as goal

pub returns : goal.returns
returns c = replayed-is
