use Rattle.application_laws.proofs.Applied.{spooled, spooled_there}
use Rattle.application_laws.proofs.laws.messages_are_whole_after_recovery.Goals as goal

pub returns : goal.returns
returns c = record { whole = spooled; there = spooled_there }
