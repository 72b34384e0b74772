use Rattle.crash_laws.proofs.LegalHistories.{legal_at_start, legal_grows}
use Rattle.crash_laws.proofs.LongerHistories.{events_extend}
use Rattle.crash_laws.proofs.laws.sessions.histories_of_calls_may_grow.Goals as goal

pub returns : goal.returns
returns c = record { start = legal_at_start; legal = legal_grows; extends = events_extend }
