use Rattle.minix_host.proofs.RealJournal.{journal_written}
use Rattle.minix_host.proofs.laws.sessions.journals_are_read_as_written.Goals as goal

pub returns : goal.returns
returns c = record { written = journal_written }
