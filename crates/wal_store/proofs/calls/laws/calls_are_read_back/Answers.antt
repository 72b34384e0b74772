use Rattle.wal_store.proofs.CallsLemmas.CallsRead.{line-read}
use Rattle.wal_store.proofs.calls.laws.calls_are_read_back.Goals as goal

pub returns : goal.returns
returns c = line-read
