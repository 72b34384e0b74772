use Rattle.wal_store.proofs.HeldPuts.{are-held}
use Rattle.wal_store.proofs.laws.logs_hold_the_first_puts.Goals as goal

pub returns : goal.returns
returns c = are-held
