use Rattle.wal_store.proofs.HeldPuts.{last-values, pairs-ordered}
use Rattle.wal_store.proofs.laws.pairs_have_last_values.Goals as goal

pub returns : goal.returns
returns c = record { value = last-values; order = pairs-ordered }
