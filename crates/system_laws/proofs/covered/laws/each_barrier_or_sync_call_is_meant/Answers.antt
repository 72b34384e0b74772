use Rattle.system_laws.proofs.CoveredLemmas.Meant.{files, answered}
use Rattle.system_laws.proofs.covered.laws.each_barrier_or_sync_call_is_meant.Goals as goal

pub returns : goal.returns
returns c = record { files = files; answered = answered }
