use Rattle.vol_check.proofs.KeptCleanLemmas.PlainClean.{call_clean}
use Rattle.vol_check.proofs.kept_clean.laws.calls_keep_volumes_clean.Goals as goal

pub returns : goal.returns
returns c = record { calls = call_clean; releases = λ v tx clean. clean }
