use Rattle.vol_check.proofs.KeptCleanLemmas.ChangedLemmas.KeptTidy.{call_tidy, release_tidy}
use Rattle.vol_check.proofs.kept_clean.changed.laws.calls_keep_volumes_tidy.Goals as goal

pub returns : goal.returns
returns c = record {
  calls = call_tidy;
  releases = release_tidy;
}
