use Rattle.system_laws.proofs.CoveredLemmas.CoveredCalls.{metadata, blocks}
use Rattle.system_laws.proofs.covered.laws.calls_keep_what_they_cover.Goals as goal

pub returns : goal.returns
returns c = record { metadata = metadata; blocks = blocks }
