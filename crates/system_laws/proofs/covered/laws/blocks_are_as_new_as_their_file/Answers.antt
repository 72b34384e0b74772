use Rattle.session_core.proofs.NewestBlocks.{newest}
use Rattle.system_laws.proofs.CoveredLemmas.ShownVersions.{shown_from}
use Rattle.system_laws.proofs.covered.laws.blocks_are_as_new_as_their_file.Goals as goal

pub returns : goal.returns
returns c = λ s end r is f i m n there wrote changed before found. shown_from s end r is f i n (newest s end r is f i m n there wrote changed before found)
