use Rattle.session_core.proofs.RunLemmas.PartsLemmas.Counts.{whole_program}
use Rattle.session_core.proofs.run.parts.laws.ended_threads_did_their_programs.Goals as goal

pub returns : goal.returns
returns c = λ s v ring limit programs events t none. whole_program s v ring limit programs events t none
