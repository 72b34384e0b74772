use Rattle.application_laws.proofs.Applied.{replaced_grown}
use Rattle.application_laws.proofs.laws.new_files_need_no_barrier.Goals as goal

pub returns : goal.returns
returns c = replaced_grown
