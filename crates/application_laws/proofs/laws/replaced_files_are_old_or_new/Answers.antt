use Rattle.application_laws.proofs.Applied.{replaced}
use Rattle.application_laws.proofs.laws.replaced_files_are_old_or_new.Goals as goal

pub returns : goal.returns
returns c = replaced
