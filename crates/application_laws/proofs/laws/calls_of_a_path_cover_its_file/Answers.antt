use Rattle.application_laws.proofs.Barriers.{is_barred}
use Rattle.application_laws.proofs.laws.calls_of_a_path_cover_its_file.Goals as goal

pub returns : goal.returns
returns c = is_barred
