use Rattle.volume_model.proofs.Moves.{cut_file, cut_told}
use Rattle.volume_model.proofs.laws.cut_file_stands.Goals as goal

pub returns : goal.returns
returns c = record { file = cut_file; told = cut_told }
