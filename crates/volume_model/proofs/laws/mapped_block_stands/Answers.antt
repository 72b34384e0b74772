use Rattle.volume_model.proofs.Moves.{mapped_file, mapped_directory, mapped_told, mapped_counted}
use Rattle.volume_model.proofs.laws.mapped_block_stands.Goals as goal

pub returns : goal.returns
returns c = record { file = mapped_file; directory = mapped_directory; told = mapped_told; counted = mapped_counted }
