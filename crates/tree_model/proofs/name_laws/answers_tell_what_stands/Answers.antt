-- `stat` and `list`.
use Rattle.tree_model.proofs.Answered.{stat_file, stat_directory, list_names}
use Rattle.tree_model.proofs.name_laws.answers_tell_what_stands.Goals as goal

pub returns : goal.returns
returns c = record { file = stat_file; directory = stat_directory; names = list_names }
