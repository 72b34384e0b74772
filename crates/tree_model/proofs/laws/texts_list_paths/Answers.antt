use Rattle.tree_model.proofs.TextListed.{text_listed}
use Rattle.tree_model.proofs.PathsListed.{paths_listed, paths_once}
use Rattle.tree_model.proofs.laws.texts_list_paths.Goals as goal

pub returns : goal.returns
returns c = record { text = text_listed; paths = paths_listed; once = paths_once }
