use Rattle.tree_model.proofs.PathForms.{is_spelled, is_read}
use Rattle.tree_model.proofs.path.paths_are_spelled.Goals as goal

pub returns : goal.returns
returns c text names = (is_spelled text names, is_read text names)
