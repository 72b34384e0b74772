-- Nodes and paths of a tree that hangs together.
use Rattle.tree_model.specs.laws.Alike.{node_has_path, path_stands}
use Rattle.tree_model.proofs.laws.nodes_have_paths.Goals as goal

pub returns : goal.returns
returns c = record { path = node_has_path; node = path_stands }
