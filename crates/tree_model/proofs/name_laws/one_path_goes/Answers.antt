-- Paths that go.
use Rattle.tree_model.proofs.NamesCome.{unlink_paths, rmdir_paths}
use Rattle.tree_model.proofs.name_laws.one_path_goes.Goals as goal

pub returns : goal.returns
returns c = record { unlink = unlink_paths; rmdir = rmdir_paths }
