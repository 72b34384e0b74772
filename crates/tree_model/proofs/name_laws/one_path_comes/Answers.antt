-- Paths that come.
use Rattle.tree_model.proofs.NamesCome.{mkdir_paths, create_paths, link_leads_paths, link_free}
use Rattle.tree_model.proofs.name_laws.one_path_comes.Goals as goal

pub returns : goal.returns
returns c = record { mkdir = mkdir_paths; create = create_paths; link = link_leads_paths; link_new = link_free }
