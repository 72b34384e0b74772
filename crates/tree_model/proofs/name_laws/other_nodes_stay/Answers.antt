-- Nodes that stay.
use Rattle.tree_model.proofs.NamedNodes.{mkdir_rest, create_rest, link_rest, unlink_rest, rmdir_rest}
use Rattle.tree_model.proofs.name_laws.other_nodes_stay.Goals as goal

pub returns : goal.returns
returns c = record {
  mkdir = mkdir_rest;
  create = create_rest;
  link = link_rest;
  unlink = λ room tree plain n. unlink_rest room tree n plain;
  rmdir = λ room tree plain n. rmdir_rest room tree n plain;
}
