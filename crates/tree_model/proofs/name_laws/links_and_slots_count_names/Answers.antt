-- Links and slots.
use Rattle.tree_model.proofs.NamedNodes.{new_directory_is, new_file_is, link_more, unlink_less, rmdir_gone, in_mkdir, in_create, in_link, in_unlink, in_rmdir}
use Rattle.tree_model.proofs.name_laws.links_and_slots_count_names.Goals as goal

pub returns : goal.returns
returns c = record {
  new_directory = λ room tree plain n. new_directory_is room tree n plain;
  new_file = λ room tree plain n. new_file_is room tree n plain;
  link = λ room tree plain n. link_more room tree n plain;
  unlink = λ room tree plain n. unlink_less room tree n plain;
  rmdir = λ room tree plain n. rmdir_gone room tree n plain;
  in_mkdir = λ room tree plain n. in_mkdir room tree n plain;
  in_create = λ room tree plain n. in_create room tree n plain;
  in_link = λ room tree plain n. in_link room tree n plain;
  in_unlink = λ room tree plain n. in_unlink room tree n plain;
  in_rmdir = λ room tree plain n. in_rmdir room tree n plain;
}
