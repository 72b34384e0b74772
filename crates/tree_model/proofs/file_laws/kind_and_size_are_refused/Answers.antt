-- Refusals of writes and cuts.
use Rattle.tree_model.proofs.FileChanges.{write_directory, write_too_big, write_goes, cut_directory, cut_too_big, cut_goes}
use Rattle.tree_model.proofs.file_laws.kind_and_size_are_refused.Goals as goal

pub returns : goal.returns
returns c = record {
  write_directory = write_directory;
  write_too_big = write_too_big;
  write = write_goes;
  truncate_directory = cut_directory;
  truncate_too_big = cut_too_big;
  truncate = cut_goes;
}
