-- Truncates.
use Rattle.tree_model.proofs.FileChanges.{cut_found, cut_size, cut_stays, cut_zeros, cut_again, cut_mapped, cut_links, cut_rest, cut_paths}
use Rattle.tree_model.proofs.file_laws.truncates_give_the_size.Goals as goal

pub returns : goal.returns
returns c = record {
  file = cut_found;
  size = cut_size;
  stays = λ room tree n path size d birth f g sound h at before lt. cut_stays room tree n path size d birth f g h sound at lt;
  zeros = λ room tree n path size d birth f g sound h. cut_zeros room tree n path size d birth f g h sound;
  regrown = cut_again;
  mapped = cut_mapped;
  links = cut_links;
  rest = cut_rest;
  paths = cut_paths;
}
