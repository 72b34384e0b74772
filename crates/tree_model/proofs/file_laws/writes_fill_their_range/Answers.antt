-- Writes.
use Rattle.std.specs.Prelude.{refl}
use Rattle.tree_model.specs.Calls.{row, outcome}
use Rattle.tree_model.proofs.FileChanges.{write_back, write_file, write_size, write_others, write_gap, write_mapped, write_links, write_rest, write_paths}
use Rattle.tree_model.proofs.file_laws.writes_fill_their_range.Goals as goal

pub returns-clause-repeated : goal.returns-clause-repeated
unfolding outcome row
returns-clause-repeated c room tree n path off len value = refl

pub returns-clause-file : goal.returns-clause-file
returns-clause-file c = write_file

pub returns-clause-size : goal.returns-clause-size
returns-clause-size c = write_size

pub returns-clause-others : goal.returns-clause-others
returns-clause-others c = write_others

pub returns-clause-gap : goal.returns-clause-gap
returns-clause-gap c = write_gap

pub returns-clause-mapped : goal.returns-clause-mapped
returns-clause-mapped c = write_mapped

pub returns-clause-links : goal.returns-clause-links
returns-clause-links c = write_links

pub returns-clause-rest : goal.returns-clause-rest
returns-clause-rest c = write_rest

pub returns-clause-paths : goal.returns-clause-paths
returns-clause-paths c = write_paths

pub returns-clause-read_back : goal.returns-clause-read_back
returns-clause-read_back c = write_back
