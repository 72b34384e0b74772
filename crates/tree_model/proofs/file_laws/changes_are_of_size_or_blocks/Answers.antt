-- Changes of files.
use Rattle.tree_model.proofs.SoundFiles.{unchanged_is, same_unchanged, changed_one_of}
use Rattle.tree_model.proofs.file_laws.changes_are_of_size_or_blocks.Goals as goal

pub returns : goal.returns
returns c = record { unchanged = unchanged_is; same = same_unchanged; one_of = changed_one_of }
