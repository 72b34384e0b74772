-- Sound files.
use Rattle.tree_model.proofs.SoundFiles.{call_sound, new_tree_sound}
use Rattle.tree_model.proofs.file_laws.calls_keep_files_sound.Goals as goal

pub returns : goal.returns
returns c = record { kept = call_sound; new = new_tree_sound }
