-- Reads.
use Rattle.tree_model.proofs.FileChanges.{read_bytes, read_below, read_each, hole_byte, mapped_byte}
use Rattle.tree_model.proofs.file_laws.reads_give_what_stands.Goals as goal

pub returns : goal.returns
returns c = record { bytes = read_bytes; below = read_below; each = read_each; hole = hole_byte; mapped = mapped_byte }
