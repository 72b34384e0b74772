-- Bytes of files.
use Rattle.tree_model.proofs.Bytes.{byte_written, byte_kept, byte_below, byte_past, written_whole, cut_whole_blocks}
use Rattle.tree_model.proofs.call_laws.written_bytes_are_read_back.Goals as goal

pub returns : goal.returns
returns c = record { written = byte_written; others = byte_kept; below = byte_below; past = byte_past; whole = written_whole; whole_cut = cut_whole_blocks }
