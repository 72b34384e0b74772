use Rattle.volume_in_use.proofs.ReadsLemmas.Listed.{ascending}
use Rattle.volume_in_use.proofs.reads.replies.file_bytes.Goals as goal

pub bytes_between-requires : goal.bytes_between-requires
bytes_between-requires c = rw c.as_slice.ensures (ascending c.args.zones.now c.requires)
