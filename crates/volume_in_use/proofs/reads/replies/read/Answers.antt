use Rattle.volume_in_use.proofs.ReadsLemmas.Nodes.{file_rises}
use Rattle.volume_in_use.proofs.reads.replies.read.Goals as goal

pub file_bytes-requires : goal.file_bytes-requires
file_bytes-requires c = file_rises c.args.v.now c.args.placed.now c.requires c.in-File.zones c.in-File.is
