use Rattle.journal_blocks.specs.laws.Supers.{super_read, tail_read, tail_bytes}
use Rattle.journal_blocks.proofs.TagKinds.{sound_kind}
use Rattle.journal_blocks.proofs.laws.superblocks_are_read.Goals as goal

pub returns : goal.returns
returns c = record { read = super_read; kind = sound_kind; tail = tail_read; bytes = tail_bytes }
