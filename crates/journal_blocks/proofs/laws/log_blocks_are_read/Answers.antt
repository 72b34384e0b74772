use Rattle.journal_blocks.proofs.Descriptors.{descriptor_read}
use Rattle.journal_blocks.proofs.Revokes.{revoke_read, other_read, commit_read}
use Rattle.journal_blocks.proofs.laws.log_blocks_are_read.Goals as goal

pub returns : goal.returns
returns c = record { descriptor = descriptor_read; revoke = revoke_read; other = other_read; commit = commit_read }
