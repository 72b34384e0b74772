use Rattle.std.proofs.Common.{◌∙◌, [], ap, sym}
use Rattle.std.proofs.lemmas.List.{append-nil}
use Rattle.journal_blocks.specs.Blocks.{log_block_of}
use Rattle.journal_blocks.specs.Written.{header_bytes, commit_block}
use Rattle.journal_blocks.proofs.Revokes.{commit_read}
use Rattle.journal_blocks.proofs.Writes.{whole_block}
use Rattle.journal_blocks.proofs.writing.write_commit.Goals as goal

pub returns-clause-value : goal.returns-clause-value
unfolding commit_block
returns-clause-value c =
    c.block.ensures.value ∙ whole_block 2 c.args.seq [] c.header.result (c.header.ensures.value ∙ sym (append-nil (header_bytes 2 c.args.seq)))

pub returns-clause-read : goal.returns-clause-read
returns-clause-read c wide = ap (log_block_of wide) (returns-clause-value c) ∙ commit_read wide c.args.seq c.ranges.seq.fits
