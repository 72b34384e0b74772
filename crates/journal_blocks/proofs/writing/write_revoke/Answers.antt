use Rattle.std.proofs.Common.{◌+◌, ◌*◌, ◌^◌, ◌<◌, ◌∙◌, ◌++◌, ap, subst, length, All, arith}
use Rattle.std.proofs.lemmas.List.{take_all}
use Rattle.byte_fields.specs.Fields.{bytes_of}
use Rattle.byte_fields.specs.Fields.Order.{big}
use Rattle.journal_blocks.specs.Blocks.{log_block_of, number_size}
use Rattle.journal_blocks.specs.Written.{numbers_bytes, revoke_block}
use Rattle.journal_blocks.proofs.Revokes.{revoke_read}
use Rattle.journal_blocks.proofs.Writes.{whole_block, numbers_done, numbers_fit}
use Rattle.journal_blocks.proofs.writing.write_revoke.Goals as goal

pub returns-clause-value : goal.returns-clause-value
unfolding revoke_block
returns-clause-value c =
    c.block.ensures.value
    ∙ whole_block 5 c.args.seq (bytes_of big 4 (16 + number_size c.args.wide * length c.args.blocks.now) ++ numbers_bytes c.args.wide c.args.blocks.now) c.loop-revoked.block
    (numbers_done c.args.wide c.loop-revoked.block _ c.args.blocks.now c.loop-revoked.revoked-index (omega arith) c.loop-revoked.invariant.told)

pub returns-clause-read : goal.returns-clause-read
returns-clause-read c =
    let every : All (λ n. n < 2 ^ 32) c.args.blocks.now = subst (All (λ n. n < 2 ^ 32)) (take_all c.loop-revoked.revoked-index c.args.blocks.now (omega arith)) c.loop-revoked.invariant.fits in
    ap (log_block_of c.args.wide) (returns-clause-value c) ∙ revoke_read c.args.wide c.args.seq c.args.blocks.now c.ranges.seq.fits c.requires.few (numbers_fit c.args.wide c.args.blocks.now every)
