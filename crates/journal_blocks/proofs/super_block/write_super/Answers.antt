use Rattle.std.proofs.Common.{refl, ◌∙◌, ap}
use Rattle.journal_blocks.specs.Super.{super_block, super_of}
use Rattle.journal_blocks.specs.laws.Supers.{super_read}
use Rattle.journal_blocks.proofs.super_block.write_super.Goals as goal

written_block : goal.returns-clause-value
unfolding super_block
written_block c =
    rw (c.of.ensures, c.put_u32_be-10.ensures.value, c.put_u32_be-9.ensures.value, c.put_u32_be-8.ensures.value, c.put_u32_be-7.ensures.value, c.put_u32_be-6.ensures.value, c.put_u32_be-5.ensures.value, c.put_u32_be-4.ensures.value, c.put_u32_be-3.ensures.value, c.put_u32_be-2.ensures.value, c.put_u32_be.ensures.value, c.zeroed-bytes.ensures) refl

pub returns-clause-value : goal.returns-clause-value
returns-clause-value c = written_block c

pub returns-clause-read : goal.returns-clause-read
returns-clause-read c sound = ap super_of (written_block c) ∙ super_read c.args.s.now sound
