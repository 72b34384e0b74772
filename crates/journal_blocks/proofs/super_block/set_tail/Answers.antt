use Rattle.std.proofs.Common.{refl, ◌∙◌, ap, sym, length}
use Rattle.journal_blocks.specs.Super.{with_tail}
use Rattle.journal_blocks.specs.laws.Supers.{tail_bytes}
use Rattle.journal_blocks.proofs.super_block.set_tail.Goals as goal

pub returns-clause-value : goal.returns-clause-value
unfolding with_tail
returns-clause-value c =
    rw (c.of.ensures, c.put_u32_be-2.ensures.value, c.put_u32_be.ensures.value, c.copy_from_slice.ensures.after, c.as_slice.ensures.value) refl

pub returns-clause-bytes : goal.returns-clause-bytes
returns-clause-bytes c k apart =
    rw (returns-clause-value c) (tail_bytes c.args.b.now c.args.sequence c.args.start k (let size = c.as_slice.ensures.len in let same = ap length c.as_slice.ensures.value in sym same ∙ size) apart)
