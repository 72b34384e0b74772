use Rattle.std.proofs.Common.{refl}
use Rattle.minix_layout.specs.laws.SuperLaws.{super_read}
use Rattle.minix_layout.specs.Super.{super_block}
use Rattle.minix_layout.proofs.superblock.write_super.Goals as goal

pub returns-clause-value : goal.returns-clause-value
unfolding super_block
returns-clause-value c =
    rw (c.of.ensures, c.put_u16_le-8.ensures.value, c.put_u16_le-7.ensures.value, c.put_u16_le-6.ensures.value, c.put_u16_le-5.ensures.value, c.put_u16_le-4.ensures.value, c.put_u16_le-3.ensures.value, c.put_u32_le.ensures.value, c.put_u16_le-2.ensures.value, c.put_u16_le.ensures.value, c.zeroed-bytes.ensures, c.magic_for.ensures) refl

pub returns-clause-read : goal.returns-clause-read
returns-clause-read c sound = rw (returns-clause-value c) (super_read c.args.g.now sound)
