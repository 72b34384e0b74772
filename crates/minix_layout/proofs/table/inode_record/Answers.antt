use Rattle.std.proofs.Common.{refl}
use Rattle.byte_fields.specs.Fields.Order.{little}
use Rattle.minix_layout.specs.Inodes.{inode_bytes}
use Rattle.minix_layout.proofs.table.inode_record.Goals as goal

pub returns-clause-value : goal.returns-clause-value
unfolding inode_bytes
returns-clause-value c =
    rw (c.put_u16_le-2.ensures.value, c.put_u16_le.ensures.value, c.put_u32_le-2.ensures.value, c.put_u32_le.ensures.value, c.put_u8-2.ensures.value little, c.put_u8.ensures.value little, c.put_zones.ensures.value, c.as_slice.ensures.value, c.zeroed-bytes.ensures) refl
