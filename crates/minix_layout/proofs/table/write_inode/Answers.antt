use Rattle.minix_layout.specs.laws.InodeLaws.{inode_read_back, other_inode}
use Rattle.minix_layout.proofs.table.write_inode.Goals as goal

pub returns-clause-read : goal.returns-clause-read
returns-clause-read c =
    rw (c.put_part.ensures.value, c.inode_record.ensures.value) (inode_read_back c.args.b.now c.args.at c.args.i.now c.put_part.ensures.size c.requires c.inode_record.ensures.fits)

pub returns-clause-others : goal.returns-clause-others
returns-clause-others c k within differ =
    rw (c.put_part.ensures.value, c.inode_record.ensures.value) (other_inode c.args.b.now c.args.at k c.args.i.now c.put_part.ensures.size c.requires within differ)
