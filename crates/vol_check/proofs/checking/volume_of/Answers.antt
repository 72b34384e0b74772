use Rattle.vol_check.proofs.Volumes.{no_layout_fault, same_division}
use Rattle.vol_check.proofs.checking.volume_of.Goals as goal

pub unreachable-requires-in-Err-Layout : goal.unreachable-requires-in-Err-Layout
unreachable-requires-in-Err-Layout c =
    let has = c.requires.1 in
    let same = same_division c.args.image.now c.block.result.now c.read_super.result c.in-Ok.g c.requires.0 has c.block.ensures c.read_super.ensures.value c.in-Ok.is in
    no_layout_fault c.in-Ok.g c.requires.0 c.args.image.now c.in-Err-Layout.field-0 _ _ has same c.in-Ok.ensures.sound.some_inode c.in-Err-Layout.field-0-is c.in-Err-Layout.ensures.fault
