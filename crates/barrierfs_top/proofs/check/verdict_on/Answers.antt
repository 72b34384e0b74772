use Rattle.barrierfs_top.proofs.Checks.{told}
use Rattle.barrierfs_top.proofs.check.verdict_on.Goals as goal

pub returns : goal.returns
returns c =
    let v = c.args.volume.now in
    let e = c.check_volume.ensures in
    told v.geometry v.blocks c.check_volume.result e.clean e.inode_map e.zone_map e.links e.dots
