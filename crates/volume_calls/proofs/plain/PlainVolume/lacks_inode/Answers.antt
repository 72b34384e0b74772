use Rattle.volume_calls.proofs.AskSteps.{no_inode_left}
use Rattle.volume_calls.proofs.plain.PlainVolume.lacks_inode.Goals as goal

pub returns-then-wants : goal.returns-then-wants
returns-then-wants c =
    let p = c.parts.inside in
    rw (← c.self.view_is, ← c.parts.view_is)
    (no_inode_left p.blocks p.nodes.entries c.args.wants.inode p.geometry.inodes c.from.result c.len.result c.if-wants.true c.from.ensures c.len.ensures.len)
