use Rattle.std.proofs.Common.{◌<◌, ◌≤◌, sym, subst, ℕ}
use Rattle.volume_steps.specs.Now.{VolumeNow, tree_of_now, room_of}
use Rattle.volume_calls.proofs.AskSteps.{no_inode, no_space, may_change}
use Rattle.volume_calls.proofs.plain.PlainVolume.if_room.Goals as goal

pub returns-then-lacks_inode : goal.returns-then-lacks_inode
returns-then-lacks_inode c d asked =
    let v : VolumeNow = c.args.self.now in
    no_inode (room_of v.geometry) (tree_of_now v) d c.args.wants asked (sym c.if-lacks_inode.ensures)

pub returns-then-zones_left-wants : goal.returns-then-zones_left-wants
returns-then-zones_left-wants c d asked =
    let v : VolumeNow = c.args.self.now in
    no_space (room_of v.geometry) (tree_of_now v) d c.args.wants asked (sym c.if-lacks_inode.ensures) (subst (λ (k : ℕ). k < c.args.wants.zones) c.zones_left.ensures c.if-zones_left-wants.true)

pub returns : goal.returns
returns c d asked =
    let v : VolumeNow = c.args.self.now in
    may_change (room_of v.geometry) (tree_of_now v) d c.args.wants asked (sym c.if-lacks_inode.ensures) (subst (λ (k : ℕ). c.args.wants.zones ≤ k) c.zones_left.ensures c.if-zones_left-wants.false)
