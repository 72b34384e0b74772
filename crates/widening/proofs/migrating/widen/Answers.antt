use Rattle.volume_ops.specs.laws.DeviceReads.{quiet_after}
use Rattle.widening.proofs.RoomSteps.{ok_always}
use Rattle.widening.proofs.migrating.widen.Goals as goal

pub returns-clause-quiet : goal.returns-clause-quiet
returns-clause-quiet g c =
    let d = g.D.OrderedDev in
    ok_always c.widen_volume.result _ (quiet_after (d.seen (d.state c.mount.new.dev)) (d.seen (d.state c.read_image.new.dev)) c.in_ok-image.ensures.reads c.in-Ok.ensures.quiet)
