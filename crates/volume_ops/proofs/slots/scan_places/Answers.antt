use Rattle.volume_ops.specs.Volume.{disk_of}
use Rattle.volume_ops.proofs.GoesOn.{told_at_exit}
use Rattle.volume_ops.proofs.SlotScans.{scan_places_more, scan_places_fault}
use Rattle.volume_ops.proofs.slots.scan_places.Goals as goal

pub loop-at-preserved : goal.loop-at-preserved
loop-at-preserved c = (
  scan_places_more (disk_of c.args.disk.now) c.args.g.now c.args.zone c.args.body.now c.args.count c.loop-at.at (record { named = c.loop-at.named; names = c.loop-at.names }) c.loop-at-test.true
      _ _ c.loop-at.invariant.0 c.in_ok-scan_slot.ensures.ok,
  λ h. c.in_ok-scan_slot.ensures.within (c.loop-at.invariant.1 h),
)

pub returns-in_err-scan_slot-clause-fault : goal.returns-in_err-scan_slot-clause-fault
returns-in_err-scan_slot-clause-fault c =
    told_at_exit _ _ _ _ c.from_residual.ensures.1
    (λ f e. scan_places_fault (disk_of c.args.disk.now) c.args.g.now c.args.zone c.args.body.now c.args.count c.loop-at.at (record { named = c.loop-at.named; names = c.loop-at.names }) c.loop-at-test.true
    f _ c.loop-at.invariant.0 e)
    c.in_err-scan_slot.ensures.fault
