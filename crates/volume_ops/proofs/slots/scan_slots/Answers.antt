use Rattle.volume_ops.specs.Volume.{disk_of}
use Rattle.volume_ops.proofs.GoesOn.{told_at_exit}
use Rattle.volume_ops.proofs.SlotScans.{scan_slots_more, scan_slots_fault}
use Rattle.volume_ops.proofs.slots.scan_slots.Goals as goal

pub loop-block-preserved : goal.loop-block-preserved
loop-block-preserved c = (
  scan_slots_more (disk_of c.args.disk.now) c.args.g.now c.args.slots c.args.blocks.now c.loop-block.block-index
      (record { index = 0; zone = 0 }) (record { named = c.loop-block.named; names = c.loop-block.names }) c.loop-block-test.true
      _ _ c.loop-block.invariant.0 c.in_ok-scan_block.ensures.ok,
  c.in_ok-scan_block.ensures.within c.loop-block.invariant.1,
)

pub returns-in_err-scan_block-clause-fault : goal.returns-in_err-scan_block-clause-fault
returns-in_err-scan_block-clause-fault c =
    told_at_exit _ _ _ _ c.from_residual.ensures.1
    (λ f e. scan_slots_fault (disk_of c.args.disk.now) c.args.g.now c.args.slots c.args.blocks.now c.loop-block.block-index
    (record { index = 0; zone = 0 }) (record { named = c.loop-block.named; names = c.loop-block.names }) c.loop-block-test.true
    f _ c.loop-block.invariant.0 e)
    c.in_err-scan_block.ensures.fault
