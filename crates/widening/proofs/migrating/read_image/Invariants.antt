use Rattle.std.proofs.Common.{◌≡◌}
use Rattle.blk_base.specs.Block.{filled}
use Rattle.blk_base.specs.laws.Filling.{filled_to}
use Rattle.order_model.specs.Steps.{OnlyReads}
use Rattle.widening.proofs.migrating.read_image.Given as goal

abbrev pub invariant-loop-block : goal.invariant-loop-block
invariant-loop-block g l =
    let d = g.D.OrderedDev in
    record {
      valid : d.valid (d.state l.dev);
      reads : OnlyReads (d.seen (d.state l.fn.dev)) (d.seen (d.state l.dev));
      read : l.image ≡ filled_to (filled 0) l.blocks (d.seen (d.state l.fn.dev)).surface l.block;
      sound : d.sound (d.state l.fn.dev) → d.sound (d.state l.dev);
      no_fault : d.sound (d.state l.fn.dev) → (d.seen (d.state l.dev)).faults ≡ (d.seen (d.state l.fn.dev)).faults;
    }
