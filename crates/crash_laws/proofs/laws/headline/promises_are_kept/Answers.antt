use Rattle.volume_ops.specs.Walk.{walk_volume}
use Rattle.volume_ops.specs.Volume.{disk_of}
use Rattle.crash_laws.proofs.Sentences.{promises}
use Rattle.crash_laws.proofs.laws.headline.promises_are_kept.Goals as goal

pub returns : goal.returns
returns c = record {
  kept = λ g h s m sent cut trees pages flushed. promises (walk_volume g) h s m (disk_of m.image) cut.rules cut.closed trees pages sent flushed;
}
