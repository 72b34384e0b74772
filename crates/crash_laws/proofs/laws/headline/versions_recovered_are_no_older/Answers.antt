use Rattle.volume_ops.specs.Walk.{walk_volume}
use Rattle.crash_laws.proofs.Sentences.{prefix_and_versions}
use Rattle.crash_laws.proofs.laws.headline.versions_recovered_are_no_older.Goals as goal

pub returns : goal.returns
returns c = record {
  prefix = λ g h s m disk cut trees pages order recovers. prefix_and_versions (walk_volume g) h s m disk cut.rules cut.closed trees pages order recovers;
}
