use Rattle.volume_ops.specs.Walk.{walk_volume}
use Rattle.crash_laws.proofs.Start.{rules_at_start, pages_at_start}
use Rattle.crash_laws.proofs.laws.rules.rules_hold_at_the_start.Goals as goal

pub returns : goal.returns
returns c = record {
  order = λ g s notes requests first head base metadata. rules_at_start (walk_volume g) s notes requests first head base metadata;
  pages = λ g h s notes opened. pages_at_start (walk_volume g) s notes h opened;
}
