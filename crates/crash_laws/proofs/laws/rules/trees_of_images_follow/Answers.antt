use Rattle.crash_laws.proofs.Volumes.{trees_at_start, trees_step}
use Rattle.crash_laws.proofs.laws.rules.trees_of_images_follow.Goals as goal

pub returns : goal.returns
returns c = record {
  start = trees_at_start;
  request = trees_step;
}
