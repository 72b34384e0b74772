use Rattle.volume_ops.specs.Walk.{walk_volume}
use Rattle.crash_laws.proofs.Growth.{page_order_grows, data_before_commit_grows}
use Rattle.crash_laws.proofs.laws.rules.histories_may_grow.Goals as goal

pub returns : goal.returns
returns c = record {
  pages = λ g h more s now extends pages. page_order_grows extends (walk_volume g) pages;
  versions = λ g h more s now extends versions. data_before_commit_grows extends (walk_volume g) versions;
}
