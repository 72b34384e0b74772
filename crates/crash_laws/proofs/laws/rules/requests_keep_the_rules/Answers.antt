use Rattle.volume_ops.specs.Walk.{walk_volume}
use Rattle.crash_laws.proofs.OrderSteps.{order_rules_step}
use Rattle.crash_laws.proofs.ImageSteps.{page_order_step, data_before_commit_step}
use Rattle.crash_laws.proofs.laws.rules.requests_keep_the_rules.Goals as goal

pub returns : goal.returns
returns c = record {
  order = λ g p rules clause. order_rules_step (walk_volume g) p rules clause;
  pages = λ g h p rules clause pages page. page_order_step (walk_volume g) h p rules.commits clause.commits pages page;
  versions = λ g h p rules clause versions page. data_before_commit_step (walk_volume g) h p rules.commits clause.commits versions page;
}
