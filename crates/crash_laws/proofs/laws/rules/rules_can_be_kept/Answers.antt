use Rattle.crash_laws.proofs.ExamplePages.{has_trees, order_kept, pages_kept, versions_kept, sync_kept}
use Rattle.crash_laws.proofs.laws.rules.rules_can_be_kept.Goals as goal

pub returns : goal.returns
returns c = record { trees = has_trees; order = order_kept; pages = pages_kept; versions = versions_kept; sync = sync_kept }
