use Rattle.std.proofs.Common.{◌∙◌}
use Rattle.store_core.proofs.Summaries.{counted}
use Rattle.store_core.proofs.running.acknowledged.Goals as goal

pub returns : goal.returns
returns c = c.count_acknowledged.ensures ∙ counted c.args.script.now c.args.session.now c.history.result.now c.requires c.history.ensures.noted
