use Rattle.store_core.proofs.Summaries.{held-after}
use Rattle.store_core.proofs.running.summary_of.Goals as goal

pub returns-clause-held : goal.returns-clause-held
returns-clause-held c = held-after c.args.script.now c.args.session.now c.args.room c.in_ok-held.held c.requires.report c.in_ok-held.ensures.held
