use Rattle.std.proofs.Common.{◌∙◌}
use Rattle.store_core.proofs.Summaries.{report-of, headline-of, acknowledged-of}
use Rattle.store_core.proofs.running.run_store.Goals as goal

pub returns-in-Ok-clause-report : goal.returns-in-Ok-clause-report
returns-in-Ok-clause-report c = report-of c.args.script.now c.in_ok-volume.volume c.in_ok-session.session c.in_ok-volume.ensures.made c.in_ok-session.ensures.core

pub returns-in-Ok-clause-headline : goal.returns-in-Ok-clause-headline
returns-in-Ok-clause-headline c = headline-of c.args.script.now c.in_ok-volume.volume c.in_ok-session.session c.in_ok-volume.ensures.made c.in_ok-session.ensures.headline

pub returns-in-Ok-clause-acknowledged : goal.returns-in-Ok-clause-acknowledged
returns-in-Ok-clause-acknowledged c = c.in-Ok.ensures.acknowledged ∙ acknowledged-of c.args.script.now c.in_ok-volume.volume c.in_ok-volume.ensures.made
