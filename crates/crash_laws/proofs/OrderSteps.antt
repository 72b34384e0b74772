-- One request more keeps all rules, by the clauses that it owes.
use Rattle.volume_ops.specs.Reads.{Reads}
use Rattle.crash_laws.specs.laws.Clauses.{OrderClause}
use Rattle.crash_laws.specs.Rules.{OrderRules, BaseImage}
use Rattle.crash_laws.specs.laws.Submitting.{Submitting, after}
use Rattle.crash_laws.proofs.CommitSteps.{commit_order_step}
use Rattle.crash_laws.proofs.ImageSteps.{fits_notes_step, images_step}
use Rattle.crash_laws.proofs.LogSteps.{log_layout_step, checkpoint_order_step}

base_stays : (p : Submitting) → BaseImage p.session → BaseImage (after p)
base_stays p old = record { start = old.start; reserved = old.reserved; freeable = old.freeable; plain = old.plain }

pub order_rules_step : {A : Type 0} (program : Reads A) (p : Submitting) → OrderRules program p.session → OrderClause program p → OrderRules program (after p)
order_rules_step program p old new = record {
  fits = fits_notes_step p old.fits new.fits;
  commits = commit_order_step p old.commits new.commits;
  log = log_layout_step p old.commits new.commits old.checkpoints old.log new.log;
  checkpoints = checkpoint_order_step p old.commits new.commits old.checkpoints new.checkpoints;
  images = images_step program p old.commits new.commits old.images new.images;
  base = base_stays p old.base;
}
