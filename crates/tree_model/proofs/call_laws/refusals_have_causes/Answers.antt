-- Refused calls.
use Rattle.tree_model.proofs.Causes.{refused_for}
use Rattle.tree_model.proofs.Outcomes.{refused_stays, bad_path_refused}
use Rattle.tree_model.proofs.call_laws.refusals_have_causes.Goals as goal

pub returns : goal.returns
returns c = record { cause = λ room tree plain. refused_for room tree plain.rooted; unchanged = refused_stays; bad_path = bad_path_refused }
