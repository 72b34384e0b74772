use Rattle.std.proofs.Common.{rules, ◌*◌, ◌∙◌, arith}
use Rattle.volume_model.proofs.EditingLemmas.CutSteps.{cleared_as}
use Rattle.volume_model.proofs.editing.edits.cleared.Goals as goal

pub returns : goal.returns
returns c = (search rules) ∙ cleared_as c.args.body.now (2 * c.args.at) (search rules) (let low = c.requires in omega arith)
