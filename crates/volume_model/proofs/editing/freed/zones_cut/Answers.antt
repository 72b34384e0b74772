use Rattle.std.proofs.Common.{ap, ◌∙◌}
use Rattle.volume_model.specs.editing.Zones.{numbers_cut}
use Rattle.volume_model.proofs.EditingLemmas.CutSteps.{keeps_same}
use Rattle.volume_model.proofs.editing.freed.zones_cut.Goals as goal

pub returns-clause-numbers : goal.returns-clause-numbers
returns-clause-numbers c =
    c.in_ok-numbers_cut.ensures ∙ ap (numbers_cut c.args.blocks.now c.args.inode.now) (keeps_same c.args.zones.now c.args.from)
