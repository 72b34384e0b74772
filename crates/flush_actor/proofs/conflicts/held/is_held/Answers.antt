use Rattle.std.proofs.Common.{◌∙◌}
use Rattle.flush_actor.proofs.ConflictsLemmas.Steps.{held_there}
use Rattle.flush_actor.proofs.conflicts.held.is_held.Goals as goal

pub returns : goal.returns
returns c = c.is_ok.ensures.value ∙ held_there c.args.held.now c.args.block c.place_of.result c.place_of.ensures
