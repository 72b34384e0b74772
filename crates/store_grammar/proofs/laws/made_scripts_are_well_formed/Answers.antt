use Rattle.store_grammar.proofs.MadeScripts.{made-well_formed}
use Rattle.store_grammar.proofs.laws.made_scripts_are_well_formed.Goals as goal

pub returns : goal.returns
returns c = made-well_formed
