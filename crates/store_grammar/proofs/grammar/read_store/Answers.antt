use Rattle.store_grammar.proofs.WellFormed.{IsWellFormed-from_reads}
use Rattle.store_grammar.proofs.grammar.read_store.Goals as goal

pub returns-clause-well_formed : goal.returns-clause-well_formed
returns-clause-well_formed c = IsWellFormed-from_reads c.read_lines.result _ c.read_lines.ensures
