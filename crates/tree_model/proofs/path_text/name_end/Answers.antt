use Rattle.tree_model.proofs.NameTexts.{ends_at, named_first, ends_within}
use Rattle.tree_model.proofs.path_text.name_end.Goals as goal

pub returns-clause-names : goal.returns-clause-names
returns-clause-names c = named_first c.args.bytes.now c.unwrap_or.result (ends_at c.args.bytes.now c.first_slash.result c.unwrap_or.result c.first_slash.ensures c.unwrap_or.ensures)

pub returns-clause-within : goal.returns-clause-within
returns-clause-within c = ends_within c.args.bytes.now c.unwrap_or.result (ends_at c.args.bytes.now c.first_slash.result c.unwrap_or.result c.first_slash.ensures c.unwrap_or.ensures)
