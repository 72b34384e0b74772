use Rattle.std.proofs.Common.{arith}
use Rattle.tree_model.proofs.NameTexts.{no_name}
use Rattle.tree_model.proofs.path_text.short_name.Goals as goal

pub returns-in-None-clause-long : goal.returns-in-None-clause-long
returns-in-None-clause-long c =
    let narrow = c.requires.narrow in
    absurd (no_name c.args.name.now (omega arith) c.requires.plain c.in-None.ensures)
