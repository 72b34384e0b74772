use Rattle.script_grammar.proofs.Spelled.{script_of-script_text}
use Rattle.script_grammar.proofs.WellFormed.{IsWellFormed-script_of}
use Rattle.script_grammar.proofs.law.reads_what_is_spelled.Goals as goal

pub returns-clause-spelled : goal.returns-clause-spelled
returns-clause-spelled c = λ s well. script_of-script_text s well

pub returns-clause-read : goal.returns-clause-read
returns-clause-read c = IsWellFormed-script_of
