use Rattle.script_grammar.proofs.FirstFault.{tells_first_fault}
use Rattle.script_grammar.proofs.law.tells_first_fault.Goals as goal

pub returns : goal.returns
returns c = λ bytes n kind. tells_first_fault bytes n kind
