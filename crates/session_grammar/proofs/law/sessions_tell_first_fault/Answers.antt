use Rattle.session_grammar.proofs.FirstFault.{tells_first_fault}
use Rattle.session_grammar.proofs.law.sessions_tell_first_fault.Goals as goal

pub returns : goal.returns
returns c = λ bytes n kind. tells_first_fault bytes n kind
