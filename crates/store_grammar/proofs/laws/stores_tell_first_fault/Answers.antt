use Rattle.store_grammar.proofs.FirstFault.{tells_first_fault}
use Rattle.store_grammar.proofs.laws.stores_tell_first_fault.Goals as goal

pub returns : goal.returns
returns c = tells_first_fault
