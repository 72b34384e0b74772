use Rattle.store_grammar.proofs.Spelled.{store_of-store_text}
use Rattle.store_grammar.proofs.WellFormed.{IsWellFormed-store_of}
use Rattle.store_grammar.proofs.laws.stores_are_read_back.Goals as goal

pub returns : goal.returns
returns c = record { spelled = store_of-store_text; read = IsWellFormed-store_of }
