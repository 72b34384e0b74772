use Rattle.store_grammar.proofs.Accepts.{store_of-SaysStore}
use Rattle.store_grammar.proofs.Said.{SaysStore-store_of}
use Rattle.store_grammar.proofs.WellFormed.{IsWellFormed-store_of}
use Rattle.store_grammar.proofs.laws.stores_are_what_is_spelled.Goals as goal

pub returns : goal.returns
returns c = λ bytes s. (λ h. (IsWellFormed-store_of bytes s h, SaysStore-store_of bytes s h), λ p. store_of-SaysStore bytes s p.0 p.1)
