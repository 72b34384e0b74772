use Rattle.script_grammar.proofs.Accepts.{script_of-SaysScript}
use Rattle.script_grammar.proofs.Said.{SaysScript-script_of}
use Rattle.script_grammar.proofs.WellFormed.{IsWellFormed-script_of}
use Rattle.script_grammar.proofs.law.accepts_what_is_spelled.Goals as goal

pub returns : goal.returns
returns c = λ bytes s. (λ h. (IsWellFormed-script_of bytes s h, SaysScript-script_of bytes s h), λ p. script_of-SaysScript bytes s p.0 p.1)
