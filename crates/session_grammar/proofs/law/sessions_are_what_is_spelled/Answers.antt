use Rattle.session_grammar.proofs.Accepts.{session_of-SaysSession}
use Rattle.session_grammar.proofs.Said.{SaysSession-session_of}
use Rattle.session_grammar.proofs.WellFormed.{IsWellFormed-session_of}
use Rattle.session_grammar.proofs.law.sessions_are_what_is_spelled.Goals as goal

pub returns : goal.returns
returns c = λ bytes s. (λ h. (IsWellFormed-session_of bytes s h, SaysSession-session_of bytes s h), λ p. session_of-SaysSession bytes s p.0 p.1)
