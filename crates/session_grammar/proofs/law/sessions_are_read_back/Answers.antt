use Rattle.session_grammar.proofs.Spelled.{session_of-session_text}
use Rattle.session_grammar.proofs.WellFormed.{IsWellFormed-session_of}
use Rattle.session_grammar.proofs.law.sessions_are_read_back.Goals as goal

pub returns-clause-spelled : goal.returns-clause-spelled
returns-clause-spelled c = session_of-session_text

pub returns-clause-read : goal.returns-clause-read
returns-clause-read c = IsWellFormed-session_of
