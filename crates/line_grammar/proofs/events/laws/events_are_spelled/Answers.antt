use Rattle.line_grammar.proofs.EventsLemmas.EventLaws.{line_of-says, line_of-read, SaysEvent-words}
use Rattle.line_grammar.specs.events.laws.Speller.{event_line_words}
use Rattle.line_grammar.proofs.events.laws.events_are_spelled.Goals as goal

pub returns-clause-read : goal.returns-clause-read
returns-clause-read c = λ ws l. (λ h. line_of-says ws l h, λ p. line_of-read ws l p.0 p.1)

pub returns-clause-spelled : goal.returns-clause-spelled
returns-clause-spelled c = λ l is. line_of-read (event_line_words l) l is (SaysEvent-words l is)
