use Rattle.line_grammar.proofs.CallsLemmas.SaidCalls.{line_of-says}
use Rattle.line_grammar.proofs.CallsLemmas.SpelledCalls.{line_of-read, call_words-lower}
use Rattle.line_grammar.specs.calls.laws.Speller.{call_words}
use Rattle.line_grammar.proofs.calls.laws.calls_are_spelled.Goals as goal

pub returns-clause-read : goal.returns-clause-read
returns-clause-read c = λ ws call. (λ h. line_of-says ws call h, λ p. line_of-read ws call p.0 p.1)

pub returns-clause-spelled : goal.returns-clause-spelled
returns-clause-spelled c = λ call is. line_of-read (call_words call) call is (call_words-lower call is)
