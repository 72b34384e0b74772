use Rattle.line_grammar.proofs.EventsLemmas.SteerLaws.{steers_said, steers_read}
use Rattle.line_grammar.proofs.events.laws.steers_are_spelled.Goals as goal

pub returns : goal.returns
returns c = λ ws ss. (λ h. steers_said ws ss h, λ p. steers_read ws ss p.0 p.1)
