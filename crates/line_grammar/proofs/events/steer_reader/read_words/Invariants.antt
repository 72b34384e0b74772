use Rattle.std.proofs.Common.{◌≡◌, map, drop}
use Rattle.line_grammar.specs.events.SteerLines.{all_of}
use Rattle.line_grammar.proofs.EventsLemmas.SteerSteps.{finish}
use Rattle.line_grammar.proofs.events.steer_reader.read_words.Given as goal

abbrev pub invariant-loop-word : goal.invariant-loop-word
invariant-loop-word l = finish l.steers l.is_within (all_of (map (λ x. x.now) (drop l.word-index l.words))) ≡ all_of (map (λ x. x.now) l.words)
