-- How the code holds the steps that words ask for: no step is written out.
use Rattle.journal_replay.specs.declared.choice.Choice.TheVariants as choices
use Rattle.journal_replay.specs.declared.choice.Repeated.{Repeated}
use Rattle.line_grammar.specs.declared.events.steer.Steer.{Steer}
use Rattle.line_grammar.specs.declared.events.steer.Steer.TheVariants as steers

-- the steps of one word
abbrev pub repeated_of : Steer → Repeated
repeated_of (steers.Transfer pick) = record { choice = choices.Transfer pick; times = 1 }
repeated_of (steers.Persist pick) = record { choice = choices.Persist pick; times = 1 }
repeated_of (steers.Default count) = record { choice = choices.Default; times = count }
