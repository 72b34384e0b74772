-- The steps that the code holds by their number are those that the words of a line ask for.
use Rattle.std.specs.Prelude.{◌≡◌, List, [], ◌∷◌, ◌++◌, map, replicate, refl}
use Rattle.std.proofs.Common.{ap}
use Rattle.journal_replay.specs.declared.choice.Choice.{Choice}
use Rattle.journal_replay.specs.declared.choice.Choice.TheVariants as choices
use Rattle.journal_replay.specs.Driving.{all_choices}
use Rattle.line_grammar.specs.declared.events.steer.Steer.{Steer}
use Rattle.line_grammar.specs.declared.events.steer.Steer.TheVariants as steers
use Rattle.call_sessions.specs.power_cuts.recovery.Attempts.{choices_of}
use Rattle.call_sessions.specs.power_cuts.recovery.code.WordSteps.{repeated_of}

pub said_steps : (ss : List Steer) → all_choices (map repeated_of ss) ≡ choices_of ss
said_steps [] = refl
said_steps (steers.Transfer pick ∷ ss) = ap (λ (cs : List Choice). choices.Transfer pick ∷ cs) (said_steps ss)
said_steps (steers.Persist pick ∷ ss) = ap (λ (cs : List Choice). choices.Persist pick ∷ cs) (said_steps ss)
said_steps (steers.Default count ∷ ss) = ap (λ (cs : List Choice). replicate count choices.Default ++ cs) (said_steps ss)
