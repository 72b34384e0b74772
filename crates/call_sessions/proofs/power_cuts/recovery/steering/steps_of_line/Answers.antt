use Rattle.std.proofs.Common.{◌≡◌, ◌++◌, List, [], map, drop, ap, sym, ◌∙◌}
use Rattle.std.proofs.lemmas.List.{append-nil, drop_all}
use Rattle.journal_replay.specs.Driving.{all_choices}
use Rattle.line_grammar.specs.declared.events.steer.Steer.{Steer}
use Rattle.call_sessions.specs.power_cuts.recovery.Attempts.{choices_of}
use Rattle.call_sessions.specs.power_cuts.recovery.code.WordSteps.{repeated_of}
use Rattle.call_sessions.proofs.PowerCutsLemmas.RecoveryLemmas.SaidSteps.{said_steps}
use Rattle.call_sessions.proofs.power_cuts.recovery.steering.steps_of_line.Goals as goal

pub returns : goal.returns
returns c =
    let words = c.as_slice-steer-items.result.now in
    let steps = c.loop-steer.steps.items in
    let none : drop c.loop-steer.steer-index words ≡ [] = drop_all c.loop-steer.steer-index words c.loop-steer-test.false in
    let all : steps ≡ map repeated_of words = sym (append-nil steps) ∙ (ap (λ (ss : List Steer). steps ++ map repeated_of ss) (sym none) ∙ c.loop-steer.invariant) in
    ap all_choices all ∙ (said_steps words ∙ ap choices_of c.as_slice-steer-items.ensures)
