use Rattle.std.proofs.Common.{◌≡◌, ◌+◌, ◌∙◌, sym, ap, ap₂, arith, rules, Ok, [], map, drop, true, false, Bool, List, append-nil}
use Rattle.line_grammar.specs.declared.events.steer.Steer.{Steer}
use Rattle.line_grammar.specs.events.SteerLines.{all_of}
use Rattle.line_grammar.proofs.EventsLemmas.SteerSteps.{finish, step_steer, step_number, step_spelling, finished}
use Rattle.line_grammar.proofs.events.steer_reader.read_words.Goals.{in-Ok+in_ok-push-in-Ok, in-Err-Number}
use Rattle.line_grammar.proofs.events.steer_reader.read_words.Goals as goal

pub returns-in-Err-Spelling : goal.returns-in-Err-Spelling
returns-in-Err-Spelling c =
    sym c.loop-word.invariant
    ∙ step_spelling (λ x. x.now) c.args.words.now c.loop-word.word-index _ c.loop-word.steers c.loop-word.is_within (omega arith) (sym c.read_steer.ensures ∙ search rules)

pub loop-word-preserved : goal.loop-word-preserved
loop-word-preserved c =
    elim c.match-read_steer.branch [
      | in-Ok+in_ok-push-in-Ok w ↦
          ap₂ (λ (s : List Steer) (b : Bool). finish s b (all_of (map (λ x. x.now) (drop (c.loop-word.word-index + 1) c.args.words.now)))) (w.steers-is ∙ w.in_ok-push-in-Ok.ensures) w.is_within-is
          ∙ step_steer (λ x. x.now) c.args.words.now c.loop-word.word-index _ c.loop-word.steers c.loop-word.is_within w.in-Ok.steer (omega arith) (sym c.read_steer.ensures ∙ search rules)
          ∙ c.loop-word.invariant
      | in-Err-Number w ↦
          ap₂ (λ (s : List Steer) (b : Bool). finish s b (all_of (map (λ x. x.now) (drop (c.loop-word.word-index + 1) c.args.words.now)))) w.steers-is w.is_within-is
          ∙ step_number (λ x. x.now) c.args.words.now c.loop-word.word-index _ c.loop-word.steers c.loop-word.is_within (omega arith) (sym c.read_steer.ensures ∙ search rules)
          ∙ c.loop-word.invariant
    ]

pub returns-then-not-is_within : goal.returns-then-not-is_within
returns-then-not-is_within c =
    let beyond : c.loop-word.is_within ≡ false = search rules in
    sym c.loop-word.invariant ∙ finished (λ x. x.now) c.args.words.now c.loop-word.word-index c.loop-word.steers c.loop-word.is_within (omega arith)
    ∙ ap (λ (b : Bool). finish c.loop-word.steers b (Ok [])) beyond

pub returns : goal.returns
returns c =
    let within : c.loop-word.is_within ≡ true = search rules in
    sym c.loop-word.invariant ∙ finished (λ x. x.now) c.args.words.now c.loop-word.word-index c.loop-word.steers c.loop-word.is_within (omega arith)
    ∙ ap (λ (b : Bool). finish c.loop-word.steers b (Ok [])) within ∙ ap Ok (append-nil c.loop-word.steers)
