use Rattle.std.proofs.Common.{◌+◌, ◌++◌, ◌∷◌, [], ℕ, Bool, not, if◌then◌else◌, List, drop, ap, sym, subst, ◌∙◌}
use Rattle.std.proofs.lemmas.List.{drop_more, drop_all}
use Rattle.order_model.specs.Machine.{Machine, machine_of}
use Rattle.line_grammar.specs.declared.events.steer.Steer.{Steer}
use Rattle.call_sessions.specs.power_cuts.recovery.Attempts.{choices_of, IsAttempt}
use Rattle.call_sessions.proofs.PowerCutsLemmas.RecoveryLemmas.Attempted.{one_more, all_made}
use Rattle.call_sessions.proofs.PowerCutsLemmas.RecoveryLemmas.Kept.{left_after}
use Rattle.call_sessions.proofs.power_cuts.recovery.attempts.recover_lines.Goals as goal

pub loop-line-preserved : goal.loop-line-preserved
loop-line-preserved g c =
    let d = g.M.Dev.OrderedDev in
    let m : Machine d.State = machine_of d in
    let fresh : List ℕ → List (List ℕ) → d.State = λ numbers i. d.state (g.M.Maker.fresh_dev numbers i) in
    let base = c.args.base in
    let lines = c.args.lines.now in
    let now = c.loop-line.left in
    let next = c.in_ok-attempt.image in
    let before = c.loop-line.attempts.items in
    let a = c.in_ok-attempt.attempt in
    let inv = c.loop-line.invariant in
    let done = c.in_ok-attempt.ensures in
    let made = done.attempt in
    let line = c.line-item.result in
    let rest = drop (c.loop-line.line-index + 1) lines in
    record {
      setup = done.setup ∙ inv.setup;
      left = left_after base c.args.image now next inv.left done.left;
      attempts = one_more m (fresh (g.M.Maker.setup c.args.maker.now)) base c.args.image now next lines (drop c.loop-line.line-index lines) rest line before c.push.new.self.items a made.0
          (drop_more lines c.loop-line.line-index line c.loop-line-test.true ∙ ap (λ (l : List Steer). l ∷ rest) (sym c.line-item.is))
          (c.push.ensures.items ∙ ap (λ (ok : Bool). if ok then before ++ a ∷ [] else before) (c.is_err.ensures.negation ∙ ap not c.if-is_err.false))
          (subst (λ (numbers : List ℕ). IsAttempt m base now (choices_of line) (fresh numbers now) made.0) inv.setup made.1)
          made.2 made.3 inv.attempts;
    }

pub returns-clause-attempts : goal.returns-clause-attempts
returns-clause-attempts g c =
    let d = g.M.Dev.OrderedDev in
    let m : Machine d.State = machine_of d in
    let lines = c.args.lines.now in
    all_made m (λ i. d.state (g.M.Maker.fresh_dev (g.M.Maker.setup c.args.maker.now) i)) c.args.base c.args.image c.loop-line.left lines (drop c.loop-line.line-index lines) c.loop-line.attempts.items
    (drop_all c.loop-line.line-index lines c.loop-line-test.false) c.loop-line.invariant.attempts
