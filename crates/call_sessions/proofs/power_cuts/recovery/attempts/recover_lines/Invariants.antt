use Rattle.std.proofs.Common.{◌≡◌, drop}
use Rattle.order_model.specs.Machine.{machine_of}
use Rattle.call_sessions.specs.power_cuts.recovery.code.Left.{IsLeft}
use Rattle.call_sessions.proofs.PowerCutsLemmas.RecoveryLemmas.Attempted.{GoOn}
use Rattle.call_sessions.proofs.power_cuts.recovery.attempts.recover_lines.Given as goal

-- with those that are still to be made they are attempts from the first image
abbrev pub invariant-loop-line : goal.invariant-loop-line
invariant-loop-line g l = record {
  setup : g.M.Maker.setup l.maker ≡ g.M.Maker.setup l.fn.maker;
  left : IsLeft l.base l.fn.image l.left;
  attempts : GoOn (machine_of g.M.Dev.OrderedDev) (λ i. g.M.Dev.OrderedDev.state (g.M.Maker.fresh_dev (g.M.Maker.setup l.fn.maker) i)) l.base l.fn.image l.lines l.attempts.items l.left (drop l.line-index l.lines);
}
