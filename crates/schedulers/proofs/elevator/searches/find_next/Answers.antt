-- One place more.
use Rattle.std.proofs.Common.{◌+◌, sym, subst, ◌∙◌}
use Rattle.schedulers.specs.elevator.code.Found.{IsBest}
use Rattle.schedulers.proofs.ElevatorLemmas.Finding.{better_keeps, skip_keeps}
use Rattle.schedulers.proofs.elevator.searches.find_next.Goals as goal
use Rattle.schedulers.proofs.elevator.searches.find_next.Goals.{in-Some, in_default}

pub loop-i-preserved : goal.loop-i-preserved
loop-i-preserved c =
    let ws = c.args.queue.now.waiting in
    let i = c.loop-i.i in
    elim c.match-put_block.branch [
      | in-Some w ↦
          subst (IsBest ws c.args.head c.args.after (i + 1)) (sym (w.best-is ∙ w.better-best.ensures))
          (better_keeps ws c.args.head c.args.after i w.in-Some.block c.loop-i.best c.loop-i.invariant (sym c.put_block.ensures ∙ w.in-Some.is))
      | in_default w ↦
          subst (IsBest ws c.args.head c.args.after (i + 1)) (sym w.best-is)
          (skip_keeps ws c.args.head c.args.after i c.loop-i.best c.loop-i.invariant (sym c.put_block.ensures ∙ w.in_default.is))
    ]
