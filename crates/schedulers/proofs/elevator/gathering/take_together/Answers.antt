-- The request that leaves, and those that its command takes along.
use Rattle.std.proofs.Common.{slice_get, sym, ap, subst, ◌∙◌}
use Rattle.schedulers.specs.reassign.Epoch.{EpochState, departed}
use Rattle.schedulers.specs.elevator.laws.Eligible.{IsRising}
use Rattle.schedulers.proofs.ElevatorLemmas.Joining.{departed_rising}
use Rattle.schedulers.proofs.ElevatorLemmas.Steps.{leaving-some, put_together, together_command}
use Rattle.schedulers.proofs.elevator.gathering.take_together.Goals as goal

pub gather-requires-clause-rising : goal.gather-requires-clause-rising
gather-requires-clause-rising c =
    let q = c.args.queue.now in
    let o = slice_get q.waiting c.args.at in
    let e = c.in-Some.ensures in
    let l = leaving-some q o c.in-Some.first c.in-Some.flagged e.given in
    subst (λ (p : EpochState). IsRising p.waiting) (sym (e.state ∙ ap (departed q) l.1)) (departed_rising q l.0 c.requires.rising)

pub returns-in-Some-next-clause-command : goal.returns-in-Some-next-clause-command
returns-in-Some-next-clause-command c =
    let q = c.args.queue.now in
    let o = slice_get q.waiting c.args.at in
    let e = c.in-Some.ensures in
    sym (together_command q o (record { queue = _; command = _ }) (put_together q o c.in-Some.first c.in-Some.flagged c.in-Some-next.block _ _ _ e.given e.state c.carry.ensures c.in-Some-next.ensures c.gather.ensures))
