-- The fields behind a request that was accepted, or came back.
use Rattle.std.proofs.Common.{sym, subst}
use Rattle.schedulers.specs.reassign.Scheduler.{IsAcceptable}
use Rattle.schedulers.specs.reassign.laws.Recorded.{accepted_or_back}
use Rattle.schedulers.specs.elevator.Elevator.{seen_of}
use Rattle.schedulers.specs.elevator.code.Fields.{state_of, IsInside}
use Rattle.schedulers.proofs.ElevatorLemmas.Steps.{fields_with, accepted_fields}
use Rattle.schedulers.proofs.elevator.elevator.ElevatorScheduler.accept.Goals as goal

pub invariant_of-self : goal.invariant_of-self
invariant_of-self c =
    let s = c.self.inside in
    let a : IsAcceptable (seen_of (state_of s)) c.args.r = subst (λ t. IsAcceptable (seen_of t) c.args.r) (sym c.self.view_is) c.requires in
    let e = c.accept_recorded.ensures in
    accepted_or_back (λ queue history. IsInside (fields_with s.limit queue s.head history s.trace.sent_out)) _ _ _ _ c.args.r _ c.self.invariant (accepted_fields s c.args.r c.self.invariant a) e.when e.ok e.recorded e.kept
