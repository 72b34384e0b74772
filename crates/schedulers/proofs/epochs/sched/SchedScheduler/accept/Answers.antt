-- The fields behind a request that was accepted, or came back.
use Rattle.std.proofs.Common.{sym, subst}
use Rattle.schedulers.specs.reassign.Scheduler.{IsAcceptable}
use Rattle.schedulers.specs.reassign.Sched.{seen_of}
use Rattle.schedulers.specs.reassign.laws.Recorded.{accepted_or_back}
use Rattle.schedulers.specs.epochs.code.Fields.{state_of, IsSched}
use Rattle.schedulers.proofs.EpochsLemmas.Steps.{fields_with, accepted_fields}
use Rattle.schedulers.proofs.epochs.sched.SchedScheduler.accept.Goals as goal

pub invariant_of-self : goal.invariant_of-self
invariant_of-self c =
    let s = c.self.inside in
    let a : IsAcceptable (seen_of (state_of s)) c.args.r = subst (λ t. IsAcceptable (seen_of t) c.args.r) (sym c.self.view_is) c.requires in
    let e = c.accept_recorded.ensures in
    accepted_or_back (λ queue history. IsSched (fields_with s queue history s.trace.sent_out)) _ _ _ _ c.args.r _ c.self.invariant (accepted_fields s c.args.r c.self.invariant a) e.when e.ok e.recorded e.kept
