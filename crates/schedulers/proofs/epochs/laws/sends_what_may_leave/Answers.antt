-- What may leave is picked, in order of acceptance.
use Rattle.schedulers.proofs.EpochsLemmas.Picking.{may-pick, pick-may, command-pick, in_order, flag-is}
use Rattle.schedulers.proofs.epochs.laws.sends_what_may_leave.Goals as goal

pub returns-clause-may : goal.returns-clause-may
returns-clause-may c = λ s i v. (may-pick s i v, λ p. pick-may s p.0 i p.1 v p.2)

pub returns-clause-each : goal.returns-clause-each
returns-clause-each c = command-pick

pub returns-clause-order : goal.returns-clause-order
returns-clause-order c = in_order

pub returns-clause-flag : goal.returns-clause-flag
returns-clause-flag c = flag-is
