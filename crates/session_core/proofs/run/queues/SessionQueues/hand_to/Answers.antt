-- The queue behind the scheduler hands over its first.
use Rattle.std.proofs.Common.{sym, ap, ◌∙◌}
use Rattle.session_core.specs.run.code.Queues.{QueuesNow}
use Rattle.session_core.proofs.run.queues.SessionQueues.hand_to.Goals as goal

pub hand_to-requires : goal.hand_to-requires
hand_to-requires g c = λ command others waits. c.requires command others (sym (ap (λ (q : QueuesNow). q.dispatched) c.self.view_is) ∙ waits)
