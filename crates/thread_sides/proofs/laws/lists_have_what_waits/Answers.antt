use Rattle.thread_sides.proofs.Lists.{nothing_eligible, nothing_waits}
use Rattle.thread_sides.proofs.laws.lists_have_what_waits.Goals as goal

pub returns : goal.returns
returns g c = λ s ok. let keeps = g.met.S.Scheduler.keeps in (nothing_waits _ _ keeps s ok, nothing_eligible _ _ keeps s ok)
