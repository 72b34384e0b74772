use Rattle.order_model.specs.Machine.{machine_of}
use Rattle.session_moments.proofs.Fronts.{formed, ends, next, last}
use Rattle.session_moments.proofs.laws.fronts_are_scripts.Goals as goal

pub returns : goal.returns
returns g c =
    let k = g.S.Scheduler.steps in
    let m = machine_of g.D.OrderedDev in
    record {
      formed = formed;
      ends = λ s i sched dev. ends s k m sched dev i;
      next = λ s i sched dev e at. next s k m sched dev i e at;
      last = λ s i sched dev le. last s k m sched dev i le;
    }
