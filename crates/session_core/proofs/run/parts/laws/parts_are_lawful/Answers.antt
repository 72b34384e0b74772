use Rattle.session_core.proofs.run.parts.laws.parts_are_lawful.Goals as goal

pub returns : goal.returns
returns g c =
    let l = g.met.D.OrderedDev in
    record {
      carries = λ sched is. g.met.S.Scheduler.keeps.carries sched is;
      lawful = λ dev is. record { surface = l.surface dev is; epochs = l.epoch_order dev is; flush = l.flush dev is; completes = l.completion dev is };
    }
