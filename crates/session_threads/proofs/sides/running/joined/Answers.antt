use Rattle.order_model.specs.Machine.{machine_of}
use Rattle.session_threads.proofs.SidesLemmas.Fits.{sides_joined}
use Rattle.session_threads.proofs.sides.running.joined.Goals as goal

pub returns-clause-sides : goal.returns-clause-sides
returns-clause-sides g c =
    let h = c.into_parts-host in
    let p = c.into_parts-sched in
    let d = c.into_parts-dev in
    sides_joined g.N.SessionNames.opening g.N.SessionNames.start g.S.Scheduler.steps _ (machine_of g.D.OrderedDev) _ _ h.result.0 h.result.2.passed h.result.3.passed _ p.result.3.passed p.result.2.passed _ d.result.3.passed d.result.2.passed
    h.ensures.side p.ensures.side d.ensures.side c.close.ensures.requests c.close.ensures.commands c.close.ensures.completions
