use Rattle.std.proofs.Common.{length, refl, ap, ◌∙◌}
use Rattle.commit_actor.specs.Actor.{CommitActor}
use Rattle.flush_actor.specs.Outcomes.{first_since}
use Rattle.flush_actor.specs.Steps.{FlushTurn}
use Rattle.host_machine.specs.Host as machine
use Rattle.host_core.specs.Now.{HostNow, model_now, setup_now}
use Rattle.host_core.specs.code.Fields.{host_of}
use Rattle.host_core.proofs.Kept.{kept, known_still}
use Rattle.host_core.proofs.Turns.{take_done}
use Rattle.host_core.proofs.WaitsKept.{take_keeps}
use Rattle.host_core.proofs.host.Host.take_step.Goals as goal

pub invariant_of-self : goal.invariant_of-self
invariant_of-self g c =
    let e = c.take_step.ensures in
    let i = c.self.inside in
    kept i.parts.journal c.take_step.new.self i.parts.volume i.parts.volume i.parts.known i.parts.known i.threads.items i.history.items c.self.invariant (ap (λ (a : CommitActor). a.blocks) e.same) refl
    (ap (λ (x : FlushTurn). length x.part.waits) e.step ∙ take_keeps (first_since (g.I.Inlet.taken c.args.from.now) (g.I.Inlet.taken c.take_step.new.from)) i.parts.journal.part.flush) (known_still i.parts.volume i.parts.known)

pub returns-clause-step : goal.returns-clause-step
returns-clause-step g c =
    let e = c.take_step.ensures in
    let i = c.self.inside in
    let h = host_of i.parts.journal i.parts.volume i.parts.pages i.parts.owners.items i.history.items i.cuts.items i.threads.items in
    let next = first_since (g.I.Inlet.taken c.args.from.now) (g.I.Inlet.taken c.take_step.new.from) in
    take_done (model_now h) (setup_now h) h.host next c.take_step.new.self.part c.take_step.result e.step (ap (λ (a : CommitActor). a.part) e.same)
    ∙ ap (λ (x : HostNow). machine.take_step (model_now x) (setup_now x) x.host next) c.self.view_is
