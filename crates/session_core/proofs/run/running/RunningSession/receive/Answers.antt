-- The queues hand the device what is first in them.
use Rattle.order_model.specs.Machine.{machine_of}
use Rattle.session_core.proofs.RunLemmas.Handed.{handed_parts}
use Rattle.session_core.proofs.run.running.RunningSession.receive.Goals as goal

pub returns-clause-step : goal.returns-clause-step
returns-clause-step g c = λ s.
    let k = g.S.Scheduler in
    let d = g.D.OrderedDev in
    let r = c.args.self.now in
    handed_parts (machine_of d) r.host r.queues c.hand_to.new.self (k.state r.sched) (d.state r.dev) (d.state c.hand_to.new.dev) c.hand_to.ensures.step c.hand_to.ensures.completions c.hand_to.ensures.kept
