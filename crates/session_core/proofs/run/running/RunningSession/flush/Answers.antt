-- The flush actor's step is the session's.
use Rattle.std.proofs.Common.{length, arith}
use Rattle.order_model.specs.Machine.{machine_of}
use Rattle.session_core.specs.run.machine.Fits.{IsDevice}
use Rattle.session_core.specs.run.code.Session.{IsAt}
use Rattle.session_core.specs.run.Beginning.{Beginning}
use Rattle.session_core.proofs.RunLemmas.Reaching.{leads_flush, within_limit}
use Rattle.session_core.proofs.run.running.RunningSession.flush.Goals as goal

pub returns-then-taken-limit : goal.returns-then-taken-limit
returns-then-taken-limit g c =
    let k = g.S.Scheduler in
    let d = g.D.OrderedDev in
    let device : IsDevice (machine_of d) d.valid = record { receives = g.met.D.OrderedDev.receives; transfers = g.met.D.OrderedDev.transfers; persists = g.met.D.OrderedDev.persists; no_transfer = g.met.D.OrderedDev.no_transfer; no_persist = g.met.D.OrderedDev.no_persist; answers = g.met.D.OrderedDev.answers; surface = g.met.D.OrderedDev.surface } in
    let r = c.args.self.now in
    let few = within_limit (length r.host.host.journal.flush.taken) r.host.host.journal.flush.limit (omega arith) in
    let led = λ (b : Beginning k.State d.State) (at : IsAt k d b r). leads_flush k.steps (machine_of d) k.valid d.valid g.met.S.Scheduler.keeps device b r.host r.queues (k.state r.sched) (d.state r.dev) at c.flush.new.host c.flush.new.self few c.flush.ensures.host c.flush.ensures.queues in
    record { step = λ b at. (led b at).step; reached = λ b at. (led b at).reached }
