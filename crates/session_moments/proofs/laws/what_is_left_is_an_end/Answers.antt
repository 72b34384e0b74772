use Rattle.std.proofs.Common.{length}
use Rattle.std.specs.Prelude.{Result, Ok}
use Rattle.order_model.specs.Machine.{machine_of}
use Rattle.blk_base.specs.declared.memory.NoMemory.{NoMemory}
use Rattle.session_core.specs.declared.run.session.SessionEnd.{SessionEnd}
use Rattle.session_core.specs.run.machine.Machine.{opened_session, events_of}
use Rattle.session_core.specs.Core.{opening_of, start_of}
use Rattle.session_core.specs.code.Ends.{session_on}
use Rattle.session_core.proofs.Made.{behind_of, device_of, end_fits}
use Rattle.session_core.proofs.RunLemmas.Ended.{order_at_end}
use Rattle.session_moments.proofs.laws.what_is_left_is_an_end.Goals as goal

pub returns : goal.returns
returns g c = λ s h sched first left made setup same is calls.
    let k = g.S.Scheduler in
    let t = g.D.OrderedDev in
    let l = g.met.D.OrderedDev in
    let from = made.begins in
    let es = events_of (length s.programs) s.events in
    let o = opening_of s in
    let b = start_of s in
    let last = (session_on s k.steps (machine_of t) sched first).dev in
    let one : Result SessionEnd NoMemory = Ok left in
    let parts = c.parts_of_sessions_fit.ensures in
    let valid = (parts.valid o b sched first es from.written from.opened from.journal from.bytes from.sched_is from.dev_is from.starts).1 in
    record {
      left = record { host = is.host; sched = is.sched; image = is.image; origins = is.origins; trace = is.trace };
      calls = calls;
      behind = behind_of k.steps (machine_of t) s sched first one (c.hosts_of_sessions_take_their_steps.ensures.steps o (opened_session o b sched first) es);
      fits = end_fits k.steps (machine_of t) s sched first one (parts.fit o b sched first es from.written from.opened from.journal from.bytes from.sched_is from.dev_is from.starts);
      device = device_of k.steps (machine_of t) s sched first one setup (parts.made o b sched first es from.written from.opened from.journal from.bytes from.sched_is from.dev_is from.starts)
          (l.power_cut last valid).0 (l.failure last valid);
      order = order_at_end k.steps (machine_of t) o (session_on s k.steps (machine_of t) sched first) left is
          (c.sessions_keep_order_to_the_medium.ensures.order o b sched first es from.written from.opened from.journal from.bytes from.sched_is from.dev_is from.starts same);
    }
