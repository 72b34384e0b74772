use Rattle.std.proofs.Common.{length}
use Rattle.order_model.specs.Machine.{machine_of}
use Rattle.session_core.specs.run.machine.Machine.{opened_session, events_of}
use Rattle.session_core.specs.Core.{opening_of, start_of}
use Rattle.session_core.specs.code.Ends.{session_on}
use Rattle.session_core.proofs.Made.{with_threads, ends_in, keeps_order, behind_of, device_of, end_fits}
use Rattle.session_core.proofs.running.run_scheduled.Goals as goal

pub run_session-requires : goal.run_session-requires
run_session-requires gg c =
    let s = c.args.script.now in
    (opening_of s, start_of s, with_threads _ _ s c.args.host (gg.S.Scheduler.state c.args.sched) (gg.D.OrderedDev.state c.args.dev) c.len-threads.result c.len-threads.ensures c.check_parts.ensures)

pub returns-clause-end : goal.returns-clause-end
returns-clause-end gg c =
    let s = c.args.script.now in
    let sched = gg.S.Scheduler.state c.args.sched in
    let dev = gg.D.OrderedDev.state c.args.dev in
    let made = with_threads _ _ s c.args.host sched dev c.len-threads.result c.len-threads.ensures c.check_parts.ensures in
    ends_in gg.S.Scheduler.steps (machine_of gg.D.OrderedDev) s sched dev _ c.run_session.result c.as_slice-lines.ensures (c.run_session.ensures.end (opening_of s) (start_of s) made)

pub returns-clause-order : goal.returns-clause-order
returns-clause-order gg c =
    let s = c.args.script.now in
    let sched = gg.S.Scheduler.state c.args.sched in
    let dev = gg.D.OrderedDev.state c.args.dev in
    let made = with_threads _ _ s c.args.host sched dev c.len-threads.result c.len-threads.ensures c.check_parts.ensures in
    keeps_order gg.S.Scheduler.steps (machine_of gg.D.OrderedDev) s sched dev _ c.run_session.result c.as_slice-lines.ensures (c.run_session.ensures.order (opening_of s) (start_of s) made)

pub returns-clause-behind : goal.returns-clause-behind
returns-clause-behind gg c =
    let s = c.args.script.now in
    let k = gg.S.Scheduler in
    let sched = k.state c.args.sched in
    let dev = gg.D.OrderedDev.state c.args.dev in
    behind_of k.steps (machine_of gg.D.OrderedDev) s sched dev c.run_session.result
    (c.hosts_of_sessions_take_their_steps.ensures.steps (opening_of s) (opened_session (opening_of s) (start_of s) sched dev) (events_of (length s.programs) s.events))

pub returns-clause-fits : goal.returns-clause-fits
returns-clause-fits gg c =
    let s = c.args.script.now in
    let k = gg.S.Scheduler in
    let sched = k.state c.args.sched in
    let dev = gg.D.OrderedDev.state c.args.dev in
    let from = c.check_parts.ensures.begins in
    end_fits k.steps (machine_of gg.D.OrderedDev) s sched dev c.run_session.result
    (c.parts_of_sessions_fit.ensures.fit (opening_of s) (start_of s) sched dev (events_of (length s.programs) s.events)
    from.written from.opened from.journal from.bytes from.sched_is from.dev_is from.starts)

pub returns-clause-device : goal.returns-clause-device
returns-clause-device gg c =
    let s = c.args.script.now in
    let k = gg.S.Scheduler in
    let t = gg.D.OrderedDev in
    let l = gg.met.D.OrderedDev in
    let sched = k.state c.args.sched in
    let dev = t.state c.args.dev in
    let from = c.check_parts.ensures.begins in
    let events = events_of (length s.programs) s.events in
    let last = (session_on s k.steps (machine_of t) sched dev).dev in
    let valid = (c.parts_of_sessions_fit.ensures.valid (opening_of s) (start_of s) sched dev events
    from.written from.opened from.journal from.bytes from.sched_is from.dev_is from.starts).1 in
    device_of k.steps (machine_of t) s sched dev c.run_session.result c.requires.device.setup
    (c.parts_of_sessions_fit.ensures.made (opening_of s) (start_of s) sched dev events
    from.written from.opened from.journal from.bytes from.sched_is from.dev_is from.starts)
    (l.power_cut last valid).0 (l.failure last valid)

pub returns-clause-calls : goal.returns-clause-calls
returns-clause-calls gg c =
    let s = c.args.script.now in
    let made = with_threads _ _ s c.args.host (gg.S.Scheduler.state c.args.sched) (gg.D.OrderedDev.state c.args.dev) c.len-threads.result c.len-threads.ensures c.check_parts.ensures in
    c.run_session.ensures.calls (opening_of s) (start_of s) made
