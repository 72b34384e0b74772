use Rattle.order_model.specs.Machine.{machine_of}
use Rattle.session_core.specs.Core.{opening_of, start_of}
use Rattle.session_threads.proofs.Ends.{at_ids, events, left_by}
use Rattle.session_threads.proofs.running.end_parts.Goals as goal

pub returns : goal.returns
returns g c =
    let s = c.args.script.now in
    let o = opening_of s in
    let b = start_of s in
    let k = g.S.Scheduler in
    let t = g.D.OrderedDev in
    let l = g.met.D.OrderedDev in
    let sched = k.state c.args.parts.sched in
    let dev = t.state c.args.parts.dev in
    let valid = c.blocks-2.ensures.valid in
    let is = c.requires.sides in
    let h = is.host_is in
    let steps = events k.steps (machine_of t) s _ _ _ _ sched dev is in
    let named = c.hosts_number_their_requests.ensures.requests o b.volume b.ring b.limit b.programs steps h.written h.opened h.journal h.bytes c.requires.blocks in
    let ids = at_ids k.steps (machine_of t) s _ _ _ _ sched dev is named in
    let lawful = c.parts_are_lawful.ensures.lawful dev valid in
    let carries = c.parts_are_lawful.ensures.carries sched c.can_accept.ensures.valid in
    let order = c.joined_parts_keep_the_order.ensures.order _ _ (k.steps.seen sched) (t.seen dev) ids carries lawful is.fit in
    left_by k.steps (machine_of t) s _ _ c.args.parts.effects c.args.parts.host sched dev is c.into_trace.result c.cut.result c.into_trace.ensures c.cut.ensures.image c.cut.ensures.origins c.cut.ensures.trace
    c.requires.device (l.power_cut dev valid).0 (l.failure dev valid) order c.requires.ended
    (c.hosts_of_code_stay_in_session.ensures.kept o b.volume b.ring b.limit b.programs steps c.args.parts.host h.written h.opened h.journal h.bytes h.replay)
    (λ done. c.quiet_devices_keep_all.ensures _ (k.steps.seen sched) (t.seen dev) ids carries lawful.surface (record { accepted = is.fit.accepted; took = is.fit.received }) done.accepted done.none_waits done.taken done.quiet)
    (λ t none. c.ended_threads_did_their_programs.ensures o b.volume b.ring b.limit b.programs steps t none)
