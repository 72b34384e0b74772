-- Along the events: those that are left from here lead where all of them from the start do.
use Rattle.std.proofs.Common.{◌≡◌, drop}
use Rattle.session_core.specs.run.code.Session.{after_events, IsAt}
use Rattle.session_core.specs.run.Beginning.{Beginning}
use Rattle.session_core.proofs.run.running.RunningSession.do_all.Given as goal

abbrev pub invariant-loop-event : goal.invariant-loop-event
invariant-loop-event g l =
    let k = g.S.Scheduler in
    let d = g.D.OrderedDev in
    record {
      step : (b : Beginning k.State d.State) → IsAt k d b l.fn.self → after_events k d b.opening l.self (drop l.event-index l.list) ≡ after_events k d b.opening l.fn.self (l.list);
      reached : (b : Beginning k.State d.State) → IsAt k d b l.fn.self → IsAt k d b l.self;
    }
