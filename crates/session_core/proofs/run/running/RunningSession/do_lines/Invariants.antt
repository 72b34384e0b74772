-- Along the lines: those that are left from here lead where all of them from the start do.
use Rattle.std.proofs.Common.{◌≡◌, drop}
use Rattle.session_core.specs.run.machine.Machine.{events_of}
use Rattle.session_core.specs.run.code.Session.{after_events, IsAt}
use Rattle.session_core.specs.run.Beginning.{Beginning}
use Rattle.session_core.proofs.run.running.RunningSession.do_lines.Given as goal

abbrev pub invariant-loop-line : goal.invariant-loop-line
invariant-loop-line g l =
    let k = g.S.Scheduler in
    let d = g.D.OrderedDev in
    record {
      step : (b : Beginning k.State d.State) → IsAt k d b l.fn.self → after_events k d b.opening l.self (events_of l.threads (drop l.line-index l.lines)) ≡ after_events k d b.opening l.fn.self (events_of l.threads l.lines);
      reached : (b : Beginning k.State d.State) → IsAt k d b l.fn.self → IsAt k d b l.self;
    }
