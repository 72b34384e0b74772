-- Along the repeats: those that are left from here lead where all of them from the start do.
use Rattle.std.proofs.Common.{◌≡◌, ◌-◌}
use Rattle.session_core.specs.run.machine.Machine.{repeated, word_events}
use Rattle.session_core.specs.run.code.Session.{after_events, IsAt}
use Rattle.session_core.specs.run.Beginning.{Beginning}
use Rattle.session_core.proofs.run.running.RunningSession.do_line.Given as goal

abbrev pub invariant-loop-done : goal.invariant-loop-done
invariant-loop-done g l =
    let k = g.S.Scheduler in
    let d = g.D.OrderedDev in
    record {
      step : (b : Beginning k.State d.State) → IsAt k d b l.fn.self → after_events k d b.opening l.self (repeated (l.line.count - l.done) (word_events l.threads l.line.what)) ≡ after_events k d b.opening l.fn.self (repeated l.line.count (word_events l.threads l.line.what));
      reached : (b : Beginning k.State d.State) → IsAt k d b l.fn.self → IsAt k d b l.self;
    }
