-- Along the threads: those that are left from here lead where all of them from the start do.
use Rattle.std.proofs.Common.{◌≡◌, ◌+◌, ◌-◌}
use Rattle.session_core.specs.run.code.Session.{after_events, IsAt}
use Rattle.session_core.specs.run.Beginning.{Beginning}
use Rattle.session_core.proofs.RunLemmas.Lines.{calls_from}
use Rattle.session_core.proofs.run.running.RunningSession.call_all.Given as goal

abbrev pub invariant-loop-before : goal.invariant-loop-before
invariant-loop-before g l =
    let k = g.S.Scheduler in
    let d = g.D.OrderedDev in
    record {
      step : (b : Beginning k.State d.State) → IsAt k d b l.fn.self → after_events k d b.opening l.self (calls_from (l.before + 1) (l.threads - l.before)) ≡ after_events k d b.opening l.fn.self (calls_from 1 l.threads);
      reached : (b : Beginning k.State d.State) → IsAt k d b l.fn.self → IsAt k d b l.self;
    }
