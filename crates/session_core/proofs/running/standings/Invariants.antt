use Rattle.std.proofs.Common.{◌≡◌}
use Rattle.session_core.specs.Core.{standings_of}
use Rattle.session_core.proofs.running.standings.Given as goal

abbrev pub invariant-loop-thread : goal.invariant-loop-thread
invariant-loop-thread l = l.standings.items ≡ standings_of l.host l.thread
