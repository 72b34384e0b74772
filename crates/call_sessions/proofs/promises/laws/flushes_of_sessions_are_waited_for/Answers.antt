use Rattle.host_machine.proofs.RunsLemmas.FlushWaits.{are_waited_for}
use Rattle.call_sessions.specs.Sessions.{call_over}
use Rattle.call_sessions.proofs.promises.laws.flushes_of_sessions_are_waited_for.Goals as goal

pub returns : goal.returns
returns c = λ s v ring limit programs events. are_waited_for (call_over s) v ring s.geometry.zones limit programs events
