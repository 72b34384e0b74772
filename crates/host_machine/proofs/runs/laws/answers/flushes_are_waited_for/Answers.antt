use Rattle.host_machine.proofs.RunsLemmas.FlushWaits.{are_waited_for}
use Rattle.host_machine.proofs.runs.laws.answers.flushes_are_waited_for.Goals as goal

pub returns : goal.returns
returns g c = record { waited = λ o v ring zones limit programs events. are_waited_for o v ring zones limit programs events }
