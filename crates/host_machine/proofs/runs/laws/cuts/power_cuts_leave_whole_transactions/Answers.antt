use Rattle.host_machine.proofs.RunsLemmas.Sentences.{sentences}
use Rattle.host_machine.proofs.runs.laws.cuts.power_cuts_leave_whole_transactions.Goals as goal

pub returns : goal.returns
returns g c = record { sentences = λ o tree contract s kept. (kept.rules.0, sentences contract s kept.rules.0 kept.rules.1 kept.rules.2) }
