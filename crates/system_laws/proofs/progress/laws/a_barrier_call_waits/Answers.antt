use Rattle.system_laws.proofs.ProgressLemmas.SomeWaits.{waits, under, ended}
use Rattle.system_laws.proofs.progress.laws.a_barrier_call_waits.Goals as goal

pub returns : goal.returns
returns c = record { waits = waits; under_way = under; answered = ended }
