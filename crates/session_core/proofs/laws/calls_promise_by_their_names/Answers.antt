use Rattle.session_core.proofs.CallNames.{begun, durable, data_alone, all}
use Rattle.session_core.proofs.laws.calls_promise_by_their_names.Goals as goal

pub returns : goal.returns
returns c = record { begun = begun; durable = durable; data_alone = data_alone; all = all }
