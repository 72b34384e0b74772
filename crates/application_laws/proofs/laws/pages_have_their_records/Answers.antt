use Rattle.application_laws.proofs.Applied.{logged}
use Rattle.application_laws.proofs.laws.pages_have_their_records.Goals as goal

pub returns : goal.returns
returns c = logged
