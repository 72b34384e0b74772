use Rattle.session_core.proofs.Seen.{later_survived}
use Rattle.session_core.proofs.laws.what_is_shown_later_survived.Goals as goal

pub returns : goal.returns
returns c = later_survived
