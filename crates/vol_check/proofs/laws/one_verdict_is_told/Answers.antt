use Rattle.vol_check.proofs.Firsts.{one_verdict}
use Rattle.vol_check.proofs.laws.one_verdict_is_told.Goals as goal

pub returns : goal.returns
returns c = one_verdict
