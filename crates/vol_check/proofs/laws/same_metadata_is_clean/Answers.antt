use Rattle.vol_check.proofs.SameMetadata.{same_clean}
use Rattle.vol_check.proofs.laws.same_metadata_is_clean.Goals as goal

pub returns : goal.returns
returns c g blocks other sound faultless agree = same_clean g sound blocks other agree faultless
