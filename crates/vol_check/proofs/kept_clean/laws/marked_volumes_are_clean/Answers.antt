use Rattle.vol_check.proofs.KeptCleanLemmas.PlainClean.{marked_clean, clean_marked}
use Rattle.vol_check.proofs.kept_clean.laws.marked_volumes_are_clean.Goals as goal

pub returns : goal.returns
returns c v plain = (clean_marked v plain, marked_clean v plain)
