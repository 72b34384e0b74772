use Rattle.std.specs.Prelude.{◌<◌}
use Rattle.crash_laws.proofs.CallSteps.{done_is_good, good_pushed}
use Rattle.crash_laws.proofs.laws.calls.pairs_that_are_done_stay_good.Goals as goal

pub returns : goal.returns
returns c = record {
  good = λ h s bound k now f i n trees wrote in_time cut versions same done. done_is_good trees (λ o. o < bound) k now f i n wrote in_time cut versions same done;
  pushed = λ h p k f i n good. good_pushed p k f i n good;
}
