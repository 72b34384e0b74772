use Rattle.std.specs.Prelude.{not, refl}
use Rattle.std.proofs.Common.{ap}
use Rattle.minix_host.specs.Calls.{would_change}
use Rattle.host_tests.proofs.StillNames.{still_rename}
use Rattle.host_tests.proofs.still_calls.calls_that_change_nothing_wait_for_nothing.Goals as goal

pub returns : goal.returns
unfolding would_change
returns c = record {
  read = λ v path off len. refl;
  list = λ v path. refl;
  stat = λ v path. refl;
  fsync = λ v path. refl;
  fdatasync = λ v path. refl;
  fbarrier = λ v path. refl;
  fdatabarrier = λ v path. refl;
  sync = λ v. refl;
  rename = still_rename;
  truncate = λ v path size still. ap not still;
}
