use Rattle.std.specs.Prelude.{refl}
use Rattle.host_tests.proofs.machine.holds.one_flush_serves_all_before_it.Goals as goal

pub returns : goal.returns
returns c = record { not_moved = refl; one = refl; both = refl; later = refl; same = refl }
