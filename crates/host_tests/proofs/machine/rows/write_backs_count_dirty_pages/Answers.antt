use Rattle.std.specs.Prelude.{refl}
use Rattle.host_tests.proofs.machine.rows.write_backs_count_dirty_pages.Goals as goal

pub returns : goal.returns
returns c = record { first = refl; second = refl; third = refl; past = refl }
