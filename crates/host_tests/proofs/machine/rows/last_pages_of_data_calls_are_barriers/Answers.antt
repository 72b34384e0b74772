use Rattle.std.specs.Prelude.{refl}
use Rattle.host_tests.proofs.machine.rows.last_pages_of_data_calls_are_barriers.Goals as goal

pub returns : goal.returns
returns c = record { of_data = refl; sync = refl; file = refl; file_sync = refl; kept = refl; kept_done = refl; left = refl; again = refl }
