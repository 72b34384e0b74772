use Rattle.std.specs.Prelude.{refl}
use Rattle.host_tests.proofs.machine.rows.begun_calls_send_what_they_listed.Goals as goal

pub returns : goal.returns
returns c = record { number = refl; file = refl; of_data = refl; all = refl; sent = refl; ordered = refl; barriers = refl; later = refl; passed = refl; gone = refl; sent_already = refl }
