use Rattle.std.specs.Prelude.{refl}
use Rattle.host_tests.proofs.machine.rows.pages_of_changed_files_go_in_order.Goals as goal

pub returns : goal.returns
returns c = record { sent = refl; ordered = refl; barriers = refl; states = refl; built = refl; cut = refl; no_more = refl }
