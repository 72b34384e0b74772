use Rattle.std.specs.Prelude.{refl}
use Rattle.host_tests.proofs.machine.rows.data_barriers_wait_for_changes_alone.Goals as goal

pub returns : goal.returns
returns c = record { done = refl; others = refl; none_sent = refl; none_sent_wants = refl; running = refl; running_wants = refl; before = refl; before_wants = refl; built = refl; both = refl; out = refl; file = refl; file_wants = refl }
