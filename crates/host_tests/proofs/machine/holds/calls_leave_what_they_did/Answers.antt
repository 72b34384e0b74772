use Rattle.std.specs.Prelude.{refl}
use Rattle.host_tests.proofs.machine.holds.calls_leave_what_they_did.Goals as goal

pub returns : goal.returns
returns c = record { touched = refl; revoked = refl; changed = refl; number = refl; unwanted = refl; wanted = refl; pages = refl; old_zone = refl; new_zone = refl; waits = refl; nothing_sent = refl }
