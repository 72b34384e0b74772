use Rattle.std.specs.Prelude.{refl}
use Rattle.host_machine.proofs.laws.rows.file_barriers_wait_for_no_device.Goals as goal

pub returns : goal.returns
returns c = record { notes = refl; places = refl; barriers = refl; answered = refl }
