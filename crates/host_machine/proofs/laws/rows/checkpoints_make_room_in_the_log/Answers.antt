use Rattle.std.specs.Prelude.{refl}
use Rattle.host_machine.proofs.laws.rows.checkpoints_make_room_in_the_log.Goals as goal

pub returns : goal.returns
returns c = record { notes = refl; places = refl; barriers = refl; revoked = refl }
