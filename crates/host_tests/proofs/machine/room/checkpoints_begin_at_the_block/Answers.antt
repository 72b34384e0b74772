use Rattle.std.specs.Prelude.{refl}
use Rattle.host_tests.proofs.machine.room.checkpoints_begin_at_the_block.Goals as goal

pub returns : goal.returns
returns c = record { fits = refl; fits_sends_nothing = refl; not_yet = refl; notes = refl; barriers = refl; bodies = refl; free = refl; then_built = refl; used = refl; head = refl; next = refl; plan = refl; plan_places = refl; plan_barriers = refl; homes = refl; idle = refl }
