use Rattle.std.specs.Prelude.{refl}
use Rattle.host_tests.proofs.machine.room.zones_are_lacking_to_the_zone.Goals as goal

pub returns : goal.returns
returns c = record { one = refl; two = refl; three = refl; four = refl; two_unwanted = refl; three_unwanted = refl; four_wanted = refl }
