use Rattle.std.specs.Prelude.{refl}
use Rattle.host_tests.proofs.machine.room.shares_are_full_to_the_block.Goals as goal

pub returns : goal.returns
returns c = record { fits = refl; body = refl; revoke = refl; fits_unwanted = refl; body_wanted = refl }
