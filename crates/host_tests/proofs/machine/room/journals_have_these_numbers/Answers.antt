use Rattle.std.specs.Prelude.{refl}
use Rattle.host_tests.proofs.machine.room.journals_have_these_numbers.Goals as goal

pub returns : goal.returns
returns c = record { tags = refl; numbers = refl; wide_tags = refl; wide_numbers = refl; quarter = refl; quarter_more = refl; first = refl; third = refl }
