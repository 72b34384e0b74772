use Rattle.std.specs.Prelude.{refl}
use Rattle.host_tests.proofs.machine.room.log_blocks_are_counted.Goals as goal

pub returns : goal.returns
returns c = record { none = refl; one = refl; one_descriptor = refl; two_descriptors = refl; one_revoke_block = refl; two_revoke_blocks = refl }
