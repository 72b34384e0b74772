use Rattle.std.specs.Prelude.{refl}
use Rattle.host_tests.proofs.machine.room.commit_blocks_bring_bodies_in.Goals as goal

pub returns : goal.returns
returns c = record { homes = refl; revoked = refl; order = refl; not_before = refl; revoked_first = refl }
