use Rattle.std.specs.Prelude.{refl}
use Rattle.host_tests.proofs.machine.rows.commit_blocks_are_needed_by_their_calls.Goals as goal

pub returns : goal.returns
returns c = record { needs = refl }
