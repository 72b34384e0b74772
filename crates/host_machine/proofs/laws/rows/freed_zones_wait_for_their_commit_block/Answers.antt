use Rattle.std.specs.Prelude.{refl}
use Rattle.host_machine.proofs.laws.rows.freed_zones_wait_for_their_commit_block.Goals as goal

pub returns : goal.returns
returns c = record { synced = refl; waits = refl; notes = refl; answered = refl; held = refl }
