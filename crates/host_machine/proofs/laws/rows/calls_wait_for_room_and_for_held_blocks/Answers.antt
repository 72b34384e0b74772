use Rattle.std.specs.Prelude.{refl}
use Rattle.host_machine.proofs.laws.rows.calls_wait_for_room_and_for_held_blocks.Goals as goal

pub returns : goal.returns
returns c = record { full = refl; requests = refl; conflict = refl; answered = refl; all = refl }
