use Rattle.std.specs.Prelude.{refl}
use Rattle.host_tests.proofs.machine.wait_ends.begun_waits_end_with_their_event.Goals as goal

pub returns : goal.returns
returns c = record { held = refl; let_go = refl; commit = refl; not_yet = refl; committed = refl; sync_too = refl; durable = refl; not_moved = refl; flushed = refl; queue = refl; room = refl; second = refl }
