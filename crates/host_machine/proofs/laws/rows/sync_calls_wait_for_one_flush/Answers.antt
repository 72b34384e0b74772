use Rattle.std.specs.Prelude.{refl}
use Rattle.host_machine.proofs.laws.rows.sync_calls_wait_for_one_flush.Goals as goal

pub returns : goal.returns
returns c = record { sent = refl; moved = refl; flush = refl; flushing = refl; flushed = refl }
