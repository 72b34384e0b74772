use Rattle.std.specs.Prelude.{refl}
use Rattle.host_tests.proofs.machine.wait_ends.plain_waits_end_with_the_transaction.Goals as goal

pub returns : goal.returns
returns c = record { closing = refl; closed = refl; full = refl; full_closing = refl; full_closed = refl; zones = refl; zones_free = refl }
