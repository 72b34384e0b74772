use Rattle.std.specs.Prelude.{refl}
use Rattle.host_tests.proofs.machine.ways.failures_end_calls.Goals as goal

pub returns : goal.returns
returns c = record { changes = refl; on_its_way = refl; reads = refl; down = refl; begun_down = refl; reads_down = refl }
