use Rattle.std.specs.Prelude.{refl}
use Rattle.host_tests.proofs.machine.ways.calls_go_step_by_step.Goals as goal

pub returns : goal.returns
returns c = record { data_barrier = refl; data_sync = refl; file_barrier = refl; whole_sync = refl; plan = refl; plan_barriers = refl; before = refl; done = refl; later = refl; sync_committed = refl; sync_unmoved = refl; sync_flush = refl; sync_waits = refl; sync_done = refl }
