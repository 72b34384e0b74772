use Rattle.std.specs.Prelude.{refl}
use Rattle.host_tests.proofs.machine.holds.holds_end_with_commit_block_or_flush.Goals as goal

pub returns : goal.returns
returns c = record { running = refl; built = refl; again = refl; ends = refl; wanted = refl; another = refl; file_sync = refl; data_sync = refl; whole_sync = refl; barrier = refl; other_target = refl; flushed = refl; before = refl; both = refl }
