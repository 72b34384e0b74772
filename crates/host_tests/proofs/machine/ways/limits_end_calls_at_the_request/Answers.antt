use Rattle.std.specs.Prelude.{refl}
use Rattle.host_tests.proofs.machine.ways.limits_end_calls_at_the_request.Goals as goal

pub returns : goal.returns
returns c = record { page = refl; commit = refl; commit_fits = refl; barrier_needs_none = refl; flush = refl; flush_fits = refl; flush_sent = refl; flush_done = refl; begins = refl; plain = refl }
