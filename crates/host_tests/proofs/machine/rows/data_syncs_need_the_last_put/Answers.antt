use Rattle.std.specs.Prelude.{refl}
use Rattle.host_tests.proofs.machine.rows.data_syncs_need_the_last_put.Goals as goal

pub returns : goal.returns
returns c = record { last = refl; needs = refl; no_flush = refl; none = refl; flush_alone = refl; target = refl; behind = refl }
