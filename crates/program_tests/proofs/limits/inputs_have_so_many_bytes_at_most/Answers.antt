use Rattle.std.specs.Prelude.{refl}
use Rattle.program_tests.proofs.limits.inputs_have_so_many_bytes_at_most.Goals as goal

pub returns : goal.returns
returns c = record { replay = λ raw. refl; run = λ raw. refl; kv = refl; show = refl; widen = λ raw. refl; check = refl }
