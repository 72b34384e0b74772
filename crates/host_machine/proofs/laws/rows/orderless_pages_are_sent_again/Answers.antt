use Rattle.std.specs.Prelude.{refl}
use Rattle.host_machine.proofs.laws.rows.orderless_pages_are_sent_again.Goals as goal

pub returns : goal.returns
returns c = record { notes = refl; ordered = refl; barriers = refl; answered = refl }
