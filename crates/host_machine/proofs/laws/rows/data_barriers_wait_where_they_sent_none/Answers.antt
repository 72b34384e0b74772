use Rattle.std.specs.Prelude.{refl}
use Rattle.host_machine.proofs.laws.rows.data_barriers_wait_where_they_sent_none.Goals as goal

pub returns : goal.returns
returns c = record { on_its_way = refl; nothing_to_send = refl; cut = refl }
