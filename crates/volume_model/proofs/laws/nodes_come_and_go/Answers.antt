use Rattle.volume_model.specs.laws.Added.{added_stands, added_just}
use Rattle.volume_model.specs.laws.Removed.{removed_stands}
use Rattle.volume_model.proofs.laws.nodes_come_and_go.Goals as goal

pub returns : goal.returns
returns c = record {
  added = λ g v n q h may. (added_stands g v.blocks v.nodes n q h.0 may, added_just g v.blocks v.nodes n q h.0 may h.1);
  removed = λ g v n p sound h at unnamed. removed_stands g sound v n p h at unnamed;
}
