use Rattle.blk_base.specs.Members.{In}
use Rattle.volume_model.specs.laws.NodeMoves.{changed_stands, changed_just}
use Rattle.volume_model.proofs.laws.changed_node_stands.Goals as goal

pub returns : goal.returns
returns c = record {
  stands = λ g v after n p q written. changed_stands g v.blocks after v.nodes n p q (λ z. In z written);
  just = λ g v after n p q written. changed_just g v.blocks after v.nodes n p q (λ z. In z written);
}
