use Rattle.std.specs.Prelude.{refl}
use Rattle.image_tests.proofs.CallRules.{indirect_next, double_next, behind_double_next, behind_it_next}
use Rattle.image_tests.proofs.calling.blocks_take_zones_before_their_numbers.Goals as goal

pub returns : goal.returns
returns c = record {
  own = λ own index m. refl;
  indirect = indirect_next;
  double = double_next;
  behind_double = behind_double_next;
  behind_it_alone = behind_it_next;
}
