use Rattle.volume_ops.proofs.FirstUnique.{first_told}
use Rattle.volume_ops.proofs.WalkTests.{walked_first, no_defect}
use Rattle.volume_ops.proofs.laws.faults_are_first_defects.Goals as goal

pub returns : goal.returns
returns c = record {
  defect = λ g blocks fault block some e. (walked_first g blocks fault block some e).1;
  first = λ g blocks fault block some e. (walked_first g blocks fault block some e).0;
  told = λ g blocks fault block some first. first_told g blocks some fault block first;
  none = λ g blocks fault block h. no_defect g blocks h fault block;
}
