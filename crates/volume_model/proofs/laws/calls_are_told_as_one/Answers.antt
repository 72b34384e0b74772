use Rattle.blk_base.specs.Members.{In}
use Rattle.volume_model.specs.laws.Touched.{tells_then}
use Rattle.volume_model.proofs.laws.calls_are_told_as_one.Goals as goal

pub returns : goal.returns
returns c g u v w s t first second = tells_then g u v w s t (λ birth index. In (birth, index) first) (λ birth index. In (birth, index) second)
