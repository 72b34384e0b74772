use Rattle.barrierfs_top.proofs.OneEnd.{one_end}
use Rattle.barrierfs_top.proofs.laws.inputs_end_in_one_way.Goals as goal

pub returns : goal.returns
returns c = one_end
