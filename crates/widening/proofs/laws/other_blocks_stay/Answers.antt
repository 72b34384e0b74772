use Rattle.widening.proofs.WidenedTrees.{same_length, same_bytes, same_behind}
use Rattle.widening.proofs.laws.other_blocks_stay.Goals as goal

pub returns-clause-length : goal.returns-clause-length
returns-clause-length c = same_length

pub returns-clause-bytes : goal.returns-clause-bytes
returns-clause-bytes c = λ blocks image v all b h. same_bytes blocks image v h all b

pub returns-clause-behind : goal.returns-clause-behind
returns-clause-behind c = λ blocks image v b h. same_behind blocks image v h b
