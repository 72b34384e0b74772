use Rattle.host_core.proofs.AtOnceLemmas.Answered.{refusal_is_of_tree, answer_is_of_tree}
use Rattle.host_core.proofs.at_once.laws.replies_are_of_the_tree.Goals as goal

pub returns : goal.returns
returns c = record { refused = λ v call reply e. refusal_is_of_tree v call reply e; answered = λ v n tx call. answer_is_of_tree v n tx call }
