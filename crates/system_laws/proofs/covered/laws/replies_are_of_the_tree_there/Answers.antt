use Rattle.system_laws.proofs.CoveredLemmas.Replies.{replied_there}
use Rattle.system_laws.proofs.covered.laws.replies_are_of_the_tree_there.Goals as goal

pub returns : goal.returns
returns c = replied_there
