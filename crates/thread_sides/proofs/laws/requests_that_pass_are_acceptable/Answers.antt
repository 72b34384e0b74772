use Rattle.thread_sides.proofs.Admitting.{acceptable, flagged_more}
use Rattle.thread_sides.proofs.laws.requests_that_pass_are_acceptable.Goals as goal

pub returns-clause-may : goal.returns-clause-may
returns-clause-may c = λ p flags r fl limit may. acceptable p flags r fl limit may

pub returns-clause-more : goal.returns-clause-more
returns-clause-more c = λ ids flags id old. flagged_more ids flags id old
