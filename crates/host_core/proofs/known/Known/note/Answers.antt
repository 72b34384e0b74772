use Rattle.std.proofs.Common.{subst}
use Rattle.blk_base.specs.Members.{In}
use Rattle.blk_base.specs.laws.Members.{In-push_cases}
use Rattle.host_core.proofs.known.Known.note.Goals as goal

pub returns-then-len-capacity-clause-calls : goal.returns-then-len-capacity-clause-calls
returns-then-len-capacity-clause-calls c k i = In-push_cases c.args.self.now.calls.items c.args.call k (subst (In k) c.push_reserved.ensures.items i)
