use Rattle.session_threads.proofs.SidesLemmas.HostSteps.{opens}
use Rattle.session_threads.proofs.sides.host_side.HostSide.open.Goals as goal

pub invariant_of-result : goal.invariant_of-result
invariant_of-result g c = let asked = c.requires in opens _ _ _ _ _ _ asked.written asked.opened asked.journal asked.bytes asked.new c.new.ensures.items asked.ends.0 asked.ends.1
