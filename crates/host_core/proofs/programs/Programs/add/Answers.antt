use Rattle.std.proofs.Common.{refl}
use Rattle.host_core.proofs.Opened.{fresh_pushed}
use Rattle.host_core.proofs.programs.Programs.add.Goals as goal

pub invariant_of-self : goal.invariant_of-self
invariant_of-self c = fresh_pushed c.self.inside.threads.items c.push.new.self.items _ _ c.self.invariant c.push.ensures.items refl refl c.requires
