use Rattle.std.proofs.Common.{sym, subst}
use Rattle.host_core.specs.Entries.{ArePlaced}
use Rattle.host_core.specs.Now.{HostNow}
use Rattle.host_core.proofs.host_trace.HostTrace.history.Goals as goal

pub returns-clause-placed : goal.returns-clause-placed
returns-clause-placed c =
    subst (λ (h : HostNow). ArePlaced h.programs c.deref.result.now) c.self.view_is (subst (ArePlaced _) (sym c.deref.ensures.value) c.self.invariant.placed)
