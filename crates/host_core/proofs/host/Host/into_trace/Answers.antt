use Rattle.std.specs.Prelude.{◌++◌, ◌∷◌, [], length, refl}
use Rattle.std.proofs.Common.{sym, ap, subst, ◌∙◌}
use Rattle.host_core.specs.Now.{HostNow}
use Rattle.host_core.specs.code.HostTraces.{IsHostTrace, first_host}
use Rattle.host_core.proofs.host.Host.into_trace.Goals as goal

pub invariant_of-result : goal.invariant_of-result
invariant_of-result c =
    subst (λ hosts. IsHostTrace (first_host hosts) c.self.inside.history.items c.self.inside.cuts.items c.submitted-submitted.result) (sym (c.and-host.ensures ∙ ap (λ hosts. hosts ++ c.args.self ∷ []) c.new.ensures))
    (subst (λ (h : HostNow). IsHostTrace h c.self.inside.history.items c.self.inside.cuts.items c.submitted-submitted.result) c.self.view_is (record {
      noted = refl;
      placed = c.self.invariant.noted.placed;
      are_cuts = refl;
      is_count = c.submitted-submitted.ensures ∙ ap (λ (h : HostNow). length h.host.journal.flush.requests) (sym c.self.view_is);
    }))
