use Rattle.std.proofs.Common.{◌∙◌, sym, ap, count_by}
use Rattle.minix_tables.specs.zones.Zones.{Zones, is_quarantined_to}
use Rattle.minix_tables.proofs.ZonesLemmas.Steps.{none_to}
use Rattle.minix_tables.proofs.zones.zone_map.ZoneMap.held_to.Goals as goal

pub returns-then-self-eq0 : goal.returns-then-self-eq0
returns-then-self-eq0 c =
    none_to c.args.tx c.self.inside.states.items (sym c.self.invariant.quarantined_is ∙ c.if-self-eq0.true)
    ∙ ap (λ (m : Zones). count_by (is_quarantined_to c.args.tx) m.states) c.self.view_is
