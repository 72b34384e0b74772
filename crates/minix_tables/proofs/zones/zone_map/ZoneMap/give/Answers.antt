use Rattle.std.proofs.Common.{◌≡◌, Some, ap, sym, subst, ◌∙◌}
use Rattle.std.specs.List.{slice_get}
use Rattle.minix_tables.specs.zones.Zones.{Zones, state_of}
use Rattle.minix_tables.specs.zones.laws.States.{inside}
use Rattle.minix_tables.specs.declared.zones.zone_state.ZoneState.TheVariants as states
use Rattle.minix_tables.proofs.ZonesLemmas.Steps.{given_map}
use Rattle.minix_tables.proofs.zones.zone_map.ZoneMap.give.Goals as goal

pub invariant_of-self : goal.invariant_of-self
invariant_of-self c =
    let now : Zones = record { first = c.self.inside.first; states = c.self.inside.states.items } in
    let used : state_of now c.args.zone ≡ Some states.Used = subst (λ m. state_of m c.args.zone ≡ Some states.Used) (sym c.self.view_is) c.requires in
    let place : slice_get c.self.inside.states.items c.from-at.result ≡ Some states.Used =
    ap (slice_get c.self.inside.states.items) c.from-at.ensures ∙ inside now c.args.zone states.Used used in
    given_map c.self.inside.first c.self.inside.states.items c.self.inside.low c.self.inside.free c.self.inside.quarantined
    c.from-at.result c.args.tx c.self.invariant place
