use Rattle.std.proofs.Common.{◌-◌, nat_le, if◌then◌else◌, length, get_or, slice_set, ap, ◌∙◌, refl}
use Rattle.minix_tables.specs.declared.zones.zone_state.ZoneState.TheVariants as states
use Rattle.minix_tables.proofs.ZonesLemmas.Steps.{mark_step}
use Rattle.minix_tables.proofs.zones.search.mark_used.Goals as goal

pub loop-zone-preserved : goal.loop-zone-preserved
loop-zone-preserved c =
    let zone = get_or c.args.used.now c.loop-zone.zone-index 0 in
    c.mark_zone.ensures
    ∙ ap (λ zs. if nat_le c.args.first zone then slice_set zs (zone - c.args.first) states.Used else zs) c.loop-zone.invariant
    ∙ mark_step c.args.used.now c.loop-zone.zone-index c.args.first (length c.args.states.now) zone c.loop-zone-test.true refl
