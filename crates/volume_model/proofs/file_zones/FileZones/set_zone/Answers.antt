use Rattle.std.proofs.Common.{List, ap, subst, ◌∙◌}
use Rattle.number_sets.specs.laws.Keyed.{KeyStandsAt, KeyBelongsAt}
use Rattle.volume_ops.specs.declared.found.Mapped.{Mapped}
use Rattle.volume_model.specs.Holes.{with_zone}
use Rattle.volume_model.specs.laws.Holes.{index_of, rising_same, rising_zone, zone_there, zone_not_there}
use Rattle.volume_model.proofs.file_zones.FileZones.set_zone.Goals as goal

pub invariant_of-self : goal.invariant_of-self
invariant_of-self c =
    let zones = c.self.inside.items.items in
    rising_same _ _ (zone_there zones c.args.index c.args.zone c.in-Ok.at c.self.invariant (subst (λ (ms : List Mapped). KeyStandsAt index_of ms c.args.index c.in-Ok.at) c.deref.ensures.value c.in-Ok.ensures))
    (rising_zone zones c.args.index c.args.zone c.self.invariant)

pub returns-in-Ok : goal.returns-in-Ok
returns-in-Ok c =
    let zones = c.self.inside.items.items in
    zone_there zones c.args.index c.args.zone c.in-Ok.at c.self.invariant (subst (λ (ms : List Mapped). KeyStandsAt index_of ms c.args.index c.in-Ok.at) c.deref.ensures.value c.in-Ok.ensures)
    ∙ ap (λ (ms : List Mapped). with_zone ms c.args.index c.args.zone) c.self.view_is

pub returns-in_default : goal.returns-in_default
returns-in_default c =
    zone_not_there c.args.self.now c.args.index c.args.zone c.in_default.field-0
    (subst (λ (ms : List Mapped). KeyBelongsAt index_of ms c.args.index c.in_default.field-0) (c.deref.ensures.value ∙ c.self.view_is) c.in_default.ensures)
