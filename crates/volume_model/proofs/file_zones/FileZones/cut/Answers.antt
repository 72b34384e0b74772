use Rattle.std.proofs.Common.{◌≡◌, sym, ap, ◌∙◌, filter, nat_lt, List, take}
use Rattle.volume_ops.specs.declared.found.Mapped.{Mapped}
use Rattle.volume_model.specs.laws.Holes.{rising_same}
use Rattle.volume_model.specs.laws.Mapped.{rising_below}
use Rattle.volume_model.proofs.file_zones.FileZones.cut.Goals as goal

left : (c : goal.After-truncate) → c.truncate.new.self.items ≡ filter (λ (m : Mapped). nat_lt m.index c.args.from) c.self.inside.items.items
left c =
    c.truncate.ensures.items
    ∙ (ap (take c.first_from-at.result) (sym c.deref.ensures.value)
    ∙ (c.first_from-at.ensures ∙ ap (λ (ms : List Mapped). filter (λ m. nat_lt m.index c.args.from) ms) c.deref.ensures.value))

pub invariant_of-self : goal.invariant_of-self
invariant_of-self c = rising_same _ _ (left c) (rising_below c.args.from c.self.inside.items.items c.self.invariant)

pub returns : goal.returns
returns c = left c ∙ ap (λ (ms : List Mapped). filter (λ m. nat_lt m.index c.args.from) ms) c.self.view_is
