use Rattle.std.proofs.Common.{◌∙◌, ap, List}
use Rattle.std.specs.List.{range_with_len}
use Rattle.volume_ops.specs.declared.found.Mapped.{Mapped}
use Rattle.volume_model.specs.Holes.{with_holes}
use Rattle.volume_model.specs.laws.Holes.{rising_same, rising_holes}
use Rattle.volume_model.proofs.file_zones.FileZones.add_holes.Goals as goal

pub invariant_of-self-2 : goal.invariant_of-self-2
invariant_of-self-2 c =
    rising_same _ _ (c.put_holes.ensures ∙ ap (λ (ms : List Mapped). with_holes ms (range_with_len c.args.first c.args.count)) c.reserve.ensures.items)
    (rising_holes (range_with_len c.args.first c.args.count) c.self.inside.items.items c.self.invariant)
