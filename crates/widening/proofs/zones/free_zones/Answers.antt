use Rattle.std.proofs.Common.{ap, ◌∙◌, sym, refl, arith, filter, ◌-◌}
use Rattle.std.specs.List.{range_with_len}
use Rattle.minix_layout.specs.declared.division.Geometry.{Geometry}
use Rattle.widening.specs.Directories.{is_free, free_zones}
use Rattle.widening.proofs.FreeSteps.{zone_passes, zone_fails, all_passed}
use Rattle.widening.proofs.zones.free_zones.Goals as goal
use Rattle.widening.proofs.zones.free_zones.Goals.{then-is_free+in_ok-push, else-is_free}

pub loop-zone-preserved : goal.loop-zone-preserved
loop-zone-preserved c = (
  let low = c.loop-zone.invariant.0 in omega (arith, low),
  λ all walks.
      let v = c.args.volume.now in
      elim c.if-is_free.branch [
        | then-is_free+in_ok-push w ↦
            rw w.zones-is (zone_passes (is_free v.geometry v.blocks all.zones) c.loop-zone.zones.items _ v.geometry.first c.loop-zone.zone c.loop-zone.invariant.0 (c.loop-zone.invariant.1 all walks)
            (sym (c.is_free.ensures all walks) ∙ w.if-is_free.true) w.in_ok-push.ensures.items)
        | else-is_free w ↦
            rw w.zones-is (zone_fails (is_free v.geometry v.blocks all.zones) c.loop-zone.zones.items _ v.geometry.first c.loop-zone.zone c.loop-zone.invariant.0 (c.loop-zone.invariant.1 all walks)
            (sym (c.is_free.ensures all walks) ∙ w.if-is_free.false) refl)
      ],
)

pub returns : goal.returns
unfolding free_zones
returns c all walks =
    let v = c.args.volume.now in
    let same = ap (λ (g : Geometry). g.zones) c.geometry-g.ensures in
    let lower = ap (λ (g : Geometry). g.first) c.geometry-g.ensures in
    let some = c.disk.ensures.sound.some_zone in
    let past = c.loop-zone-test.false in
    let end = c.loop-zone.auto.zone-end (omega (arith, same, lower, some)) in
    c.loop-zone.invariant.1 all walks
    ∙ (all_passed (is_free v.geometry v.blocks all.zones) v.geometry.first c.loop-zone.zone
    ∙ ap (λ n. filter (is_free v.geometry v.blocks all.zones) (range_with_len v.geometry.first (n - v.geometry.first))) (omega (arith, same, past, end)))
