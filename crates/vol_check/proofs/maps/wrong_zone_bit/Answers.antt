use Rattle.std.proofs.Common.{sym, ap, ◌∙◌, ◌+◌, arith}
use Rattle.std.proofs.lemmas.Bool.{false≢true}
use Rattle.minix_layout.specs.declared.division.Geometry.{Geometry}
use Rattle.vol_check.specs.Clean.{HasZoneBit}
use Rattle.vol_check.proofs.Firsts.{all_more, first_here}
use Rattle.vol_check.proofs.maps.wrong_zone_bit.Goals as goal

pub loop-zone-init : goal.loop-zone-init
loop-zone-init c =
    let same = ap (λ (g : Geometry). g.first) c.geometry-g.ensures in
    (omega (arith, same), λ k low high. absurd (omega (arith, low, high, same)))

pub loop-zone-preserved : goal.loop-zone-preserved
loop-zone-preserved c =
    let v = c.args.volume.now in
    let low = c.loop-zone.invariant.0 in
    (omega (arith, low), all_more v.geometry.first 0 (HasZoneBit v.geometry v.blocks) c.loop-zone.zone c.loop-zone.invariant.1 (c.has_zone_bit.ensures.0 c.if-not-has_zone_bit.false))

pub returns-then-not-has_zone_bit : goal.returns-then-not-has_zone_bit
returns-then-not-has_zone_bit c =
    let v = c.args.volume.now in
    let inside = c.loop-zone-test.true in
    let same = ap (λ (g : Geometry). g.zones) c.geometry-g.ensures in
    first_here v.geometry.first v.geometry.zones (HasZoneBit v.geometry v.blocks) c.loop-zone.zone c.loop-zone.invariant.0 (omega (arith, inside, same))
    (λ has. false≢true (sym c.if-not-has_zone_bit.true ∙ c.has_zone_bit.ensures.1 has)) c.loop-zone.invariant.1

pub returns : goal.returns
returns c k low high =
    let past = c.loop-zone-test.false in
    let same = ap (λ (g : Geometry). g.zones) c.geometry-g.ensures in
    c.loop-zone.invariant.1 k low (omega (arith, high, past, same))
