use Rattle.std.proofs.Common.{ℕ, ap, sym, ◌∙◌, arith}
use Rattle.std.proofs.lemmas.Bool.{true≢false}
use Rattle.minix_layout.specs.declared.division.Geometry.{Geometry}
use Rattle.volume_ops.specs.Faultless.{IsUsed}
use Rattle.volume_calls.proofs.OpenedLemmas.UsedSteps.{zone_pushed, zone_passed}
use Rattle.volume_calls.proofs.opened.used.used_zones.Goals as goal
use Rattle.volume_calls.proofs.opened.used.used_zones.Goals.{then-uses_zone+in_ok-push, else-uses_zone}

pub loop-zone-preserved : goal.loop-zone-preserved
loop-zone-preserved c =
    let Used : ℕ → Type 0 = IsUsed c.args.volume.now.geometry c.args.volume.now.blocks in
    elim c.if-uses_zone.branch [
      | then-uses_zone+in_ok-push w ↦
          rw (w.used-is, w.in_ok-push.ensures.items)
          (zone_pushed Used c.loop-zone.used.items c.loop-zone.zone (c.uses_zone.ensures.0 w.if-uses_zone.true) c.loop-zone.invariant)
      | else-uses_zone w ↦
          rw w.used-is
          (zone_passed Used c.loop-zone.used.items c.loop-zone.zone (λ u. true≢false (sym (c.uses_zone.ensures.1 u) ∙ w.if-uses_zone.false)) c.loop-zone.invariant)
    ]

pub returns : goal.returns
returns c zone less =
    let same = ap (λ (g : Geometry). g.zones) c.geometry.ensures in
    let past = c.loop-zone-test.false in
    c.loop-zone.invariant.1 zone (omega arith)
