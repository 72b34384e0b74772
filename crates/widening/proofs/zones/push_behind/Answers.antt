use Rattle.std.proofs.Common.{not, ◌==◌, refl, arith}
use Rattle.volume_ops.specs.Places.{zone_number}
use Rattle.volume_ops.specs.Volume.{disk_of}
use Rattle.widening.proofs.FreeSteps.{passes, fails, all_behind}
use Rattle.widening.proofs.zones.push_behind.Goals as goal
use Rattle.widening.proofs.zones.push_behind.Goals.{then-number-ne0+in_ok-push, else-number-ne0}

pub loop-at-preserved : goal.loop-at-preserved
loop-at-preserved c =
    let f = zone_number (disk_of c.args.disk.now c.args.zone) in
    elim c.if-number-ne0.branch [
      | then-number-ne0+in_ok-push w ↦
          rw w.zones-is (passes (λ z. not (z == 0)) f c.args.zones.now.items c.loop-at.zones.items _ 0 c.loop-at.at c.loop-at.at (omega arith) c.loop-at.invariant
          c.entry-number.result c.entry-number.ensures (let some = w.if-number-ne0.true in grind arith) w.in_ok-push.ensures.items)
      | else-number-ne0 w ↦
          rw w.zones-is (fails (λ z. not (z == 0)) f c.args.zones.now.items c.loop-at.zones.items _ 0 c.loop-at.at c.loop-at.at (omega arith) c.loop-at.invariant
          c.entry-number.result c.entry-number.ensures (let none = w.if-number-ne0.false in grind arith) refl)
    ]

pub returns : goal.returns
returns c =
    let end = c.loop-at.auto.at-end in
    let past = c.loop-at-test.false in
    let some = c.if-zone-eq0.false in
    all_behind c.args.disk.now c.args.zone c.loop-at.at c.args.zones.now.items c.loop-at.zones.items (λ e. omega (arith, some, e)) (omega (arith, end, past)) c.loop-at.invariant
