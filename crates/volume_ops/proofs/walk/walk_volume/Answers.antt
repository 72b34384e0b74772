use Rattle.std.proofs.Common.{◌≡◌, ◌<◌, ◌^◌, true, false, length, sym, ◌∙◌, arith}
use Rattle.std.proofs.lemmas.List.Elements.{All-nil}
use Rattle.volume_ops.specs.Marks.{is_marked}
use Rattle.volume_ops.specs.code.Visits.{IsPending}
use Rattle.volume_ops.specs.Volume.{disk_of}
use Rattle.volume_ops.proofs.GoesOn.{told_at_exit}
use Rattle.volume_ops.proofs.WalkSteps.{walk_first, walk_first_fault, first_length, turn_met, turn_fault, turn_visit, turn_length, turn_smaller, last_pending}
use Rattle.volume_ops.proofs.walk.walk_volume.Goals as goal

pub loop-next-init : goal.loop-next-init
loop-next-init c =
    let pending = c.in_ok-visit.ensures.within (rw c.new-stack.ensures.items (record { each = All-nil (IsPending c.args.g.now) })) in
    let visited = rw c.new-stack.ensures.items at c.in_ok-visit.ensures.ok in (
      walk_first c.args.g.now c.args.disk.now _ c.in_ok-walker.ensures c.visit.new.self c.visit.new.stack.items visited c.in_ok-visit.ensures.marks pending,
      first_length c.args.g.now c.args.disk.now _ c.in_ok-walker.ensures c.visit.new.self c.visit.new.stack.items visited c.in_ok-visit.ensures.marks pending,
      pending,
    )

pub returns-in_err-visit-clause-fault : goal.returns-in_err-visit-clause-fault
returns-in_err-visit-clause-fault c = told_at_exit _ _ _ _ c.from_residual-in_err-visit.ensures.1 (walk_first_fault c.args.g.now c.args.disk.now _ c.in_ok-walker.ensures) c.in_err-visit.ensures.fault

pub loop-next-preserved-then-has_met : goal.loop-next-preserved-then-has_met
loop-next-preserved-then-has_met c =
    let met : is_marked c.loop-next.walker.inodes c.in-Some.next.inode ≡ true = rw (← c.next.view_is) (sym c.has_met.ensures ∙ c.if-has_met.true) in (
      turn_met c.args.g.now (disk_of c.args.disk.now) c.loop-next.walker _ _ _ _ c.loop-next.invariant.0 c.in-Some.ensures.items met,
      c.loop-next.invariant.1,
      (last_pending c.args.g.now _ _ _ c.in-Some.ensures.items c.loop-next.invariant.2).1,
    )

pub loop-next-smaller : goal.loop-next-smaller
loop-next-smaller c =
    let unmarked : is_marked c.loop-next.walker.inodes c.in-Some.next.inode ≡ false = rw (← c.next.view_is) (sym c.has_met.ensures ∙ c.if-has_met.false) in
    let fits : length c.visit-in-Some.new.stack.items < 2 ^ 64 = omega (arith, c.visit-in-Some.new.stack.ok.0, c.visit-in-Some.new.stack.ok.1, c.visit-in-Some.new.stack.small) in
    turn_smaller c.args.g.now (disk_of c.args.disk.now) c.loop-next.walker _ _ _ _ c.loop-next.invariant.0 c.in-Some.ensures.items unmarked c.loop-next.invariant.2 c.loop-next.invariant.1 c.visit-in-Some.new.self c.visit-in-Some.new.stack.items c.in_ok-visit-2.ensures.marks fits

pub loop-next-preserved : goal.loop-next-preserved
loop-next-preserved c =
    let unmarked : is_marked c.loop-next.walker.inodes c.in-Some.next.inode ≡ false = rw (← c.next.view_is) (sym c.has_met.ensures ∙ c.if-has_met.false) in (
      turn_visit c.args.g.now (disk_of c.args.disk.now) c.loop-next.walker _ _ _ _ c.loop-next.invariant.0 c.in-Some.ensures.items unmarked c.loop-next.invariant.2 c.loop-next.invariant.1 c.visit-in-Some.new.self c.visit-in-Some.new.stack.items c.in_ok-visit-2.ensures.marks c.in_ok-visit-2.ensures.ok,
      turn_length c.args.g.now (disk_of c.args.disk.now) c.loop-next.walker _ _ _ _ c.loop-next.invariant.0 c.in-Some.ensures.items unmarked c.loop-next.invariant.2 c.loop-next.invariant.1 c.visit-in-Some.new.self c.visit-in-Some.new.stack.items c.in_ok-visit-2.ensures.marks,
      c.in_ok-visit-2.ensures.within (last_pending c.args.g.now _ _ _ c.in-Some.ensures.items c.loop-next.invariant.2).1,
    )

pub returns-in_err-visit-2-clause-fault : goal.returns-in_err-visit-2-clause-fault
returns-in_err-visit-2-clause-fault c =
    let unmarked : is_marked c.loop-next.walker.inodes c.in-Some.next.inode ≡ false = rw (← c.next.view_is) (sym c.has_met.ensures ∙ c.if-has_met.false) in
    told_at_exit _ _ _ _ c.from_residual-in_err-visit-2.ensures.1
    (turn_fault c.args.g.now (disk_of c.args.disk.now) c.loop-next.walker _ _ _ _ c.loop-next.invariant.0 c.in-Some.ensures.items unmarked)
    c.in_err-visit-2.ensures.fault
