use Rattle.std.proofs.Common.{◌<◌, ◌^◌, refl}
use Rattle.widening.proofs.Fitting.{all_first}
use Rattle.widening.proofs.SlotSteps.{slot_pushed}
use Rattle.widening.proofs.directory.wide_slots.Goals as goal

pub loop-name-preserved : goal.loop-name-preserved
loop-name-preserved c = (
  slot_pushed c.loop-name.slots.items _ _ c.loop-name.name-iterator c.next.new.self (c.in-Some.name.now, c.in-Some.birth.now) _ c.in-Some.ensures.steps c.loop-name.invariant.0
      (rw (c.inode_of_birth-in-loop-name.ensures, c.copy.ensures) refl) c.in_ok-push-3.ensures.items,
  (all_first (λ e. e.1 < 2 ^ 16) (c.in-Some.name.now, c.in-Some.birth.now) c.next.new.self c.loop-name.name-iterator c.in-Some.ensures.steps c.loop-name.invariant.1).1,
)
