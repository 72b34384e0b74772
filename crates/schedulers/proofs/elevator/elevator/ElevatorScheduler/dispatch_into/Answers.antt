-- The fields behind what left.
use Rattle.std.proofs.Common.{arith}
use Rattle.schedulers.proofs.ElevatorLemmas.Steps.{found_leaves, sent_is, sent_room, dispatched_fields}
use Rattle.schedulers.proofs.elevator.elevator.ElevatorScheduler.dispatch_into.Goals as goal

pub take_together-requires-clause-may : goal.take_together-requires-clause-may
take_together-requires-clause-may c = λ w there. found_leaves c.self.inside c.args.pick c.in-Some.at w c.in-Some.ensures there

pub push-requires : goal.push-requires
push-requires c =
    let e = c.take_together.ensures in
    let t = sent_is c.self.inside c.args.pick c.in-Some.at c.take_together.result _ _ c.in-Some.ensures c.if-not-take_together.false e.command e.state in
    let room = sent_room c.self.inside c.args.pick _ _ c.self.invariant t in
    omega (arith, room, c.self.invariant.sent_out)

pub invariant_of-self-2 : goal.invariant_of-self-2
invariant_of-self-2 c =
    let e = c.take_together.ensures in
    let t = sent_is c.self.inside c.args.pick c.in-Some.at c.take_together.result _ _ c.in-Some.ensures c.if-not-take_together.false e.command e.state in
    dispatched_fields c.self.inside c.args.pick _ _ _ _ c.self.invariant t c.head_after-self-inside.ensures c.push.ensures
