-- The fields behind a request that left.
use Rattle.std.proofs.Common.{◌∙◌, ap₂, sym, arith}
use Rattle.order_model.specs.Single.{command_of_request}
use Rattle.schedulers.specs.epochs.code.Fields.{state_of}
use Rattle.schedulers.proofs.EpochsLemmas.Steps.{leaving-some, sent_room, dispatched_fields}
use Rattle.schedulers.proofs.epochs.sched.SchedScheduler.dispatch_into.Goals as goal

pub push-requires : goal.push-requires
push-requires c =
    let p = leaving-some c.self.inside.queue _ _ _ c.in-Some.ensures.given in
    let room = sent_room (state_of c.self.inside) c.args.pick p.0 c.self.invariant.valid p.1 in
    omega (arith, room, c.self.invariant.sent_out)

pub invariant_of-self-2 : goal.invariant_of-self-2
invariant_of-self-2 c =
    let p = leaving-some c.self.inside.queue _ _ _ c.in-Some.ensures.given in
    let command = c.carry.ensures ∙ sym (ap₂ command_of_request p.2 p.3) in
    dispatched_fields c.self.inside c.args.pick p.0 _ _ _ c.self.invariant p.1 command c.in-Some.ensures.state c.push.ensures
