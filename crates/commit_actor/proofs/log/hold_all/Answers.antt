use Rattle.std.proofs.Common.{◌<◌, sym, subst, ap, ◌∙◌}
use Rattle.log_model.specs.Marks.{Logged}
use Rattle.commit_actor.proofs.Logs.{held_inside}
use Rattle.commit_actor.proofs.log.hold_all.Goals as goal

pub hold-requires : goal.hold-requires
hold-requires c =
    let d = c.body-item.result in
    let less = held_inside c.args.flush.now c.loop-body.flush c.args.bodies.now c.args.tx c.loop-body.body-index d c.requires c.loop-body.invariant c.loop-body-test.true in
    subst (λ n. n < c.loop-body.flush.blocks) (sym (c.block.ensures ∙ ap (λ (l : Logged). l.block) c.body-item.is)) less
