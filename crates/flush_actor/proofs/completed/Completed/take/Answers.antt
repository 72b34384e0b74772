use Rattle.std.proofs.Common.{◌≤◌, length, sym, subst}
use Rattle.flush_actor.proofs.Completions.{completed_more, completed_same}
use Rattle.flush_actor.specs.Actor.{Completed}
use Rattle.flush_actor.proofs.completed.Completed.take.Goals as goal

pub invariant_of-self : goal.invariant_of-self
invariant_of-self c =
    let f = c.self.inside in
    let few : length f.taken.items ≤ length f.moved.items = subst (λ (x : Completed). length x.taken ≤ x.known) (sym c.self.view_is) c.requires in
    completed_same _ _ _ _ _ _ _ _ _ _ _ c.mark.ensures c.cut_with-self-inside.ensures c.failed_with-self-inside.ensures c.flushed_with-self-inside.ensures c.and-self-inside.ensures
    (completed_more f.moved.items f.count f.cut f.failed f.flushed f.taken.items c.args.completion c.self.invariant few)
