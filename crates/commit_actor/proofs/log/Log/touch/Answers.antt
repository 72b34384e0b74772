use Rattle.std.proofs.Common.{refl, sym, subst, ◌<◌}
use Rattle.commit_actor.proofs.Calls.{log_noted, touched_more}
use Rattle.commit_actor.specs.Actor.{LogState}
use Rattle.commit_actor.specs.code.Fields.{IsLog}
use Rattle.commit_actor.proofs.log.Log.touch.Goals as goal

pub invariant_of-self : goal.invariant_of-self
invariant_of-self c =
    let l = c.self.inside in
    let i = c.self.invariant in
    subst (λ x. IsLog l.flush l.ring x l.journal) (sym c.touch.ensures) (log_noted l.flush l.ring l.running _ l.journal i refl refl (touched_more l.running.running.touched _ c.args.block i.touched (subst (λ (x : LogState). c.args.block < x.blocks) (sym c.self.view_is) c.requires.block)))
