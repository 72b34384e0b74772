use Rattle.std.proofs.Common.{refl, sym, subst}
use Rattle.commit_actor.proofs.Calls.{log_noted}
use Rattle.commit_actor.specs.code.Fields.{IsLog}
use Rattle.commit_actor.proofs.log.Log.reserve.Goals as goal

pub invariant_of-self : goal.invariant_of-self
invariant_of-self c =
    let l = c.self.inside in
    subst (λ x. IsLog l.flush l.ring x l.journal) (sym c.in_err-reserve.ensures.err) c.self.invariant

pub invariant_of-self-2 : goal.invariant_of-self-2
invariant_of-self-2 c =
    let l = c.self.inside in
    let i = c.self.invariant in
    subst (λ x. IsLog l.flush l.ring x l.journal) (sym c.in_ok-reserve.ensures.ok) (log_noted l.flush l.ring l.running _ l.journal i refl refl i.touched)
