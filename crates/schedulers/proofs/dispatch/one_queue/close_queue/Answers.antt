use Rattle.std.proofs.Common.{rules, sym, ap, ◌∙◌, ◌++◌}
use Rattle.schedulers.proofs.DispatchLemmas.Relays.{joins, told_all, prefix_of}
use Rattle.schedulers.proofs.dispatch.one_queue.close_queue.Goals as goal

pub absorb-requires-clause-rule : goal.absorb-requires-clause-rule
absorb-requires-clause-rule g c = joins _ _ _ _ (search rules) (search rules)

pub learn_as-requires-clause-rule : goal.learn_as-requires-clause-rule
learn_as-requires-clause-rule g c = told_all _ _ (search rules) (search rules)

pub returns : goal.returns
returns g c =
    let told = c.learn_as.ensures.rule in
    let joined = c.absorb.ensures.rule in
    prefix_of c.args.to.passed told.0 c.args.from.passed
    (ap (λ s. s.passed) (sym c.from.view_is) ∙ sym (ap (λ v. v.sent) joined) ∙ told.1 ∙ ap (λ v. v.taken ++ told.0) joined ∙ ap (λ s. s.passed ++ told.0) c.to.view_is)
