use Rattle.std.proofs.Common.{rules, ◌≡◌, Some, None, sym, ap, ◌∙◌}
use Rattle.page_cache.specs.Pages.{Cache, is_unsent, page_at, unsent_of}
use Rattle.page_cache.specs.code.Keys.{first_of}
use Rattle.page_cache.proofs.Steps.{list_rising, unsent_is, unsent_is_none, unsent_found}
use Rattle.page_cache.proofs.pages.Pages.unsent_of.Goals as goal

pub first_of-requires-clause-keys : goal.first_of-requires-clause-keys
first_of-requires-clause-keys c = list_rising is_unsent c.self.inside.pages.pages c.self.inside.unsent.items c.self.invariant.rising c.self.invariant.unsent_listed

pub returns-in_err-birth-clause-page : goal.returns-in_err-birth-clause-page
returns-in_err-birth-clause-page c =
    let at : first_of c.args.births.now c.self.inside.unsent.items ≡ None = search rules in
    c.from_residual.ensures ∙ unsent_is_none c.self.inside.pages.pages c.self.inside.unsent.items c.args.births.now c.self.invariant.unsent_listed at
    ∙ ap (λ (k : Cache). unsent_of k.pages c.args.births.now) c.self.view_is

pub returns-in_err-birth-clause-found : goal.returns-in_err-birth-clause-found
returns-in_err-birth-clause-found c p e =
    sym (ap (λ (k : Cache). page_at k.pages p.birth p.index) c.self.view_is)
    ∙ unsent_found c.self.inside.pages.pages c.args.births.now p c.self.invariant.rising (ap (λ (k : Cache). unsent_of k.pages c.args.births.now) c.self.view_is ∙ e)

pub returns-clause-page : goal.returns-clause-page
returns-clause-page c =
    let at : first_of c.args.births.now c.self.inside.unsent.items ≡ Some (c.in_ok-birth.birth, c.in_ok-birth.index) = search rules in
    c.page.ensures ∙ unsent_is c.self.inside.pages.pages c.self.inside.unsent.items c.args.births.now (c.in_ok-birth.birth, c.in_ok-birth.index) c.self.invariant.rising c.self.invariant.unsent_listed at
    ∙ ap (λ (k : Cache). unsent_of k.pages c.args.births.now) c.self.view_is

pub returns-clause-found : goal.returns-clause-found
returns-clause-found c p e =
    sym (ap (λ (k : Cache). page_at k.pages p.birth p.index) c.self.view_is)
    ∙ unsent_found c.self.inside.pages.pages c.args.births.now p c.self.invariant.rising (ap (λ (k : Cache). unsent_of k.pages c.args.births.now) c.self.view_is ∙ e)
