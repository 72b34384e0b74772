use Rattle.std.proofs.Common.{rules, ◌≡◌, Some, None, sym, ap, subst, ◌∙◌}
use Rattle.std.specs.Option.{option_map}
use Rattle.std.proofs.lemmas.Option.{none-some}
use Rattle.page_cache.specs.Pages.{Cache, IsRising, key_of, page_at, dirty_page}
use Rattle.page_cache.proofs.Steps.{none_by, dirty_is, dirty_found}
use Rattle.page_cache.proofs.pages.Pages.dirty_page.Goals as goal

pub returns-in_err-birth-clause-page : goal.returns-in_err-birth-clause-page
returns-in_err-birth-clause-page c =
    let none : c.dirty.result ≡ None = search rules in
    c.from_residual.ensures ∙ none_by (dirty_page c.args.self.now.pages c.args.pick) (sym c.dirty.ensures ∙ none)

pub returns-in_err-birth-clause-found : goal.returns-in_err-birth-clause-found
returns-in_err-birth-clause-found c p e =
    let none : c.dirty.result ≡ None = search rules in
    absurd (none-some (key_of p) (sym none ∙ c.dirty.ensures ∙ ap (option_map key_of) e))

pub returns-clause-page : goal.returns-clause-page
returns-clause-page c =
    let some : c.dirty.result ≡ Some (c.in_ok-birth.birth, c.in_ok-birth.index) = search rules in
    let rising = subst (λ (k : Cache). IsRising k.pages) c.self.view_is c.self.invariant.rising in
    c.page.ensures ∙ ap (λ (k : Cache). page_at k.pages c.in_ok-birth.birth c.in_ok-birth.index) c.self.view_is
    ∙ dirty_is c.args.self.now.pages c.args.pick (c.in_ok-birth.birth, c.in_ok-birth.index) rising (sym c.dirty.ensures ∙ some)

pub returns-clause-found : goal.returns-clause-found
returns-clause-found c p e =
    dirty_found c.args.self.now.pages c.args.pick p (subst (λ (k : Cache). IsRising k.pages) c.self.view_is c.self.invariant.rising) e
