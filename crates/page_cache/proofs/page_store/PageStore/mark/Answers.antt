use Rattle.std.proofs.Common.{refl, sym, ap, subst, ◌∙◌}
use Rattle.std.specs.Prelude.{IsSome}
use Rattle.std.specs.Option.{option_map}
use Rattle.page_cache.specs.Pages.{marked}
use Rattle.slab.specs.Slab.{Slab, get, slab_len, with_value, Updates}
use Rattle.page_cache.specs.declared.cached_page.CachedPage.{CachedPage}
use Rattle.page_cache.specs.declared.page_store.PageHead.{PageHead}
use Rattle.page_cache.specs.code.Store.{stored}
use Rattle.page_cache.proofs.Stored.{as_many, remarked}
use Rattle.page_cache.proofs.page_store.PageStore.mark.Goals as goal

pub invariant_of-self : goal.invariant_of-self
invariant_of-self c = (remarked c.self.inside.bodies c.self.inside.heads c.self.inside.room c.args.key c.index_mut.result.now c.args.s c.self.invariant c.index_mut.ensures.value).0

pub returns-clause-updates : goal.returns-clause-updates
returns-clause-updates c =
    subst (λ (s : Slab CachedPage). Updates s (stored c.self.inside.bodies (with_value c.self.inside.heads c.args.key (record c.index_mut.result.now { state = c.args.s })) c.self.inside.room) c.args.key (option_map (λ p. marked p c.args.s) (get s c.args.key))) c.self.view_is
    (remarked c.self.inside.bodies c.self.inside.heads c.self.inside.room c.args.key c.index_mut.result.now c.args.s c.self.invariant c.index_mut.ensures.value).1

pub returns-clause-len : goal.returns-clause-len
returns-clause-len c =
    let x : PageHead = c.index_mut.result.now in
    as_many c.self.inside.bodies c.self.inside.bodies c.self.inside.heads.slots c.args.key (record x { state = c.args.s }) (subst IsSome (sym c.index_mut.ensures.value) refl) ∙ ap slab_len c.self.view_is
