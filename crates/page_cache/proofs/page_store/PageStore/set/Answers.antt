use Rattle.std.proofs.Common.{refl, sym, ap, subst, ◌∙◌}
use Rattle.std.specs.Prelude.{IsSome}
use Rattle.slab.specs.Slab.{Slab, get, slab_len, with_value}
use Rattle.slab.proofs.SlabLemmas.{Updates-with_value}
use Rattle.page_cache.specs.declared.cached_page.CachedPage.{CachedPage}
use Rattle.page_cache.specs.declared.page_body.PageBody.TheVariants.{Full}
use Rattle.page_cache.specs.declared.page_store.PageHead.{PageHead}
use Rattle.page_cache.proofs.Stored.{seen_from, as_many, len_set, has_head, room_again, replaced, page_made}
use Rattle.page_cache.proofs.page_store.PageStore.set.Goals as goal

pub keep-head-requires : goal.keep-head-requires
keep-head-requires c = room_again c.self.inside.bodies c.release.new.bodies c.self.inside.heads c.self.inside.room c.args.key c.index.result.now c.self.invariant c.index.ensures c.release.ensures.released c.release.ensures.capacity

pub invariant_of-self : goal.invariant_of-self
invariant_of-self c =
    (let new : PageHead = record c.head_of-head.result { body = c.keep-head.result } in
    let some = has_head c.self.inside.bodies c.self.inside.heads c.self.inside.room c.args.key (subst (λ (s : Slab CachedPage). IsSome (get s c.args.key)) (sym c.self.view_is) c.requires) in
    replaced c.self.inside.bodies c.keep-head.new.bodies c.self.inside.heads (with_value c.self.inside.heads c.args.key new) c.self.inside.room c.args.key c.self.invariant (c.keep-head.ensures.capacity ∙ c.release.ensures.capacity) refl c.release.new.bodies _ new c.args.page
    c.index.ensures c.release.ensures.released c.keep-head.ensures.kept (Updates-with_value c.self.inside.heads c.args.key new some) (len_set c.self.inside.heads.slots c.args.key new some)
    (page_made c.keep-head.new.bodies c.args.page c.head_of-head.result (Full 0) c.keep-head.result c.head_of-head.ensures c.keep-head.ensures.body)).0

pub returns-clause-updates : goal.returns-clause-updates
returns-clause-updates c =
    seen_from _ _ _ _ _ c.self.view_is
    (let new : PageHead = record c.head_of-head.result { body = c.keep-head.result } in
    let some = has_head c.self.inside.bodies c.self.inside.heads c.self.inside.room c.args.key (subst (λ (s : Slab CachedPage). IsSome (get s c.args.key)) (sym c.self.view_is) c.requires) in
    replaced c.self.inside.bodies c.keep-head.new.bodies c.self.inside.heads (with_value c.self.inside.heads c.args.key new) c.self.inside.room c.args.key c.self.invariant (c.keep-head.ensures.capacity ∙ c.release.ensures.capacity) refl c.release.new.bodies _ new c.args.page
    c.index.ensures c.release.ensures.released c.keep-head.ensures.kept (Updates-with_value c.self.inside.heads c.args.key new some) (len_set c.self.inside.heads.slots c.args.key new some)
    (page_made c.keep-head.new.bodies c.args.page c.head_of-head.result (Full 0) c.keep-head.result c.head_of-head.ensures c.keep-head.ensures.body)).1

pub returns-clause-len : goal.returns-clause-len
returns-clause-len c =
    let some = has_head c.self.inside.bodies c.self.inside.heads c.self.inside.room c.args.key (subst (λ (s : Slab CachedPage). IsSome (get s c.args.key)) (sym c.self.view_is) c.requires) in
    as_many c.self.inside.bodies c.keep-head.new.bodies c.self.inside.heads.slots c.args.key (record c.head_of-head.result { body = c.keep-head.result }) some ∙ ap slab_len c.self.view_is
