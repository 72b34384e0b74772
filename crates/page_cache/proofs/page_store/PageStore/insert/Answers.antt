use Rattle.std.proofs.Common.{◌+◌, ◌≤◌, sym, ap, subst, ◌∙◌}
use Rattle.slab.specs.Slab.{Slab, slab_len}
use Rattle.page_cache.specs.declared.cached_page.CachedPage.{CachedPage}
use Rattle.page_cache.specs.declared.page_body.PageBody.TheVariants.{Full}
use Rattle.page_cache.proofs.Stored.{seen_from, len_stored, room_in, inserted, page_made}
use Rattle.page_cache.proofs.page_store.PageStore.insert.Goals as goal

pub keep-head-requires : goal.keep-head-requires
keep-head-requires c = room_in c.self.inside.bodies c.self.inside.heads c.self.inside.room c.self.invariant (subst (λ (s : Slab CachedPage). slab_len s + 1 ≤ s.capacity) (sym c.self.view_is) c.requires)

pub invariant_of-self : goal.invariant_of-self
invariant_of-self c =
    (inserted c.self.inside.bodies c.keep-head.new.bodies c.self.inside.heads c.insert_reserved.new.self c.self.inside.room c.insert_reserved.result c.self.invariant c.keep-head.ensures.capacity c.insert_reserved.ensures.capacity _ c.args.page
    c.insert_reserved.ensures.was_vacant c.keep-head.ensures.kept c.insert_reserved.ensures.updates c.insert_reserved.ensures.len (subst (λ (s : Slab CachedPage). slab_len s + 1 ≤ s.capacity) (sym c.self.view_is) c.requires)
    (page_made c.keep-head.new.bodies c.args.page c.head_of-head.result (Full 0) c.keep-head.result c.head_of-head.ensures c.keep-head.ensures.body)).0

pub returns-clause-updates : goal.returns-clause-updates
returns-clause-updates c =
    seen_from _ _ _ _ _ c.self.view_is
    (inserted c.self.inside.bodies c.keep-head.new.bodies c.self.inside.heads c.insert_reserved.new.self c.self.inside.room c.insert_reserved.result c.self.invariant c.keep-head.ensures.capacity c.insert_reserved.ensures.capacity _ c.args.page
    c.insert_reserved.ensures.was_vacant c.keep-head.ensures.kept c.insert_reserved.ensures.updates c.insert_reserved.ensures.len (subst (λ (s : Slab CachedPage). slab_len s + 1 ≤ s.capacity) (sym c.self.view_is) c.requires)
    (page_made c.keep-head.new.bodies c.args.page c.head_of-head.result (Full 0) c.keep-head.result c.head_of-head.ensures c.keep-head.ensures.body)).1

pub returns-clause-len : goal.returns-clause-len
returns-clause-len c =
    let old = len_stored c.self.inside.bodies c.self.inside.heads.slots in
    let new = len_stored c.keep-head.new.bodies c.insert_reserved.new.self.slots in
    new ∙ c.insert_reserved.ensures.len ∙ ap (λ n. n + 1) (sym old ∙ ap slab_len c.self.view_is)
