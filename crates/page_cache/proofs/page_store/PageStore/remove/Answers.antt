use Rattle.std.proofs.Common.{◌+◌, sym, ap, ◌∙◌}
use Rattle.slab.specs.Slab.{slab_len}
use Rattle.page_cache.proofs.Stored.{seen_from, len_stored, removed}
use Rattle.page_cache.proofs.page_store.PageStore.remove.Goals as goal

pub invariant_of-self : goal.invariant_of-self
invariant_of-self c =
    (removed c.self.inside.bodies c.release.new.bodies c.self.inside.heads c.remove-head.new.self c.self.inside.room c.args.key c.self.invariant c.release.ensures.capacity c.remove-head.ensures.capacity c.remove-head.result
    c.remove-head.ensures.value c.release.ensures.released c.remove-head.ensures.updates c.remove-head.ensures.len).0

pub returns-clause-updates : goal.returns-clause-updates
returns-clause-updates c =
    seen_from _ _ _ _ _ c.self.view_is
    (removed c.self.inside.bodies c.release.new.bodies c.self.inside.heads c.remove-head.new.self c.self.inside.room c.args.key c.self.invariant c.release.ensures.capacity c.remove-head.ensures.capacity c.remove-head.result
    c.remove-head.ensures.value c.release.ensures.released c.remove-head.ensures.updates c.remove-head.ensures.len).1

pub returns-clause-len : goal.returns-clause-len
returns-clause-len c =
    let old = len_stored c.self.inside.bodies c.self.inside.heads.slots in
    let new = len_stored c.release.new.bodies c.remove-head.new.self.slots in
    ap (λ n. n + 1) new ∙ c.remove-head.ensures.len ∙ sym old ∙ ap slab_len c.self.view_is
