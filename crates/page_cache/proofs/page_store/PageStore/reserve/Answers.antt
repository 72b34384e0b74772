use Rattle.std.proofs.Common.{sym, ap, subst, ◌∙◌, arith}
use Rattle.slab.specs.Slab.{Slab, slab_len}
use Rattle.page_cache.specs.declared.page_store.PageHead.{PageHead}
use Rattle.page_cache.specs.code.Store.{AreStored}
use Rattle.page_cache.proofs.Stored.{len_stored, few_bodies, grown}
use Rattle.page_cache.proofs.page_store.PageStore.reserve.Goals as goal

pub overflow_sub-wanted : goal.overflow_sub-wanted
overflow_sub-wanted c =
    let few = few_bodies c.self.inside.bodies c.self.inside.heads c.self.inside.room c.self.invariant in
    let seen = sym (len_stored c.self.inside.bodies c.self.inside.heads.slots) ∙ ap slab_len c.self.view_is in
    let len = c.len.ensures in
    let wanted = c.requires in
    omega arith

pub invariant_of-self-then-wanted-self : goal.invariant_of-self-then-wanted-self
invariant_of-self-then-wanted-self c =
    let heads : Slab PageHead = c.reserve.new.self in
    let bodies : Slab _ = c.reserve-2.new.self in
    let few = few_bodies c.self.inside.bodies c.self.inside.heads c.self.inside.room c.self.invariant in
    let seen = sym (len_stored c.self.inside.bodies c.self.inside.heads.slots) ∙ ap slab_len c.self.view_is in
    let len = c.len.ensures in
    let wanted = c.requires in
    let room = c.in_ok-reserve.ensures.room in
    let more = c.in_ok-reserve-2.ensures.room in
    let same = ap slab_len c.reserve.ensures.rest_kept in
    let alike = ap slab_len c.reserve-2.ensures.rest_kept in
    subst (λ b. AreStored b c.reserve.new.self c.args.wanted) (sym c.reserve-2.ensures.rest_kept)
    (subst (λ h. AreStored (record c.self.inside.bodies { capacity = c.reserve-2.new.self.capacity }) h c.args.wanted) (sym c.reserve.ensures.rest_kept)
    (grown c.self.inside.bodies c.self.inside.heads c.self.inside.room c.reserve-2.new.self.capacity c.reserve.new.self.capacity c.args.wanted c.self.invariant (omega arith) (omega arith) (omega arith)))
