use Rattle.std.proofs.Common.{sym, ap, ◌∙◌}
use Rattle.page_cache.specs.Pages.{Cache, is_unsent, is_dirty, page_at}
use Rattle.page_cache.specs.code.Keys.{with_key}
use Rattle.page_cache.proofs.Steps.{list_rising, mark_most, mark_room, mark_cache}
use Rattle.page_cache.proofs.pages.Pages.mark.Goals as goal

pub list_key-requires-clause-rising : goal.list_key-requires-clause-rising
list_key-requires-clause-rising c = list_rising is_unsent c.self.inside.pages.pages c.self.inside.unsent.items c.self.invariant.rising c.self.invariant.unsent_listed

pub list_key-requires-clause-room : goal.list_key-requires-clause-room
list_key-requires-clause-room c =
    mark_room is_unsent c.self.inside.pages c.mark.new.self c.self.inside.unsent.items c.args.birth c.args.index c.args.s _ _ c.self.invariant.rising c.self.invariant.unsent_listed (λ e. c.requires (sym (ap (λ (k : Cache). page_at k.pages c.args.birth c.args.index) c.self.view_is) ∙ e)) c.mark.ensures
    (mark_most c.self.inside.pages c.mark.new.self c.args.birth c.args.index c.args.s c.self.inside.unsent.items _ c.self.inside.dirty.items _ c.self.invariant (λ e. c.requires (sym (ap (λ (k : Cache). page_at k.pages c.args.birth c.args.index) c.self.view_is) ∙ e)) c.mark.ensures) c.self.invariant.enough_unsent c.is_unsent.ensures

pub list_key-requires-2-clause-rising : goal.list_key-requires-2-clause-rising
list_key-requires-2-clause-rising c = list_rising is_dirty c.self.inside.pages.pages c.self.inside.dirty.items c.self.invariant.rising c.self.invariant.dirty_listed

pub list_key-requires-2-clause-room : goal.list_key-requires-2-clause-room
list_key-requires-2-clause-room c =
    mark_room is_dirty c.self.inside.pages c.mark.new.self c.self.inside.dirty.items c.args.birth c.args.index c.args.s _ _ c.self.invariant.rising c.self.invariant.dirty_listed (λ e. c.requires (sym (ap (λ (k : Cache). page_at k.pages c.args.birth c.args.index) c.self.view_is) ∙ e)) c.mark.ensures
    (mark_most c.self.inside.pages c.mark.new.self c.args.birth c.args.index c.args.s c.self.inside.unsent.items _ c.self.inside.dirty.items _ c.self.invariant (λ e. c.requires (sym (ap (λ (k : Cache). page_at k.pages c.args.birth c.args.index) c.self.view_is) ∙ e)) c.mark.ensures) c.self.invariant.enough_dirty c.is_dirty.ensures

pub invariant_of-self : goal.invariant_of-self
invariant_of-self c =
    mark_cache c.self.inside.pages c.mark.new.self c.args.birth c.args.index c.args.s c.self.inside.unsent.items _ c.self.inside.dirty.items _ c.list_key.new.keys.items _ c.list_key-2.new.keys.items _
    c.self.invariant (λ e. c.requires (sym (ap (λ (k : Cache). page_at k.pages c.args.birth c.args.index) c.self.view_is) ∙ e)) c.mark.ensures
    (c.list_key.ensures.items ∙ ap (with_key c.self.inside.unsent.items c.args.birth c.args.index) c.is_unsent.ensures)
    (c.list_key-2.ensures.items ∙ ap (with_key c.self.inside.dirty.items c.args.birth c.args.index) c.is_dirty.ensures)
    c.list_key.ensures.capacity c.list_key-2.ensures.capacity
