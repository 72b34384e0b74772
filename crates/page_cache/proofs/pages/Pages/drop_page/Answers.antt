use Rattle.page_cache.specs.Pages.{is_unsent, is_dirty}
use Rattle.page_cache.proofs.Steps.{list_rising, drop_cache}
use Rattle.page_cache.proofs.pages.Pages.drop_page.Goals as goal

pub drop_key-requires : goal.drop_key-requires
drop_key-requires c = list_rising is_unsent c.self.inside.pages.pages c.self.inside.unsent.items c.self.invariant.rising c.self.invariant.unsent_listed

pub drop_key-requires-2 : goal.drop_key-requires-2
drop_key-requires-2 c = list_rising is_dirty c.self.inside.pages.pages c.self.inside.dirty.items c.self.invariant.rising c.self.invariant.dirty_listed

pub invariant_of-self : goal.invariant_of-self
invariant_of-self c =
    drop_cache c.self.inside.pages c.drop_page.new.self c.args.birth c.args.index c.self.inside.unsent.items _ c.self.inside.dirty.items _ c.drop_key.new.keys.items _ c.drop_key-2.new.keys.items _
    c.self.invariant c.drop_page.ensures c.drop_key.ensures.items c.drop_key-2.ensures.items c.drop_key.ensures.capacity c.drop_key-2.ensures.capacity
