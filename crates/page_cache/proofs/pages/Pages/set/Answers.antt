use Rattle.std.proofs.Common.{ap, arith}
use Rattle.page_cache.specs.declared.cached_page.CachedPage.{CachedPage}
use Rattle.page_cache.specs.declared.cached_page.PageState.TheVariants as page_states
use Rattle.page_cache.specs.Pages.{Cache, is_unsent, is_dirty}
use Rattle.page_cache.proofs.Steps.{list_rising, list_room, put_cache}
use Rattle.page_cache.proofs.pages.Pages.set.Goals as goal

pub put_key-requires-clause-rising : goal.put_key-requires-clause-rising
put_key-requires-clause-rising c = list_rising is_unsent c.self.inside.pages.pages c.self.inside.unsent.items c.self.invariant.rising c.self.invariant.unsent_listed

pub put_key-requires-clause-room : goal.put_key-requires-clause-room
put_key-requires-clause-room c =
    let q : CachedPage = record { birth = c.args.birth; index = c.args.index; block = c.args.block; body = c.args.body; version = c.args.call; state = page_states.Dirty } in
    list_room is_unsent c.self.inside.pages.pages c.set.new.self.pages c.self.inside.unsent.items q c.set.new.self.room _ c.self.invariant.rising c.self.invariant.unsent_listed (ap (λ (k : Cache). k.pages) c.in_ok-set.ensures.ok) c.in_ok-set.ensures.within
    (let same = ap (λ (k : Cache). k.room) c.in_ok-set.ensures.ok in let enough = c.self.invariant.enough_unsent in omega arith)

pub put_key-requires-2-clause-rising : goal.put_key-requires-2-clause-rising
put_key-requires-2-clause-rising c = list_rising is_dirty c.self.inside.pages.pages c.self.inside.dirty.items c.self.invariant.rising c.self.invariant.dirty_listed

pub put_key-requires-2-clause-room : goal.put_key-requires-2-clause-room
put_key-requires-2-clause-room c =
    let q : CachedPage = record { birth = c.args.birth; index = c.args.index; block = c.args.block; body = c.args.body; version = c.args.call; state = page_states.Dirty } in
    list_room is_dirty c.self.inside.pages.pages c.set.new.self.pages c.self.inside.dirty.items q c.set.new.self.room _ c.self.invariant.rising c.self.invariant.dirty_listed (ap (λ (k : Cache). k.pages) c.in_ok-set.ensures.ok) c.in_ok-set.ensures.within
    (let same = ap (λ (k : Cache). k.room) c.in_ok-set.ensures.ok in let enough = c.self.invariant.enough_dirty in omega arith)

pub invariant_of-self-2 : goal.invariant_of-self-2
invariant_of-self-2 c =
    let q : CachedPage = record { birth = c.args.birth; index = c.args.index; block = c.args.block; body = c.args.body; version = c.args.call; state = page_states.Dirty } in
    put_cache c.self.inside.pages c.set.new.self q c.self.inside.unsent.items _ c.self.inside.dirty.items _ c.put_key.new.keys.items _ c.put_key-2.new.keys.items _
    c.self.invariant c.in_ok-set.ensures.ok c.in_ok-set.ensures.within c.put_key.ensures.items c.put_key-2.ensures.items c.put_key.ensures.capacity c.put_key-2.ensures.capacity
