use Rattle.std.proofs.Common.{◌≡◌, ◌≢◌, ◌<◌, ◌≤◌, length, Some, refl, sym, subst, ◌∙◌, arith, rules, get_or}
use Rattle.std.specs.Prelude.{slice_get}
use Rattle.std.specs.List.{remove}
use Rattle.std.specs.VecDeque.{deque_len}
use Rattle.std.proofs.lemmas.Option.{slice_get_read, slice_get-get_or}
use Rattle.device_epochs.specs.code.Helpers.{IsPlain}
use Rattle.device_epochs.specs.code.Newest.{CacheState}
use Rattle.device_epochs.specs.laws.CacheLaws.{remove_is_without}
use Rattle.device_epochs.proofs.Searches.{oldest_pick, oldest_past, oldest_out}
use Rattle.device_epochs.proofs.Newest.{keys_removed, oldest_is_first, taken_rest}
use Rattle.device_epochs.proofs.cache.Cache.take_entry.Goals as goal

pub returns-then-pick-len-clause-entry : goal.returns-then-pick-len-clause-entry
returns-then-pick-len-clause-entry c =
    let items = c.self.inside.entries.items in
    let le : length items ≤ c.args.pick = search rules in
    rw (← c.self.view_is) (sym (oldest_out items c.args.pick le))

pub returns-then-entry-index-clause-entry : goal.returns-then-entry-index-clause-entry
returns-then-entry-index-clause-entry c =
    let items = c.self.inside.entries.items in
    let plain = subst (λ (s : CacheState). IsPlain s.items) (sym c.self.view_is) c.requires in
    let lt : c.args.pick < length items = search rules in
    let some : 0 < length items = omega arith in
    let first : slice_get items 0 ≡ Some c.index.result.now = slice_get_read items (length items) 0 c.index.result.now refl some (search rules) in
    let at : slice_get items c.args.pick ≡ Some c.index-entry.result.now = slice_get_read items (length items) c.args.pick c.index-entry.result.now refl lt (search rules) in
    let other : c.index-entry.result.now.epoch ≢ c.index.result.now.epoch = search rules in
    rw (← c.self.view_is) (sym (oldest_past items c.index.result.now c.index-entry.result.now c.args.pick plain.sorted first at other))

pub invariant_of-self : goal.invariant_of-self
invariant_of-self c =
    let q = c.self.inside in
    let h = c.self.invariant in
    let items = q.entries.items in
    let keys = q.keys.items in
    let pick = c.args.pick in
    let plain = subst (λ (s : CacheState). IsPlain s.items) (sym c.self.view_is) c.requires in
    let lt : pick < length items = search rules in
    let some : 0 < length items = omega arith in
    let first : slice_get items 0 ≡ Some c.index.result.now = slice_get_read items (length items) 0 c.index.result.now refl some (search rules) in
    let at : slice_get items pick ≡ Some c.index-entry.result.now = slice_get_read items (length items) pick c.index-entry.result.now refl lt (search rules) in
    let same : c.index-entry.result.now.epoch ≡ c.index.result.now.epoch = search rules in
    let equal = h.keys.same in
    let long = q.entries.ok.0 in
    let wide = q.keys.ok.0 in
    let ld : pick < deque_len q.entries = omega arith in
    let kd : pick < deque_len q.keys = omega arith in
    let lk : pick < length keys = omega arith in
    let entries_rest = taken_rest items pick _ c.remove-2.result lt (λ d. c.remove-2.ensures.succeeds d ld) c.remove-2.ensures.items in
    let keys_rest = taken_rest keys pick _ c.remove.result lk (λ d. c.remove.ensures.succeeds d kd) c.remove.ensures.items in
    record {
      keys = rw (entries_rest, keys_rest)
          (keys_removed q.appended pick items keys q.newest_keys.items h.keys lt (oldest_is_first items pick c.index.result.now c.index-entry.result.now plain first at same));
      room = omega (arith, h.room, c.remove.ensures.capacity, c.remove-2.ensures.capacity);
    }

pub returns-clause-entry : goal.returns-clause-entry
returns-clause-entry c =
    let items = c.self.inside.entries.items in
    let plain = subst (λ (s : CacheState). IsPlain s.items) (sym c.self.view_is) c.requires in
    let lt : c.args.pick < length items = search rules in
    let some : 0 < length items = omega arith in
    let first : slice_get items 0 ≡ Some c.index.result.now = slice_get_read items (length items) 0 c.index.result.now refl some (search rules) in
    let at : slice_get items c.args.pick ≡ Some c.index-entry.result.now = slice_get_read items (length items) c.args.pick c.index-entry.result.now refl lt (search rules) in
    let same : c.index-entry.result.now.epoch ≡ c.index.result.now.epoch = search rules in
    let taken : c.remove-2.result ≡ Some (get_or items c.args.pick c.index-entry.result.now) = c.remove-2.ensures.succeeds c.index-entry.result.now (search rules) in
    rw (← c.self.view_is)
    (taken
    ∙ sym (slice_get-get_or items c.args.pick c.index-entry.result.now lt)
    ∙ at
    ∙ sym (oldest_pick items c.index.result.now c.index-entry.result.now c.args.pick plain.sorted first at same))

pub returns-clause-rest : goal.returns-clause-rest
returns-clause-rest c =
    let items = c.self.inside.entries.items in
    let plain = subst (λ (s : CacheState). IsPlain s.items) (sym c.self.view_is) c.requires in
    let lt : c.args.pick < length items = search rules in
    let e = get_or items c.args.pick c.index-entry.result.now in
    let taken : c.remove-2.result ≡ Some e = c.remove-2.ensures.succeeds c.index-entry.result.now (search rules) in
    let rest : c.remove-2.new.self.items ≡ remove items c.args.pick = rw taken at c.remove-2.ensures.items in
    rw (← c.self.view_is, taken) (rest ∙ remove_is_without items c.args.pick e plain.unique (slice_get-get_or items c.args.pick c.index-entry.result.now lt))
