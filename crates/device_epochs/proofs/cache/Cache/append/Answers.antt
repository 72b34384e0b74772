use Rattle.std.proofs.Common.{◌<◌, sym, subst, arith, vec_len}
use Rattle.device_epochs.specs.code.Newest.{CacheState}
use Rattle.device_epochs.proofs.Newest.{keys_appended}
use Rattle.device_epochs.proofs.cache.Cache.append.Goals as goal

pub invariant_of-self : goal.invariant_of-self
invariant_of-self c =
    let q = c.self.inside in
    let h = c.self.invariant in
    let long = q.newest_keys.ok in
    let wide : c.args.e.block < vec_len q.newest_keys = subst (λ (s : CacheState). c.args.e.block < s.blocks) (sym c.self.view_is) c.requires.block in
    record {
      keys = rw (c.push_back_reserved.ensures.items, c.push_back_reserved-2.ensures.items)
          (keys_appended c.args.e q.appended q.entries.items q.keys.items q.newest_keys.items h.keys (omega arith));
      room = omega (arith, h.room, c.push_back_reserved.ensures.capacity, c.push_back_reserved-2.ensures.capacity);
    }
