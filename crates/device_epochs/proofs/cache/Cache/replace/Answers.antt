use Rattle.std.proofs.Common.{sym, subst}
use Rattle.device_epochs.specs.code.Newest.{CacheState, HasBlockAt}
use Rattle.device_epochs.proofs.Newest.{keys_replaced}
use Rattle.device_epochs.proofs.cache.Cache.replace.Goals as goal

pub invariant_of-self : goal.invariant_of-self
invariant_of-self c =
    let q = c.self.inside in
    let h = c.self.invariant in
    let was = subst (λ (s : CacheState). HasBlockAt c.args.e.block s.items c.args.place) (sym c.self.view_is) c.requires in
    record {
      keys = keys_replaced c.args.e was.found q.appended c.args.place q.entries.items q.keys.items q.newest_keys.items h.keys was.there was.same;
      room = h.room;
    }
