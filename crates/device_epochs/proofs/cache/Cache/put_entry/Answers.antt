use Rattle.std.proofs.Common.{ap, ◌∙◌}
use Rattle.device_epochs.specs.code.Newest.{CacheState}
use Rattle.device_epochs.proofs.Searches.{put_at_place}
use Rattle.device_epochs.proofs.cache.Cache.put_entry.Goals as goal

pub returns-in-Some-clause-items : goal.returns-in-Some-clause-items
returns-in-Some-clause-items c =
    ap (λ (s : CacheState). s.items) c.replace.ensures
    ∙ put_at_place c.args.e c.args.self.now.items c.in-Some.place c.requires.plain c.in-Some.ensures
