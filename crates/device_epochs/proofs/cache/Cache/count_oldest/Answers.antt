use Rattle.std.proofs.Common.{refl, sym, subst, rules}
use Rattle.std.proofs.lemmas.Option.{slice_get_read}
use Rattle.std.proofs.lemmas.List.Sorted.{IsPartitionedBy-leb, IsPartitionPoint-from_clause}
use Rattle.std.specs.Prelude.{nat_le, ◌≡◌, ◌<◌, ◌≤◌, length, slice_get, Some}
use Rattle.device_epochs.specs.declared.cache.Entry.{Entry}
use Rattle.device_epochs.specs.laws.Valid.{AreSorted}
use Rattle.device_epochs.specs.code.Newest.{CacheState}
use Rattle.device_epochs.proofs.Searches.{partition_count, epochs_rise_by}
use Rattle.device_epochs.proofs.cache.Cache.count_oldest.Goals as goal

pub returns-clause-count : goal.returns-clause-count
returns-clause-count c =
    let entries = c.self.inside.entries in
    let items = entries.items in
    let long = entries.ok.0 in
    let first = c.in-Some.first.now in
    let sorted : AreSorted items = subst (λ (s : CacheState). AreSorted s.items) (sym c.self.view_is) c.requires.sorted in
    let some : 0 < length items = search rules in
    let at : slice_get items 0 ≡ Some first = slice_get_read items (length items) 0 first refl some (search rules) in
    let within : c.partition_point.result ≤ length items = search rules in
    rw (← c.self.view_is)
    (partition_count items first c.partition_point.result sorted at
    (IsPartitionPoint-from_clause (λ (e : Entry). nat_le e.epoch first.epoch) items c.partition_point.result c.partition_point.ensures.partitioned
    (IsPartitionedBy-leb (λ (e : Entry). e.epoch) items first.epoch (epochs_rise_by items sorted))
    (λ a r f h. search rules))
    within)
