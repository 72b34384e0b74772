use Rattle.std.proofs.Common.{◌≡◌, ◌<◌, ◌≤◌, length, Some, refl, sym, subst, arith, rules, vec_len}
use Rattle.std.specs.Prelude.{nat_lt, slice_get}
use Rattle.std.proofs.lemmas.Option.{slice_get_read}
use Rattle.std.proofs.lemmas.List.Sorted.{IsPartitionPoint-from_clause}
use Rattle.blk_base.specs.laws.Members.{slice_get-length}
use Rattle.device_epochs.specs.code.Newest.{CacheState}
use Rattle.device_epochs.proofs.Newest.{keys_split, splits_at, found_newest, none_newest, other_block}
use Rattle.device_epochs.proofs.cache.Cache.newest.Goals as goal
use Rattle.device_epochs.proofs.cache.Cache.newest.Goals.{else-place-len-via-then-place-len+else-index-block, else-place-len-via-else-place-len}

pub returns-then-index-block : goal.returns-then-index-block
returns-then-index-block c =
    let q = c.self.inside in
    let h = c.self.invariant.keys in
    let items = q.entries.items in
    let keys = q.keys.items in
    let newest = q.newest_keys.items in
    let key = c.index.result.now in
    let i = c.partition_point-place.result in
    let long = q.newest_keys.ok in
    let wide : c.args.block < vec_len q.newest_keys = subst (λ (s : CacheState). c.args.block < s.blocks) (sym c.self.view_is) c.requires in
    let at : slice_get newest c.args.block ≡ Some key = slice_get_read newest (length newest) c.args.block key refl (omega arith) (search rules) in
    let le : i ≤ length keys = search rules in
    let split = splits_at keys key i le
    (IsPartitionPoint-from_clause (λ k. nat_lt k key) keys i c.partition_point-place.ensures.partitioned (keys_split keys key h.rising) (λ a r f h. search rules)) in
    let lt : i < length items = search rules in
    let e = c.index-then-place-len.result.now in
    let there : slice_get items i ≡ Some e = slice_get_read items (length items) i e refl lt (search rules) in
    rw (← c.self.view_is) (sym (found_newest q.appended c.args.block key i e items keys newest h at split there (search rules)))

pub returns-else-place-len : goal.returns-else-place-len
returns-else-place-len c =
    let q = c.self.inside in
    let h = c.self.invariant.keys in
    let items = q.entries.items in
    let keys = q.keys.items in
    let newest = q.newest_keys.items in
    let key = c.index.result.now in
    let i = c.partition_point-place.result in
    let long = q.newest_keys.ok in
    let wide : c.args.block < vec_len q.newest_keys = subst (λ (s : CacheState). c.args.block < s.blocks) (sym c.self.view_is) c.requires in
    let at : slice_get newest c.args.block ≡ Some key = slice_get_read newest (length newest) c.args.block key refl (omega arith) (search rules) in
    let le : i ≤ length keys = search rules in
    let split = splits_at keys key i le
    (IsPartitionPoint-from_clause (λ k. nat_lt k key) keys i c.partition_point-place.ensures.partitioned (keys_split keys key h.rising) (λ a r f h. search rules)) in
    rw (← c.self.view_is)
    (sym (none_newest q.appended c.args.block key i items keys newest h at split
    (elim c.else-place-len.branch [
      | else-place-len-via-then-place-len+else-index-block w ↦
          let e = w.index-then-place-len.result.now in
          let lt : i < length items = search rules in
          other_block items i c.args.block e (slice_get_read items (length items) i e refl lt (search rules)) (search rules)
      | else-place-len-via-else-place-len w ↦ λ f there. let lt = slice_get-length items i f there in let out : length items ≤ i = search rules in absurd (omega arith)
    ])))
