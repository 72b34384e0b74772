use Rattle.std.proofs.Common.{rules, ◌≤◌, ◌<◌, length, sym, ◌∙◌}
use Rattle.page_cache.proofs.KeyPlaces.{stands_here, stands_other, stands_past}
use Rattle.page_cache.proofs.keys.find_key.Goals.{else-at-len-via-then-at-len+else-is_key, else-at-len-via-else-at-len}
use Rattle.page_cache.proofs.keys.find_key.Goals as goal

pub returns-then-is_key-clause-there : goal.returns-then-is_key-clause-there
returns-then-is_key-clause-there c _ =
    let inside : c.place_of-at.result < length c.args.keys.now.items = search rules in
    stands_here c.args.keys.now.items c.args.birth c.args.index c.place_of-at.result c.at.result c.place_of-at.ensures.value inside c.at.ensures (sym c.is_key.ensures ∙ c.if-is_key.true)

pub returns-else-at-len-clause-absent : goal.returns-else-at-len-clause-absent
returns-else-at-len-clause-absent c _ = elim c.else-at-len.branch [
  | else-at-len-via-then-at-len+else-is_key w ↦ stands_other c.args.keys.now.items c.args.birth c.args.index c.place_of-at.result w.at.result c.place_of-at.ensures.value w.at.ensures (sym w.is_key.ensures ∙ w.if-is_key.false)
  | else-at-len-via-else-at-len w ↦ stands_past c.args.keys.now.items c.args.birth c.args.index c.place_of-at.result c.place_of-at.ensures.value (let past : length c.args.keys.now.items ≤ c.place_of-at.result = search rules in past)
]
