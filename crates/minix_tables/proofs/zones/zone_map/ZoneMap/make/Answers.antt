use Rattle.std.proofs.Common.{rules, ◌≡◌, ◌-◌, ◌^◌, ◌<◌, map, length, replicate, count_by, ap, subst, ◌∙◌}
use Rattle.std.specs.List.{range_with_len}
use Rattle.minix_tables.specs.declared.zones.zone_state.ZoneState.TheVariants as states
use Rattle.minix_tables.specs.zones.Zones.{mark, is_free}
use Rattle.minix_tables.proofs.ZonesLemmas.Steps.{none_marked, made_map, all_written}
use Rattle.minix_tables.proofs.zones.zone_map.ZoneMap.make.Goals as goal

pub mark_used-requires : goal.mark_used-requires
mark_used-requires c =
    let all : c.deref_mut.result.now ≡ replicate c.from-count.result states.Free = search rules in
    let size : length c.deref_mut.result.now ≡ c.from-count.result = search rules in
    record { free = rw size (all ∙ none_marked c.from-count.result c.args.g.now.first) }

pub invariant_of-result : goal.invariant_of-result
invariant_of-result c =
    let n = c.from-count.result in
    let size : length c.deref_mut.result.now ≡ n = search rules in
    let new : c.mark_used.new.states ≡ map (mark c.args.used.now) (range_with_len c.args.g.now.first n) = subst (λ k. c.mark_used.new.states ≡ map (mark c.args.used.now) (range_with_len c.args.g.now.first k)) size c.mark_used.ensures.states in
    let len : c.in_ok-states.states.len ≡ length c.mark_used.new.states = search rules in
    let count : n ≡ c.args.g.now.zones - c.args.g.now.first = search rules in
    let written = all_written c.in_ok-states.states.items c.mark_used.new.states c.in_ok-states.states.len len in
    let free : c.count_free-free.result ≡ count_by is_free c.mark_used.new.states = c.count_free-free.ensures ∙ ap (count_by is_free) (c.deref.ensures.value ∙ written) in
    let low : c.args.g.now.first < 2 ^ 16 = search rules in
    let high : c.args.g.now.zones < 2 ^ 16 = search rules in
    rw (written, new)
    (made_map c.args.used.now c.args.g.now.first c.args.g.now.zones c.count_free-free.result n count low high (free ∙ ap (count_by is_free) new))
