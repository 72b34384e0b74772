use Rattle.std.proofs.Common.{rules, ◌≡◌, min, map, length, count_by, sym, ap, subst, ◌∙◌, arith}
use Rattle.std.specs.List.{position}
use Rattle.std.specs.Option.{unwrap_or}
use Rattle.minix_tables.specs.zones.Zones.{Zones, released, let_go, is_quarantined_for}
use Rattle.minix_tables.proofs.ZonesLemmas.Steps.{none_held, freed_most, released_map, all_written}
use Rattle.minix_tables.proofs.zones.zone_map.ZoneMap.release.Goals as goal

pub returns-then-self-eq0 : goal.returns-then-self-eq0
returns-then-self-eq0 c =
    let same = none_held c.args.tx c.self.inside.states.items (sym c.self.invariant.quarantined_is ∙ c.if-self-eq0.true) in
    let now : Zones = record { first = c.self.inside.first; states = c.self.inside.states.items } in
    let kept : now ≡ released now c.args.tx = ap (λ zs. let m : Zones = record { first = c.self.inside.first; states = zs } in m) same in
    subst (λ m. m ≡ released m c.args.tx) c.self.view_is kept

pub overflow_sub-self : goal.overflow_sub-self
overflow_sub-self c =
    let count : c.free_quarantined-freed.result ≡ count_by (is_quarantined_for c.args.tx) c.self.inside.states.items = search rules in
    let most = freed_most c.args.tx c.self.inside.states.items in
    let all = c.self.invariant.quarantined_is in
    omega arith

pub invariant_of-self : goal.invariant_of-self
invariant_of-self c =
    let zs = c.self.inside.states.items in
    let count : c.free_quarantined-freed.result ≡ count_by (is_quarantined_for c.args.tx) zs = search rules in
    let new : c.free_quarantined-freed.new.states ≡ map (let_go c.args.tx) zs = search rules in
    let low : c.min-self-inside.result ≡ min c.self.inside.low (unwrap_or (position (is_quarantined_for c.args.tx) zs) c.self.inside.low) = search rules in
    let size : c.self.inside.states.len ≡ length c.free_quarantined-freed.new.states = search rules in
    rw (all_written zs c.free_quarantined-freed.new.states c.self.inside.states.len size, new, low)
    (released_map c.self.inside.first zs c.self.inside.low c.self.inside.free c.self.inside.quarantined c.args.tx c.free_quarantined-freed.result c.self.invariant count)
