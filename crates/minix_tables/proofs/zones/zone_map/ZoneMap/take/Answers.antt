use Rattle.std.proofs.Common.{rules, ◌≡◌, arith, Some, None, length}
use Rattle.std.specs.List.{slice_get}
use Rattle.std.proofs.lemmas.Option.{slice_get_within}
use Rattle.minix_tables.specs.zones.Zones.{NoneFreeBelow, least_free}
use Rattle.minix_tables.specs.zones.laws.Lowest.{none_least}
use Rattle.minix_tables.specs.declared.zones.zone_state.ZoneState.TheVariants as states
use Rattle.minix_tables.proofs.ZonesLemmas.Steps.{taken_map}
use Rattle.minix_tables.proofs.zones.zone_map.ZoneMap.take.Goals as goal

pub overflow_sub-self : goal.overflow_sub-self
overflow_sub-self c =
    let found : slice_get c.self.inside.states.items c.in-Some.at ≡ Some states.Free = search rules in
    let none : NoneFreeBelow c.self.inside.states.items c.in-Some.at = search rules in
    let m = taken_map c.self.inside.first c.self.inside.states.items c.self.inside.low c.self.inside.free c.self.inside.quarantined c.in-Some.at c.self.invariant found none in
    let some = m.0 in
    omega arith

pub overflow_cast-result : goal.overflow_cast-result
overflow_cast-result c =
    let found : slice_get c.self.inside.states.items c.in-Some.at ≡ Some states.Free = search rules in
    let inside = slice_get_within c.self.inside.states.items c.in-Some.at states.Free found in
    let fits = c.self.invariant.fits in
    omega arith

pub overflow_add-result : goal.overflow_add-result
overflow_add-result c =
    let found : slice_get c.self.inside.states.items c.in-Some.at ≡ Some states.Free = search rules in
    let inside = slice_get_within c.self.inside.states.items c.in-Some.at states.Free found in
    let fits = c.self.invariant.fits in
    omega arith

pub invariant_of-self : goal.invariant_of-self
invariant_of-self c =
    let found : slice_get c.self.inside.states.items c.in-Some.at ≡ Some states.Free = search rules in
    let none : NoneFreeBelow c.self.inside.states.items c.in-Some.at = search rules in
    (taken_map c.self.inside.first c.self.inside.states.items c.self.inside.low c.self.inside.free c.self.inside.quarantined c.in-Some.at c.self.invariant found none).1

pub invariant_of-self-in-None : goal.invariant_of-self-in-None
invariant_of-self-in-None c =
    let least : least_free c.self.inside.states.items ≡ None = search rules in
    let size : c.len-self-inside.result ≡ length c.self.inside.states.items = search rules in
    record {
      none_below = λ k low. none_least c.self.inside.states.items least k;
      within = omega arith;
      free_is = c.self.invariant.free_is;
      quarantined_is = c.self.invariant.quarantined_is;
      fits = c.self.invariant.fits;
    }
