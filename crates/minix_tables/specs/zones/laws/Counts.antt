-- How many zones are free, in use and in quarantine.
use Rattle.std.specs.Prelude.{◌≡◌, ℕ, ◌+◌, ◌-◌, ◌==◌, Bool, true, false, cond, if◌then◌else◌, List, [], ◌∷◌, map, length, slice_set, Option, Some, None, count_by, refl}
use Rattle.std.specs.List.{slice_get}
use Rattle.std.proofs.Common.{sym, ap, subst, arith}
use Rattle.std.proofs.lemmas.List.Sums.{sum_by-set, sum_by-cons}
use Rattle.std.proofs.lemmas.Option.{get_or_from_slice_get, slice_get_within}
use Rattle.minix_tables.specs.declared.zones.zone_state.ZoneState.{ZoneState}
use Rattle.minix_tables.specs.declared.zones.zone_state.ZoneState.TheVariants as states
use Rattle.minix_tables.specs.zones.Zones.{Zones, state_of, with_state, lowest_free, taken, given, let_go, is_free, is_used, is_quarantined, is_quarantined_for}
use Rattle.minix_tables.specs.zones.laws.States.{inside}
use Rattle.minix_tables.specs.zones.laws.Lowest.{lowest_is}

abbrev pub one_if : Bool → ℕ
one_if t = cond t 1 0

-- a count after one state was written
pub count_written : (p : ZoneState → Bool) (zs : List ZoneState) (at : ℕ) (z old : ZoneState) → slice_get zs at ≡ Some old →
    count_by p (slice_set zs at z) + one_if (p old) ≡ count_by p zs + one_if (p z)
count_written p zs at z old h =
    subst (λ o. count_by p (slice_set zs at z) + one_if (p o) ≡ count_by p zs + one_if (p z)) (get_or_from_slice_get zs at old old h)
    (sum_by-set (λ x. cond (p x) 1 0) zs at z old (slice_get_within zs at old h))

-- each zone is one of the three
pub all_counted : (zs : List ZoneState) → count_by is_free zs + count_by is_used zs + count_by is_quarantined zs ≡ length zs
all_counted [] = refl
all_counted (z ∷ zs) =
    let free = sum_by-cons (λ x. one_if (is_free x)) z zs in
    let used = sum_by-cons (λ x. one_if (is_used x)) z zs in
    let held = sum_by-cons (λ x. one_if (is_quarantined x)) z zs in
    let rest = all_counted zs in
    let one = kind z in
    omega arith
  where
    kind : (z : ZoneState) → one_if (is_free z) + one_if (is_used z) + one_if (is_quarantined z) ≡ 1
    kind states.Free = refl
    kind states.Used = refl
    kind (states.Quarantined tx) = refl

-- what a release frees
pub released_free : (tx : ℕ) (zs : List ZoneState) → count_by is_free (map (let_go tx) zs) ≡ count_by is_free zs + count_by (is_quarantined_for tx) zs
released_free tx [] = refl
released_free tx (z ∷ zs) =
    let after = sum_by-cons (λ x. one_if (is_free x)) (let_go tx z) (map (let_go tx) zs) in
    let before = sum_by-cons (λ x. one_if (is_free x)) z zs in
    let held = sum_by-cons (λ x. one_if (is_quarantined_for tx x)) z zs in
    let rest = released_free tx zs in
    let one = here z in
    omega arith
  where
    by : (t : Bool) (freed_by : ℕ) → one_if (is_free (if t then states.Free else states.Quarantined freed_by)) ≡ 0 + one_if t
    by true freed_by = refl
    by false freed_by = refl

    here : (z : ZoneState) → one_if (is_free (let_go tx z)) ≡ one_if (is_free z) + one_if (is_quarantined_for tx z)
    here states.Free = refl
    here states.Used = refl
    here (states.Quarantined freed_by) = by (freed_by == tx) freed_by

pub released_quarantined : (tx : ℕ) (zs : List ZoneState) → count_by is_quarantined (map (let_go tx) zs) + count_by (is_quarantined_for tx) zs ≡ count_by is_quarantined zs
released_quarantined tx [] = refl
released_quarantined tx (z ∷ zs) =
    let after = sum_by-cons (λ x. one_if (is_quarantined x)) (let_go tx z) (map (let_go tx) zs) in
    let before = sum_by-cons (λ x. one_if (is_quarantined x)) z zs in
    let held = sum_by-cons (λ x. one_if (is_quarantined_for tx x)) z zs in
    let rest = released_quarantined tx zs in
    let one = here z in
    omega arith
  where
    by : (t : Bool) (freed_by : ℕ) → one_if (is_quarantined (if t then states.Free else states.Quarantined freed_by)) + one_if t ≡ 1
    by true freed_by = refl
    by false freed_by = refl

    here : (z : ZoneState) → one_if (is_quarantined (let_go tx z)) + one_if (is_quarantined_for tx z) ≡ one_if (is_quarantined z)
    here states.Free = refl
    here states.Used = refl
    here (states.Quarantined freed_by) = by (freed_by == tx) freed_by

pub taken_is : (m : Zones) (zone : ℕ) → lowest_free m ≡ Some zone → taken m ≡ with_state m zone states.Used
taken_is m zone e = ap (λ (o : Option ℕ). elim o as (λ _. Zones) [ None ↦ m | Some zone ↦ with_state m zone states.Used ]) e

pub taken_counts : (m : Zones) (zone : ℕ) → lowest_free m ≡ Some zone →
    (count_by is_free (taken m).states + 1 ≡ count_by is_free m.states)
    × (count_by is_quarantined (taken m).states ≡ count_by is_quarantined m.states)
taken_counts m zone e =
    let at = inside m zone states.Free ((lowest_is m zone).0 e).free in
    let free = count_written is_free m.states (zone - m.first) states.Used states.Free at in
    let held = count_written is_quarantined m.states (zone - m.first) states.Used states.Free at in
    subst
    (λ (n : Zones). (count_by is_free n.states + 1 ≡ count_by is_free m.states) × (count_by is_quarantined n.states ≡ count_by is_quarantined m.states))
    (sym (taken_is m zone e)) (omega arith, omega arith)

pub given_counts : (m : Zones) (zone tx : ℕ) → state_of m zone ≡ Some states.Used →
    (count_by is_free (given m zone tx).states ≡ count_by is_free m.states)
    × (count_by is_quarantined (given m zone tx).states ≡ count_by is_quarantined m.states + 1)
given_counts m zone tx h =
    let at = inside m zone states.Used h in
    let free = count_written is_free m.states (zone - m.first) (states.Quarantined tx) states.Used at in
    let held = count_written is_quarantined m.states (zone - m.first) (states.Quarantined tx) states.Used at in
    (omega arith, omega arith)
