-- The zones of data of a volume: free zones, zones in use, and zones in quarantine for a transaction.
use Rattle.std.specs.Prelude.{◌≡◌, ◌≢◌, ℕ, suc, ◌+◌, ◌-◌, ◌<◌, ◌==◌, nat_lt, nat_le, Bool, true, false, if◌then◌else◌, List, [], ◌∷◌, map, slice_set, Option, Some, None}
use Rattle.std.specs.List.{slice_get, list_any, range_with_len}
use Rattle.std.specs.Option.{option_map}
use Rattle.minix_layout.specs.declared.division.Geometry.{Geometry}
use Rattle.minix_tables.specs.declared.zones.zone_state.ZoneState.{ZoneState}
use Rattle.minix_tables.specs.declared.zones.zone_state.ZoneState.TheVariants as states

-- the number of the first zone of data, and what each zone from it on is
pub record Zones : Type 0 where
  pub first : ℕ
  pub states : List ZoneState

-- what a zone is; None where it is no zone of data
abbrev pub state_of : Zones → ℕ → Option ZoneState
state_of m zone = if nat_lt zone m.first then None else slice_get m.states (zone - m.first)

-- the zones with another state for one of them
abbrev pub with_state : Zones → ℕ → ZoneState → Zones
with_state m zone state = record { first = m.first; states = slice_set m.states (zone - m.first) state }

abbrev pub is_free : ZoneState → Bool
is_free states.Free = true
is_free other = false

abbrev pub is_used : ZoneState → Bool
is_used states.Used = true
is_used other = false

abbrev pub is_quarantined : ZoneState → Bool
is_quarantined (states.Quarantined tx) = true
is_quarantined other = false

-- in quarantine for this transaction
abbrev pub is_quarantined_for : ℕ → ZoneState → Bool
is_quarantined_for tx (states.Quarantined freed_by) = freed_by == tx
is_quarantined_for tx other = false

-- in quarantine for this transaction or an earlier one
abbrev pub is_quarantined_to : ℕ → ZoneState → Bool
is_quarantined_to tx (states.Quarantined freed_by) = nat_le freed_by tx
is_quarantined_to tx other = false

-- a zone that is listed is in use, and another is free
abbrev pub mark : List ℕ → ℕ → ZoneState
mark used zone = if list_any (λ u. u == zone) used then states.Used else states.Free

-- the zones of data of a volume, where these are in use
abbrev pub made : Geometry → List ℕ → Zones
made g used = record { first = g.first; states = map (mark used) (range_with_len g.first (g.zones - g.first)) }

-- the first place that is free
abbrev pub least_free : List ZoneState → Option ℕ
least_free [] = None
least_free (z ∷ zs) = if is_free z then Some 0 else option_map suc (least_free zs)

-- no place before this one is free
abbrev pub NoneFreeBelow : List ZoneState → ℕ → Type 0
NoneFreeBelow zs low = (k : ℕ) → k < low → slice_get zs k ≢ Some states.Free

-- the number of the lowest free zone; None where there is none
abbrev pub lowest_free : Zones → Option ℕ
lowest_free m = option_map (λ at. m.first + at) (least_free m.states)

-- the zone is free, and no lower one is
pub record IsLowestFree (m : Zones) (zone : ℕ) : Type 0 where
  pub free : state_of m zone ≡ Some states.Free
  pub lowest : (lower : ℕ) → lower < zone → state_of m lower ≢ Some states.Free

-- the lowest free zone, if there is one, is taken into use
abbrev pub taken : Zones → Zones
taken m = elim (lowest_free m) as (λ _. Zones) [ None ↦ m | Some zone ↦ with_state m zone states.Used ]

-- a zone is put into quarantine for a transaction
abbrev pub given : Zones → ℕ → ℕ → Zones
given m zone tx = with_state m zone (states.Quarantined tx)

-- a zone after a transaction's release
abbrev pub let_go : ℕ → ZoneState → ZoneState
let_go tx z = if is_quarantined_for tx z then states.Free else z

-- the zones in quarantine for a transaction are freed
abbrev pub released : Zones → ℕ → Zones
released m tx = record { first = m.first; states = map (let_go tx) m.states }
