-- What holds of the fields of a map: none below the hint is free, and the counts are right.
use Rattle.std.specs.Prelude.{◌≡◌, ℕ, ◌+◌, ◌^◌, ◌<◌, ◌≤◌, List, length, count_by}
use Rattle.minix_tables.specs.declared.zones.zone_state.ZoneState.{ZoneState}
use Rattle.minix_tables.specs.zones.Zones.{NoneFreeBelow, is_free, is_quarantined}

-- `first` is the number of the first zone of data, and `low`, the hint, a place counted from it
pub record IsZoneMap (first : ℕ) (zs : List ZoneState) (low free quarantined : ℕ) : Type 0 where
  pub none_below : NoneFreeBelow zs low
  pub within : low ≤ length zs
  pub free_is : free ≡ count_by is_free zs
  pub quarantined_is : quarantined ≡ count_by is_quarantined zs
  pub fits : first + length zs < 2 ^ 16
