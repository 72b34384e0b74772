-- The places of the log, counted from the journal superblock on, as a ring: behind the last comes the first again.
use Rattle.std.specs.Prelude.{ℕ, zero, suc, ◌+◌, ◌-◌, ◌<◌, ◌≤◌, ◌==◌, List, [], ◌∷◌, if◌then◌else◌}

-- from `first` to before `past`
pub record Ring : Type 0 where
  pub first : ℕ
  pub past : ℕ

-- a place of the ring
abbrev pub IsPlace : Ring → ℕ → Type 0
IsPlace r p = (r.first ≤ p) × (p < r.past)

-- how many places it has
abbrev pub places_in : Ring → ℕ
places_in r = r.past - r.first

-- behind the last place comes the first
abbrev pub place_after : Ring → ℕ → ℕ
place_after r p = if p + 1 == r.past then r.first else p + 1

-- the place n places on
abbrev pub places_on : Ring → ℕ → ℕ → ℕ
places_on r zero p = p
places_on r (suc n) p = places_on r n (place_after r p)

-- n places from this one on
abbrev pub places_from : Ring → ℕ → ℕ → List ℕ
places_from r zero p = []
places_from r (suc n) p = p ∷ places_from r n (place_after r p)
