-- A file's list of mapped blocks: one more comes in order; and holes, with zone 0, stand for those that are to come.
use Rattle.std.specs.Prelude.{ℕ, ◌==◌, nat_lt, Bool, if◌then◌else◌, List, [], ◌∷◌, map}
use Rattle.std.specs.List.{list_any}
use Rattle.std.specs.List.Sorted.{IsStrictlySortedBy}
use Rattle.std.specs.Ordering.{nat_cmp}
use Rattle.volume_ops.specs.declared.found.Mapped.{Mapped}

-- its mapped blocks stand in rising order of their indices, each once
abbrev pub IsRising : List Mapped → Type 0
IsRising zones = IsStrictlySortedBy nat_cmp (map (λ (m : Mapped). m.index) zones)

-- a file's list of mapped blocks with one more, in rising order of index
abbrev pub with_mapped : List Mapped → ℕ → ℕ → List Mapped
with_mapped [] index zone = record { index = index; zone = zone } ∷ []
with_mapped (m ∷ zones) index zone = if nat_lt index m.index then record { index = index; zone = zone } ∷ m ∷ zones else m ∷ with_mapped zones index zone

abbrev pub has_index : List Mapped → ℕ → Bool
has_index zones index = list_any (λ (m : Mapped). m.index == index) zones

-- a hole comes, where the block is not there
abbrev pub with_hole : List Mapped → ℕ → List Mapped
with_hole zones index = if has_index zones index then zones else with_mapped zones index 0

abbrev pub with_holes : List Mapped → List ℕ → List Mapped
with_holes zones [] = zones
with_holes zones (index ∷ indices) = with_holes (with_hole zones index) indices

-- the block has another zone, if it is there
abbrev pub with_zone : List Mapped → ℕ → ℕ → List Mapped
with_zone [] index zone = []
with_zone (m ∷ zones) index zone = if m.index == index then record { index = index; zone = zone } ∷ zones else m ∷ with_zone zones index zone
