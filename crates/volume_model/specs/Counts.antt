-- Which zones a file uses, by its mapped indices.
use Rattle.std.specs.Prelude.{ℕ, ◌+◌, ◌-◌, ◌/◌, ◌==◌, nat_lt, nat_le, Bool, ◌&&◌, List, ◌∷◌, length, map, filter}
use Rattle.std.specs.List.{list_any, range_with_len}
use Rattle.volume_ops.specs.declared.found.Mapped.{Mapped}
use Rattle.volume_model.specs.Volume.{Place, block, indirect, double, inner}

-- a place lies on the way to a block
abbrev pub passes : Place → ℕ → Bool
passes (block j) i = i == j
passes indirect i = nat_le 7 i && nat_lt i 519
passes double i = nat_le 519 i
passes (inner group) i = nat_le 519 i && ((i - 519) / 512 == group)

-- a place is used by a file that has these blocks mapped
abbrev pub uses : List ℕ → Place → Bool
uses indices x = list_any (passes x) indices

-- which stay when all blocks from an index on go
abbrev pub keeps_below : List ℕ → ℕ → Place → Bool
keeps_below indices from (block i) = nat_lt i from
keeps_below indices from indirect = uses (filter (λ i. nat_lt i from) indices) indirect
keeps_below indices from double = uses (filter (λ i. nat_lt i from) indices) double
keeps_below indices from (inner group) = uses (filter (λ i. nat_lt i from) indices) (inner group)

-- the places of zones of numbers
abbrev pub number_places : List Place
number_places = indirect ∷ double ∷ map inner (range_with_len 0 512)

-- The zones of a file: one for each mapped block, and one for each zone of numbers on the way to one.
abbrev pub zones_of_file : List ℕ → ℕ
zones_of_file indices = length indices + length (filter (uses indices) number_places)

-- the indices of a file's mapped blocks
abbrev pub indices_of : List Mapped → List ℕ
indices_of zones = map (λ m. m.index) zones
