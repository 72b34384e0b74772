-- What reading and writing do to the bytes of a stream and to its count of faults.
use Rattle.std.specs.Prelude.{◌≡◌, ℕ, ◌+◌, ◌^◌, ◌<◌, Option, Some, None, List, [], take, ⊤}
use Rattle.std.specs.Io.KnownBytes.{Appends}

-- The count of faults rose, or it stands at its end, where it can rise no more.
abbrev pub Rose : ℕ → ℕ → Type 0
Rose old new = old + 1 < 2 ^ 64 → old < new

-- these were all the bytes that were left, where they are told
abbrev pub Drained : Option (List ℕ) → Option (List ℕ) → List ℕ → Type 0
Drained None new bytes = ⊤
Drained (Some left) None bytes = ⊥
Drained (Some left) (Some rest) bytes = (bytes ≡ left) × (rest ≡ [])

-- a front of these bytes went out
abbrev pub AppendsFront : Option (List ℕ) → Option (List ℕ) → List ℕ → Type 0
AppendsFront old new bytes = (n : ℕ) × Appends old new (take n bytes)
