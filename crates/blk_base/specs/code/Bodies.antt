-- How an image keeps its blocks: each by the place of its body, and at place 0 stand zeros.
use Rattle.std.specs.Prelude.{◌≡◌, ℕ, suc, ◌+◌, ◌<◌, ◌≤◌, ◌==◌, List, map, length, count_by, slice_index_or}
use Rattle.std.specs.List.{All}
use Rattle.blk_base.specs.Block.{filled}

-- the body at this place
abbrev pub body_at : List (List ℕ) → ℕ → List ℕ
body_at bodies place = slice_index_or bodies place (filled 0)

-- the blocks whose bodies stand at these places
abbrev pub blocks_of : List (List ℕ) → List ℕ → List (List ℕ)
blocks_of bodies places = map (body_at bodies) places

-- how many blocks have this place
abbrev pub at_place : ℕ → List ℕ → ℕ
at_place place places = count_by (λ p. p == place) places

-- Zeros stand first, each place is there, and each but the first is that of at most one block. There would be one body
-- more than there are blocks if each block of zeros had one.
pub record IsKept (bodies : List (List ℕ)) (places : List ℕ) : Type 0 where
  pub zeros : body_at bodies 0 ≡ filled 0
  pub within : All (λ p. p < length bodies) places
  pub apart : (place : ℕ) → 0 < place → at_place place places ≤ 1
  pub room : length bodies + at_place 0 places ≡ suc (length places)
