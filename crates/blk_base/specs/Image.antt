-- Images, as lists of blocks.
use Rattle.std.specs.Prelude.{◌≡◌, ℕ, ◌*◌, ◌/◌, ◌≤◌, Option, List, replicate, take, drop, map, length}
use Rattle.std.specs.List.{range_with_len}
use Rattle.blk_base.specs.Block.{filled}
use Rattle.blk_base.specs.Streams.{Drained}
use Rattle.blk_base.specs.declared.block.TheConstants.{BLOCK_BYTES}

-- an image of this many blocks of zeros
abbrev pub zeros : ℕ → List (List ℕ)
zeros blocks = replicate blocks (filled 0)

-- the bytes of block b
abbrev pub bytes_at : List ℕ → ℕ → List ℕ
bytes_at bytes b = take BLOCK_BYTES (drop (BLOCK_BYTES * b) bytes)

-- the whole blocks of these bytes; a last part that is no whole block is left out
abbrev pub whole_blocks : List ℕ → List (List ℕ)
whole_blocks bytes = map (bytes_at bytes) (range_with_len 0 (length bytes / BLOCK_BYTES))

-- what stands behind the whole blocks of these bytes
abbrev pub last_part : List ℕ → List ℕ
last_part bytes = drop (BLOCK_BYTES * (length bytes / BLOCK_BYTES)) bytes

-- a source was read to its end, at most so many bytes, and these are their whole blocks
pub record IsImageRead (most : ℕ) (old new : Option (List ℕ)) (blocks : List (List ℕ)) : Type 0 where
  pub bytes : List ℕ
  pub drained : Drained old new bytes
  pub short : length bytes ≤ most
  pub whole : blocks ≡ whole_blocks bytes
