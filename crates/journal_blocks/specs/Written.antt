-- The blocks of the log that are no bodies, as they are written.
use Rattle.std.specs.Prelude.{ℕ, ◌^◌, ◌/◌, ◌%◌, ◌+◌, ◌-◌, ◌*◌, ◌==◌, Bool, true, false, if◌then◌else◌, List, [], ◌∷◌, ◌++◌, length}
use Rattle.byte_fields.specs.Fields.{zeros, bytes_of}
use Rattle.byte_fields.specs.Fields.Order.{big}
use Rattle.journal_blocks.specs.declared.tag.Tag.{Tag}
use Rattle.journal_blocks.specs.Blocks.{number_size}

-- of a tag: 1 where its body is escaped, 2 where it has no uuid of its own, 8 where it is the descriptor's last
abbrev pub flags_of : Bool → Bool → Bool → ℕ
flags_of escaped first last = (if escaped then 1 else 0) + ((if first then 0 else 2) + (if last then 8 else 0))

module _ (wide : Bool) where
  -- of a wide tag, the high half of its block number
  abbrev pub high_half : Tag → List ℕ
  high_half t = if wide then bytes_of big 4 (t.block / 2 ^ 32) else []

  -- the low half of the block number, no checksum, the flags and the high half; the first tag has a uuid, of zeros
  abbrev pub tag_bytes : Bool → Bool → Tag → List ℕ
  tag_bytes first last t =
      bytes_of big 4 (t.block % 2 ^ 32)
      ++ (bytes_of big 2 0 ++ (bytes_of big 2 (flags_of t.escaped first last) ++ (high_half t ++ zeros (if first then 16 else 0))))

  -- `first` says that the first of these is the first of its descriptor
  abbrev pub tags_bytes : Bool → List Tag → List ℕ
  tags_bytes first [] = []
  tags_bytes first (t ∷ ts) = tag_bytes first (length ts == 0) t ++ tags_bytes false ts

  -- the block numbers of a revoke block
  abbrev pub numbers_bytes : List ℕ → List ℕ
  numbers_bytes [] = []
  numbers_bytes (n ∷ ns) = bytes_of big (number_size wide) n ++ numbers_bytes ns

-- the 12 bytes of magic number, type and sequence
abbrev pub header_bytes : ℕ → ℕ → List ℕ
header_bytes kind sequence = bytes_of big 4 0xC03B3998 ++ (bytes_of big 4 kind ++ bytes_of big 4 sequence)

-- a block of this type: its header, what it holds, and zeros
abbrev pub block_with : ℕ → ℕ → List ℕ → List ℕ
block_with kind sequence held = header_bytes kind sequence ++ (held ++ zeros (1012 - length held))

module _ (wide : Bool) where
  unfoldable pub descriptor_block : ℕ → List Tag → List ℕ
  descriptor_block sequence tags = block_with 1 sequence (tags_bytes wide true tags)

  -- the count has the header's 12 bytes and its own 4
  unfoldable pub revoke_block : ℕ → List ℕ → List ℕ
  revoke_block sequence blocks = block_with 5 sequence (bytes_of big 4 (16 + number_size wide * length blocks) ++ numbers_bytes wide blocks)

unfoldable pub commit_block : ℕ → List ℕ
commit_block sequence = block_with 2 sequence []

-- the most tags of a descriptor that is written, and the most blocks of a revoke block
abbrev pub most_tags : Bool → ℕ
most_tags wide = if wide then 82 else 122

abbrev pub most_revokes : Bool → ℕ
most_revokes wide = if wide then 126 else 252
