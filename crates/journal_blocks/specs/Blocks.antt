-- The blocks of the log, as they are read. A journal has narrow tags, with block numbers of 4 bytes, or wide ones, with 8.
use Rattle.std.specs.Prelude.{ℕ, zero, suc, ◌^◌, ◌+◌, ◌-◌, ◌*◌, ◌/◌, ◌%◌, ◌==◌, Bool, true, false, not, ◌&&◌, nat_le, if◌then◌else◌, List, [], ◌∷◌, map, length, drop, Result, Ok, Err}
use Rattle.std.specs.List.{range_with_len}
use Rattle.byte_fields.specs.Fields.{number_at, put}
use Rattle.byte_fields.specs.Fields.Order.{big}
use Rattle.journal_blocks.specs.declared.tag.Tag.{Tag}
use Rattle.journal_blocks.specs.declared.log_block.LogBlock.{LogBlock}
use Rattle.journal_blocks.specs.declared.log_block.LogBlock.TheVariants.{Descriptor, Commit, Revoke}
use Rattle.journal_blocks.specs.declared.fault.JournalFault.{JournalFault}
use Rattle.journal_blocks.specs.declared.fault.JournalFault.TheVariants.{NotMagic, BadKind, BadCount}
use Rattle.journal_blocks.specs.Header.{magic_of, kind_of, sequence_of}

-- ---- descriptors

-- bit is 1, 2, 4 or 8
abbrev pub has_flag : ℕ → ℕ → Bool
has_flag bit flags = flags / bit % 2 == 1

-- the flags of the tag that these bytes begin with
abbrev pub flags_in : List ℕ → ℕ
flags_in bytes = number_at big 2 6 bytes

module _ (wide : Bool) where
  -- the bytes of a tag before its uuid: of a wide one the high half of the block number stands behind the flags
  abbrev pub front_size : ℕ
  front_size = if wide then 12 else 8

  -- the uuid of 16 bytes is there unless the flag says that it is the one before
  abbrev pub tag_size : List ℕ → ℕ
  tag_size bytes = if has_flag 2 (flags_in bytes) then front_size else front_size + 16

  -- the bytes begin with a tag, and have all of it
  abbrev pub is_whole : List ℕ → Bool
  is_whole bytes = nat_le front_size (length bytes) && nat_le (tag_size bytes) (length bytes)

  -- the low half of the block number comes first
  abbrev pub block_number : List ℕ → ℕ
  block_number bytes = if wide then number_at big 4 8 bytes * 2 ^ 32 + number_at big 4 0 bytes else number_at big 4 0 bytes

  -- the tag that these bytes begin with
  abbrev pub tag_in : List ℕ → Tag
  tag_in bytes = record { block = block_number bytes; escaped = has_flag 1 (flags_in bytes) }

  -- the tags in these bytes, at most so many: up to the flag 8, or until no whole one fits
  abbrev pub tags_in : ℕ → List ℕ → List Tag
  tags_in zero bytes = []
  tags_in (suc most) bytes =
      if is_whole bytes then tag_in bytes ∷ (if has_flag 8 (flags_in bytes) then [] else tags_in most (drop (tag_size bytes) bytes))
      else []

  -- 126 tags of 8 bytes fit behind a header of 12, and fewer wide ones
  unfoldable pub tags_of : List ℕ → List Tag
  tags_of b = tags_in 126 (drop 12 b)

-- ---- revoke blocks

-- header, count and numbers, in bytes
abbrev pub count_of : List ℕ → ℕ
count_of b = number_at big 4 12 b

module _ (wide : Bool) where
  -- the bytes of a block number in a revoke block, and in both halves of a tag
  abbrev pub number_size : ℕ
  number_size = if wide then 8 else 4

  -- a count, in bytes, that a revoke block may have: with its front of 16, within the block, and of whole numbers
  abbrev pub is_count : ℕ → Bool
  is_count count = nat_le 16 count && (nat_le count 1024 && (count % number_size == 0))

  -- block number k of a revoke block, counted from 0
  abbrev pub revoked_at : List ℕ → ℕ → ℕ
  revoked_at b k = number_at big number_size (16 + number_size * k) b

  unfoldable pub revoked_of : List ℕ → List ℕ
  revoked_of b = map (revoked_at b) (range_with_len 0 ((count_of b - 16) / number_size))

-- ---- blocks of the log

unfoldable pub log_block_of : Bool → List ℕ → Result LogBlock JournalFault
log_block_of wide b =
    if not (magic_of b == 0xC03B3998) then Err NotMagic
    else if kind_of b == 1 then Ok (Descriptor (sequence_of b) (tags_of wide b))
    else if kind_of b == 2 then Ok (Commit (sequence_of b))
    else if not (kind_of b == 5) then Err BadKind
    else if not (is_count wide (count_of b)) then Err BadCount
    else Ok (Revoke (sequence_of b) (revoked_of wide b))

-- ---- bodies

-- as a body stands in the log, and whether it is escaped
abbrev pub escaped : List ℕ → List ℕ × Bool
escaped body = if magic_of body == 0xC03B3998 then (put big 4 0 0 body, true) else (body, false)

-- the body that a block of the log stands for
unfoldable pub restored : Bool → List ℕ → List ℕ
restored is_escaped body = if is_escaped then put big 4 0 0xC03B3998 body else body
