-- The superblock of a journal, a block of 1,024 bytes whose numbers have their highest byte first.
use Rattle.std.specs.Prelude.{◌≡◌, ℕ, ◌*◌, ◌/◌, ◌%◌, ◌^◌, ◌<◌, ◌==◌, Bool, true, not, ◌&&◌, ◌||◌, nat_lt, nat_le, if◌then◌else◌, List, [], ◌∷◌, Result, Ok, Err}
use Rattle.byte_fields.specs.Fields.{zeros, number_at, Field, field, written}
use Rattle.byte_fields.specs.Fields.Order.{big}
use Rattle.journal_blocks.specs.declared.super_block.JournalSuper.{JournalSuper}
use Rattle.journal_blocks.specs.declared.fault.JournalFault.{JournalFault}
use Rattle.journal_blocks.specs.declared.fault.JournalFault.TheVariants.{NotMagic, BadKind, BadCount, Feature}
use Rattle.journal_blocks.specs.Header.{magic_of, kind_of}

-- the fields of a superblock: width, place, value; all else is 0
abbrev pub super_fields : JournalSuper → List Field
super_fields s =
    field 4 0 0xC03B3998
    ∷ field 4 4 4
    ∷ field 4 8 0
    ∷ field 4 0x0C 1024
    ∷ field 4 0x10 s.maxlen
    ∷ field 4 0x14 s.first
    ∷ field 4 0x18 s.sequence
    ∷ field 4 0x1C s.start
    ∷ field 4 0x28 s.incompat
    ∷ field 4 0x40 1
    ∷ []

unfoldable pub super_block : JournalSuper → List ℕ
super_block s = written big (super_fields s) (zeros 1024)

-- the size of a block, in bytes
abbrev pub size_of : List ℕ → ℕ
size_of b = number_at big 4 0x0C b

-- the fields as they stand in the bytes, sound or not
abbrev pub numbers_of : List ℕ → JournalSuper
numbers_of b = record {
  maxlen = number_at big 4 0x10 b;
  first = number_at big 4 0x14 b;
  sequence = number_at big 4 0x18 b;
  start = number_at big 4 0x1C b;
  incompat = number_at big 4 0x28 b;
}

-- the incompat bits that are not known: all but the lowest, which is for revoke blocks, and the next, for wide tags
abbrev pub unknown_bits : ℕ → ℕ
unknown_bits incompat = incompat / 4 * 4

-- the journal has wide tags
abbrev pub is_wide : JournalSuper → Bool
is_wide s = s.incompat / 2 % 2 == 1

-- the log has a block, and its start is none of its blocks only where it is 0
abbrev pub has_places : JournalSuper → Bool
has_places s = nat_lt 0 s.first && (nat_lt s.first s.maxlen && ((s.start == 0) || (nat_le s.first s.start && nat_lt s.start s.maxlen)))

unfoldable pub super_of : List ℕ → Result JournalSuper JournalFault
super_of b =
    if not (magic_of b == 0xC03B3998) then Err NotMagic
    else if not (kind_of b == 4) then Err BadKind
    else if not (unknown_bits (numbers_of b).incompat == 0) then Err (Feature (unknown_bits (numbers_of b).incompat))
    else if not ((size_of b == 1024) && has_places (numbers_of b)) then Err BadCount
    else Ok (numbers_of b)

-- a journal begins with this block: it is a superblock, of the first version, which is not read here, or the second
abbrev pub is_journal : List ℕ → Bool
is_journal b = (magic_of b == 0xC03B3998) && ((kind_of b == 3) || (kind_of b == 4))

-- each number fits its bits
pub record FitSuper (s : JournalSuper) : Type 0 where
  pub maxlen : s.maxlen < 2 ^ 32
  pub first : s.first < 2 ^ 32
  pub sequence : s.sequence < 2 ^ 32
  pub start : s.start < 2 ^ 32
  pub incompat : s.incompat < 2 ^ 32

-- the numbers of a journal that can be read
pub record IsSound (s : JournalSuper) : Type 0 where
  pub fits : FitSuper s
  pub known : (unknown_bits s.incompat == 0) ≡ true
  pub places : has_places s ≡ true

-- a superblock with another sequence and start, and no other byte changed
unfoldable pub with_tail : ℕ → ℕ → List ℕ → List ℕ
with_tail sequence start b = written big (field 4 0x18 sequence ∷ field 4 0x1C start ∷ []) b
