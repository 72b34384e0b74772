-- The log of an image, as one fold over its blocks.
use Rattle.std.specs.Prelude.{ℕ, ◌+◌, ◌-◌, ◌^◌, ◌%◌, ◌==◌, ◌||◌, nat_lt, nat_le, if◌then◌else◌, Bool, List, [], ◌∷◌, ◌++◌, map, slice_index_or, Option, Some, None, Result, Ok, Err, ◌≡◌, ◌⊎◌, true}
use Rattle.std.specs.List.{list_any, range_with_len}
use Rattle.blk_base.specs.Block.{filled}
use Rattle.log_model.specs.Marks.{Logged, Transaction}
use Rattle.journal_blocks.specs.declared.super_block.JournalSuper.{JournalSuper}
use Rattle.journal_blocks.specs.declared.tag.Tag.{Tag}
use Rattle.journal_blocks.specs.declared.log_block.LogBlock.{LogBlock}
use Rattle.journal_blocks.specs.declared.log_block.LogBlock.TheVariants.{Descriptor, Commit, Revoke}
use Rattle.journal_blocks.specs.declared.fault.JournalFault.{JournalFault}
use Rattle.journal_blocks.specs.declared.fault.JournalFault.TheVariants.{NotMagic, BadKind, BadCount, Feature, NoMemory}
use Rattle.journal_blocks.specs.Header.{sequence_of}
use Rattle.journal_blocks.specs.Super.{is_wide}
use Rattle.journal_blocks.specs.Blocks.{log_block_of, restored}

-- what a block is to a reader that expects its sequence
pub data Said : Type 0 where
  Tags : List Tag → Said
  Ends : Said
  Revokes : List ℕ → Said
  BadRevoke : Said
  Nothing : Said

-- of a block whose sequence is the expected one; what is no block of the log says nothing
abbrev pub said_by : Result LogBlock JournalFault → Said
said_by (Ok (Descriptor n tags)) = Tags tags
said_by (Ok (Commit n)) = Ends
said_by (Ok (Revoke n blocks)) = Revokes blocks
said_by (Err BadCount) = BadRevoke
said_by (Err NotMagic) = Nothing
said_by (Err BadKind) = Nothing
said_by (Err (Feature bits)) = Nothing
said_by (Err NoMemory) = Nothing

-- what a block is to a reader that expects this sequence: a block of another sequence says nothing
unfoldable pub said : Bool → ℕ → List ℕ → Said
said wide sequence b = if sequence_of b == sequence then said_by (log_block_of wide b) else Nothing

-- a block of the log, by its place in the image
pub record Entry : Type 0 where
  pub at : ℕ
  pub body : List ℕ

-- what was read so far
pub record Reading : Type 0 where
  -- the sequence that is expected
  pub sequence : ℕ
  -- of the transaction that is read: tags whose bodies are still to come, bodies, revokes, and its first fault
  pub tags : List Tag
  pub bodies : List Logged
  pub revokes : List ℕ
  pub suspect : Option ℕ
  -- the whole transactions, and the first fault in one of them
  pub done : List Transaction
  pub fault : Option ℕ

-- the log goes on, or it has ended
pub data Log : Type 0 where
  GoesOn : Reading → Log
  HasEnded : Reading → Log

-- a log that goes on
abbrev pub goes_on : Reading → Log
goes_on r = GoesOn r

-- what was read, whether the log goes on or has ended
abbrev pub found : Log → Reading
found (GoesOn r) = r
found (HasEnded r) = r

-- the fault that was there counts, and the next one only where there was none
abbrev pub first_of : Option ℕ → Option ℕ → Option ℕ
first_of None next = next
first_of (Some at) next = Some at

-- no session changes the boot block or the superblock, and the volume has no block from zones on
abbrev pub is_outside : ℕ → Tag → Bool
is_outside zones t = nat_lt t.block 2 || nat_le zones t.block

-- a block with a fault: a revoke block with a bad count, or a descriptor with a tag for a block outside
abbrev pub IsFaulty : Bool → ℕ → List ℕ → Type 0
IsFaulty wide zones b =
    (log_block_of wide b ≡ Err BadCount)
    ⊎ ((n : ℕ) × (tags : List Tag) × (log_block_of wide b ≡ Ok (Descriptor n tags)) × (list_any (is_outside zones) tags ≡ true))

-- the transaction is whole: its bodies and revokes are done, its fault counts, and the next sequence is expected
abbrev pub committed : Reading → Reading
committed r = record {
  sequence = (r.sequence + 1) % 2 ^ 32;
  tags = [];
  bodies = [];
  revokes = [];
  suspect = None;
  done = r.done ++ record { bodies = r.bodies; revokes = r.revokes } ∷ [];
  fault = first_of r.fault r.suspect;
}

-- a block where no body is due
abbrev pub by_said : ℕ → Reading → ℕ → Said → Log
by_said zones r at (Tags tags) = GoesOn (record r { tags = tags; suspect = first_of r.suspect (if list_any (is_outside zones) tags then Some at else None) })
by_said zones r at Ends = GoesOn (committed r)
by_said zones r at (Revokes blocks) = GoesOn (record r { revokes = r.revokes ++ blocks })
by_said zones r at BadRevoke = GoesOn (record r { suspect = first_of r.suspect (Some at) })
by_said zones r at Nothing = HasEnded r

module _ (wide : Bool) where
  -- with a tag that waits, the block is its body
  abbrev pub by_tags : ℕ → Reading → Entry → List Tag → Log
  by_tags zones r e [] = by_said zones r e.at (said wide r.sequence e.body)
  by_tags zones r e (t ∷ ts) = GoesOn (record r { tags = ts; bodies = r.bodies ++ record { block = t.block; body = restored t.escaped e.body } ∷ [] })

  -- the log after one block more; from block `zones` on there is nothing of the volume
  abbrev pub read_entry : ℕ → Log → Entry → Log
  read_entry zones (HasEnded r) e = HasEnded r
  read_entry zones (GoesOn r) e = by_tags zones r e r.tags

  abbrev pub read_log : ℕ → Log → List Entry → Log
  read_log zones l [] = l
  read_log zones l (e ∷ es) = read_log zones (read_entry zones l e) es

-- before the first block of a log that begins with this sequence
abbrev pub beginning : ℕ → Reading
beginning sequence = record { sequence = sequence; tags = []; bodies = []; revokes = []; suspect = None; done = []; fault = None }

-- the block of an image, which has zeros behind its end
abbrev pub body_at : List (List ℕ) → ℕ → List ℕ
body_at image block = slice_index_or image block (filled 0)

-- the places of the log's blocks, from its start round to before its start
abbrev pub places : JournalSuper → List ℕ
places s = range_with_len s.start (s.maxlen - s.start) ++ range_with_len s.first (s.start - s.first)

-- the place counts from the journal's superblock, which is block `base` of the image
abbrev pub entry_at : ℕ → List (List ℕ) → ℕ → Entry
entry_at base image place = record { at = base + place; body = body_at image (base + place) }

-- what is found in the log of an image whose journal begins at this block, where the volume ends
unfoldable pub log_of : ℕ → JournalSuper → List (List ℕ) → Reading
log_of base s image = found (read_log (is_wide s) base (GoesOn (beginning s.sequence)) (map (entry_at base image) (places s)))
