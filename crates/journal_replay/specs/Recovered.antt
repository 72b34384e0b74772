-- The recovered image: the bodies of the journal's log in their homes, and the log empty.
use Rattle.std.specs.Prelude.{◌≡◌, ◌⊎◌, ℕ, ◌+◌, ◌^◌, ◌%◌, ◌<◌, ◌==◌, if◌then◌else◌, List, [], ◌∷◌, length, slice_get, slice_set, nat_lt, ◌-◌, Option, Some, None, Result, Ok, Err}
use Rattle.std.specs.Option.{option_map}
use Rattle.log_model.specs.Marks.{Transaction, Mark, Set, mark_in, body_after}
use Rattle.journal_blocks.specs.declared.super_block.JournalSuper.{JournalSuper}
use Rattle.journal_blocks.specs.declared.fault.JournalFault.{JournalFault}
use Rattle.journal_blocks.specs.declared.fault.JournalFault.TheVariants.{BadCount}
use Rattle.journal_blocks.specs.Super.{super_of, with_tail}
use Rattle.journal_blocks.specs.Log.{Reading, log_of, body_at}

-- the whole transactions of the log, none where its start is 0
abbrev pub transactions_of : ℕ → JournalSuper → List (List ℕ) → List Transaction
transactions_of base s image = if s.start == 0 then [] else (log_of base s image).done

-- the first fault in one of them, by its block
abbrev pub fault_of : ℕ → JournalSuper → List (List ℕ) → Option ℕ
fault_of base s image = if s.start == 0 then None else (log_of base s image).fault

-- the blocks from number i on, each after its mark
abbrev pub healed : (ℕ → Mark) → ℕ → List (List ℕ) → List (List ℕ)
healed m i [] = []
healed m i (b ∷ bs) = body_after (m i) b ∷ healed m (i + 1) bs

-- what the log says of a block
abbrev pub log_mark : ℕ → JournalSuper → List (List ℕ) → ℕ → Mark
log_mark base s image = mark_in (log_of base s image).done

-- one past the first sequence that is missing
abbrev pub next_sequence : Reading → ℕ
next_sequence r = (r.sequence + 1) % 2 ^ 32

-- the superblock of the log when it is empty
abbrev pub emptied_super : ℕ → JournalSuper → List (List ℕ) → List ℕ
emptied_super base s image = with_tail (next_sequence (log_of base s image)) 0 (body_at image base)

-- all bodies are home, and the superblock says that the log is empty
abbrev pub emptied : ℕ → JournalSuper → List (List ℕ) → List (List ℕ)
emptied base s image = slice_set (healed (log_mark base s image) 0 image) base (emptied_super base s image)

-- an image whose journal cannot be read, or is empty, is as it is
abbrev pub by_super : ℕ → List (List ℕ) → Result JournalSuper JournalFault → List (List ℕ)
by_super base image (Err fault) = image
by_super base image (Ok s) = if s.start == 0 then image else emptied base s image

unfoldable pub recovered : ℕ → List (List ℕ) → List (List ℕ)
recovered base image = by_super base image (super_of (body_at image base))

-- each block is as it was, or as it is in the end
abbrev pub AreBetween : List (List ℕ) → List (List ℕ) → List (List ℕ) → Type 0
AreBetween old end new = (b : ℕ) → (slice_get new b ≡ slice_get old b) ⊎ (slice_get new b ≡ slice_get end b)

-- the journal's superblock is a block of the image, and no body of the log is for the journal
pub record IsRecoverable (base : ℕ) (image : List (List ℕ)) : Type 0 where
  pub within : base < length image
  pub size : length (body_at image base) ≡ 1024
  pub below : (s : JournalSuper) → super_of (body_at image base) ≡ Ok s → (b : ℕ) (x : List ℕ) → log_mark base s image b ≡ Set x → b < base

-- what is wrong with the journal, and the block with which it is: its superblock, or a block of a whole transaction
abbrev pub fault_by : ℕ → List (List ℕ) → Result JournalSuper JournalFault → Option (JournalFault × ℕ)
fault_by base image (Err fault) = Some (fault, base)
fault_by base image (Ok s) =
    if nat_lt (length image - base) s.maxlen then Some (BadCount, base) else option_map (λ at. (BadCount, at)) (fault_of base s image)

unfoldable pub journal_fault : ℕ → List (List ℕ) → Option (JournalFault × ℕ)
journal_fault base image = fault_by base image (super_of (body_at image base))
