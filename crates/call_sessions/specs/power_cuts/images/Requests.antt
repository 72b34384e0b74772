-- What each request of a session carries, as far as a reader of the journal looks at it.
use Rattle.std.specs.Prelude.{◌≡◌, ℕ, ◌<◌, ◌≤◌, List, length}
use Rattle.blk_base.specs.Members.{In}
use Rattle.order_model.specs.declared.note.Note.{Note}
use Rattle.order_model.specs.declared.note.Note.TheVariants as notes
use Rattle.log_model.specs.Log.{Tag, Describes, Revokes, Format}
use Rattle.journal_ring.specs.running.Plan.{Writers}

-- a block that a session logs: behind the superblock of the volume, and on the volume
abbrev pub IsLoggable : ℕ → ℕ → Type 0
IsLoggable zones b = (2 ≤ b) × (b < zones)

-- A journal superblock is as it is written; a descriptor has tags for such blocks alone; a revoke block has a number; and
-- no home write is for the superblock of the volume.
abbrev pub IsReadable : Format → Writers → ℕ → Note → List ℕ → Type 0
IsReadable f w zones notes.Super body = (sequence start : ℕ) × (body ≡ w.super sequence start)
IsReadable f w zones (notes.Descriptor k) body = (sequence : ℕ) × (tags : List Tag) × (f.header body ≡ Describes sequence tags) × ((t : Tag) → In t tags → IsLoggable zones t.block)
IsReadable f w zones (notes.Revoke k) body = (sequence : ℕ) × (blocks : List ℕ) × (f.header body ≡ Revokes sequence blocks) × (1 ≤ length blocks)
IsReadable f w zones (notes.Home b) body = 2 ≤ b
IsReadable f w zones other body = Unit {0}
