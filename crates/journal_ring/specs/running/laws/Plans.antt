-- The requests of a plan, by parts.
use Rattle.std.specs.Prelude.{ℕ, Bool, false, List, [], ◌∷◌, ◌++◌, if◌then◌else◌}
use Rattle.order_model.specs.declared.note.Note.TheVariants.{Super}
use Rattle.log_model.specs.Marks.{Logged}
use Rattle.log_model.specs.Ring.{Ring}
use Rattle.journal_ring.specs.running.Plan.{Writers, Planned, logged_blocks, placed, with_barrier}
use Rattle.journal_ring.specs.declared.running.pieces.UnplacedBlock.{UnplacedBlock}

-- a request without its place
abbrev pub unplaced : Planned → UnplacedBlock
unplaced p = record { note = p.note; body = p.body }

abbrev pub place_of : Planned → ℕ
place_of p = p.block

-- the requests before the commit block
abbrev pub before_commit : Writers → ℕ → Ring → ℕ → Bool → ℕ → ℕ → List Logged → List ℕ → List Planned
before_commit w journal ring head started k sequence bodies revokes =
    with_barrier ((if started then [] else record { note = Super; block = journal; body = w.super sequence head; barrier = false } ∷ []) ++ placed journal ring head (logged_blocks w k sequence bodies revokes))
