-- The plan of a transaction: its log blocks in order, behind the superblock where the log was empty.
use Rattle.std.specs.Prelude.{ℕ, zero, suc, ◌+◌, ◌-◌, Bool, true, false, List, [], ◌∷◌, ◌++◌, length, map, Option, Some, None, if◌then◌else◌}
use Rattle.order_model.specs.declared.note.Note.TheVariants.{Super, Revoke, Descriptor, Body, Commit}
use Rattle.order_model.specs.declared.note.Note.{Note}
use Rattle.log_model.specs.Log.{Tag}
use Rattle.log_model.specs.Marks.{Logged}
use Rattle.log_model.specs.Ring.{Ring, places_on}
use Rattle.journal_ring.specs.declared.running.pieces.UnplacedBlock.{UnplacedBlock}

-- how the journal's blocks are written
pub record Writers : Type 0 where
  -- the most tags of a descriptor, and the most numbers of a revoke block
  pub most_tags : ℕ
  pub most_revokes : ℕ
  pub super : ℕ → ℕ → List ℕ
  pub revoke : ℕ → List ℕ → List ℕ
  pub descriptor : ℕ → List Tag → List ℕ
  pub commit : ℕ → List ℕ
  -- a body as it is stored, and whether it is escaped
  pub stored : List ℕ → List ℕ
  pub is_escaped : List ℕ → Bool

-- a put that is still to be submitted; all such are order-preserving
pub record Planned : Type 0 where
  pub note : Note
  pub block : ℕ
  pub body : List ℕ
  pub barrier : Bool

-- the log block that is submitted first
abbrev pub first_of : List UnplacedBlock → Option UnplacedBlock
first_of [] = None
first_of (b ∷ bs) = Some b

-- parts of `most` elements, of which `left` more fit into the part that is begun
abbrev pub chunks_from : {X : Type 0} → ℕ → ℕ → List X → List X → List (List X)
chunks_from {X = X} most left begun [] = elim begun as (λ _. List (List X)) [ [] ↦ [] | x ∷ xs ↦ begun ∷ [] ]
chunks_from most zero begun (x ∷ xs) = begun ∷ chunks_from most (most - 1) (x ∷ []) xs
chunks_from most (suc left) begun (x ∷ xs) = chunks_from most left (begun ++ x ∷ []) xs

-- each part but the last has `most` elements; no elements are no part
abbrev pub chunks : {X : Type 0} → ℕ → List X → List (List X)
chunks most xs = chunks_from most most [] xs

module _ (w : Writers) (k sequence : ℕ) where
  abbrev pub revoke_block : List ℕ → UnplacedBlock
  revoke_block blocks = record { note = Revoke k; body = w.revoke sequence blocks }

  -- the block that the body is for, and whether the body is stored escaped
  abbrev pub tag_of : Logged → Tag
  tag_of l = record { block = l.block; escaped = w.is_escaped l.body }

  -- the body as it is stored in the log, escaped where it must be
  abbrev pub body_block : Logged → UnplacedBlock
  body_block l = record { note = Body k l.block; body = w.stored l.body }

  -- a descriptor, and its bodies behind it
  abbrev pub described : List Logged → List UnplacedBlock
  described bodies =
      record { note = Descriptor k; body = w.descriptor sequence (map tag_of bodies) }
      ∷ map body_block bodies

  abbrev pub all_described : List (List Logged) → List UnplacedBlock
  all_described [] = []
  all_described (bodies ∷ rest) = described bodies ++ all_described rest

  -- the log blocks before the commit block
  abbrev pub logged_blocks : List Logged → List ℕ → List UnplacedBlock
  logged_blocks bodies revokes = map revoke_block (chunks w.most_revokes revokes) ++ all_described (chunks w.most_tags bodies)

  abbrev pub commit_block : UnplacedBlock
  commit_block = record { note = Commit k; body = w.commit sequence }

-- log blocks at consecutive places
abbrev pub placed : ℕ → Ring → ℕ → List UnplacedBlock → List Planned
placed journal ring head [] = []
placed journal ring head (l ∷ ls) = record { note = l.note; block = journal + head; body = l.body; barrier = false } ∷ placed journal ring (places_on ring 1 head) ls

-- the last of these is a barrier
abbrev pub with_barrier : List Planned → List Planned
with_barrier [] = []
with_barrier (p ∷ []) = record p { barrier = true } ∷ []
with_barrier (p ∷ q ∷ ps) = p ∷ with_barrier (q ∷ ps)

-- The requests of transaction k: the superblock where the log was empty on the disk, the revoke blocks, the
-- descriptors with their bodies, and the commit block. The last before the commit block is a barrier, and so
-- is the commit block.
abbrev pub plan_of : Writers → ℕ → Ring → ℕ → Bool → ℕ → ℕ → List Logged → List ℕ → List Planned
plan_of w journal ring head started k sequence bodies revokes =
    let blocks = logged_blocks w k sequence bodies revokes in
    let super : List Planned = if started then [] else record { note = Super; block = journal; body = w.super sequence head; barrier = false } ∷ [] in
    with_barrier (super ++ placed journal ring head blocks)
    ++ with_barrier (placed journal ring (places_on ring (length blocks) head) (commit_block w k sequence ∷ []))
