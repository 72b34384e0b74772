-- The log as its reader takes it: one step for each block, once round the ring from the start that the journal
-- superblock names.
use Rattle.std.specs.Prelude.{◌≡◌, ℕ, ◌+◌, ◌==◌, Bool, List, [], ◌∷◌, ◌++◌, map, if◌then◌else◌}
use Rattle.log_model.specs.Marks.{Logged, Transaction}
use Rattle.log_model.specs.Ring.{Ring, places_in, places_from}

-- a tag of a descriptor: the block that a body is for, and whether the body is escaped
pub record Tag : Type 0 where
  pub block : ℕ
  pub escaped : Bool

-- what a block of the log begins with: no header of the journal's, or one of a descriptor with its tags, of a revoke
-- block with its block numbers, or of a commit block, each with its sequence
pub data Header : Type 0 where
  Plain : Header
  Describes : ℕ → List Tag → Header
  Revokes : ℕ → List ℕ → Header
  Commits : ℕ → Header

-- the fields of the journal superblock that a checkpoint changes: the sequence that the log begins with, and
-- the place at which it begins, 0 where it is empty
pub record Tail : Type 0 where
  pub sequence : ℕ
  pub start : ℕ

-- how bytes are read: a block's header, the body that is stored for a tag, and the superblock
pub record Format : Type 0 where
  pub header : List ℕ → Header
  pub restore : Tag → List ℕ → List ℕ
  pub tail : List ℕ → Tail

-- A reader expects the header of a sequence; it has tags whose bodies are to come, the bodies and revokes of
-- the transaction so far, and the transactions that are done. Or it stopped, with those that are done.
pub data Reader : Type 0 where
  Reading : ℕ → List Tag → List Logged → List ℕ → List Transaction → Reader
  Stopped : List Transaction → Reader

-- the transactions that are done
abbrev pub done : Reader → List Transaction
done (Reading seq tags bodies revokes txs) = txs
done (Stopped txs) = txs

-- a block where a header is due
abbrev pub take_header : ℕ → List Logged → List ℕ → List Transaction → Header → Reader
take_header seq bodies revokes txs Plain = Stopped txs
take_header seq bodies revokes txs (Describes s tags) = if s == seq then Reading seq tags bodies revokes txs else Stopped txs
take_header seq bodies revokes txs (Revokes s blocks) = if s == seq then Reading seq [] bodies (revokes ++ blocks) txs else Stopped txs
take_header seq bodies revokes txs (Commits s) =
    if s == seq then Reading (seq + 1) [] [] [] (txs ++ record { bodies = bodies; revokes = revokes } ∷ []) else Stopped txs

-- one block: the body of the next tag, or where no tag waits a header
abbrev pub take_block : Format → Reader → List ℕ → Reader
take_block f (Stopped txs) block = Stopped txs
take_block f (Reading seq (tag ∷ tags) bodies revokes txs) block =
    Reading seq tags (bodies ++ record { block = tag.block; body = f.restore tag block } ∷ []) revokes txs
take_block f (Reading seq [] bodies revokes txs) block = take_header seq bodies revokes txs (f.header block)

abbrev pub take_blocks : Format → Reader → List (List ℕ) → Reader
take_blocks f r [] = r
take_blocks f r (block ∷ blocks) = take_blocks f (take_block f r block) blocks

-- a reader before the first block of a log that begins with this sequence
abbrev pub from_sequence : ℕ → Reader
from_sequence seq = Reading seq [] [] [] []

-- these blocks are a whole transaction with this sequence, whatever was read before
abbrev pub Spells : Format → ℕ → List (List ℕ) → Transaction → Type 0
Spells f seq blocks t =
    (txs : List Transaction) → take_blocks f (Reading seq [] [] [] txs) blocks ≡ Reading (seq + 1) [] [] [] (txs ++ t ∷ [])

-- The log of a disk whose journal superblock is block `journal`: none where its start is 0, else what is
-- read once round from there.
abbrev pub log_of : Format → Ring → ℕ → (ℕ → List ℕ) → List Transaction
log_of f r journal disk =
    let tail = f.tail (disk journal) in
    if tail.start == 0 then [] else
    done (take_blocks f (from_sequence tail.sequence) (map (λ p. disk (journal + p)) (places_from r (places_in r) tail.start)))
