-- What the blocks of a log hold.
use Rattle.std.specs.Prelude.{◌≡◌, ℕ, ◌+◌, ◌<◌, ◌==◌, List, [], ◌∷◌, length, Option, Some, None, if◌then◌else◌, slice_get}
use Rattle.std.specs.Option.{option_and_then, option_or}
use Rattle.std.specs.Str.{bytes_eq}
use Rattle.tree_model.specs.Maps.{put_name}
use Rattle.wal_store.specs.declared.puts.Put.{Put}
use Rattle.wal_store.specs.declared.log.LogContents.{LogContents}
use Rattle.wal_store.specs.Blocks.{decode}

-- ---- puts

-- the put of a block that spells the one with this number
abbrev pub if_numbered : ℕ → ℕ × Put → Option Put
if_numbered n x = if x.0 == n then Some x.1 else None

-- the put that a block spells, where it has this number; else none
abbrev pub put_numbered : ℕ → List ℕ → Option Put
put_numbered n b = option_and_then (if_numbered n) (decode b)

-- where the first block spells no put, those of later blocks do not count
abbrev pub with_first : Option Put → List Put → List Put
with_first None ps = []
with_first (Some p) ps = p ∷ ps

-- the puts of blocks from place i on: up to the first that does not spell the put with the number of its place, counted
-- from 1
abbrev pub puts_from : ℕ → List (List ℕ) → List Put
puts_from i [] = []
puts_from i (b ∷ bs) = with_first (put_numbered (i + 1) b) (puts_from (i + 1) bs)

-- the puts that a log holds: those of its first blocks, as long as each spells the put of its place
abbrev pub held_puts : List (List ℕ) → List Put
held_puts blocks = puts_from 0 blocks

-- ---- pairs

-- keys with their values, in the order of the keys' bytes
abbrev pub Pairs : Type 0
Pairs = List (List ℕ × List ℕ)

-- puts done one after the other: the last put of a key counts
abbrev pub pairs_after : Pairs → List Put → Pairs
pairs_after pairs [] = pairs
pairs_after pairs (p ∷ ps) = pairs_after (put_name pairs p.key p.value) ps

-- what puts leave, done one after the other
abbrev pub pairs_of : List Put → Pairs
pairs_of ps = pairs_after [] ps

-- How many puts a log holds, and what they leave.
abbrev pub held_in : List (List ℕ) → LogContents
held_in blocks = record { count = length (held_puts blocks); pairs = pairs_of (held_puts blocks) }

-- ---- the same in words of places and of last puts

-- block i spells the put with the number of its place
abbrev pub Holds : List (List ℕ) → ℕ → Put → Type 0
Holds blocks i p = (b : List ℕ) × (slice_get blocks i ≡ Some b) × (decode b ≡ Some (i + 1, p))

-- the first h blocks do, and the next one does not
pub record AreHeld (blocks : List (List ℕ)) (h : ℕ) : Type 0 where
  pub all : (i : ℕ) → i < h → (p : Put) × Holds blocks i p
  pub next : (p : Put) → Holds blocks h p → ⊥

-- the value of a key's last put
abbrev pub last_value : List Put → List ℕ → Option (List ℕ)
last_value [] key = None
last_value (p ∷ ps) key = option_or (last_value ps key) (if bytes_eq p.key key then Some p.value else None)
