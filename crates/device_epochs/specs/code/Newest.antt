-- The cache's fields: its entries, and what names the newest entry of each block.
use Rattle.std.specs.Prelude.{◌≡◌, ℕ, suc, ◌<◌, ◌==◌, Bool, true, false, List, [], ◌∷◌, length, Option, Some, None, slice_get, vec_len}
use Rattle.std.specs.VecDeque.{deque_capacity}
use Rattle.device_epochs.specs.declared.cache.Entry.{Entry}
use Rattle.device_epochs.specs.declared.cache.Cache.TheInside.{Inside}

-- ---- what the list says

-- a place in the tail, as one in the whole list; else that of the head, where that is meant
abbrev pub last_place : Option ℕ → Bool → Option ℕ
last_place (Some i) head = Some (suc i)
last_place None true = Some 0
last_place None false = None

-- the place of the newest entry of a block: of the entries of this block, the one that stands last
abbrev pub newest_place : List Entry → ℕ → Option ℕ
newest_place [] block = None
newest_place (e ∷ es) block = last_place (newest_place es block) (e.block == block)

-- an entry of this block stands at this place
pub record HasBlockAt (block : ℕ) (cache : List Entry) (place : ℕ) : Type 0 where
  pub found : Entry
  pub there : slice_get cache place ≡ Some found
  pub same : found.block ≡ block

-- ---- what the fields say

-- the cache as contracts see it: its entries in order, and its room
pub record CacheState : Type 0 where
  pub items : List Entry
  -- for how many blocks and for how many entries there is room
  pub blocks : ℕ
  pub room : ℕ
  -- how many entries were appended so far
  pub appended : ℕ

abbrev pub cache_of : Inside → CacheState
cache_of c = record { items = c.entries.items; blocks = vec_len c.newest_keys; room = deque_capacity c.entries; appended = c.appended }

abbrev pub IsRising : List ℕ → Type 0
IsRising keys = (i j k l : ℕ) → i < j → slice_get keys i ≡ Some k → slice_get keys j ≡ Some l → k < l

-- Each entry has a key; keys rise along the list, below the number of entries that were appended. For each
-- block that has an entry, its newest entry is named by its key.
pub record AreKeys (appended : ℕ) (cache : List Entry) (keys newest_keys : List ℕ) : Type 0 where
  pub same : length keys ≡ length cache
  pub rising : IsRising keys
  pub below : (i k : ℕ) → slice_get keys i ≡ Some k → k < appended
  pub named : (block place : ℕ) → newest_place cache block ≡ Some place → slice_get newest_keys block ≡ slice_get keys place

-- the keys fit the entries, and there is as much capacity for keys as for entries
pub record IsCache (c : Inside) : Type 0 where
  pub keys : AreKeys c.appended c.entries.items c.keys.items c.newest_keys.items
  pub room : deque_capacity c.keys ≡ deque_capacity c.entries
