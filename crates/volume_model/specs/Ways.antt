-- Where the number of each zone of an inode stands, and which places lie on the way to a block.
use Rattle.std.specs.Prelude.{◌≡◌, ◌*◌, ◌+◌, ◌≢◌, ℕ, ◌-◌, ◌/◌, ◌%◌, ◌<◌, ◌≤◌, nat_lt, if◌then◌else◌, List, slice_index}
use Rattle.minix_layout.specs.declared.inode.Inode.{Inode}
use Rattle.minix_tables.specs.inodes.Map.{entry_behind}
use Rattle.volume_ops.specs.Places.{zone_number}
use Rattle.volume_ops.specs.Volume.{disk_of}
use Rattle.std.specs.Prelude.{◌≡◌, ◌≢◌, ℕ, ◌-◌, ◌/◌, ◌%◌, ◌<◌, ◌≤◌, nat_lt, List, [], ◌∷◌}
use Rattle.volume_model.specs.Volume.{Place, block, indirect, double, inner, zone_in}

-- where the number of a place stands: one of the nine of the inode, an entry of the zone of another place, or nowhere
pub data Home : Type 0 where
  slot : ℕ → Home
  entry : Place → ℕ → Home
  nowhere : Home

-- nowhere is for blocks past the largest size, and for inner zones past the last of 512
abbrev pub home : Place → Home
home (block index) =
    if nat_lt index 7 then slot index
    else (if nat_lt index 519 then entry indirect (index - 7)
    else (if nat_lt index 262663 then entry (inner ((index - 519) / 512)) ((index - 519) % 512)
    else nowhere))
home indirect = slot 7
home double = slot 8
home (inner k) = if nat_lt k 512 then entry double k else nowhere

-- number `at` of a zone of numbers, counted from 0
abbrev pub entry_of : List (List ℕ) → ℕ → ℕ → ℕ
entry_of blocks zone at = zone_number (disk_of blocks zone) at

-- the number that stands there; 0 for nowhere
abbrev pub at_home : List (List ℕ) → Inode → Home → ℕ
at_home blocks i (slot k) = slice_index i.zones k
at_home blocks i (entry h k) = entry_behind (entry_of blocks) (zone_in blocks i h) k
at_home blocks i nowhere = 0

-- the place that stands there
abbrev pub place_at : Home → Place
place_at (slot k) = if nat_lt k 7 then block k else (if nat_lt k 8 then indirect else double)
place_at (entry indirect k) = block (7 + k)
place_at (entry double k) = inner k
place_at (entry (inner j) k) = block (519 + 512 * j + k)
place_at (entry (block i) k) = block 0
place_at nowhere = block 0

-- the places on the way to a block, from the inode down
abbrev pub way : ℕ → List Place
way index =
    if nat_lt index 7 then block index ∷ []
    else (if nat_lt index 519 then indirect ∷ block index ∷ []
    else (if nat_lt index 262663 then double ∷ inner ((index - 519) / 512) ∷ block index ∷ []
    else []))

-- the place lies on the way to the block with this index
abbrev pub OnWay : Place → ℕ → Type 0
OnWay (block i) index = (i ≡ index) × (index < 262663)
OnWay indirect index = (7 ≤ index) × (index < 519)
OnWay double index = (519 ≤ index) × (index < 262663)
OnWay (inner j) index = (519 ≤ index) × (index < 262663) × ((index - 519) / 512 ≡ j)

-- each place that has a zone, 0 being none, lies on the way to a mapped block
abbrev pub IsJust : (Place → ℕ) → Type 0
IsJust own = (x : Place) → own x ≢ 0 → (index : ℕ) × (own (block index) ≢ 0) × OnWay x index
