-- Zones and inodes come into use and go: the lowest free one is taken, what goes waits for its transaction, and the
-- bits of both maps say which are in use.
use Rattle.std.specs.Prelude.{ℕ, ◌+◌, ◌-◌, ◌/◌, nat_eq, nat_lt, Bool, false, not, ◌==◌, if◌then◌else◌, List, [], ◌∷◌, ◌++◌, Some, None}
use Rattle.std.specs.List.{list_any, range_with_len, find}
use Rattle.minix_layout.specs.declared.division.Geometry.{Geometry}
use Rattle.minix_tables.specs.zones.Zones.{Zones, lowest_free, taken, given}
use Rattle.volume_model.specs.declared.placed.Placed.{Placed}
use Rattle.volume_model.specs.Edits.{Edit, set_bit}
use Rattle.volume_model.specs.Volume.{Place, indirect, double, inner}
use Rattle.volume_model.specs.MapBlock.{TakenZones}

-- ---- bits

-- the bit of an inode, in the map that begins at block 2
abbrev pub inode_bit : ℕ → Bool → Edit
inode_bit number value = set_bit 2 number value

-- the bit of a zone, in the map behind it: bit 1 is the first zone's
abbrev pub zone_bit : Geometry → Bool → ℕ → Edit
zone_bit g value zone = set_bit (2 + g.imap) (zone - g.first + 1) value

-- ---- inodes

-- an inode that no node has
abbrev pub is_unused : List (ℕ × Placed) → ℕ → Bool
is_unused nodes number = not (list_any (λ (e : ℕ × Placed). e.1.number == number) nodes)

-- the lowest inode that no node has; 0 where each has one
abbrev pub new_number : Geometry → List (ℕ × Placed) → ℕ
new_number g nodes = elim (find (is_unused nodes) (range_with_len 1 g.inodes)) as (λ _. ℕ) [ None ↦ 0 | Some number ↦ number ]

-- ---- zones

-- the lowest free zone; 0 where none is free
abbrev pub next_zone : Zones → ℕ
next_zone m = elim (lowest_free m) as (λ _. ℕ) [ None ↦ 0 | Some zone ↦ zone ]

-- these wait for a transaction
abbrev pub all_given : ℕ → List ℕ → Zones → Zones
all_given tx [] m = m
all_given tx (zone ∷ zones) m = all_given tx zones (given m zone tx)

-- zones that were taken for a block, with the map after that, and the numbers of all of them
pub record TakenFor : Type 0 where
  pub zones : Zones
  pub taken : TakenZones
  pub numbers : List ℕ

-- the first zone of numbers on the way to a block is not there
abbrev pub lacks_outer : (Place → ℕ) → ℕ → Bool
lacks_outer own index =
    if nat_lt index 7 then false
    else (if nat_lt index 519 then nat_eq (own indirect) 0
    else nat_eq (own double) 0)

-- the second one
abbrev pub lacks_second : (Place → ℕ) → ℕ → Bool
lacks_second own index = if nat_lt index 519 then false else nat_eq (own (inner ((index - 519) / 512))) 0

abbrev pub take_if : Bool → Zones → Zones
take_if wanted m = if wanted then taken m else m

-- the lowest free zone; 0 where none is wanted
abbrev pub zone_if : Bool → Zones → ℕ
zone_if wanted m = if wanted then next_zone m else 0

abbrev pub numbers_if : Bool → ℕ → List ℕ
numbers_if wanted zone = if wanted then zone ∷ [] else []

-- A block without a zone takes the lowest free zone for itself, then those of numbers that are not there, from the inode
-- down, one after the other.
abbrev pub take_zones : (Place → ℕ) → ℕ → Zones → TakenFor
take_zones own index m =
    let outer = lacks_outer own index in
    let second = lacks_second own index in
    let own_taken = taken m in
    let outer_taken = take_if outer own_taken in
    record {
      zones = take_if second outer_taken;
      taken = record { data_zone = next_zone m; outer = zone_if outer own_taken; second = zone_if second outer_taken };
      numbers = next_zone m ∷ (numbers_if outer (zone_if outer own_taken) ++ numbers_if second (zone_if second outer_taken));
    }
