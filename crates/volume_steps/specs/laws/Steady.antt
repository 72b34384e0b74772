-- What each step of a call keeps, and what it tells.
use Rattle.std.specs.Prelude.{◌≡◌, ◌≢◌, ◌+◌, ◌<◌, ◌≤◌, ◌↔◌, ◌⊎◌, ℕ, Bool, true, List, Option, Some, option_map}
use Rattle.blk_base.specs.Members.{In}
use Rattle.minix_layout.specs.declared.division.Geometry.{Geometry}
use Rattle.minix_layout.specs.declared.bits.BitPlace.{BitPlace}
use Rattle.minix_layout.specs.Bits.{inode_bit, zone_bit, has_bit}
use Rattle.tree_model.specs.Maps.{at_number}
use Rattle.minix_tables.specs.declared.zones.zone_state.ZoneState.TheVariants as states
use Rattle.minix_tables.specs.zones.Zones.{Zones, state_of}
use Rattle.volume_ops.specs.declared.found.Mapped.{Mapped}
use Rattle.volume_model.specs.declared.placed.Placed.{Placed}
use Rattle.volume_model.specs.declared.placed.Part.{Part}
use Rattle.volume_model.specs.declared.placed.Part.TheVariants as parts
use Rattle.volume_model.specs.Touched.{Contents, Touched, Tells}
use Rattle.volume_steps.specs.Now.{VolumeNow, Change}
use Rattle.volume_steps.specs.Plain.{IsInUse}
use Rattle.volume_steps.specs.UsedInodes.{IsInodeUsed}

-- Zones are taken from the lowest on: none becomes free, and one that is free no more lies below all that still are.
pub record TakesLowest (m n : Zones) : Type 0 where
  pub was_free : (zone : ℕ) → state_of n zone ≡ Some states.Free → state_of m zone ≡ Some states.Free
  pub below : (zone left : ℕ) → state_of m zone ≡ Some states.Free → state_of n zone ≢ Some states.Free → state_of n left ≡ Some states.Free → zone < left

-- a node but for its links and the other fields of its inode: its size, and its mapped blocks or its slots
pub record Shape : Type 0 where
  pub number : ℕ
  pub size : ℕ
  pub part : Part

abbrev pub shape_of : Placed → Shape
shape_of p = record { number = p.number; size = p.inode.size; part = p.part }

abbrev pub shape_at : List (ℕ × Placed) → ℕ → Option Shape
shape_at nodes birth = option_map shape_of (at_number nodes birth)

-- A node that is not listed is as before, but for its links. Where a file is listed and is there, a block before the zones is
-- written: that of the table with its inode, or one of the map of zones.
pub record TellsNodes (g : Geometry) (v w : Contents) (t : Touched) : Type 0 where
  pub others : (birth : ℕ) → (In birth t.nodes → ⊥) → shape_at w.nodes birth ≡ shape_at v.nodes birth
  pub tables : (birth : ℕ) (p : Placed) (zones : List Mapped) → In birth t.nodes → at_number w.nodes birth ≡ Some p → p.part ≡ parts.File zones → (b : ℕ) × In b t.blocks × (b < g.first)

-- A bit and what it stands for: neither changes; or that changes, and the bit says it afterwards.
abbrev pub Marks : Bool → Type 0 → Bool → Type 0 → Type 0
Marks bit Used after Now = ((after ≡ bit) × (Now ↔ Used)) ⊎ (((after ≡ true) ↔ Now) × ((Now ↔ Used) → ⊥))

-- The bits of inodes and of zones mark which are in use, and no other bit of the maps changes.
pub record KeepsMarks (g : Geometry) (v w : Contents) (m n : Zones) : Type 0 where
  pub inodes : (number : ℕ) → 0 < number → number ≤ g.inodes →
      Marks (has_bit v.blocks (inode_bit g number)) (IsInodeUsed v.nodes number) (has_bit w.blocks (inode_bit g number)) (IsInodeUsed w.nodes number)
  pub zones : (zone : ℕ) → g.first ≤ zone → zone < g.zones →
      Marks (has_bit v.blocks (zone_bit g zone)) (state_of m zone ≡ Some states.Used) (has_bit w.blocks (zone_bit g zone)) (state_of n zone ≡ Some states.Used)
  pub others : (p : BitPlace) → 2 ≤ p.block → p.block < 2 + g.imap + g.zmap → p.at < 8192 →
      ((number : ℕ) → 0 < number → number ≤ g.inodes → p ≢ inode_bit g number) → ((zone : ℕ) → g.first ≤ zone → zone < g.zones → p ≢ zone_bit g zone) →
      has_bit w.blocks p ≡ has_bit v.blocks p

-- In transaction tx: the volume stays in use; what was touched is told; zones are taken from the lowest on; what is freed
-- was in use and waits for the transaction, and nothing else begins or ends to wait.
pub record IsSteady (tx : ℕ) (v : VolumeNow) (c : Change) (Writes : ℕ → ℕ → Type 0) : Type 0 where
  pub geometry : c.volume.geometry ≡ v.geometry
  pub in_use : IsInUse c.volume
  pub told : Tells v.geometry v.contents c.volume.contents c.touched Writes
  pub nodes : TellsNodes v.geometry v.contents c.volume.contents c.touched
  pub lowest : TakesLowest v.zones c.volume.zones
  pub marks : KeepsMarks v.geometry v.contents c.volume.contents v.zones c.volume.zones
  pub freed : (zone : ℕ) → In zone c.touched.freed → state_of c.volume.zones zone ≡ Some (states.Quarantined tx)
  pub was_used : (zone : ℕ) → In zone c.touched.freed → state_of v.zones zone ≡ Some states.Used
  pub waits_on : (zone freed_by : ℕ) → state_of v.zones zone ≡ Some (states.Quarantined freed_by) → state_of c.volume.zones zone ≡ Some (states.Quarantined freed_by)
  pub waited : (zone freed_by : ℕ) → (In zone c.touched.freed → ⊥) → state_of c.volume.zones zone ≡ Some (states.Quarantined freed_by) →
      state_of v.zones zone ≡ Some (states.Quarantined freed_by)
