-- Steps as the code takes them: a name is in its directory before the blocks are written.
use Rattle.std.specs.Prelude.{◌≡◌, ℕ, ◌+◌, ◌*◌, ◌/◌, ◌%◌, ◌<◌, ◌≤◌, nat_lt, nat_eq, slice_index, true, if◌then◌else◌, List, [], ◌∷◌, ◌++◌, map, length, codes, Option, Some}
use Rattle.byte_fields.specs.Fields.{zeros}
use Rattle.minix_layout.specs.Widths.{slot_size, slots_a_block, most_slots}
use Rattle.minix_layout.specs.declared.inode.Inode.{Inode}
use Rattle.minix_layout.specs.Geometry.{IsSound}
use Rattle.minix_layout.specs.Inodes.{new_directory_inode}
use Rattle.tree_model.specs.Maps.{at_number, put_number}
use Rattle.minix_layout.specs.declared.slot.Slot.{Slot}
use Rattle.volume_ops.specs.Places.{table_block}
use Rattle.volume_model.specs.declared.placed.Placed.{Placed}
use Rattle.volume_model.specs.declared.placed.Part.TheVariants as parts
use Rattle.volume_model.specs.declared.placed.DirectoryPart.{DirectoryPart}
use Rattle.volume_model.specs.Edits.{Edit, put_body, put_inode, put_slot, edited, touched_by_all}
use Rattle.volume_model.specs.Volume.{block, zone_in}
use Rattle.volume_model.specs.Ways.{way}
use Rattle.volume_model.specs.MapBlock.{TakenZones, own_of, map_block, all_edits}
use Rattle.volume_model.specs.Touched.{Touched, and_then}
use Rattle.volume_model.specs.Moves.{opened, closed, with_size, with_name, back_told}
use Rattle.volume_steps.specs.Now.{VolumeNow, Change, with_contents, written, unchanged, followed_by, tells_writes}
use Rattle.volume_steps.specs.Zones.{inode_bit, zone_bit, next_zone, take_zones}
use Rattle.minix_tables.specs.zones.Zones.{taken}
use Rattle.volume_steps.specs.Steps.{at_node, tells_node, set_links, new_file_inode, new_directory_edits}
use Rattle.volume_names.specs.declared.directories.NewSlot.{NewSlot}

-- a change was done after others that touched this
pub record After (before : Touched) (change : Change) (volume : VolumeNow) (touched : Touched) : Type 0 where
  pub volume_is : volume ≡ change.volume
  pub touched_is : touched ≡ and_then before change.touched

-- a slot of a directory is written, which has so many then
abbrev pub slot_step : VolumeNow → ℕ → ℕ → Option Slot → ℕ → Placed → Change
slot_step v n at slot slots p = record {
  volume = with_contents v (closed v.geometry v.contents n p (record {
    blocks = edited v.geometry v.contents.blocks (put_slot (zone_in v.contents.blocks p.inode (block (at / slots_a_block v.geometry.width))) (at % slots_a_block v.geometry.width) slot);
    inode = with_size p.inode (slot_size v.geometry.width * slots);
  }) p.part);
  touched = tells_node n (zone_in v.contents.blocks p.inode (block (at / slots_a_block v.geometry.width)) ∷ back_told v.geometry p (with_size p.inode (slot_size v.geometry.width * slots)));
}

-- slot `at`, counted from 0, of the directory with birth `n` is written, and `slots` is the count of its slots then
abbrev pub slot_written : VolumeNow → ℕ → ℕ → Option Slot → ℕ → Change
slot_written v n at slot slots = at_node v n (slot_step v n at slot slots)

abbrev pub more_links : VolumeNow → ℕ → Change
more_links v n = set_links v n (λ links. links + 1)

-- a directory gets a block, which is full of free slots
abbrev pub block_step : VolumeNow → ℕ → ℕ → Placed → Change
block_step v n index p =
    let t = take_zones (own_of (opened v.contents p)) index v.zones in
    let es = map (zone_bit v.geometry true) t.numbers in
    let c = written v.geometry v.contents es in
    record {
      volume = record { geometry = v.geometry; contents = closed v.geometry c n p (map_block v.geometry t.taken (zeros 1024) (opened c p) index) p.part; zones = t.zones };
      touched = and_then (tells_writes v.geometry es)
          (tells_node n (touched_by_all v.geometry (all_edits v.geometry t.taken (zeros 1024) (opened c p) (way index))
          ++ back_told v.geometry p (map_block v.geometry t.taken (zeros 1024) (opened c p) index).inode));
    }

-- so, as block `index` of the directory with birth `n`
abbrev pub block_added : VolumeNow → ℕ → ℕ → Change
block_added v n index = at_node v n (block_step v n index)

-- the block has no zone, also once the bits of those that are taken for it are set
pub record HasHole (v : VolumeNow) (p : Placed) (index : ℕ) : Type 0 where
  pub nine : length p.inode.zones ≡ 9
  pub hole : zone_in (written v.geometry v.contents (map (zone_bit v.geometry true) (take_zones (own_of (opened v.contents p)) index v.zones).numbers)).blocks p.inode (block index) ≡ 0

-- the blocks that are written where a block below 519 is mapped
abbrev pub blocks_mapped : Inode → ℕ → TakenZones → List ℕ
blocks_mapped i index t =
    if nat_lt index 7 then t.data_zone ∷ []
    else (if nat_eq (slice_index i.zones 7) 0 then t.outer ∷ t.data_zone ∷ t.outer ∷ []
    else t.data_zone ∷ slice_index i.zones 7 ∷ [])

-- the blocks of a directory are written for a slot that came
abbrev pub name_written : VolumeNow → ℕ → Slot → NewSlot → Change
name_written v n slot new =
    followed_by (if new.begins then block_added v n (new.at / slots_a_block v.geometry.width) else unchanged v) (λ w. slot_written w n new.at (Some slot) new.slots)

-- what that asks
pub record MayWrite (v : VolumeNow) (n : ℕ) (slot : Slot) (new : NewSlot) : Type 0 where
  pub sound : IsSound v.geometry
  pub placed : Placed
  pub stands : at_number v.contents.nodes n ≡ Some placed
  pub number : 0 < placed.number
  pub short : length slot.name ≤ v.geometry.width
  pub place : new.at < most_slots v.geometry.width
  pub few : new.slots ≤ most_slots v.geometry.width
  pub hole : new.begins ≡ true → HasHole v placed (new.at / slots_a_block v.geometry.width)

-- a name is in its directory, and the blocks are as they were
abbrev pub entered : List (ℕ × Placed) → ℕ → Placed → DirectoryPart → Slot → ℕ → List (ℕ × Placed)
entered nodes n p d slot birth = put_number nodes n (record { number = p.number; inode = p.inode; part = parts.Directory (with_name d slot birth) })

abbrev pub entered_in : VolumeNow → ℕ → Placed → DirectoryPart → Slot → ℕ → VolumeNow
entered_in v n p d slot birth = with_contents v (record { blocks = v.contents.blocks; nodes = entered v.contents.nodes n p d slot birth })

-- the inode of a new file is written
abbrev pub file_written : VolumeNow → ℕ → ℕ → Change
file_written v n number =
    let es : List Edit = inode_bit number true ∷ [] in
    record {
      volume = with_contents v (record { blocks = edited v.geometry (written v.geometry v.contents es).blocks (put_inode number new_file_inode); nodes = v.contents.nodes });
      touched = and_then (tells_writes v.geometry es) (tells_node n (table_block v.geometry number ∷ []));
    }

-- a new directory gets its zone, and is written
abbrev pub directory_step : VolumeNow → ℕ → ℕ → Placed → Change
directory_step v n above q =
    let zone = next_zone v.zones in
    let es = new_directory_edits v.geometry q.number zone above in
    record {
      volume = record {
        geometry = v.geometry;
        contents = record {
          blocks = (written v.geometry v.contents es).blocks;
          nodes = put_number v.contents.nodes n (record { number = q.number; inode = new_directory_inode v.geometry.width zone; part = q.part });
        };
        zones = taken v.zones;
      };
      touched = and_then (tells_writes v.geometry es) (tells_node n []);
    }

-- so does the one with birth `n`; `above` is the number of its parent's inode
abbrev pub directory_written : VolumeNow → ℕ → ℕ → Change
directory_written v n above = at_node v n (directory_step v n above)

-- the zone of a new directory
abbrev pub dot_edits : ℕ → ℕ → ℕ → List Edit
dot_edits zone own above =
    put_body zone (zeros 1024) ∷ put_slot zone 0 (Some (record { inode = own; name = codes "." })) ∷ put_slot zone 1 (Some (record { inode = above; name = codes ".." })) ∷ []
