-- A file that is open: its node is taken out, and what is done to it is done to this, to the blocks and to the zones.
use Rattle.std.specs.Prelude.{ℕ, ◌-◌, ◌/◌, nat_eq, nat_lt, if◌then◌else◌, List, [], ◌∷◌, ◌++◌, map, true}
use Rattle.byte_fields.specs.Fields.{zeros}
use Rattle.minix_layout.specs.declared.inode.Inode.{Inode}
use Rattle.minix_layout.specs.Inodes.{zero_inode}
use Rattle.tree_model.specs.Calls.{patched}
use Rattle.volume_ops.specs.Volume.{disk_of}
use Rattle.volume_model.specs.declared.placed.Placed.{Placed}
use Rattle.volume_model.specs.declared.placed.Part.TheVariants as parts
use Rattle.volume_model.specs.Edits.{edited, edited_all, put_body}
use Rattle.volume_model.specs.Holes.{with_zone}
use Rattle.volume_model.specs.Volume.{Place, block, indirect, double, inner, zone_in}
use Rattle.volume_model.specs.MapBlock.{OpenInode, TakenZones, own_of, taken_at, map_block}
use Rattle.volume_model.specs.Moves.{with_size, inode_written, inode_told}
use Rattle.volume_model.specs.Touched.{Touched, and_then}
use Rattle.volume_steps.specs.Now.{VolumeNow, tells_writes}
use Rattle.volume_steps.specs.Steps.{tells_node}
use Rattle.volume_steps.specs.Zones.{take_zones, zone_bit}
use Rattle.volume_in_use.specs.declared.bytes.open.OpenFile.{OpenFile}

-- ---- nodes

-- what stands for a node that was taken out
abbrev pub blank : Placed
blank = record { number = 0; inode = zero_inode; part = parts.File [] }

abbrev pub node_of : OpenFile → Placed
node_of f = record { number = f.number; inode = f.inode; part = parts.File f.zones }

abbrev pub with_nodes : VolumeNow → List (ℕ × Placed) → VolumeNow
with_nodes v nodes = record { geometry = v.geometry; contents = record { blocks = v.contents.blocks; nodes = nodes }; zones = v.zones }

-- other blocks, with the same nodes
abbrev pub with_image : VolumeNow → List (List ℕ) → VolumeNow
with_image v blocks = record { geometry = v.geometry; contents = record { blocks = blocks; nodes = v.contents.nodes }; zones = v.zones }

-- ---- what is done to an open file

-- the volume, the file that was taken out of it, and what was touched so far
pub record Work : Type 0 where
  pub volume : VolumeNow
  pub file : OpenFile
  pub touched : Touched

-- the zone of a place on the way, after its hole got the one that was taken for it
abbrev pub held : (Place → ℕ) → TakenZones → Place → ℕ
held own t x = if nat_eq (own x) 0 then taken_at t x else own x

-- blocks that are written where a block behind the indirect zone is mapped
unfoldable pub single_told : (Place → ℕ) → TakenZones → List ℕ
single_told own t = if nat_eq (own indirect) 0 then t.outer ∷ t.outer ∷ [] else own indirect ∷ []

-- the same behind the doubly indirect one
unfoldable pub outer_told : (Place → ℕ) → TakenZones → List ℕ
outer_told own t = if nat_eq (own double) 0 then t.outer ∷ [] else []

-- `j` is the group of 512 blocks behind the zone of numbers
unfoldable pub second_told : (Place → ℕ) → TakenZones → ℕ → List ℕ
second_told own t j = if nat_eq (own (inner j)) 0 then t.second ∷ held own t double ∷ t.second ∷ [] else own (inner j) ∷ []

-- the writes to zones of numbers where block `index` is mapped, in order; a new one is written twice
abbrev pub numbers_told : (Place → ℕ) → TakenZones → ℕ → List ℕ
numbers_told own t index =
    if nat_lt index 7 then []
    else (if nat_lt index 519 then single_told own t
    else outer_told own t ++ second_told own t ((index - 519) / 512))

-- what is told where block `index` is mapped; `after` is the inode then
abbrev pub tells_mapped : VolumeNow → OpenFile → (Place → ℕ) → TakenZones → ℕ → Inode → Touched
tells_mapped v f own t index after = record {
  blocks = numbers_told own t index ++ inode_told v.geometry f.number f.inode after;
  freed = [];
  revoked = [];
  pages = record { birth = f.birth; index = index; zone = t.data_zone } ∷ [];
  dropped = [];
  nodes = f.birth ∷ [];
}

-- a hole gets a zone with these bytes
unfoldable pub map_work : List ℕ → ℕ → Work → Work
map_work content index w =
    let v = w.volume in
    let f = w.file in
    let t = take_zones (own_of (record { blocks = v.contents.blocks; inode = f.inode })) index v.zones in
    let es = map (zone_bit v.geometry true) t.numbers in
    let s : OpenInode = record { blocks = edited_all v.geometry v.contents.blocks es; inode = f.inode } in
    let u = map_block v.geometry t.taken content s index in
    record {
      volume = record {
        geometry = v.geometry;
        contents = record { blocks = inode_written v.geometry u.blocks f.number f.inode u.inode; nodes = v.contents.nodes };
        zones = t.zones;
      };
      file = record { birth = f.birth; number = f.number; inode = u.inode; zones = with_zone f.zones index t.taken.data_zone };
      touched = and_then w.touched (and_then (tells_writes v.geometry es) (tells_mapped v f (own_of s) t.taken index u.inode));
    }

-- a block that has a zone gets these bytes
unfoldable pub put_work : List ℕ → ℕ → ℕ → Work → Work
put_work content index zone w = record {
  volume = with_image w.volume (edited w.volume.geometry w.volume.contents.blocks (put_body zone content));
  file = w.file;
  touched = and_then w.touched (record { blocks = []; freed = []; revoked = []; pages = record { birth = w.file.birth; index = index; zone = zone } ∷ []; dropped = []; nodes = [] });
}

-- those of the bytes from `off` on that lie in this block are written
abbrev pub block_work : ℕ → List ℕ → ℕ → Work → Work
block_work off bytes index w =
    let zone = zone_in w.volume.contents.blocks w.file.inode (block index) in
    if nat_eq zone 0 then map_work (patched index off bytes (zeros 1024)) index w
    else put_work (patched index off bytes (disk_of w.volume.contents.blocks zone)) index zone w

abbrev pub blocks_work : ℕ → List ℕ → List ℕ → Work → Work
blocks_work off bytes [] w = w
blocks_work off bytes (index ∷ indices) w = blocks_work off bytes indices (block_work off bytes index w)

-- the file has this size
unfoldable pub size_work : ℕ → Work → Work
size_work size w =
    if nat_eq size w.file.inode.size then w
    else record {
      volume = with_image w.volume (inode_written w.volume.geometry w.volume.contents.blocks w.file.number w.file.inode (with_size w.file.inode size));
      file = record { birth = w.file.birth; number = w.file.number; inode = with_size w.file.inode size; zones = w.file.zones };
      touched = and_then w.touched (tells_node w.file.birth (inode_told w.volume.geometry w.file.number w.file.inode (with_size w.file.inode size)));
    }
