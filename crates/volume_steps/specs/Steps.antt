-- The steps of which calls are made: nodes and names come and go, and blocks of a file are mapped, written and cut.
use Rattle.std.specs.Prelude.{ℕ, ◌+◌, ◌*◌, ◌/◌, ◌%◌, nat_eq, nat_le, Bool, true, false, ◌==◌, ◌&&◌, ◌||◌, if◌then◌else◌, List, [], ◌∷◌, ◌++◌, map, length, replicate, slice_set, codes, Option, Some, None}
use Rattle.std.specs.Int.{div_ceil}
use Rattle.std.specs.List.{list_any, range_with_len, slice_get}
use Rattle.std.specs.Str.{bytes_eq}
use Rattle.byte_fields.specs.Fields.{zeros}
use Rattle.minix_layout.specs.Widths.{slot_size, slots_a_block}
use Rattle.minix_layout.specs.declared.division.Geometry.{Geometry}
use Rattle.minix_layout.specs.declared.inode.Inode.{Inode}
use Rattle.minix_layout.specs.declared.slot.Slot.{Slot}
use Rattle.minix_layout.specs.Inodes.{new_directory_inode}
use Rattle.tree_model.specs.Maps.{at_number, put_number, put_name}
use Rattle.tree_model.specs.Calls.{patched, cut_body}
use Rattle.volume_ops.specs.declared.found.Mapped.{Mapped}
use Rattle.volume_ops.specs.Places.{table_block}
use Rattle.volume_ops.specs.Volume.{disk_of}
use Rattle.minix_tables.specs.zones.Zones.{taken}
use Rattle.volume_model.specs.declared.placed.Placed.{Placed}
use Rattle.volume_model.specs.declared.placed.Part.{Part}
use Rattle.volume_model.specs.declared.placed.Part.TheVariants as parts
use Rattle.volume_model.specs.declared.placed.DirectoryPart.{DirectoryPart}
use Rattle.volume_model.specs.Edits.{Edit, put_inode, put_slot, put_body, touched_by_all}
use Rattle.minix_tables.specs.directories.Slots.{room}
use Rattle.volume_model.specs.Volume.{Place, block, zone_in}
use Rattle.volume_model.specs.Ways.{way}
use Rattle.volume_model.specs.MapBlock.{own_of, map_block, all_edits}
use Rattle.volume_model.specs.Counts.{keeps_below, indices_of}
use Rattle.volume_model.specs.Touched.{Page, Touched, Contents, and_then}
use Rattle.volume_model.specs.Moves.{opened, closed, with_size, added, node_removed, slot_put, back_told, with_name, without_name, name_added, name_removed, file_mapped, directory_mapped, file_mapped_touches, file_cut, file_cut_touches, numbers_gone, page_of}
use Rattle.volume_steps.specs.Now.{VolumeNow, Change, unchanged, followed_by, with_contents, written, tells_blocks, tells_writes}
use Rattle.volume_steps.specs.Zones.{inode_bit, zone_bit, new_number, next_zone, all_given, take_zones}

-- ---- nodes

-- what to do at a node that is there
abbrev pub at_node : VolumeNow → ℕ → (Placed → Change) → Change
at_node v n change = elim (at_number v.contents.nodes n) as (λ _. Change) [ None ↦ unchanged v | Some p ↦ change p ]

-- so, where it is a directory; else nothing changes
abbrev pub at_directory : VolumeNow → ℕ → (Placed → DirectoryPart → Change) → Change
at_directory v n change = at_node v n (λ p. elim p.part as (λ _. Change) [ parts.Directory d ↦ change p d | parts.File zones ↦ unchanged v ])

-- so, where it is a file; else nothing changes
abbrev pub at_file : VolumeNow → ℕ → (Placed → List Mapped → Change) → Change
at_file v n change = at_node v n (λ p. elim p.part as (λ _. Change) [ parts.Directory d ↦ unchanged v | parts.File zones ↦ change p zones ])

-- what is told where a node's size, zones or slots change, and these blocks are written
abbrev pub tells_node : ℕ → List ℕ → Touched
tells_node n blocks = record { blocks = blocks; freed = []; revoked = []; pages = []; dropped = []; nodes = n ∷ [] }

-- ---- an inode's fields

abbrev pub with_links : Inode → ℕ → Inode
with_links i links = record { mode = i.mode; uid = i.uid; size = i.size; time = i.time; gid = i.gid; links = links; zones = i.zones }

-- a node whose inode has other fields, with the same zones
abbrev pub inode_put : VolumeNow → ℕ → Placed → Inode → VolumeNow
inode_put v n p i = with_contents v (closed v.geometry v.contents n p (record { blocks = v.contents.blocks; inode = i }) p.part)

-- it has so many links
abbrev pub set_links : VolumeNow → ℕ → (ℕ → ℕ) → Change
set_links v n change = at_node v n (λ p. record {
  volume = inode_put v n p (with_links p.inode (change p.inode.links));
  touched = tells_blocks (back_told v.geometry p (with_links p.inode (change p.inode.links)));
})

-- it has this size
abbrev pub resize : VolumeNow → ℕ → (ℕ → ℕ) → Change
resize v n change = at_node v n (λ p.
    if change p.inode.size == p.inode.size then unchanged v
    else record {
      volume = inode_put v n p (with_size p.inode (change p.inode.size));
      touched = tells_node n (back_told v.geometry p (with_size p.inode (change p.inode.size)));
    })

-- ---- a node comes

-- a regular file with the rights 644, of no bytes, with one link
abbrev pub new_file_inode : Inode
new_file_inode = record { mode = 0x81A4; uid = 0; size = 0; time = 0; gid = 0; links = 1; zones = replicate 9 0 }

-- a file in the lowest inode that is free
abbrev pub make_file : VolumeNow → ℕ → Change
make_file v n =
    let number = new_number v.geometry v.contents.nodes in
    let es : List Edit = inode_bit number true ∷ [] in
    record {
      volume = with_contents v (added v.geometry (written v.geometry v.contents es) n (record { number = number; inode = new_file_inode; part = parts.File [] }));
      touched = and_then (tells_writes v.geometry es) (tells_node n (table_block v.geometry number ∷ []));
    }

-- the slots that a directory begins with
abbrev pub dot_slots : ℕ → ℕ → List (Option Slot)
dot_slots own parent = Some (record { inode = own; name = codes "." }) ∷ Some (record { inode = parent; name = codes ".." }) ∷ []

-- the writes for a new directory with this inode and this zone; `parent` is the number of its parent's inode
abbrev pub new_directory_edits : Geometry → ℕ → ℕ → ℕ → List Edit
new_directory_edits g number zone parent =
    inode_bit number true ∷ zone_bit g true zone ∷ put_body zone (zeros 1024)
    ∷ put_slot zone 0 (Some (record { inode = number; name = codes "." })) ∷ put_slot zone 1 (Some (record { inode = parent; name = codes ".." }))
    ∷ put_inode number (new_directory_inode g.width zone) ∷ []

-- a directory in the lowest inode and the lowest zone that are free, below the parent with this birth
abbrev pub make_directory : VolumeNow → ℕ → ℕ → Change
make_directory v n parent = at_node v parent (λ p.
    let number = new_number v.geometry v.contents.nodes in
    let zone = next_zone v.zones in
    let es = new_directory_edits v.geometry number zone p.number in
    record {
      volume = record {
        geometry = v.geometry;
        contents = record {
          blocks = (written v.geometry v.contents es).blocks;
          nodes = put_number v.contents.nodes n (record {
            number = number;
            inode = new_directory_inode v.geometry.width zone;
            part = parts.Directory (record { parent = parent; width = v.geometry.width; names = []; slots = dot_slots number p.number });
          });
        };
        zones = taken v.zones;
      };
      touched = and_then (tells_writes v.geometry es) (tells_node n []);
    })

-- ---- a block is mapped

-- a block of a file, which has no zone, gets one with these bytes
abbrev pub map_file_block : VolumeNow → ℕ → Placed → List Mapped → List ℕ → ℕ → Change
map_file_block v n p zones content index =
    let t = take_zones (own_of (opened v.contents p)) index v.zones in
    let es = map (zone_bit v.geometry true) t.numbers in
    let c = written v.geometry v.contents es in
    record {
      volume = record { geometry = v.geometry; contents = file_mapped v.geometry c n p zones t.taken content index; zones = t.zones };
      touched = and_then (tells_writes v.geometry es) (file_mapped_touches v.geometry c n p t.taken content index);
    }

-- a block of a directory, which is full of free slots
abbrev pub map_directory_block : VolumeNow → ℕ → Placed → DirectoryPart → ℕ → Change
map_directory_block v n p d index =
    let t = take_zones (own_of (opened v.contents p)) index v.zones in
    let es = map (zone_bit v.geometry true) t.numbers in
    let c = written v.geometry v.contents es in
    record {
      volume = record { geometry = v.geometry; contents = directory_mapped v.geometry c n p d t.taken (zeros 1024) index; zones = t.zones };
      touched = and_then (tells_writes v.geometry es)
          (tells_node n (touched_by_all v.geometry (all_edits v.geometry t.taken (zeros 1024) (opened c p) (way index))
          ++ back_told v.geometry p (map_block v.geometry t.taken (zeros 1024) (opened c p) index).inode));
    }

-- ---- names

-- a directory whose slots are all in use, and fill its zones, gets one more
abbrev pub make_room : VolumeNow → ℕ → Change
make_room v n = at_directory v n (λ p d.
    if nat_eq (room d.slots) (length d.slots) && nat_eq (length d.slots % slots_a_block v.geometry.width) 0 then map_directory_block v n p d (length d.slots / slots_a_block v.geometry.width)
    else unchanged v)

-- What is told of slot k of a directory, which is this one afterwards: its block, and that of the inode where the size changes.
abbrev pub slot_told : VolumeNow → Placed → ℕ → DirectoryPart → List ℕ
slot_told v p k next = zone_in v.contents.blocks p.inode (block (k / slots_a_block v.geometry.width)) ∷ back_told v.geometry p (with_size p.inode (slot_size v.geometry.width * length next.slots))

-- a name is put at the first free slot or behind the last one
abbrev pub put_name_slot : VolumeNow → ℕ → List ℕ → ℕ → Change
put_name_slot v n name birth = at_directory v n (λ p d. at_node v birth (λ child. record {
  volume = with_contents v (name_added v.geometry v.contents n p d (record { inode = child.number; name = name }) birth);
  touched = tells_node n (slot_told v p (room d.slots) (with_name d (record { inode = child.number; name = name }) birth));
}))

-- a name comes, in a directory that has room for it then
abbrev pub add_name : VolumeNow → ℕ → List ℕ → ℕ → Change
add_name v n name birth = followed_by (make_room v n) (λ w. put_name_slot w n name birth)

-- the slot has this name
abbrev pub has_name : List ℕ → Option Slot → Bool
has_name name None = false
has_name name (Some s) = bytes_eq s.name name

-- the place of a name among the slots, counted from 0; the number of slots where none has the name
abbrev pub place_of : List ℕ → List (Option Slot) → ℕ
place_of name [] = 0
place_of name (s ∷ slots) = if has_name name s then 0 else 1 + place_of name slots

-- a name goes, and its slot is free then
abbrev pub take_name : VolumeNow → ℕ → List ℕ → Change
take_name v n name = at_directory v n (λ p d.
    let k = place_of name d.slots in
    elim (slice_get d.slots k) as (λ _. Change) [
      | None ↦ unchanged v
      | Some o ↦ elim o as (λ _. Change) [
        | None ↦ unchanged v
        | Some s ↦ record {
          volume = with_contents v (name_removed v.geometry v.contents n p d k s);
          touched = tells_node n (slot_told v p k (without_name d k s));
        }
      ]
    ])

-- ---- a directory gets another parent

-- its second slot is `..`, which has the parent's inode
abbrev pub with_parent : DirectoryPart → ℕ → Slot → DirectoryPart
with_parent d parent s = record { parent = parent; width = d.width; names = d.names; slots = slice_set d.slots 1 (Some s) }

-- directory `n` gets the parent with this birth, in its slot `..`
abbrev pub set_parent : VolumeNow → ℕ → ℕ → Change
set_parent v n parent = at_directory v n (λ p d. at_node v parent (λ above.
    let s : Slot = record { inode = above.number; name = codes ".." } in
    record {
      volume = with_contents v (slot_put v.geometry v.contents n p 1 (Some s) (with_parent d parent s));
      touched = tells_node n (slot_told v p 1 (with_parent d parent s));
    }))

-- ---- a name leads to another node

-- it keeps its slot
abbrev pub with_child : DirectoryPart → ℕ → Slot → ℕ → DirectoryPart
with_child d k s birth = record { parent = d.parent; width = d.width; names = put_name d.names s.name birth; slots = slice_set d.slots k (Some s) }

-- a name in directory `n` leads to the node with this birth, and its slot to that inode
abbrev pub lead_name : VolumeNow → ℕ → List ℕ → ℕ → Change
lead_name v n name birth = at_directory v n (λ p d. at_node v birth (λ child.
    let k = place_of name d.slots in
    let s : Slot = record { inode = child.number; name = name } in
    record {
      volume = with_contents v (slot_put v.geometry v.contents n p k (Some s) (with_child d k s birth));
      touched = tells_node n (slot_told v p k (with_child d k s birth));
    }))

-- ---- a node goes

-- the zones of its blocks
abbrev pub block_zones : Contents → Placed → Part → List ℕ
block_zones c p (parts.File zones) = map (λ (m : Mapped). m.zone) zones
block_zones c p (parts.Directory d) = map (λ index. zone_in c.blocks p.inode (block index)) (range_with_len 0 (div_ceil (length d.slots) (slots_a_block d.width)))

-- all its zones of numbers
abbrev pub all_numbers : Contents → Placed → List ℕ
all_numbers c p = numbers_gone c p (λ x. false)

-- what waits to be freed was metadata, but for the blocks of files
abbrev pub metadata_gone : Contents → Placed → Part → List ℕ
metadata_gone c p (parts.File zones) = all_numbers c p
metadata_gone c p (parts.Directory d) = block_zones c p (parts.Directory d) ++ all_numbers c p

-- the mapped blocks of a file that goes; a directory has no pages
abbrev pub pages_gone : ℕ → Part → List Page
pages_gone n (parts.File zones) = map (page_of n) zones
pages_gone n (parts.Directory d) = []

-- the bits that are cleared
abbrev pub drop_edits : Geometry → Placed → List ℕ → List Edit
drop_edits g p gone = inode_bit p.number false ∷ map (zone_bit g false) gone

-- A node that has no name goes: its inode becomes zeros, and its zones wait for the transaction.
abbrev pub node_dropped : VolumeNow → ℕ → ℕ → Placed → Change
node_dropped v tx n p =
    let gone = block_zones v.contents p p.part ++ all_numbers v.contents p in
    let es = drop_edits v.geometry p gone in
    record {
      volume = record {
        geometry = v.geometry;
        contents = node_removed v.geometry (written v.geometry v.contents es) n p;
        zones = all_given tx gone v.zones;
      };
      touched = record {
        blocks = touched_by_all v.geometry es ++ table_block v.geometry p.number ∷ [];
        freed = gone;
        revoked = metadata_gone v.contents p p.part;
        pages = [];
        dropped = pages_gone n p.part;
        nodes = n ∷ [];
      };
    }

abbrev pub drop_node : VolumeNow → ℕ → ℕ → Change
drop_node v tx n = at_node v n (node_dropped v tx n)

-- ---- bytes of a file

-- bytes are put into a block that has a zone
abbrev pub put_page : VolumeNow → ℕ → ℕ → ℕ → List ℕ → Change
put_page v n index zone content = record {
  volume = with_contents v (written v.geometry v.contents (put_body zone content ∷ []));
  touched = record { blocks = []; freed = []; revoked = []; pages = record { birth = n; index = index; zone = zone } ∷ []; dropped = []; nodes = [] };
}

-- those of the bytes from `off` on that lie in this block
abbrev pub write_block : VolumeNow → ℕ → ℕ → List ℕ → ℕ → Change
write_block v n off bytes index = at_file v n (λ p zones.
    let zone = zone_in v.contents.blocks p.inode (block index) in
    if nat_eq zone 0 then map_file_block v n p zones (patched index off bytes (zeros 1024)) index
    else put_page v n index zone (patched index off bytes (disk_of v.contents.blocks zone)))

abbrev pub write_blocks : VolumeNow → ℕ → ℕ → List ℕ → List ℕ → Change
write_blocks v n off bytes [] = unchanged v
write_blocks v n off bytes (index ∷ indices) = followed_by (write_block v n off bytes index) (λ w. write_blocks w n off bytes indices)

-- ---- a file is cut

-- the blocks from an index on go, and their zones wait for the transaction
abbrev pub blocks_cut : VolumeNow → ℕ → ℕ → Placed → List Mapped → (Place → Bool) → ℕ → Change
blocks_cut v tx n p zones keeps from =
    let touches = file_cut_touches v.geometry v.contents n p zones keeps from in
    let es = map (zone_bit v.geometry false) touches.freed in
    record {
      volume = record {
        geometry = v.geometry;
        contents = file_cut v.geometry (written v.geometry v.contents es) n p zones keeps from;
        zones = all_given tx touches.freed v.zones;
      };
      touched = and_then (tells_writes v.geometry es) touches;
    }

-- so it is where there are any
abbrev pub cut_blocks : VolumeNow → ℕ → ℕ → ℕ → Change
cut_blocks v tx n from = at_file v n (λ p zones.
    if list_any (λ (m : Mapped). nat_le from m.index) zones then blocks_cut v tx n p zones (keeps_below (indices_of zones) from) from
    else unchanged v)

-- where a size ends within a block that has a zone, the bytes behind it become zeros
abbrev pub clear_tail : VolumeNow → ℕ → ℕ → Change
clear_tail v n size = at_file v n (λ p zones.
    let zone = zone_in v.contents.blocks p.inode (block (size / 1024)) in
    if nat_eq (size % 1024) 0 || nat_eq zone 0 then unchanged v
    else put_page v n (size / 1024) zone (cut_body size (size / 1024) (disk_of v.contents.blocks zone)))
