-- How much each step tells.
use Rattle.std.proofs.Common.{ℕ, ◌+◌, ◌*◌, ◌/◌, ◌%◌, ◌-◌, suc, ◌≤◌, ◌==◌, ◌||◌, not, nat_eq, nat_lt, nat_le, Bool, true, false, if◌then◌else◌, List, [], ◌∷◌, ◌++◌, length, length-append, map, filter, Option, Some, None, arith, ◌&&◌}
use Rattle.std.specs.List.{list_any, slice_get}
use Rattle.std.proofs.lemmas.List.{length-map}
use Rattle.byte_fields.specs.Fields.{zeros}
use Rattle.minix_layout.specs.Widths.{slot_size, slots_a_block}
use Rattle.minix_layout.specs.declared.division.Geometry.{Geometry}
use Rattle.minix_layout.specs.declared.slot.Slot.{Slot}
use Rattle.volume_ops.specs.declared.found.Mapped.{Mapped}
use Rattle.volume_ops.specs.Places.{table_block}
use Rattle.volume_ops.specs.Volume.{disk_of}
use Rattle.tree_model.specs.Calls.{patched, cut_body}
use Rattle.minix_tables.specs.zones.Zones.{Zones}
use Rattle.volume_model.specs.declared.placed.Placed.{Placed}
use Rattle.volume_model.specs.declared.placed.Part.{Part}
use Rattle.volume_model.specs.declared.placed.Part.TheVariants as parts
use Rattle.volume_model.specs.declared.placed.DirectoryPart.{DirectoryPart}
use Rattle.volume_model.specs.Edits.{touched_by, touched_by_all}
use Rattle.volume_model.specs.Touched.{Contents}
use Rattle.volume_model.specs.Volume.{Place, block, indirect, double, inner, zone_in}
use Rattle.volume_model.specs.Ways.{Home, slot, entry, nowhere, home, way}
use Rattle.volume_model.specs.MapBlock.{OpenInode, TakenZones, own_of, entry_edits, gets_edits, step_edits, all_edits, get_step, taken_at, first_body, map_block}
use Rattle.volume_model.specs.Cut.{cuts, cut_told, has_numbers, cut_to}
use Rattle.volume_model.specs.Moves.{opened, name_removed, file_mapped_touches, numbers_gone, file_cut_touches, back_told, inode_told, same_inode, with_size, without_name, with_name}
use Rattle.volume_model.specs.Counts.{keeps_below, indices_of}
use Rattle.volume_steps.specs.Now.{VolumeNow, Change, unchanged, with_contents, written, tells_writes}
use Rattle.volume_steps.specs.Zones.{zone_bit, numbers_if, lacks_outer, lacks_second, take_zones}
use Rattle.volume_steps.specs.Steps.{tells_node, drop_edits, set_links, resize, make_file, make_directory, map_file_block, map_directory_block, make_room, put_name_slot, add_name, place_of, take_name, block_zones, all_numbers, metadata_gone, node_dropped, drop_node, put_page, write_block, write_blocks, blocks_cut, cut_blocks, clear_tail, set_parent, lead_name, with_links, slot_told, with_parent, with_child}
use Rattle.host_core.proofs.LengthsLemmas.Few.{Few, few_more, none_few, few_then, followed_few, if_few, node_few, directory_few, file_few, filter_less}
use Rattle.minix_layout.specs.declared.inode.Inode.{Inode}
use Rattle.std.specs.Prelude.{codes}

-- ---- an inode's fields, and nodes that come

-- an inode tells one block at most
told_few : (g : Geometry) (p : Placed) (i : Inode) → length (back_told g p i) ≤ 1
unfolding inode_told
told_few g p i = by (same_inode i p.inode)
  where
    by : (b : Bool) → length (if b then [] else table_block g p.number ∷ []) ≤ 1
    by true = omega arith
    by false = omega arith

pub links_few : (v : VolumeNow) (n : ℕ) (change : ℕ → ℕ) → Few 1 0 (set_links v n change).touched
links_few v n change = node_few 1 0 v n _ (λ p. let told = told_few v.geometry p (with_links p.inode (change p.inode.links)) in record { noted = omega (arith, told); written = omega arith })

pub resize_few : (v : VolumeNow) (n : ℕ) (change : ℕ → ℕ) → Few 2 0 (resize v n change).touched
resize_few v n change = node_few 2 0 v n _ (λ p. if_few 2 0 (change p.inode.size == p.inode.size) (unchanged v) _ (none_few 2 0) (let told = told_few v.geometry p (with_size p.inode (change p.inode.size)) in record { noted = omega (arith, told); written = omega arith }))

pub make_file_few : (v : VolumeNow) (n : ℕ) → Few 3 0 (make_file v n).touched
make_file_few v n = record { noted = omega arith; written = omega arith }

pub make_directory_few : (v : VolumeNow) (n parent : ℕ) → Few 7 0 (make_directory v n parent).touched
make_directory_few v n parent = node_few 7 0 v parent _ (λ p. record { noted = omega arith; written = omega arith })

-- ---- a block is mapped

entry_few : (s : OpenInode) (h : Home) (z : ℕ) → length (entry_edits s h z) ≤ 1
entry_few s (slot k) z = omega arith
entry_few s (entry h k) z = omega arith
entry_few s nowhere z = omega arith

step_few : (t : TakenZones) (content : List ℕ) (s : OpenInode) (x : Place) → length (step_edits t content s x) ≤ 2
step_few t content s x = by (nat_eq (own_of s x) 0)
  where
    by : (b : Bool) → length (if b then gets_edits s x (taken_at t x) (first_body content x) else []) ≤ 2
    by true = let one = entry_few s (home x) (taken_at t x) in omega (arith, one)
    by false = omega arith

all_few : (g : Geometry) (t : TakenZones) (content : List ℕ) (s : OpenInode) (xs : List Place) → length (all_edits g t content s xs) ≤ 2 * length xs
all_few g t content s [] = omega arith
all_few g t content s (x ∷ xs) =
    let one = step_few t content s x in
    let rest = all_few g t content (get_step g t content s x) xs in
    let both = length-append (step_edits t content s x) (all_edits g t content (get_step g t content s x) xs) in
    omega (arith, one, rest, both)

way_few : (index : ℕ) → length (way index) ≤ 3
way_few index = by (nat_lt index 7) (nat_lt index 519) (nat_lt index 262663)
  where
    by : (a b c : Bool) → length (if a then block index ∷ [] else (if b then indirect ∷ block index ∷ [] else (if c then double ∷ inner ((index - 519) / 512) ∷ block index ∷ [] else []))) ≤ 3
    by true b c = omega arith
    by false true c = omega arith
    by false false true = omega arith
    by false false false = omega arith

edits_few : (g : Geometry) (t : TakenZones) (content : List ℕ) (s : OpenInode) (index : ℕ) → length (touched_by_all g (all_edits g t content s (way index))) ≤ 6
edits_few g t content s index =
    let places = way_few index in
    let edits = all_few g t content s (way index) in
    let same = length-map (all_edits g t content s (way index)) (touched_by g) in
    omega (arith, places, edits, same)

if_numbers : (b : Bool) (z : ℕ) → length (numbers_if b z) ≤ 1
if_numbers true z = omega arith
if_numbers false z = omega arith

bits_few : (g : Geometry) (own : Place → ℕ) (index : ℕ) (m : Zones) → length (touched_by_all g (map (zone_bit g true) (take_zones own index m).numbers)) ≤ 3
bits_few g own index m =
    let t = take_zones own index m in
    let outer = if_numbers (lacks_outer own index) t.taken.outer in
    let second = if_numbers (lacks_second own index) t.taken.second in
    let both = length-append (numbers_if (lacks_outer own index) t.taken.outer) (numbers_if (lacks_second own index) t.taken.second) in
    let bits = length-map t.numbers (zone_bit g true) in
    let blocks = length-map (map (zone_bit g true) t.numbers) (touched_by g) in
    omega (arith, outer, second, both, bits, blocks)

pub map_directory_few : (v : VolumeNow) (n : ℕ) (p : Placed) (d : DirectoryPart) (index : ℕ) → Few 11 0 (map_directory_block v n p d index).touched
map_directory_few v n p d index =
    let t = take_zones (own_of (opened v.contents p)) index v.zones in
    let c = written v.geometry v.contents (map (zone_bit v.geometry true) t.numbers) in
    let bits = bits_few v.geometry (own_of (opened v.contents p)) index v.zones in
    let edits = edits_few v.geometry t.taken (zeros 1024) (opened c p) index in
    let first : Few 3 0 (tells_writes v.geometry (map (zone_bit v.geometry true) t.numbers)) = record { noted = omega (arith, bits); written = omega arith } in
    let made = (map_block v.geometry t.taken (zeros 1024) (opened c p) index).inode in
    let told = told_few v.geometry p made in
    let both = length-append (touched_by_all v.geometry (all_edits v.geometry t.taken (zeros 1024) (opened c p) (way index))) (back_told v.geometry p made) in
    let last : Few 8 0 (tells_node n (touched_by_all v.geometry (all_edits v.geometry t.taken (zeros 1024) (opened c p) (way index)) ++ back_told v.geometry p made)) = record { noted = omega (arith, edits, told, both); written = omega arith } in
    few_then 3 8 0 0 _ _ first last

pub map_file_few : (v : VolumeNow) (n : ℕ) (p : Placed) (zones : List Mapped) (content : List ℕ) (index : ℕ) → Few 11 1 (map_file_block v n p zones content index).touched
map_file_few v n p zones content index =
    let t = take_zones (own_of (opened v.contents p)) index v.zones in
    let c = written v.geometry v.contents (map (zone_bit v.geometry true) t.numbers) in
    let bits = bits_few v.geometry (own_of (opened v.contents p)) index v.zones in
    let edits = edits_few v.geometry t.taken content (opened c p) index in
    let kept = filter_less (λ b. not (b == t.taken.data_zone)) (touched_by_all v.geometry (all_edits v.geometry t.taken content (opened c p) (way index))) in
    let first : Few 3 0 (tells_writes v.geometry (map (zone_bit v.geometry true) t.numbers)) = record { noted = omega (arith, bits); written = omega arith } in
    let made = (map_block v.geometry t.taken content (opened c p) index).inode in
    let told = told_few v.geometry p made in
    let both = length-append (filter (λ b. not (b == t.taken.data_zone)) (touched_by_all v.geometry (all_edits v.geometry t.taken content (opened c p) (way index)))) (back_told v.geometry p made) in
    let last : Few 8 1 (file_mapped_touches v.geometry c n p t.taken content index) = record { noted = omega (arith, edits, kept, told, both); written = omega arith } in
    few_then 3 8 0 1 _ _ first last

-- ---- names

pub make_room_few : (v : VolumeNow) (n : ℕ) → Few 11 0 (make_room v n).touched
make_room_few v n = directory_few 11 0 v n _ (λ p d. if_few 11 0 _ _ (unchanged v) (map_directory_few v n p d (length d.slots / slots_a_block v.geometry.width)) (none_few 11 0))

slot_few : (v : VolumeNow) (n : ℕ) (p : Placed) (k : ℕ) (next : DirectoryPart) → Few 3 0 (tells_node n (slot_told v p k next))
slot_few v n p k next = let told = told_few v.geometry p (with_size p.inode (slot_size v.geometry.width * length next.slots)) in record { noted = omega (arith, told); written = omega arith }

pub put_name_few : (v : VolumeNow) (n : ℕ) (name : List ℕ) (birth : ℕ) → Few 3 0 (put_name_slot v n name birth).touched
put_name_few v n name birth = directory_few 3 0 v n _ (λ p d. node_few 3 0 v birth _ (λ child. slot_few v n p _ (with_name d (record { inode = child.number; name = name }) birth)))

pub add_name_few : (v : VolumeNow) (n : ℕ) (name : List ℕ) (birth : ℕ) → Few 14 0 (add_name v n name birth).touched
add_name_few v n name birth = followed_few 11 3 0 0 (make_room v n) (λ w. put_name_slot w n name birth) (make_room_few v n) (λ w. put_name_few w n name birth)

pub set_parent_few : (v : VolumeNow) (n parent : ℕ) → Few 3 0 (set_parent v n parent).touched
set_parent_few v n parent = directory_few 3 0 v n _ (λ p d. node_few 3 0 v parent _ (λ above. slot_few v n p 1 (with_parent d parent (record { inode = above.number; name = codes ".." }))))

pub lead_name_few : (v : VolumeNow) (n : ℕ) (name : List ℕ) (birth : ℕ) → Few 3 0 (lead_name v n name birth).touched
lead_name_few v n name birth = directory_few 3 0 v n _ (λ p d. node_few 3 0 v birth _ (λ child. slot_few v n p (place_of name d.slots) (with_child d (place_of name d.slots) (record { inode = child.number; name = name }) birth)))

pub take_name_few : (v : VolumeNow) (n : ℕ) (name : List ℕ) → Few 3 0 (take_name v n name).touched
take_name_few v n name = directory_few 3 0 v n _ (λ p d. by p d (slice_get d.slots (place_of name d.slots)))
  where
    slot_taken : Placed → DirectoryPart → Slot → Change
    slot_taken p d s = record {
      volume = with_contents v (name_removed v.geometry v.contents n p d (place_of name d.slots) s);
      touched = tells_node n (slot_told v p (place_of name d.slots) (without_name d (place_of name d.slots) s));
    }

    by : (p : Placed) (d : DirectoryPart) (o : Option (Option Slot)) → Few 3 0 (elim o as (λ _. Change) [ None ↦ unchanged v | Some o ↦ elim o as (λ _. Change) [ None ↦ unchanged v | Some s ↦ slot_taken p d s ] ]).touched
    by p d None = none_few 3 0
    by p d (Some None) = none_few 3 0
    by p d (Some (Some s)) = slot_few v n p (place_of name d.slots) (without_name d (place_of name d.slots) s)

-- ---- a node goes

gone_less : (c : Contents) (p : Placed) (part : Part) → length (metadata_gone c p part) ≤ length (block_zones c p part ++ all_numbers c p)
gone_less c p (parts.File zones) = let both = length-append (block_zones c p (parts.File zones)) (all_numbers c p) in omega (arith, both)
gone_less c p (parts.Directory d) = omega arith

pub drop_node_few : (v : VolumeNow) (tx n : ℕ) → Few 3 0 (drop_node v tx n).touched
drop_node_few v tx n = node_few 3 0 v n _ (λ p. dropped p)
  where
    dropped : (p : Placed) → Few 3 0 (node_dropped v tx n p).touched
    dropped p =
        let gone = block_zones v.contents p p.part ++ all_numbers v.contents p in
        let less = gone_less v.contents p p.part in
        let bits = length-map gone (zone_bit v.geometry false) in
        let blocks = length-map (map (zone_bit v.geometry false) gone) (touched_by v.geometry) in
        let behind = length-append (touched_by_all v.geometry (drop_edits v.geometry p gone)) (table_block v.geometry p.number ∷ []) in
        record { noted = omega (arith, less, bits, blocks, behind); written = omega arith }

-- ---- bytes

page_few : (v : VolumeNow) (n index zone : ℕ) (content : List ℕ) → Few 0 1 (put_page v n index zone content).touched
page_few v n index zone content = record { noted = omega arith; written = omega arith }

pub write_block_few : (v : VolumeNow) (n off : ℕ) (bytes : List ℕ) (index : ℕ) → Few 11 1 (write_block v n off bytes index).touched
write_block_few v n off bytes index = file_few 11 1 v n _ (λ p zones.
    if_few 11 1 (nat_eq (zone_in v.contents.blocks p.inode (block index)) 0) (map_file_block v n p zones (patched index off bytes (zeros 1024)) index) _
    (map_file_few v n p zones (patched index off bytes (zeros 1024)) index)
    (few_more 0 11 1 1 _ (omega arith) (omega arith) (page_few v n index (zone_in v.contents.blocks p.inode (block index)) (patched index off bytes (disk_of v.contents.blocks (zone_in v.contents.blocks p.inode (block index)))))))

pub write_blocks_few : (v : VolumeNow) (n off : ℕ) (bytes : List ℕ) (indices : List ℕ) → Few (11 * length indices) (length indices) (write_blocks v n off bytes indices).touched
write_blocks_few v n off bytes [] = none_few 0 0
write_blocks_few v n off bytes (index ∷ indices) =
    few_more (11 + 11 * length indices) (11 * length (index ∷ indices)) (1 + length indices) (length (index ∷ indices)) _ (omega arith) (omega arith)
    (followed_few 11 (11 * length indices) 1 (length indices) (write_block v n off bytes index) (λ w. write_blocks w n off bytes indices)
    (write_block_few v n off bytes index) (λ w. write_blocks_few w n off bytes indices))

-- ---- a file is cut

cut_few : (blocks : List (List ℕ)) (own : Place → ℕ) (keeps : Place → Bool) (cs : List (Place × ℕ)) → length (cut_told blocks own keeps cs) ≤ length cs
cut_few blocks own keeps [] = omega arith
cut_few blocks own keeps (c ∷ cs) = by (keeps c.0 && has_numbers blocks (own c.0) c.1) (cut_few blocks own keeps cs)
  where
    by : (b : Bool) → length (cut_told blocks own keeps cs) ≤ length cs → length (if b then own c.0 ∷ cut_told blocks own keeps cs else cut_told blocks own keeps cs) ≤ length (c ∷ cs)
    by true h = omega (arith, h)
    by false h = omega (arith, h)

cuts_few : (keeps : Place → Bool) (from : ℕ) → length (cuts keeps from) ≤ 2
cuts_few keeps from = by (nat_lt from 7) (nat_lt from 519) (nat_lt from 262663)
  where
    by : (a b c : Bool) → length {A = Place × ℕ} (if a then [] else (if b then (indirect, from - 7) ∷ [] else (if c then (inner ((from - 519) / 512), (from - 519) % 512) ∷ (double, if keeps (inner ((from - 519) / 512)) then suc ((from - 519) / 512) else (from - 519) / 512) ∷ [] else []))) ≤ 2
    by true b c = omega arith
    by false true c = omega arith
    by false false true = omega arith
    by false false false = omega arith

blocks_cut_few : (v : VolumeNow) (tx n : ℕ) (p : Placed) (zones : List Mapped) (keeps : Place → Bool) (from : ℕ) → Few 4 0 (blocks_cut v tx n p zones keeps from).touched
blocks_cut_few v tx n p zones keeps from =
    let gone = map (λ (m : Mapped). m.zone) (filter (λ m. not (nat_lt m.index from)) zones) in
    let numbers = numbers_gone v.contents p keeps in
    let touches = file_cut_touches v.geometry v.contents n p zones keeps from in
    let freed = length-append gone numbers in
    let bits = length-map touches.freed (zone_bit v.geometry false) in
    let marked = length-map (map (zone_bit v.geometry false) touches.freed) (touched_by v.geometry) in
    let edits = cut_few v.contents.blocks (λ x. zone_in v.contents.blocks p.inode x) keeps (cuts keeps from) in
    let few = cuts_few keeps from in
    let left = (cut_to v.geometry keeps (opened v.contents p) from).inode in
    let told = told_few v.geometry p left in
    let cut = length-append (cut_told v.contents.blocks (λ x. zone_in v.contents.blocks p.inode x) keeps (cuts keeps from)) (back_told v.geometry p left) in
    let blocks = length-append (touched_by_all v.geometry (map (zone_bit v.geometry false) touches.freed)) touches.blocks in
    record { noted = omega (arith, freed, bits, marked, edits, few, told, cut, blocks); written = omega arith }

pub cut_blocks_few : (v : VolumeNow) (tx n from : ℕ) → Few 4 0 (cut_blocks v tx n from).touched
cut_blocks_few v tx n from = file_few 4 0 v n _ (λ p zones.
    if_few 4 0 (list_any (λ (m : Mapped). nat_le from m.index) zones) _ (unchanged v) (blocks_cut_few v tx n p zones (keeps_below (indices_of zones) from) from) (none_few 4 0))

pub clear_tail_few : (v : VolumeNow) (n size : ℕ) → Few 0 1 (clear_tail v n size).touched
clear_tail_few v n size = file_few 0 1 v n _ (λ p zones.
    let zone = zone_in v.contents.blocks p.inode (block (size / 1024)) in
    if_few 0 1 (nat_eq (size % 1024) 0 || nat_eq zone 0) (unchanged v) (put_page v n (size / 1024) zone (cut_body size (size / 1024) (disk_of v.contents.blocks zone)))
    (none_few 0 1) (page_few v n (size / 1024) zone (cut_body size (size / 1024) (disk_of v.contents.blocks zone))))
