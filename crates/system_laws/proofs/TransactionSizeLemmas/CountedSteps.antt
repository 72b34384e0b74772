-- How many blocks each step of a call tells.
use Rattle.std.specs.Prelude.{◌≡◌, ◌≢◌, ℕ, suc, ◌+◌, ◌-◌, ◌*◌, ◌/◌, ◌%◌, ◌<◌, ◌≤◌, ◌⊎◌, nat_eq, nat_le, nat_lt, ◌==◌, ◌&&◌, ◌||◌, not, Bool, true, false, if◌then◌else◌, List, [], ◌∷◌, ◌++◌, length, map, codes, Option, Some, None, option_map, refl}
use Rattle.std.specs.List.{filter, list_any, range_with_len, slice_get as list_get}
use Rattle.std.proofs.Common.{sym, subst, ◌∙◌, inl, inr, arith, length-append}
use Rattle.std.proofs.lemmas.Bool.{cases_lt, and_parts, eqb-true}
use Rattle.std.proofs.lemmas.List.{length-map, length-set}
use Rattle.std.proofs.lemmas.List.FromFn.{length-range_with_len}
use Rattle.std.proofs.lemmas.List.Sums.{length-filter, count_by-le-length}
use Rattle.blk_base.specs.Members.{In}
use Rattle.blk_base.specs.laws.Members.{In-append_left, In-append_right, In-append_cases, slice_get-length}
use Rattle.byte_fields.specs.Fields.{zeros}
use Rattle.minix_layout.specs.declared.division.Geometry.{Geometry}
use Rattle.minix_layout.specs.declared.inode.Inode.{Inode}
use Rattle.minix_layout.specs.declared.slot.Slot.{Slot}
use Rattle.minix_layout.specs.Widths.{slot_size, slots_a_block}
use Rattle.minix_tables.specs.declared.zones.zone_state.ZoneState.{ZoneState}
use Rattle.minix_tables.specs.declared.zones.zone_state.ZoneState.TheVariants as states
use Rattle.minix_tables.specs.directories.Slots.{room}
use Rattle.minix_tables.specs.zones.Zones.{Zones, least_free, lowest_free, taken, given, with_state}
use Rattle.minix_tables.specs.zones.laws.Lowest.{is_least}
use Rattle.tree_model.specs.Calls.{cut_body}
use Rattle.tree_model.specs.Maps.{at_number}
use Rattle.tree_model.specs.laws.MapsLaws.{at_put_number_apart}
use Rattle.volume_ops.specs.declared.found.Mapped.{Mapped}
use Rattle.volume_ops.specs.Places.{table_block}
use Rattle.volume_ops.specs.Volume.{disk_of}
use Rattle.volume_model.specs.Counts.{keeps_below, indices_of, number_places}
use Rattle.volume_model.specs.Cut.{cuts, cut_to, cut_told, has_numbers}
use Rattle.volume_model.specs.Edits.{touched_by, touched_by_all}
use Rattle.volume_model.specs.MapBlock.{OpenInode, TakenZones, own_of, taken_at, first_body, entry_edits, gets_edits, step_edits, get_step, map_block, all_edits}
use Rattle.volume_model.specs.Moves.{opened, back_told, with_size, with_name, without_name, numbers_gone, file_cut_touches}
use Rattle.volume_model.specs.Touched.{Contents}
use Rattle.volume_model.specs.Volume.{Place, block, indirect, double, inner, zone_in}
use Rattle.volume_model.specs.Ways.{Home, slot, entry, nowhere, home, way}
use Rattle.volume_model.specs.declared.placed.DirectoryPart.{DirectoryPart}
use Rattle.volume_model.specs.declared.placed.Part.TheVariants as parts
use Rattle.volume_model.specs.declared.placed.Placed.{Placed}
use Rattle.volume_model.specs.laws.Back.{told_table}
use Rattle.volume_model.specs.laws.OnWay.{way-direct, way-single}
use Rattle.volume_steps.specs.Now.{VolumeNow, Change, unchanged, written, tells_blocks}
use Rattle.volume_steps.specs.Steps.{inode_put, set_links, with_links, resize, make_file, make_directory, map_directory_block, make_room, slot_told, put_name_slot, add_name, place_of, take_name, set_parent, with_parent, lead_name, with_child, drop_node, block_zones, all_numbers, metadata_gone, drop_edits, put_page, blocks_cut, cut_blocks, clear_tail}
use Rattle.volume_steps.specs.Zones.{zone_bit, next_zone, new_number, all_given, TakenFor, take_zones, lacks_outer, lacks_second, take_if, zone_if, numbers_if}
use Rattle.system_laws.proofs.TransactionSizeLemmas.Counted.{InMap, IsFit, Counted, bit_in_map, bits_in_map, counted_none, counted_then, counted_if, counted_at_node, counted_at_directory, counted_at_file}

-- ---- zones that are taken and given

module _ (m : Zones) where
  abbrev past : ℕ
  past = m.first + length m.states

  -- the zone that is next lies among the zones
  next_below : 0 < past → next_zone m < past
  next_below some = by (least_free m.states) refl
    where
      by : (o : Option ℕ) → least_free m.states ≡ o → elim (option_map (λ at. m.first + at) o) as (λ _. ℕ) [ None ↦ 0 | Some zone ↦ zone ] < past
      by None e = some
      by (Some at) e = let low = slice_get-length m.states at states.Free (is_least m.states at e).0 in omega (arith, low)

  with_size_of : (zone : ℕ) (state : ZoneState) → (with_state m zone state).first + length (with_state m zone state).states ≡ past
  with_size_of zone state = let same = length-set m.states (zone - m.first) state in omega (arith, same)

  taken_past : (taken m).first + length (taken m).states ≡ past
  taken_past = by (lowest_free m)
    where
      by : (o : Option ℕ) → (elim o as (λ _. Zones) [ None ↦ m | Some zone ↦ with_state m zone states.Used ]).first + length (elim o as (λ _. Zones) [ None ↦ m | Some zone ↦ with_state m zone states.Used ]).states ≡ past
      by None = refl
      by (Some zone) = with_size_of zone states.Used

if_past : (wanted : Bool) (m : Zones) → (take_if wanted m).first + length (take_if wanted m).states ≡ m.first + length m.states
if_past true m = taken_past m
if_past false m = refl

given_past : (tx : ℕ) (zones : List ℕ) (m : Zones) → (all_given tx zones m).first + length (all_given tx zones m).states ≡ m.first + length m.states
given_past tx [] m = refl
given_past tx (z ∷ zones) m = given_past tx zones (given m z tx) ∙ with_size_of m z (states.Quarantined tx)

if_below : (wanted : Bool) (m : Zones) (z end : ℕ) → m.first + length m.states ≡ end → 0 < end → In z (numbers_if wanted (zone_if wanted m)) → z < end
if_below true m z end same some (inl e) = subst (λ z. z < end) e (subst (λ p. next_zone m < p) same (next_below m (subst (λ p. 0 < p) (sym same) some)))
if_below true m z end same some (inr n) = absurd n
if_below false m z end same some n = absurd n

module _ (own : Place → ℕ) (index : ℕ) (m : Zones) where
  abbrev t : TakenFor
  t = take_zones own index m

  abbrev outer : Bool
  outer = lacks_outer own index

  abbrev second : Bool
  second = lacks_second own index

  zones_past : t.zones.first + length t.zones.states ≡ m.first + length m.states
  zones_past = if_past second (take_if outer (taken m)) ∙ (if_past outer (taken m) ∙ taken_past m)

  numbers_below : 0 < m.first + length m.states → (z : ℕ) → In z t.numbers → z < m.first + length m.states
  numbers_below some z (inl e) = subst (λ z. z < m.first + length m.states) e (next_below m some)
  numbers_below some z (inr i) = elim (In-append_cases (numbers_if outer t.taken.outer) (numbers_if second t.taken.second) z i) [
    | inl j ↦ if_below outer (taken m) z (m.first + length m.states) (taken_past m) some j
    | inr j ↦ if_below second (take_if outer (taken m)) z (m.first + length m.states) (if_past outer (taken m) ∙ taken_past m) some j
  ]

-- ---- inodes

-- the block of the table, where it is told
in_table : (g : Geometry) (p : Placed) (b : ℕ) → b ≡ table_block g p.number → In b (table_block g p.number ∷ [])
in_table g p b e = inl (sym e)

pub links_counted : (v : VolumeNow) (n : ℕ) (change : ℕ → ℕ) → Counted v (set_links v n change) 1 0
links_counted v n change = counted_at_node v n _ 1 0 (λ p at. record {
  geometry = refl;
  zones = refl;
  among = table_block v.geometry p.number ∷ [];
  few = omega arith;
  told = λ fit frees b i. inr (in_table v.geometry p b (told_table v.geometry p (with_links p.inode (change p.inode.links)) b i));
  revokes = omega arith;
})

-- each other node stays
pub links_apart : (v : VolumeNow) (n : ℕ) (change : ℕ → ℕ) (a : ℕ) → a ≢ n → at_number (set_links v n change).volume.contents.nodes a ≡ at_number v.contents.nodes a
links_apart v n change a apart = by (at_number v.contents.nodes n)
  where
    by : (o : Option Placed) → at_number (elim o as (λ _. Change) [
      | None ↦ unchanged v
      | Some p ↦ record {
        volume = inode_put v n p (with_links p.inode (change p.inode.links));
        touched = tells_blocks (back_told v.geometry p (with_links p.inode (change p.inode.links)));
      }
    ]).volume.contents.nodes a ≡ at_number v.contents.nodes a
    by None = refl
    by (Some p) = at_put_number_apart v.contents.nodes n _ a apart

pub resize_counted : (v : VolumeNow) (n : ℕ) (change : ℕ → ℕ) → Counted v (resize v n change) 1 0
resize_counted v n change = counted_at_node v n _ 1 0 (λ p at. counted_if v 1 0 (change p.inode.size == p.inode.size) _ _ (λ same. counted_none v 1 0) (λ other. record {
  geometry = refl;
  zones = refl;
  among = table_block v.geometry p.number ∷ [];
  few = omega arith;
  told = λ fit frees b i. inr (in_table v.geometry p b (told_table v.geometry p (with_size p.inode (change p.inode.size)) b i));
  revokes = omega arith;
}))

-- ---- nodes come

pub file_counted : (v : VolumeNow) (n : ℕ) → Counted v (make_file v n) 2 0
file_counted v n =
    let number = new_number v.geometry v.contents.nodes in
    record {
      geometry = refl;
      zones = refl;
      among = (2 + number / 8192) ∷ table_block v.geometry number ∷ [];
      few = omega arith;
      told = λ fit frees b i. inr i;
      revokes = omega arith;
    }

module _ (v : VolumeNow) where
  abbrev number : ℕ
  number = new_number v.geometry v.contents.nodes

  abbrev zone : ℕ
  zone = next_zone v.zones

  zone_within : IsFit v → zone < v.geometry.zones
  zone_within fit =
      let some = fit.sound.some_zone in
      let same = fit.zones in
      subst (λ past. zone < past) same (next_below v.zones (omega (arith, some, same)))

  -- what is told of a new directory: bits of both maps, its zone three times, and the table
  directory_told : IsFit v → (b : ℕ) → In b ((2 + number / 8192) ∷ (2 + v.geometry.imap + (zone - v.geometry.first + 1) / 8192) ∷ zone ∷ zone ∷ zone ∷ table_block v.geometry number ∷ []) →
      InMap v.geometry b ⊎ In b ((2 + number / 8192) ∷ zone ∷ table_block v.geometry number ∷ [])
  directory_told fit b (inl e) = inr (inl e)
  directory_told fit b (inr (inl e)) = inl (subst (InMap v.geometry) e (bit_in_map v.geometry fit.sound true zone (zone_within fit)))
  directory_told fit b (inr (inr (inl e))) = inr (inr (inl e))
  directory_told fit b (inr (inr (inr (inl e)))) = inr (inr (inl e))
  directory_told fit b (inr (inr (inr (inr (inl e))))) = inr (inr (inl e))
  directory_told fit b (inr (inr (inr (inr (inr (inl e)))))) = inr (inr (inr (inl e)))
  directory_told fit b (inr (inr (inr (inr (inr (inr z)))))) = absurd z

  pub directory_counted : (n parent : ℕ) → Counted v (make_directory v n parent) 3 0
  directory_counted n parent = counted_at_node v parent _ 3 0 (λ p at. record {
    geometry = refl;
    zones = taken_past v.zones;
    among = (2 + number / 8192) ∷ zone ∷ table_block v.geometry number ∷ [];
    few = omega arith;
    told = λ fit frees b i. directory_told fit b i;
    revokes = omega arith;
  })

-- ---- a directory gets a block

entry_few : (s : OpenInode) (h : Home) (z : ℕ) → length (entry_edits s h z) ≤ 1
entry_few s (slot k) z = omega arith
entry_few s (entry h k) z = omega arith
entry_few s nowhere z = omega arith

step_few : (t : TakenZones) (content : List ℕ) (s : OpenInode) (x : Place) → length (step_edits t content s x) ≤ 1 + length (entry_edits s (home x) (taken_at t x))
step_few t content s x = by (nat_eq (own_of s x) 0)
  where
    by : (b : Bool) → length (if b then gets_edits s x (taken_at t x) (first_body content x) else []) ≤ 1 + length (entry_edits s (home x) (taken_at t x))
    by true = omega arith
    by false = omega arith

direct_few : (g : Geometry) (t : TakenZones) (content : List ℕ) (s : OpenInode) (index : ℕ) → index < 7 → length (all_edits g t content s (block index ∷ [])) ≤ 3
direct_few g t content s index low =
    let one = step_few t content s (block index) in
    let entry = entry_few s (home (block index)) t.data_zone in
    let both = length-append (step_edits t content s (block index)) [] in
    omega (arith, one, entry, both)

single_few : (g : Geometry) (t : TakenZones) (content : List ℕ) (s : OpenInode) (index : ℕ) → length (all_edits g t content s (indirect ∷ block index ∷ [])) ≤ 3
single_few g t content s index =
    let u = get_step g t content s indirect in
    let one = step_few t content s indirect in
    let two = step_few t content u (block index) in
    let entry = entry_few u (home (block index)) t.data_zone in
    let last = length-append (step_edits t content u (block index)) [] in
    let both = length-append (step_edits t content s indirect) (step_edits t content u (block index) ++ []) in
    omega (arith, one, two, entry, last, both)

-- at most three blocks are written on the way to a block without a doubly indirect zone
way_few : (g : Geometry) (t : TakenZones) (content : List ℕ) (s : OpenInode) (index : ℕ) → index < 519 → length (touched_by_all g (all_edits g t content s (way index))) ≤ 3
way_few g t content s index low =
    let same = length-map (all_edits g t content s (way index)) (touched_by g) in
    let few = by (cases_lt index 7) in
    omega (arith, same, few)
  where
    by : (index < 7) ⊎ (7 ≤ index) → length (all_edits g t content s (way index)) ≤ 3
    by (inl direct) = subst (λ xs. length (all_edits g t content s xs) ≤ 3) (sym (way-direct index direct)) (direct_few g t content s index direct)
    by (inr behind) = subst (λ xs. length (all_edits g t content s xs) ≤ 3) (sym (way-single index behind low)) (single_few g t content s index)

module _ (v : VolumeNow) (n : ℕ) (p : Placed) (d : DirectoryPart) (index : ℕ) where
  abbrev own : Place → ℕ
  own x = zone_in v.contents.blocks p.inode x

  abbrev zones_for : TakenFor
  zones_for = take_zones own index v.zones

  abbrev marked : Contents
  marked = written v.geometry v.contents (map (zone_bit v.geometry true) zones_for.numbers)

  abbrev mapped : Inode
  mapped = (map_block v.geometry zones_for.taken (zeros 1024) (opened marked p) index).inode

  abbrev on_way : List ℕ
  on_way = touched_by_all v.geometry (all_edits v.geometry zones_for.taken (zeros 1024) (opened marked p) (way index))

  zones_within : IsFit v → (z : ℕ) → In z zones_for.numbers → z < v.geometry.zones
  zones_within fit z j =
      let some = fit.sound.some_zone in
      let same = fit.zones in
      subst (λ past. z < past) same (numbers_below own index v.zones (omega (arith, some, same)) z j)

  pub block_counted : index < 519 → Counted v (map_directory_block v n p d index) 4 0
  block_counted low = record {
    geometry = refl;
    zones = zones_past own index v.zones;
    among = on_way ++ table_block v.geometry p.number ∷ [];
    few =
        let few = way_few v.geometry zones_for.taken (zeros 1024) (opened marked p) index low in
        let both = length-append on_way (table_block v.geometry p.number ∷ []) in
        omega (arith, few, both);
    told = λ fit frees b i. elim (In-append_cases (touched_by_all v.geometry (map (zone_bit v.geometry true) zones_for.numbers)) (on_way ++ back_told v.geometry p mapped) b i) [
      | inl j ↦ inl (bits_in_map v.geometry fit.sound true zones_for.numbers (zones_within fit) b j)
      | inr more ↦ elim (In-append_cases on_way (back_told v.geometry p mapped) b more) [
        | inl j ↦ inr (In-append_left on_way (table_block v.geometry p.number ∷ []) b j)
        | inr j ↦ inr (In-append_right on_way (table_block v.geometry p.number ∷ []) b (in_table v.geometry p b (told_table v.geometry p mapped b j)))
      ]
    ];
    revokes = omega arith;
  }

-- ---- names

-- the block of a slot, and that of the inode
in_slot : (v : VolumeNow) (p : Placed) (k : ℕ) (next : DirectoryPart) (b : ℕ) → In b (slot_told v p k next) →
    In b (zone_in v.contents.blocks p.inode (block (k / slots_a_block v.geometry.width)) ∷ table_block v.geometry p.number ∷ [])
in_slot v p k next b (inl e) = inl e
in_slot v p k next b (inr j) = inr (in_table v.geometry p b (told_table v.geometry p (with_size p.inode (slot_size v.geometry.width * length next.slots)) b j))

-- A directory gets a block where its slots are all in use and fill its blocks; `few` says that it may have one more.
abbrev pub FewBlocks : VolumeNow → DirectoryPart → Type 0
FewBlocks v d = room d.slots ≡ length d.slots → length d.slots % slots_a_block v.geometry.width ≡ 0 → length d.slots / slots_a_block v.geometry.width < 519

pub room_counted : (v : VolumeNow) (n : ℕ) → ((p : Placed) (d : DirectoryPart) → at_number v.contents.nodes n ≡ Some p → p.part ≡ parts.Directory d → FewBlocks v d) → Counted v (make_room v n) 4 0
room_counted v n few = counted_at_directory v n _ 4 0 (λ p d at is. counted_if v 4 0 (nat_eq (room d.slots) (length d.slots) && nat_eq (length d.slots % slots_a_block v.geometry.width) 0) _ _
    (λ full.
    let both = and_parts _ _ full in
    block_counted v n p d (length d.slots / slots_a_block v.geometry.width) (few p d at is (eqb-true _ _ both.0) (eqb-true _ _ both.1)))
    (λ room. counted_none v 4 0))

pub slot_counted : (v : VolumeNow) (n : ℕ) (name : List ℕ) (birth : ℕ) → Counted v (put_name_slot v n name birth) 2 0
slot_counted v n name birth = counted_at_directory v n _ 2 0 (λ p d at is. counted_at_node v birth _ 2 0 (λ child there. record {
  geometry = refl;
  zones = refl;
  among = zone_in v.contents.blocks p.inode (block (room d.slots / slots_a_block v.geometry.width)) ∷ table_block v.geometry p.number ∷ [];
  few = omega arith;
  told = λ fit frees b i. inr (in_slot v p (room d.slots) (with_name d (record { inode = child.number; name = name }) birth) b i);
  revokes = omega arith;
}))

pub name_counted : (v : VolumeNow) (n : ℕ) (name : List ℕ) (birth : ℕ) → ((p : Placed) (d : DirectoryPart) → at_number v.contents.nodes n ≡ Some p → p.part ≡ parts.Directory d → FewBlocks v d) → Counted v (add_name v n name birth) 6 0
name_counted v n name birth few = counted_then v (make_room v n) (λ w. put_name_slot w n name birth) 4 2 0 0 (room_counted v n few) (slot_counted (make_room v n).volume n name birth)

-- the slot of a name, where there is one
at_slot_counted : (v : VolumeNow) (found : Option (Option Slot)) (change : Slot → Change) (k : ℕ) → ((s : Slot) → Counted v (change s) k 0) →
    Counted v (elim found as (λ _. Change) [ None ↦ unchanged v | Some o ↦ elim o as (λ _. Change) [ None ↦ unchanged v | Some s ↦ change s ] ]) k 0
at_slot_counted v None change k each = counted_none v k 0
at_slot_counted v (Some None) change k each = counted_none v k 0
at_slot_counted v (Some (Some s)) change k each = each s

pub taken_counted : (v : VolumeNow) (n : ℕ) (name : List ℕ) → Counted v (take_name v n name) 2 0
taken_counted v n name = counted_at_directory v n _ 2 0 (λ p d at is. at_slot_counted v (list_get d.slots (place_of name d.slots)) _ 2 (λ s. record {
  geometry = refl;
  zones = refl;
  among = zone_in v.contents.blocks p.inode (block (place_of name d.slots / slots_a_block v.geometry.width)) ∷ table_block v.geometry p.number ∷ [];
  few = omega arith;
  told = λ fit frees b i. inr (in_slot v p (place_of name d.slots) (without_name d (place_of name d.slots) s) b i);
  revokes = omega arith;
}))

pub parent_counted : (v : VolumeNow) (n parent : ℕ) → Counted v (set_parent v n parent) 2 0
parent_counted v n parent = counted_at_directory v n _ 2 0 (λ p d at is. counted_at_node v parent _ 2 0 (λ above there. record {
  geometry = refl;
  zones = refl;
  among = zone_in v.contents.blocks p.inode (block (1 / slots_a_block v.geometry.width)) ∷ table_block v.geometry p.number ∷ [];
  few = omega arith;
  told = λ fit frees b i. inr (in_slot v p 1 (with_parent d parent (record { inode = above.number; name = codes ".." })) b i);
  revokes = omega arith;
}))

pub lead_counted : (v : VolumeNow) (n : ℕ) (name : List ℕ) (birth : ℕ) → Counted v (lead_name v n name birth) 2 0
lead_counted v n name birth = counted_at_directory v n _ 2 0 (λ p d at is. counted_at_node v birth _ 2 0 (λ child there. record {
  geometry = refl;
  zones = refl;
  among = zone_in v.contents.blocks p.inode (block (place_of name d.slots / slots_a_block v.geometry.width)) ∷ table_block v.geometry p.number ∷ [];
  few = omega arith;
  told = λ fit frees b i. inr (in_slot v p (place_of name d.slots) (with_child d (place_of name d.slots) (record { inode = child.number; name = name }) birth) b i);
  revokes = omega arith;
}))

-- ---- nodes and blocks go

-- no node has more than 514 zones of numbers
places_many : length number_places ≡ 514
places_many =
    let inners = length-map (range_with_len 0 512) inner in
    let all = length-range_with_len 0 512 in
    omega (arith, inners, all)

filter_few : (p : Place → Bool) (places : List Place) → length (filter p places) ≤ length places
filter_few p places =
    let size = length-filter p places in
    let fewer = count_by-le-length p places in
    omega (arith, size, fewer)

pub numbers_few : (c : Contents) (p : Placed) (keeps : Place → Bool) → length (numbers_gone c p keeps) ≤ 514
numbers_few c p keeps = by (filter (λ x. not (nat_eq (zone_in c.blocks p.inode x) 0) && not (keeps x)) number_places) (filter_few (λ x. not (nat_eq (zone_in c.blocks p.inode x) 0) && not (keeps x)) number_places) places_many
  where
    by : (places : List Place) → length places ≤ length number_places → length number_places ≡ 514 → length (map (λ x. zone_in c.blocks p.inode x) places) ≤ 514
    by places few many =
        let same = length-map places (λ x. zone_in c.blocks p.inode x) in
        omega (arith, few, many, same)

module _ (v : VolumeNow) (tx n : ℕ) where
  abbrev gone : Placed → List ℕ
  gone p = block_zones v.contents p p.part ++ all_numbers v.contents p

  drop_told : (p : Placed) → IsFit v → ((z : ℕ) → In z (gone p) → z < v.geometry.zones) → (b : ℕ) →
      In b ((2 + p.number / 8192) ∷ touched_by_all v.geometry (map (zone_bit v.geometry false) (gone p))) ⊎ In b (table_block v.geometry p.number ∷ []) →
      InMap v.geometry b ⊎ In b ((2 + p.number / 8192) ∷ table_block v.geometry p.number ∷ [])
  drop_told p fit frees b (inl (inl e)) = inr (inl e)
  drop_told p fit frees b (inl (inr j)) = inl (bits_in_map v.geometry fit.sound false (gone p) frees b j)
  drop_told p fit frees b (inr j) = inr (inr j)

  pub drop_counted : (r : ℕ) → ((p : Placed) → at_number v.contents.nodes n ≡ Some p → length (metadata_gone v.contents p p.part) ≤ r) → Counted v (drop_node v tx n) 2 r
  drop_counted r few = counted_at_node v n _ 2 r (λ p at. record {
    geometry = refl;
    zones = given_past tx (gone p) v.zones;
    among = (2 + p.number / 8192) ∷ table_block v.geometry p.number ∷ [];
    few = omega arith;
    told = λ fit frees b i. drop_told p fit frees b (In-append_cases (touched_by_all v.geometry (drop_edits v.geometry p (gone p))) (table_block v.geometry p.number ∷ []) b i);
    revokes = few p at;
  })

pub page_counted : (v : VolumeNow) (n index zone : ℕ) (content : List ℕ) → Counted v (put_page v n index zone content) 0 0
page_counted v n index zone content = record { geometry = refl; zones = refl; among = []; few = omega arith; told = λ fit frees b i. absurd i; revokes = omega arith }

-- at most two zones of numbers are cut within
cuts_few : (keeps : Place → Bool) (from : ℕ) → length (cuts keeps from) ≤ 2
cuts_few keeps from = by (nat_lt from 7) (nat_lt from 519) (nat_lt from 262663)
  where
    single : List (Place × ℕ)
    single = (indirect, from - 7) ∷ []

    twice : List (Place × ℕ)
    twice = (inner ((from - 519) / 512), (from - 519) % 512) ∷ (double, if keeps (inner ((from - 519) / 512)) then suc ((from - 519) / 512) else (from - 519) / 512) ∷ []

    none : List (Place × ℕ)
    none = []

    by : (direct one two : Bool) → length (if direct then none else (if one then single else (if two then twice else none))) ≤ 2
    by true one two = omega arith
    by false true two = omega arith
    by false false true = omega arith
    by false false false = omega arith

cut_few : (blocks : List (List ℕ)) (own : Place → ℕ) (keeps : Place → Bool) (cs : List (Place × ℕ)) → length (cut_told blocks own keeps cs) ≤ length cs
cut_few blocks own keeps [] = omega arith
cut_few blocks own keeps (c ∷ cs) = by (keeps c.0 && has_numbers blocks (own c.0) c.1) (cut_few blocks own keeps cs)
  where
    by : (b : Bool) → length (cut_told blocks own keeps cs) ≤ length cs → length (if b then own c.0 ∷ cut_told blocks own keeps cs else cut_told blocks own keeps cs) ≤ length (c ∷ cs)
    by true rest = omega (arith, rest)
    by false rest = omega (arith, rest)

module _ (v : VolumeNow) (tx n from : ℕ) (p : Placed) (zones : List Mapped) (keeps : Place → Bool) where
  abbrev cut_of : List ℕ
  cut_of = cut_told v.contents.blocks (λ x. zone_in v.contents.blocks p.inode x) keeps (cuts keeps from)

  abbrev freed : List ℕ
  freed = (file_cut_touches v.geometry v.contents n p zones keeps from).freed

  abbrev left : Inode
  left = (cut_to v.geometry keeps (opened v.contents p) from).inode

  blocks_counted : Counted v (blocks_cut v tx n p zones keeps from) 3 514
  blocks_counted = record {
    geometry = refl;
    zones = given_past tx freed v.zones;
    among = cut_of ++ table_block v.geometry p.number ∷ [];
    few =
        let one = cuts_few keeps from in
        let two = cut_few v.contents.blocks (λ x. zone_in v.contents.blocks p.inode x) keeps (cuts keeps from) in
        let both = length-append cut_of (table_block v.geometry p.number ∷ []) in
        omega (arith, one, two, both);
    told = λ fit frees b i. elim (In-append_cases (touched_by_all v.geometry (map (zone_bit v.geometry false) freed)) (cut_of ++ back_told v.geometry p left) b i) [
      | inl j ↦ inl (bits_in_map v.geometry fit.sound false freed frees b j)
      | inr more ↦ elim (In-append_cases cut_of (back_told v.geometry p left) b more) [
        | inl j ↦ inr (In-append_left cut_of (table_block v.geometry p.number ∷ []) b j)
        | inr j ↦ inr (In-append_right cut_of (table_block v.geometry p.number ∷ []) b (in_table v.geometry p b (told_table v.geometry p left b j)))
      ]
    ];
    revokes = numbers_few v.contents p keeps;
  }

pub cut_counted : (v : VolumeNow) (tx n from : ℕ) → Counted v (cut_blocks v tx n from) 3 514
cut_counted v tx n from = counted_at_file v n _ 3 514 (λ p zones at is. counted_if v 3 514 (list_any (λ (m : Mapped). nat_le from m.index) zones) _ _
    (λ some. blocks_counted v tx n from p zones (keeps_below (indices_of zones) from)) (λ none. counted_none v 3 514))

pub tail_counted : (v : VolumeNow) (n size : ℕ) → Counted v (clear_tail v n size) 0 0
tail_counted v n size = counted_at_file v n _ 0 0 (λ p zones at is.
    let zone = zone_in v.contents.blocks p.inode (block (size / 1024)) in
    counted_if v 0 0 (nat_eq (size % 1024) 0 || nat_eq zone 0) _ _ (λ none. counted_none v 0 0)
    (λ some. page_counted v n (size / 1024) zone (cut_body size (size / 1024) (disk_of v.contents.blocks zone))))
