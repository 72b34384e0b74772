-- The blocks of a volume have bytes, whatever a call of bytes does.
use Rattle.std.specs.Prelude.{◌≡◌, ◌<◌, ◌≤◌, ◌+◌, ◌-◌, ◌*◌, ◌/◌, ◌%◌, ◌^◌, ◌&&◌, ◌||◌, ◌==◌, not, ℕ, zero, suc, nat_eq, nat_lt, nat_le, Bool, true, false, if◌then◌else◌, List, [], ◌∷◌, ◌++◌, length, map, take, drop, replicate, codes, slice_index, slice_index_or, slice_get, slice_set, Option, Some, None, Ok, Err, refl}
use Rattle.std.specs.Int.{div_ceil, byte_at, bytes_low_first}
use Rattle.std.specs.List.{list_any, list_all}
use Rattle.std.proofs.Common.{subst, inl, inr, arith}
use Rattle.blk_base.specs.Members.{In}
use Rattle.blk_base.specs.laws.Members.{In-map}
use Rattle.std.proofs.lemmas.Bool.{cases_Bool, and_parts, ltb-true, ltb-false}
use Rattle.std.proofs.lemmas.Nat.{or_of_8, and_le_l}
use Rattle.blk_base.specs.Block.{filled}
use Rattle.byte_fields.specs.Fields.{Field, zeros, put_bytes, put, bytes_of, written as written_fields}
use Rattle.byte_fields.specs.Fields.Order.{little}
use Rattle.minix_tables.specs.directories.Slots.{room}
use Rattle.minix_layout.specs.declared.division.Geometry.{Geometry}
use Rattle.minix_layout.specs.declared.inode.Inode.{Inode}
use Rattle.minix_layout.specs.declared.slot.Slot.{Slot}
use Rattle.minix_layout.specs.Bits.{byte_with, put_bit}
use Rattle.minix_layout.specs.Inodes.{inode_fields, inode_bytes}
use Rattle.minix_layout.specs.Slots.{slot_of_size, slot_bytes}
use Rattle.minix_layout.specs.Widths.{slot_size, slots_a_block}
use Rattle.tree_model.specs.declared.call.Call.{Call}
use Rattle.tree_model.specs.declared.call.Call.TheVariants as calls
use Rattle.tree_model.specs.declared.call.Reply.TheVariants as replies
use Rattle.tree_model.specs.Calls.{Tree, Place, Row, target_at, names_in, parent_of, and_then, touched_blocks, max, outcome, patched, cut_body}
use Rattle.tree_model.specs.Paths.{is_name_byte, is_dot, path_of}
use Rattle.tree_model.proofs.PlainCalls.{good_name}
use Rattle.tree_model.proofs.Rows.{then_ok, some_ok, parent_ok}
use Rattle.volume_ops.specs.declared.found.Mapped.{Mapped}
use Rattle.volume_ops.specs.Volume.{disk_of}
use Rattle.volume_model.specs.declared.placed.Placed.{Placed}
use Rattle.volume_model.specs.declared.placed.DirectoryPart.{DirectoryPart}
use Rattle.volume_model.specs.Cut.{cuts, cut_edits, cut_to}
use Rattle.volume_model.specs.Edits.{Edit, put_inode, put_slot, set_bit, put_entry, clear_from, put_body, body_after, touched_by, edited, edited_all}
use Rattle.volume_model.specs.MapBlock.{OpenInode, own_of, TakenZones, taken_at, first_body, entry_edits, gets_edits, get_zone, get_step, get_steps, map_block}
use Rattle.volume_model.specs.Counts.{keeps_below, indices_of}
use Rattle.volume_model.specs.Moves.{opened, file_cut_touches, inode_written, same_inode}
use Rattle.volume_model.specs.Touched.{Contents}
use Rattle.volume_model.specs.NewVolume.{root_inode, dot_slot, dots_slot, new_blocks}
use Rattle.volume_model.specs.Volume.{Place as FilePlace, block, indirect, double, inner, zone_in}
use Rattle.volume_model.specs.Ways.{Home, slot, entry, nowhere, home, way}
use Rattle.volume_steps.specs.Calls.{lose_link, write, changed, called, called_by, move_below}
use Rattle.volume_steps.specs.Now.{VolumeNow, Change, tree_of_now, room_of, unchanged, written}
use Rattle.volume_steps.specs.Steps.{set_links, resize, make_file, make_directory, map_file_block, map_directory_block, make_room, put_name_slot, add_name, set_parent, lead_name, take_name, place_of, drop_node, block_zones, all_numbers, put_page, write_block, write_blocks, blocks_cut, cut_blocks, clear_tail}
use Rattle.volume_steps.specs.Zones.{inode_bit, zone_bit, new_number, next_zone, take_zones}
use Rattle.minix_host.specs.ByteCalls.{HasBytes}
use Rattle.minix_host.specs.Volumes.{AreBytes, HaveBytes}
use Rattle.minix_host.proofs.StepLooks.{taken_out, by_node, by_directory, by_file, by_test, by_place, by_path, by_found, by_rename}

-- ---- lists of bytes

pub none_bytes : AreBytes []
none_bytes k = omega arith

pub cons_bytes : (x : ℕ) (xs : List ℕ) → x < 256 → AreBytes xs → AreBytes (x ∷ xs)
cons_bytes x xs low h zero = low
cons_bytes x xs low h (suc k) = h k

append_bytes : (xs ys : List ℕ) → AreBytes xs → AreBytes ys → AreBytes (xs ++ ys)
append_bytes [] ys h k = k
append_bytes (x ∷ xs) ys h k = cons_bytes x (xs ++ ys) (h 0) (append_bytes xs ys (λ i. h (suc i)) k)

take_bytes : (n : ℕ) (xs : List ℕ) → AreBytes xs → AreBytes (take n xs)
take_bytes zero xs h = none_bytes
take_bytes (suc n) [] h = h
take_bytes (suc n) (x ∷ xs) h = cons_bytes x (take n xs) (h 0) (take_bytes n xs (λ k. h (suc k)))

drop_bytes : (n : ℕ) (xs : List ℕ) → AreBytes xs → AreBytes (drop n xs)
drop_bytes zero xs h = h
drop_bytes (suc n) [] h = h
drop_bytes (suc n) (x ∷ xs) h = drop_bytes n xs (λ k. h (suc k))

same_bytes : (n x : ℕ) → x < 256 → AreBytes (replicate n x)
same_bytes zero x low = none_bytes
same_bytes (suc n) x low = cons_bytes x (replicate n x) low (same_bytes n x low)

set_bytes : (xs : List ℕ) (i x : ℕ) → x < 256 → AreBytes xs → AreBytes (slice_set xs i x)
set_bytes [] i x low h = h
set_bytes (y ∷ ys) zero x low h = cons_bytes x ys low (λ k. h (suc k))
set_bytes (y ∷ ys) (suc i) x low h = cons_bytes y (slice_set ys i x) (h 0) (set_bytes ys i x low (λ k. h (suc k)))

pub zero_bytes : (n : ℕ) → AreBytes (zeros n)
unfolding zeros
zero_bytes n = same_bytes n 0 (omega arith)

-- ---- fields

byte_low : (i x : ℕ) → byte_at i x < 256
byte_low zero x = omega arith
byte_low (suc i) x = by (x / 256 ^ suc i)
  where
    by : (m : ℕ) → m % 256 < 256
    by m = omega arith

low_bytes : (i n x : ℕ) → AreBytes (bytes_low_first i n x)
low_bytes i zero x = none_bytes
low_bytes i (suc n) x = cons_bytes (byte_at i x) (bytes_low_first (suc i) n x) (byte_low i x) (low_bytes (suc i) n x)

number_bytes : (n x : ℕ) → AreBytes (bytes_of little n x)
unfolding bytes_of
number_bytes n x = low_bytes 0 n x

over_bytes : (at : ℕ) (ys xs : List ℕ) → AreBytes ys → AreBytes xs → AreBytes (put_bytes at ys xs)
unfolding put_bytes
over_bytes at ys xs h k = append_bytes (take at xs) (ys ++ drop (at + length ys) xs) (take_bytes at xs k) (append_bytes ys (drop (at + length ys) xs) h (drop_bytes (at + length ys) xs k))

field_bytes : (n at x : ℕ) (xs : List ℕ) → AreBytes xs → AreBytes (put little n at x xs)
unfolding put
field_bytes n at x xs h = over_bytes at (bytes_of little n x) xs (number_bytes n x) h

pub fields_bytes : (fs : List Field) (xs : List ℕ) → AreBytes xs → AreBytes (written_fields little fs xs)
fields_bytes [] xs h = h
fields_bytes (f ∷ fs) xs h = field_bytes f.width f.at f.value (written_fields little fs xs) (fields_bytes fs xs h)

record_bytes : (i : Inode) → AreBytes (inode_bytes i)
unfolding inode_bytes
record_bytes i = fields_bytes (inode_fields i) (zeros 32) (zero_bytes 32)

abbrev NameBytes : Option Slot → Type 0
NameBytes None = Unit {0}
NameBytes (Some s) = AreBytes s.name

entry_bytes : (size : ℕ) (o : Option Slot) → NameBytes o → AreBytes (slot_of_size size o)
unfolding slot_of_size
entry_bytes size None h = zero_bytes size
entry_bytes size (Some s) h = fields_bytes (record { width = 2; at = 0; value = s.inode } ∷ []) (put_bytes 2 s.name (zeros size)) (over_bytes 2 s.name (zeros size) h (zero_bytes size))

power_low : (k : ℕ) → k < 8 → 2 ^ k < 256
power_low zero h = omega arith
power_low (suc zero) h = omega arith
power_low (suc (suc zero)) h = omega arith
power_low (suc (suc (suc zero))) h = omega arith
power_low (suc (suc (suc (suc zero)))) h = omega arith
power_low (suc (suc (suc (suc (suc zero))))) h = omega arith
power_low (suc (suc (suc (suc (suc (suc zero)))))) h = omega arith
power_low (suc (suc (suc (suc (suc (suc (suc zero))))))) h = omega arith
power_low (suc (suc (suc (suc (suc (suc (suc (suc k)))))))) h = absurd (omega arith)

bit_low : (byte bit : ℕ) (value : Bool) → byte < 256 → bit < 8 → byte_with byte bit value < 256
bit_low byte bit true low small = or_of_8 byte (2 ^ bit) low (power_low bit small)
bit_low byte bit false low small = (let le = and_le_l byte (255 - 2 ^ bit) in omega arith)

put_bit_bytes : (body : List ℕ) (n : ℕ) (value : Bool) → AreBytes body → AreBytes (put_bit body n value)
put_bit_bytes body n value h = set_bytes body (n / 8) (byte_with (slice_index body (n / 8)) (n % 8) value) (bit_low (slice_index body (n / 8)) (n % 8) value (h (n / 8)) (omega arith)) h

-- ---- edits

-- what is asked of a write: names and bodies of bytes
abbrev pub WritesBytes : Edit → Type 0
WritesBytes (put_slot zone at o) = NameBytes o
WritesBytes (put_body zone content) = AreBytes content
WritesBytes other = Unit {0}

body_bytes : (g : Geometry) (e : Edit) (body : List ℕ) → WritesBytes e → AreBytes body → AreBytes (body_after g e body)
body_bytes g (put_inode number inode) body h k = over_bytes (32 * ((number - 1) % 32)) (inode_bytes inode) body (record_bytes inode) k
body_bytes g (put_slot zone at o) body h k = over_bytes (slot_size g.width * at) (slot_bytes g.width o) body (entry_bytes (slot_size g.width) o h) k
body_bytes g (set_bit first number value) body h k = put_bit_bytes body (number % 8192) value k
body_bytes g (put_entry zone at number) body h k = field_bytes 2 (2 * at) number body k
body_bytes g (clear_from zone at) body h k = over_bytes (2 * at) (zeros (1024 - 2 * at)) body (zero_bytes (1024 - 2 * at)) k
body_bytes g (put_body zone content) body h k = h

set_block : (blocks : List (List ℕ)) (i c : ℕ) (x d : List ℕ) → AreBytes x → AreBytes (slice_index_or blocks c d) → AreBytes (slice_index_or (slice_set blocks i x) c d)
set_block [] i c x d h k = k
set_block (b ∷ bs) zero zero x d h k = h
set_block (b ∷ bs) zero (suc c) x d h k = k
set_block (b ∷ bs) (suc i) zero x d h k = k
set_block (b ∷ bs) (suc i) (suc c) x d h k = set_block bs i c x d h k

module _ (g : Geometry) where
  edit_keeps : (blocks : List (List ℕ)) (e : Edit) → WritesBytes e → HaveBytes blocks → HaveBytes (edited g blocks e)
  unfolding edited
  edit_keeps blocks e h k b = set_block blocks (touched_by g e) b (body_after g e (disk_of blocks (touched_by g e))) (filled 0) (body_bytes g e (disk_of blocks (touched_by g e)) h (k (touched_by g e))) (k b)

  edits_keep : (blocks : List (List ℕ)) (es : List Edit) → ((e : Edit) → In e es → WritesBytes e) → HaveBytes blocks → HaveBytes (edited_all g blocks es)
  edits_keep blocks [] h k = k
  edits_keep blocks (e ∷ es) h k = edits_keep (edited g blocks e) es (λ x i. h x (inr i)) (edit_keeps blocks e (h e (inl refl)) k)

  bits_keep : (blocks : List (List ℕ)) (value : Bool) (zones : List ℕ) → HaveBytes blocks → HaveBytes (edited_all g blocks (map (zone_bit g value) zones))
  bits_keep blocks value zones k = edits_keep blocks (map (zone_bit g value) zones) (λ e i. let x = In-map (zone_bit g value) zones e i in subst WritesBytes x.2 tt) k

  -- ---- blocks are mapped and cut

  first_bytes : (content : List ℕ) (x : FilePlace) → AreBytes content → AreBytes (first_body content x)
  first_bytes content (block i) h = h
  first_bytes content indirect h = zero_bytes 1024
  first_bytes content double h = zero_bytes 1024
  first_bytes content (inner k) h = zero_bytes 1024

  entries_write : (s : OpenInode) (x : Home) (z : ℕ) (e : Edit) → In e (entry_edits s x z) → WritesBytes e
  entries_write s (slot k) z e i = absurd i
  entries_write s (entry h k) z e (inl same) = subst WritesBytes same tt
  entries_write s (entry h k) z e (inr i) = absurd i
  entries_write s nowhere z e i = absurd i

  gets_write : (s : OpenInode) (x : FilePlace) (z : ℕ) (body : List ℕ) → AreBytes body → (e : Edit) → In e (gets_edits s x z body) → WritesBytes e
  gets_write s x z body h e (inl same) = subst WritesBytes same h
  gets_write s x z body h e (inr i) = entries_write s (home x) z e i

  step_keeps : (t : TakenZones) (content : List ℕ) (s : OpenInode) (x : FilePlace) → AreBytes content → HaveBytes s.blocks → HaveBytes (get_step g t content s x).blocks
  step_keeps t content s x h k = by (nat_eq (own_of s x) 0)
    where
      by : (b : Bool) → HaveBytes (if b then get_zone g s x (taken_at t x) (first_body content x) else s).blocks
      by true = edits_keep s.blocks (gets_edits s x (taken_at t x) (first_body content x)) (gets_write s x (taken_at t x) (first_body content x) (first_bytes content x h)) k
      by false = k

  steps_keep : (t : TakenZones) (content : List ℕ) (s : OpenInode) (xs : List FilePlace) → AreBytes content → HaveBytes s.blocks → HaveBytes (get_steps g t content s xs).blocks
  steps_keep t content s [] h k = k
  steps_keep t content s (x ∷ xs) h k = steps_keep t content (get_step g t content s x) xs h (step_keeps t content s x h k)

  map_keeps : (t : TakenZones) (content : List ℕ) (s : OpenInode) (index : ℕ) → AreBytes content → HaveBytes s.blocks → HaveBytes (map_block g t content s index).blocks
  unfolding map_block
  map_keeps t content s index h k = steps_keep t content s (way index) h k

  cuts_write : (own : FilePlace → ℕ) (keeps : FilePlace → Bool) (cs : List (FilePlace × ℕ)) (e : Edit) → In e (cut_edits own keeps cs) → WritesBytes e
  cuts_write own keeps [] e i = absurd i
  cuts_write own keeps (c ∷ cs) e i = by (keeps c.0) (cuts_write own keeps cs e) i
    where
      by : (b : Bool) → (In e (cut_edits own keeps cs) → WritesBytes e) → In e (if b then clear_from (own c.0) c.1 ∷ cut_edits own keeps cs else cut_edits own keeps cs) → WritesBytes e
      by true more (inl same) = subst WritesBytes same tt
      by true more (inr i) = more i
      by false more i = more i

  cut_keeps : (keeps : FilePlace → Bool) (s : OpenInode) (from : ℕ) → HaveBytes s.blocks → HaveBytes (cut_to g keeps s from).blocks
  unfolding cut_to
  cut_keeps keeps s from k = edits_keep s.blocks (cut_edits (own_of s) keeps (cuts keeps from)) (cuts_write (own_of s) keeps (cuts keeps from)) k

-- ---- bodies of files

patched_bytes : (index off : ℕ) (bytes old : List ℕ) → AreBytes bytes → AreBytes old → AreBytes (patched index off bytes old)
patched_bytes index off bytes old h k =
    let from = off - 1024 * index in
    let part = take (1024 - from) (drop (1024 * index - off) bytes) in
    let new = take_bytes (1024 - from) (drop (1024 * index - off) bytes) (drop_bytes (1024 * index - off) bytes h) in
    append_bytes (take from old) (part ++ drop (from + length part) old) (take_bytes from old k) (append_bytes part (drop (from + length part) old) new (drop_bytes (from + length part) old k))

cut_bytes : (size index : ℕ) (body : List ℕ) → AreBytes body → AreBytes (cut_body size index body)
cut_bytes size index body h = by (nat_le (1024 * index + 1024) size)
  where
    by : (b : Bool) → AreBytes (if b then body else take (size - 1024 * index) body ++ replicate (1024 - (size - 1024 * index)) 0)
    by true = h
    by false = append_bytes (take (size - 1024 * index) body) (replicate (1024 - (size - 1024 * index)) 0) (take_bytes (size - 1024 * index) body h) (same_bytes (1024 - (size - 1024 * index)) 0 (omega arith))

-- ---- names on paths

name_byte : (b : ℕ) → is_name_byte b ≡ true → b < 256
name_byte b t = elim (cases_Bool (nat_lt b 256)) [
  | inl low ↦ ltb-true b 256 low
  | inr high ↦ absurd (let le = ltb-false b 256 high in not_name le t)
]
  where
    not_name : 256 ≤ b → is_name_byte b ≡ true → ⊥
    not_name le t = grind arith

name_bytes : (name : List ℕ) → list_all is_name_byte name ≡ true → AreBytes name
name_bytes [] t = none_bytes
name_bytes (b ∷ bs) t = (let both = and_parts (is_name_byte b) (list_all is_name_byte bs) t in cons_bytes b bs (name_byte b both.0) (name_bytes bs both.1))

place_bytes : (tree : Tree) (path : List ℕ) (place : Place) → and_then (names_in path) (parent_of replies.Invalid tree) ≡ Ok place → AreBytes place.name
place_bytes tree path place e =
    let x = then_ok (names_in path) (parent_of replies.Invalid tree) place e in
    let good = good_name tree path x.0 place (some_ok (path_of path) replies.BadPath x.0 x.1) (parent_ok replies.Invalid tree x.0 place x.2) in
    let parts_of = and_parts (not (length place.name == 0)) (list_all is_name_byte place.name && not (is_dot place.name)) good.plain in
    name_bytes place.name (and_parts (list_all is_name_byte place.name) (not (is_dot place.name)) parts_of.1).0

-- ---- steps

abbrev P : Contents → Type 0
P c = HaveBytes c.blocks

abbrev InChange : Change → Type 0
InChange c = P c.volume.contents

inode_keeps : (g : Geometry) (blocks : List (List ℕ)) (number : ℕ) (i : Inode) → HaveBytes blocks → HaveBytes (edited g blocks (put_inode number i))
inode_keeps g blocks number i r = edit_keeps g blocks (put_inode number i) tt r

-- an inode that is written where it changed
back_keeps : (g : Geometry) (blocks : List (List ℕ)) (number : ℕ) (before i : Inode) → HaveBytes blocks → HaveBytes (inode_written g blocks number before i)
unfolding inode_written
back_keeps g blocks number before i r = by (same_inode i before)
  where
    by : (b : Bool) → HaveBytes (if b then blocks else edited g blocks (put_inode number i))
    by true = r
    by false = inode_keeps g blocks number i r

bit_keeps : (g : Geometry) (blocks : List (List ℕ)) (number : ℕ) (value : Bool) → HaveBytes blocks → HaveBytes (edited g blocks (inode_bit number value))
bit_keeps g blocks number value r = edit_keeps g blocks (inode_bit number value) tt r

slot_keeps : (g : Geometry) (blocks : List (List ℕ)) (zone at : ℕ) (o : Option Slot) → NameBytes o → HaveBytes blocks → HaveBytes (edited g blocks (put_slot zone at o))
slot_keeps g blocks zone at o h r = edit_keeps g blocks (put_slot zone at o) h r

links_keep : (v : VolumeNow) (n : ℕ) (change : ℕ → ℕ) → P v.contents → InChange (set_links v n change)
links_keep v n change r = by_node P v n _ r (λ p at. back_keeps v.geometry v.contents.blocks _ _ _ r)

resize_keeps : (v : VolumeNow) (n : ℕ) (change : ℕ → ℕ) → P v.contents → InChange (resize v n change)
resize_keeps v n change r = by_node P v n _ r (λ p at. by_test P (nat_eq (change p.inode.size) p.inode.size) _ _ r (back_keeps v.geometry v.contents.blocks _ _ _ r))

file_made : (v : VolumeNow) (n : ℕ) → P v.contents → InChange (make_file v n)
file_made v n r = inode_keeps v.geometry _ _ _ (bit_keeps v.geometry v.contents.blocks (new_number v.geometry v.contents.nodes) true r)

dot_bytes : AreBytes (codes ".")
dot_bytes = cons_bytes 46 [] (omega arith) none_bytes

dots_bytes : AreBytes (codes "..")
dots_bytes = cons_bytes 46 (46 ∷ []) (omega arith) (cons_bytes 46 [] (omega arith) none_bytes)

directory_made : (v : VolumeNow) (n parent : ℕ) → P v.contents → InChange (make_directory v n parent)
directory_made v n parent r = by_node P v parent _ r (λ p at.
    let g = v.geometry in
    let number = new_number g v.contents.nodes in
    let zone = next_zone v.zones in
    inode_keeps g _ _ _
    (slot_keeps g _ zone 1 (Some (record { inode = p.number; name = codes ".." })) dots_bytes
    (slot_keeps g _ zone 0 (Some (record { inode = number; name = codes "." })) dot_bytes
    (edit_keeps g _ (put_body zone (zeros 1024)) (zero_bytes 1024)
    (edit_keeps g _ (zone_bit g true zone) tt (bit_keeps g v.contents.blocks number true r))))))

slot_put_keeps : (v : VolumeNow) (n : ℕ) (name : List ℕ) (birth : ℕ) → AreBytes name → P v.contents → InChange (put_name_slot v n name birth)
slot_put_keeps v n name birth h r = by_directory P v n _ r (λ p d at is. by_node P v birth _ r (λ child there.
    back_keeps v.geometry _ _ _ _ (slot_keeps v.geometry v.contents.blocks _ _ (Some (record { inode = child.number; name = name })) h r)))

name_taken : (v : VolumeNow) (n : ℕ) (name : List ℕ) → P v.contents → InChange (take_name v n name)
name_taken v n name r = by_directory P v n _ r (λ p d at is. by p d (slice_get d.slots (place_of name d.slots)))
  where
    by : (p : Placed) (d : DirectoryPart) (o : Option (Option Slot)) → InChange (elim o as (λ _. Change) [
      | None ↦ unchanged v
      | Some o ↦ elim o as (λ _. Change) [ None ↦ unchanged v | Some s ↦ taken_out v n p d (place_of name d.slots) s ]
    ])
    by p d None = r
    by p d (Some None) = r
    by p d (Some (Some s)) = back_keeps v.geometry _ _ _ _ (slot_keeps v.geometry v.contents.blocks _ _ None tt r)

directory_mapped_keeps : (v : VolumeNow) (n : ℕ) (p : Placed) (d : DirectoryPart) (index : ℕ) → P v.contents → InChange (map_directory_block v n p d index)
directory_mapped_keeps v n p d index r =
    let t = take_zones (own_of (opened v.contents p)) index v.zones in
    let c = written v.geometry v.contents (map (zone_bit v.geometry true) t.numbers) in
    back_keeps v.geometry _ _ _ _ (map_keeps v.geometry t.taken (zeros 1024) (opened c p) index (zero_bytes 1024) (bits_keep v.geometry v.contents.blocks true t.numbers r))

file_mapped_keeps : (v : VolumeNow) (n : ℕ) (p : Placed) (zones : List Mapped) (content : List ℕ) (index : ℕ) → AreBytes content → P v.contents → InChange (map_file_block v n p zones content index)
file_mapped_keeps v n p zones content index h r =
    let t = take_zones (own_of (opened v.contents p)) index v.zones in
    let c = written v.geometry v.contents (map (zone_bit v.geometry true) t.numbers) in
    back_keeps v.geometry _ _ _ _ (map_keeps v.geometry t.taken content (opened c p) index h (bits_keep v.geometry v.contents.blocks true t.numbers r))

room_keeps : (v : VolumeNow) (n : ℕ) → P v.contents → InChange (make_room v n)
room_keeps v n r = by_directory P v n _ r (λ p d at is. by_test P (nat_eq (room d.slots) (length d.slots) && nat_eq (length d.slots % slots_a_block v.geometry.width) 0) _ _ (directory_mapped_keeps v n p d (length d.slots / slots_a_block v.geometry.width) r) r)

name_added : (v : VolumeNow) (n : ℕ) (name : List ℕ) (birth : ℕ) → AreBytes name → P v.contents → InChange (add_name v n name birth)
name_added v n name birth h r = slot_put_keeps (make_room v n).volume n name birth h (room_keeps v n r)

parent_set : (v : VolumeNow) (n parent : ℕ) → P v.contents → InChange (set_parent v n parent)
parent_set v n parent r = by_directory P v n _ r (λ p d at is. by_node P v parent _ r (λ above there.
    back_keeps v.geometry _ _ _ _ (slot_keeps v.geometry v.contents.blocks _ _ (Some (record { inode = above.number; name = codes ".." })) dots_bytes r)))

name_led : (v : VolumeNow) (n : ℕ) (name : List ℕ) (birth : ℕ) → AreBytes name → P v.contents → InChange (lead_name v n name birth)
name_led v n name birth h r = by_directory P v n _ r (λ p d at is. by_node P v birth _ r (λ child there.
    back_keeps v.geometry _ _ _ _ (slot_keeps v.geometry v.contents.blocks _ _ (Some (record { inode = child.number; name = name })) h r)))

node_gone : (v : VolumeNow) (tx n : ℕ) → P v.contents → InChange (drop_node v tx n)
node_gone v tx n r = by_node P v n _ r (λ p at.
    inode_keeps v.geometry _ _ _
    (bits_keep v.geometry (edited v.geometry v.contents.blocks (inode_bit p.number false)) false (block_zones v.contents p p.part ++ all_numbers v.contents p) (bit_keeps v.geometry v.contents.blocks p.number false r)))

link_lost : (v : VolumeNow) (tx n : ℕ) → P v.contents → InChange (lose_link v tx n)
link_lost v tx n r = by_node P v n _ r (λ p at. by_test P (nat_le p.inode.links 1) _ _ (node_gone v tx n r) (links_keep v n (λ links. links - 1) r))

blocks_gone : (v : VolumeNow) (tx n from : ℕ) → P v.contents → InChange (cut_blocks v tx n from)
blocks_gone v tx n from r = by_file P v n _ r (λ p zones at is.
    by_test P (list_any (λ (m : Mapped). nat_le from m.index) zones) _ _ (gone p zones) r)
  where
    gone : (p : Placed) (zones : List Mapped) → InChange (blocks_cut v tx n p zones (keeps_below (indices_of zones) from) from)
    gone p zones =
        let freed = (file_cut_touches v.geometry v.contents n p zones (keeps_below (indices_of zones) from) from).freed in
        let c = written v.geometry v.contents (map (zone_bit v.geometry false) freed) in
        back_keeps v.geometry _ _ _ _ (cut_keeps v.geometry (keeps_below (indices_of zones) from) (opened c p) from (bits_keep v.geometry v.contents.blocks false freed r))

page_keeps : (v : VolumeNow) (n index zone : ℕ) (content : List ℕ) → AreBytes content → P v.contents → InChange (put_page v n index zone content)
page_keeps v n index zone content h r = edit_keeps v.geometry v.contents.blocks (put_body zone content) h r

tail_keeps : (v : VolumeNow) (n size : ℕ) → P v.contents → InChange (clear_tail v n size)
tail_keeps v n size r = by_file P v n _ r (λ p zones at is.
    let zone = zone_in v.contents.blocks p.inode (block (size / 1024)) in
    by_test P (nat_eq (size % 1024) 0 || nat_eq zone 0) _ _ r
    (page_keeps v n (size / 1024) zone (cut_body size (size / 1024) (disk_of v.contents.blocks zone)) (cut_bytes size (size / 1024) (disk_of v.contents.blocks zone) (r zone)) r))

block_keeps : (v : VolumeNow) (n off : ℕ) (bytes : List ℕ) (index : ℕ) → AreBytes bytes → P v.contents → InChange (write_block v n off bytes index)
block_keeps v n off bytes index h r = by_file P v n _ r (λ p zones at is.
    let zone = zone_in v.contents.blocks p.inode (block index) in
    by_test P (nat_eq zone 0) _ _
    (file_mapped_keeps v n p zones (patched index off bytes (zeros 1024)) index (patched_bytes index off bytes (zeros 1024) h (zero_bytes 1024)) r)
    (page_keeps v n index zone (patched index off bytes (disk_of v.contents.blocks zone)) (patched_bytes index off bytes (disk_of v.contents.blocks zone) h (r zone)) r))

blocks_keep : (v : VolumeNow) (n off : ℕ) (bytes : List ℕ) (indices : List ℕ) → AreBytes bytes → P v.contents → InChange (write_blocks v n off bytes indices)
blocks_keep v n off bytes [] h r = r
blocks_keep v n off bytes (index ∷ indices) h r = blocks_keep (write_block v n off bytes index).volume n off bytes indices h (block_keeps v n off bytes index h r)

below_keeps : (v : VolumeNow) (from : ℕ) (name : List ℕ) (to : ℕ) (other : List ℕ) (birth : ℕ) → AreBytes other → P v.contents → InChange (move_below v from name to other birth)
below_keeps v from name to other birth h r =
    let v1 = (take_name v from name).volume in
    let v2 = (set_links v1 from (λ links. links - 1)).volume in
    let v3 = (set_parent v2 birth to).volume in
    let v4 = (set_links v3 to (λ links. links + 1)).volume in
    name_added v4 to other birth h (links_keep v3 to (λ links. links + 1) (parent_set v2 birth to (links_keep v1 from (λ links. links - 1) (name_taken v from name r))))

-- ---- calls

module _ (v : VolumeNow) (n tx : ℕ) (r : P v.contents) where
  written_keeps : (path : List ℕ) (off : ℕ) (bytes : List ℕ) → AreBytes bytes → InChange (write v path off bytes)
  written_keeps path off bytes h = by_path P v path _ r (λ found f.
      resize_keeps (write_blocks v found.birth off bytes (touched_blocks off (length bytes))).volume found.birth (λ size. max size (off + length bytes))
      (blocks_keep v found.birth off bytes (touched_blocks off (length bytes)) h r))

  changed_keeps : (c : Call) → HasBytes c → InChange (changed v n tx c)
  unfolding changed
  changed_keeps (calls.Mkdir path) h = by_place P v path _ r (λ place e.
      links_keep _ place.parent (λ links. links + 1) (name_added (make_directory v n place.parent).volume place.parent place.name n (place_bytes (tree_of_now v) path place e) (directory_made v n place.parent r)))
  changed_keeps (calls.Create path) h = by_place P v path _ r (λ place e. name_added (make_file v n).volume place.parent place.name n (place_bytes (tree_of_now v) path place e) (file_made v n r))
  changed_keeps (calls.Rmdir path) h = by_place P v path _ r (λ place e. by_path P v path _ r (λ found f.
      node_gone _ tx found.birth (links_keep (take_name v place.parent place.name).volume place.parent (λ links. links - 1) (name_taken v place.parent place.name r))))
  changed_keeps (calls.Unlink path) h = by_place P v path _ r (λ place e. by_path P v path _ r (λ found f.
      link_lost (take_name v place.parent place.name).volume tx found.birth (name_taken v place.parent place.name r)))
  changed_keeps (calls.Link path other) h = by_path P v path _ r (λ found f. by_place P v other _ r (λ place e.
      name_added (set_links v found.birth (λ links. links + 1)).volume place.parent place.name found.birth (place_bytes (tree_of_now v) other place e) (links_keep v found.birth (λ links. links + 1) r)))
  changed_keeps (calls.Rename path other) h = by_found P v path _ r (λ found f. by_place P v path _ r (λ from e. by_place P v other _ r (λ to g.
      by_rename P v tx (record { moved = found; from = from; to = to; target = target_at (tree_of_now v) to }) r
      (λ t is.
      link_lost (lead_name (take_name v from.parent from.name).volume to.parent to.name found.birth).volume tx t.birth
      (name_led (take_name v from.parent from.name).volume to.parent to.name found.birth (place_bytes (tree_of_now v) other to g) (name_taken v from.parent from.name r)))
      (below_keeps v from.parent from.name to.parent to.name found.birth (place_bytes (tree_of_now v) other to g) r)
      (name_added (take_name v from.parent from.name).volume to.parent to.name found.birth (place_bytes (tree_of_now v) other to g) (name_taken v from.parent from.name r)))))
  changed_keeps (calls.Write path off len value) h = written_keeps path off (replicate len value) (same_bytes len value h)
  changed_keeps (calls.Bytes path off bytes) h = written_keeps path off bytes h
  changed_keeps (calls.Truncate path size) h = by_path P v path _ r (λ found f.
      resize_keeps _ found.birth (λ old. size)
      (tail_keeps (cut_blocks v tx found.birth (div_ceil size 1024)).volume found.birth size (blocks_gone v tx found.birth (div_ceil size 1024) r)))
  changed_keeps other h = r

  -- Whatever the call is, the volume has bytes.
  pub bytes_kept : (c : Call) → HasBytes c → InChange (called v n tx c).change
  unfolding called
  bytes_kept c h = by (outcome (room_of v.geometry) (tree_of_now v) n c)
    where
      by : (x : Row) → InChange (called_by v n tx c x).change
      by (Err reply) = r
      by (Ok done) = changed_keeps c h

-- ---- new volumes

-- a block of zeros
pub filled_block : AreBytes (filled 0)
unfolding filled
filled_block = same_bytes 1024 0 (omega arith)

filled_bytes : (n c : ℕ) → AreBytes (slice_index_or (replicate n (filled 0)) c (filled 0))
filled_bytes zero c = filled_block
filled_bytes (suc n) zero = filled_block
filled_bytes (suc n) (suc c) = filled_bytes n c

pub new_bytes : (g : Geometry) → HaveBytes (new_blocks g)
new_bytes g =
    slot_keeps g _ g.first 1 (Some dots_slot) dots_bytes
    (slot_keeps g _ g.first 0 (Some dot_slot) dot_bytes (inode_keeps g (replicate g.zones (filled 0)) 1 (root_inode g) (filled_bytes g.zones)))
