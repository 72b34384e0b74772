-- The root keeps the zone of its first block, whatever a call does.
use Rattle.tree_model.specs.declared.node.Node.{Node}
use Rattle.std.specs.Prelude.{◌≡◌, ◌≢◌, ◌+◌, ◌-◌, ◌/◌, ◌%◌, ◌&&◌, ◌||◌, ℕ, zero, suc, nat_eq, nat_lt, nat_le, Bool, true, false, if◌then◌else◌, List, [], ◌∷◌, length, map, replicate, slice_index, slice_get, slice_set, Option, Some, None, Ok, Err, refl}
use Rattle.std.proofs.Common.{sym, ap, subst, ◌∙◌, arith, inl, inr}
use Rattle.std.specs.Int.{div_ceil}
use Rattle.std.specs.List.{list_any}
use Rattle.std.specs.Ordering.{nat_cmp, is_eq}
use Rattle.std.proofs.lemmas.Bool.{cases_Bool, cases_eq, true≢false, eqb-true}
use Rattle.std.proofs.lemmas.Option.{none-some, same_Some}
use Rattle.byte_fields.specs.Fields.{zeros}
use Rattle.minix_tables.specs.inodes.Map.{zone_at}
use Rattle.minix_layout.specs.declared.division.Geometry.{Geometry}
use Rattle.minix_layout.specs.declared.inode.Inode.{Inode}
use Rattle.minix_layout.specs.declared.slot.Slot.{Slot}
use Rattle.minix_layout.specs.Widths.{slots_a_block}
use Rattle.tree_model.specs.declared.call.Call.{Call}
use Rattle.tree_model.specs.declared.call.Call.TheVariants as calls
use Rattle.tree_model.specs.declared.call.Reply.TheVariants as replies
use Rattle.tree_model.specs.Calls.{Tree, Place, Found, Row, target_at, names_in, parent_of, walk, walk_path, and_then, touched_blocks, max, outcome}
use Rattle.tree_model.specs.Maps.{at_number, put_number, without_number, at_name}
use Rattle.tree_model.specs.laws.MapsLaws.{number_same, at_put_number, at_put_number_apart}
use Rattle.tree_model.specs.Rooted.{IsRooted}
use Rattle.tree_model.proofs.Rows.{ok_ok, then_ok, parent_ok, walk_ok, place_gives}
use Rattle.volume_ops.specs.declared.found.Mapped.{Mapped}
use Rattle.volume_model.specs.declared.placed.Placed.{Placed}
use Rattle.volume_model.specs.declared.placed.Part.{Part}
use Rattle.volume_model.specs.declared.placed.Part.TheVariants as parts
use Rattle.volume_model.specs.declared.placed.DirectoryPart.{DirectoryPart}
use Rattle.volume_model.specs.MapBlock.{OpenInode, own_of, TakenZones, taken_at, first_body, get_zone, get_step, get_steps, map_block, slot_written}
use Rattle.volume_model.specs.Ways.{slot, entry, nowhere, home, way}
use Rattle.minix_tables.specs.directories.Slots.{room}
use Rattle.volume_model.specs.Moves.{opened}
use Rattle.volume_model.specs.Volume.{Place as FilePlace, block, indirect, double, inner, zone_in}
use Rattle.volume_steps.specs.Now.{VolumeNow, Change, tree_of_now, room_of, unchanged, written}
use Rattle.volume_steps.specs.Steps.{set_links, resize, make_file, make_directory, map_directory_block, make_room, put_name_slot, add_name, set_parent, lead_name, take_name, place_of, drop_node, write_block, write_blocks, cut_blocks, clear_tail}
use Rattle.volume_steps.specs.Zones.{zone_bit, take_zones}
use Rattle.minix_host.proofs.StepLooks.{taken_out, by_node, by_directory, by_file, by_test, by_place, by_path, by_found, by_rename}
use Rattle.volume_model.specs.Touched.{Contents}
use Rattle.volume_steps.specs.Calls.{lose_link, write, changed, called, called_by, move_below}

abbrev is_directory_part : Part → Bool
is_directory_part (parts.Directory d) = true
is_directory_part (parts.File zones) = false

-- the first block's number is the first of the inode's nine
pub first_zone : (blocks : List (List ℕ)) (i : Inode) → slice_index i.zones 0 ≡ zone_in blocks i (block 0)
unfolding zone_at
first_zone blocks i = refl

module _ (zone : ℕ) (some : zone ≢ 0) where
  -- the root is a directory, and its first block has the zone
  pub record RootIs (nodes : List (ℕ × Placed)) : Type 0 where
    pub placed : Placed
    pub stands : at_number nodes 0 ≡ Some placed
    pub directory : is_directory_part placed.part ≡ true
    pub zone_is : slice_index placed.inode.zones 0 ≡ zone

  abbrev P : Contents → Type 0
  P c = RootIs c.nodes

  abbrev InChange : Change → Type 0
  InChange c = P c.volume.contents

  -- ---- a node is put or taken away

  put_apart : (nodes : List (ℕ × Placed)) (n : ℕ) (q : Placed) → n ≢ 0 → RootIs nodes → RootIs (put_number nodes n q)
  put_apart nodes n q apart r = record { placed = r.placed; stands = at_put_number_apart nodes n q 0 (λ e. apart (sym e)) ∙ r.stands; directory = r.directory; zone_is = r.zone_is }

  root_same : (nodes : List (ℕ × Placed)) (n : ℕ) (p : Placed) (r : RootIs nodes) → at_number nodes n ≡ Some p → n ≡ 0 → r.placed ≡ p
  root_same nodes n p r at e = same_Some r.placed p (sym r.stands ∙ (ap (at_number nodes) (sym e) ∙ at))

  -- a node of the same kind, whose first zone stays
  put_like : (nodes : List (ℕ × Placed)) (n : ℕ) (p q : Placed) → at_number nodes n ≡ Some p → is_directory_part q.part ≡ is_directory_part p.part →
      (slice_index p.inode.zones 0 ≡ zone → slice_index q.inode.zones 0 ≡ zone) → RootIs nodes → RootIs (put_number nodes n q)
  put_like nodes n p q at kind zones r = elim (cases_eq n 0) [
    | inl e ↦ (let same = root_same nodes n p r at e in record {
      placed = q;
      stands = ap (at_number (put_number nodes n q)) (sym e) ∙ at_put_number nodes n q;
      directory = kind ∙ (ap (λ (p : Placed). is_directory_part p.part) (sym same) ∙ r.directory);
      zone_is = zones (ap (λ (p : Placed). slice_index p.inode.zones 0) (sym same) ∙ r.zone_is);
    })
    | inr apart ↦ put_apart nodes n q apart r
  ]

  -- a file is not the root
  file_apart : (nodes : List (ℕ × Placed)) (n : ℕ) (p : Placed) (zones : List Mapped) → at_number nodes n ≡ Some p → p.part ≡ parts.File zones → RootIs nodes → n ≢ 0
  file_apart nodes n p zones at is r e =
      true≢false (sym r.directory ∙ (ap (λ (p : Placed). is_directory_part p.part) (root_same nodes n p r at e) ∙ ap is_directory_part is))

  found_after : (nodes : List (ℕ × Placed)) (n : ℕ) (p : Placed) → n ≢ 0 → at_number nodes 0 ≡ Some p → at_number (without_number nodes n) 0 ≡ Some p
  found_after [] n p apart e = absurd (none-some p e)
  found_after (x ∷ xs) n p apart e = elim (cases_Bool (is_eq (nat_cmp n x.0))) [
    | inl t ↦
        let other : is_eq (nat_cmp 0 x.0) ≡ false = (let same = number_same n x.0 t in grind arith) in
        rw t (rw other at e)
    | inr f ↦ elim (cases_Bool (is_eq (nat_cmp 0 x.0))) [
      | inl here ↦ rw f (rw here (rw here at e))
      | inr other ↦ rw f (rw other (found_after xs n p apart (rw other at e)))
    ]
  ]

  gone_apart : (nodes : List (ℕ × Placed)) (n : ℕ) → n ≢ 0 → RootIs nodes → RootIs (without_number nodes n)
  gone_apart nodes n apart r = record { placed = r.placed; stands = found_after nodes n r.placed apart r.stands; directory = r.directory; zone_is = r.zone_is }

  -- ---- links, sizes and names

  links_keep : (v : VolumeNow) (n : ℕ) (change : ℕ → ℕ) → RootIs v.contents.nodes → InChange (set_links v n change)
  links_keep v n change r = by_node P v n _ r (λ p at. put_like v.contents.nodes n p _ at refl (λ z. z) r)

  resize_keeps : (v : VolumeNow) (n : ℕ) (change : ℕ → ℕ) → RootIs v.contents.nodes → InChange (resize v n change)
  resize_keeps v n change r = by_node P v n _ r (λ p at. by_test P (nat_eq (change p.inode.size) p.inode.size) _ _ r (put_like v.contents.nodes n p _ at refl (λ z. z) r))

  file_made : (v : VolumeNow) (n : ℕ) → n ≢ 0 → RootIs v.contents.nodes → InChange (make_file v n)
  file_made v n apart r = put_apart v.contents.nodes n _ apart r

  directory_made : (v : VolumeNow) (n parent : ℕ) → n ≢ 0 → RootIs v.contents.nodes → InChange (make_directory v n parent)
  directory_made v n parent apart r = by_node P v parent _ r (λ p at. put_apart v.contents.nodes n _ apart r)

  slot_put_keeps : (v : VolumeNow) (n : ℕ) (name : List ℕ) (birth : ℕ) → RootIs v.contents.nodes → InChange (put_name_slot v n name birth)
  slot_put_keeps v n name birth r =
      by_directory P v n _ r (λ p d at is. by_node P v birth _ r (λ child there. put_like v.contents.nodes n p _ at (sym (ap is_directory_part is)) (λ z. z) r))

  name_taken : (v : VolumeNow) (n : ℕ) (name : List ℕ) → RootIs v.contents.nodes → InChange (take_name v n name)
  name_taken v n name r = by_directory P v n _ r (λ p d at is. by p d at is (slice_get d.slots (place_of name d.slots)))
    where
      by : (p : Placed) (d : DirectoryPart) → at_number v.contents.nodes n ≡ Some p → p.part ≡ parts.Directory d → (o : Option (Option Slot)) → InChange (elim o as (λ _. Change) [
        | None ↦ unchanged v
        | Some o ↦ elim o as (λ _. Change) [ None ↦ unchanged v | Some s ↦ taken_out v n p d (place_of name d.slots) s ]
      ])
      by p d at is None = r
      by p d at is (Some None) = r
      by p d at is (Some (Some s)) = put_like v.contents.nodes n p _ at (sym (ap is_directory_part is)) (λ z. z) r

  -- ---- blocks are mapped

  index_apart : (zones : List ℕ) (k z : ℕ) → slice_index (slice_set zones (suc k) z) 0 ≡ slice_index zones 0
  index_apart [] k z = refl
  index_apart (x ∷ xs) k z = refl

  own_first : (s : OpenInode) (x : FilePlace) → x ≡ block 0 → slice_index s.inode.zones 0 ≡ own_of s x
  own_first s x e = first_zone s.blocks s.inode ∙ ap (own_of s) (sym e)

  -- the place has a zone already, or its number stands elsewhere
  slot_keeps : (i : Inode) (x : FilePlace) (z : ℕ) → (x ≡ block 0 → ⊥) → slice_index (slot_written i (home x) z).zones 0 ≡ slice_index i.zones 0
  slot_keeps i (block zero) z apart = absurd (apart refl)
  slot_keeps i (block (suc k)) z apart = by (nat_lt (suc k) 7) (nat_lt (suc k) 519) (nat_lt (suc k) 262663)
    where
      by : (a b c : Bool) → slice_index (slot_written i (if a then slot (suc k) else (if b then entry indirect (suc k - 7) else (if c then entry (inner ((suc k - 519) / 512)) ((suc k - 519) % 512) else nowhere))) z).zones 0 ≡ slice_index i.zones 0
      by true b c = index_apart i.zones k z
      by false true c = refl
      by false false true = refl
      by false false false = refl
  slot_keeps i indirect z apart = index_apart i.zones 6 z
  slot_keeps i double z apart = index_apart i.zones 7 z
  slot_keeps i (inner k) z apart = by (nat_lt k 512)
    where
      by : (a : Bool) → slice_index (slot_written i (if a then entry double k else nowhere) z).zones 0 ≡ slice_index i.zones 0
      by true = refl
      by false = refl

  step_keeps : (g : Geometry) (t : TakenZones) (content : List ℕ) (s : OpenInode) (x : FilePlace) → slice_index s.inode.zones 0 ≡ zone → slice_index (get_step g t content s x).inode.zones 0 ≡ zone
  step_keeps g t content s x is = by (nat_eq (own_of s x) 0) refl
    where
      by : (b : Bool) → nat_eq (own_of s x) 0 ≡ b → slice_index (if b then get_zone g s x (taken_at t x) (first_body content x) else s).inode.zones 0 ≡ zone
      by true e = slot_keeps s.inode x (taken_at t x) (λ here. some (sym is ∙ own_first s x here ∙ eqb-true (own_of s x) 0 e)) ∙ is
      by false e = is

  steps_keep : (g : Geometry) (t : TakenZones) (content : List ℕ) (s : OpenInode) (xs : List FilePlace) → slice_index s.inode.zones 0 ≡ zone → slice_index (get_steps g t content s xs).inode.zones 0 ≡ zone
  steps_keep g t content s [] is = is
  steps_keep g t content s (x ∷ xs) is = steps_keep g t content (get_step g t content s x) xs (step_keeps g t content s x is)

  map_keeps : (g : Geometry) (t : TakenZones) (content : List ℕ) (s : OpenInode) (index : ℕ) → slice_index s.inode.zones 0 ≡ zone → slice_index (map_block g t content s index).inode.zones 0 ≡ zone
  unfolding map_block
  map_keeps g t content s index is = steps_keep g t content s (way index) is

  directory_mapped_keeps : (v : VolumeNow) (n : ℕ) (p : Placed) (d : DirectoryPart) (index : ℕ) → at_number v.contents.nodes n ≡ Some p → p.part ≡ parts.Directory d → RootIs v.contents.nodes → InChange (map_directory_block v n p d index)
  directory_mapped_keeps v n p d index at is r =
      let t = take_zones (own_of (opened v.contents p)) index v.zones in
      let c = written v.geometry v.contents (map (zone_bit v.geometry true) t.numbers) in
      put_like v.contents.nodes n p _ at (sym (ap is_directory_part is)) (λ z. map_keeps v.geometry t.taken (zeros 1024) (opened c p) index z) r

  room_keeps : (v : VolumeNow) (n : ℕ) → RootIs v.contents.nodes → InChange (make_room v n)
  room_keeps v n r = by_directory P v n _ r (λ p d at is. by_test P (nat_eq (room d.slots) (length d.slots) && nat_eq (length d.slots % slots_a_block v.geometry.width) 0) _ _ (directory_mapped_keeps v n p d (length d.slots / slots_a_block v.geometry.width) at is r) r)

  name_added : (v : VolumeNow) (n : ℕ) (name : List ℕ) (birth : ℕ) → RootIs v.contents.nodes → InChange (add_name v n name birth)
  name_added v n name birth r = slot_put_keeps (make_room v n).volume n name birth (room_keeps v n r)

  parent_set : (v : VolumeNow) (n parent : ℕ) → RootIs v.contents.nodes → InChange (set_parent v n parent)
  parent_set v n parent r =
      by_directory P v n _ r (λ p d at is. by_node P v parent _ r (λ above there. put_like v.contents.nodes n p _ at (sym (ap is_directory_part is)) (λ z. z) r))

  name_led : (v : VolumeNow) (n : ℕ) (name : List ℕ) (birth : ℕ) → RootIs v.contents.nodes → InChange (lead_name v n name birth)
  name_led v n name birth r =
      by_directory P v n _ r (λ p d at is. by_node P v birth _ r (λ child there. put_like v.contents.nodes n p _ at (sym (ap is_directory_part is)) (λ z. z) r))

  -- ---- nodes and blocks go

  node_gone : (v : VolumeNow) (tx n : ℕ) → n ≢ 0 → RootIs v.contents.nodes → InChange (drop_node v tx n)
  node_gone v tx n apart r = by_node P v n _ r (λ p at. gone_apart v.contents.nodes n apart r)

  link_lost : (v : VolumeNow) (tx n : ℕ) → n ≢ 0 → RootIs v.contents.nodes → InChange (lose_link v tx n)
  link_lost v tx n apart r = by_node P v n _ r (λ p at. by_test P (nat_le p.inode.links 1) _ _ (node_gone v tx n apart r) (links_keep v n (λ links. links - 1) r))

  cut_keeps : (v : VolumeNow) (tx n from : ℕ) → RootIs v.contents.nodes → InChange (cut_blocks v tx n from)
  cut_keeps v tx n from r = by_file P v n _ r (λ p zones at is.
      by_test P (list_any (λ (m : Mapped). nat_le from m.index) zones) _ _ (put_apart v.contents.nodes n _ (file_apart v.contents.nodes n p zones at is r) r) r)

  tail_keeps : (v : VolumeNow) (n size : ℕ) → RootIs v.contents.nodes → InChange (clear_tail v n size)
  tail_keeps v n size r = by_file P v n _ r (λ p zones at is. by_test P (nat_eq (size % 1024) 0 || nat_eq (zone_in v.contents.blocks p.inode (block (size / 1024))) 0) _ _ r r)

  block_keeps : (v : VolumeNow) (n off : ℕ) (bytes : List ℕ) (index : ℕ) → RootIs v.contents.nodes → InChange (write_block v n off bytes index)
  block_keeps v n off bytes index r = by_file P v n _ r (λ p zones at is.
      by_test P (nat_eq (zone_in v.contents.blocks p.inode (block index)) 0) _ _ (put_apart v.contents.nodes n _ (file_apart v.contents.nodes n p zones at is r) r) r)

  blocks_keep : (v : VolumeNow) (n off : ℕ) (bytes : List ℕ) (indices : List ℕ) → RootIs v.contents.nodes → InChange (write_blocks v n off bytes indices)
  blocks_keep v n off bytes [] r = r
  blocks_keep v n off bytes (index ∷ indices) r = blocks_keep (write_block v n off bytes index).volume n off bytes indices (block_keeps v n off bytes index r)

  below_keeps : (v : VolumeNow) (from : ℕ) (name : List ℕ) (to : ℕ) (other : List ℕ) (birth : ℕ) → RootIs v.contents.nodes → InChange (move_below v from name to other birth)
  below_keeps v from name to other birth r =
      let v1 = (take_name v from name).volume in
      let v2 = (set_links v1 from (λ links. links - 1)).volume in
      let v3 = (set_parent v2 birth to).volume in
      let v4 = (set_links v3 to (λ links. links + 1)).volume in
      name_added v4 to other birth (links_keep v3 to (λ links. links + 1) (parent_set v2 birth to (links_keep v1 from (λ links. links - 1) (name_taken v from name r))))

  -- ---- calls

  -- a path that has a parent does not lead to the root
  below_root : (tree : Tree) → IsRooted tree → (path : List ℕ) (place : Place) (found : Found) → and_then (names_in path) (parent_of replies.Invalid tree) ≡ Ok place → walk_path tree path ≡ Ok found → found.birth ≢ 0
  below_root tree rooted path place found parent led =
      let x = then_ok (names_in path) (parent_of replies.Invalid tree) place parent in
      let y = then_ok (names_in path) (walk tree) found led in
      let same = ok_ok y.0 x.0 (sym y.1 ∙ x.1) in
      let p = parent_ok replies.Invalid tree x.0 place x.2 in
      let f = walk_ok tree x.0 found (subst (λ names. walk tree names ≡ Ok found) same y.2) in
      rooted.no_root place.parent place.name found.birth (place_gives tree x.0 place found p f)

  -- what a name leads to is not the root
  met_no_root : (tree : Tree) → IsRooted tree → (path : List ℕ) (place : Place) (t : Found) → and_then (names_in path) (parent_of replies.Invalid tree) ≡ Ok place → target_at tree place ≡ Some t → t.birth ≢ 0
  met_no_root tree rooted path place t parent target =
      let x = then_ok (names_in path) (parent_of replies.Invalid tree) place parent in
      let p = parent_ok replies.Invalid tree x.0 place x.2 in
      rooted.no_root place.parent place.name t.birth (record { directory = place.directory; stands = p.stands; named = by (at_name place.directory.names place.name) target })
    where
      by_node : (birth : ℕ) (o : Option Node) → (elim o as (λ _. Option Found) [ None ↦ None | Some y ↦ Some (record { birth = birth; node = y }) ]) ≡ Some t → birth ≡ t.birth
      by_node birth None e = absurd (none-some t e)
      by_node birth (Some y) e = ap (λ (t : Found). t.birth) (same_Some (record { birth = birth; node = y }) t e)

      by : (o : Option ℕ) → (elim o as (λ _. Option Found) [ None ↦ None | Some b ↦ elim (at_number tree b) as (λ _. Option Found) [ None ↦ None | Some y ↦ Some (record { birth = b; node = y }) ] ]) ≡ Some t → o ≡ Some t.birth
      by None e = absurd (none-some t e)
      by (Some b) e = ap Some (by_node b (at_number tree b) e)

  module _ (v : VolumeNow) (rooted : IsRooted (tree_of_now v)) (n tx : ℕ) (apart : n ≢ 0) (r : RootIs v.contents.nodes) where
    written_keeps : (path : List ℕ) (off : ℕ) (bytes : List ℕ) → InChange (write v path off bytes)
    written_keeps path off bytes = by_path P v path _ r (λ found f.
        resize_keeps (write_blocks v found.birth off bytes (touched_blocks off (length bytes))).volume found.birth (λ size. max size (off + length bytes))
        (blocks_keep v found.birth off bytes (touched_blocks off (length bytes)) r))

    changed_keeps : (c : Call) → InChange (changed v n tx c)
    unfolding changed
    changed_keeps (calls.Mkdir path) = by_place P v path _ r (λ place e.
        links_keep _ place.parent (λ links. links + 1) (name_added (make_directory v n place.parent).volume place.parent place.name n (directory_made v n place.parent apart r)))
    changed_keeps (calls.Create path) = by_place P v path _ r (λ place e. name_added (make_file v n).volume place.parent place.name n (file_made v n apart r))
    changed_keeps (calls.Rmdir path) = by_place P v path _ r (λ place e. by_path P v path _ r (λ found f.
        node_gone _ tx found.birth (below_root (tree_of_now v) rooted path place found e f)
        (links_keep (take_name v place.parent place.name).volume place.parent (λ links. links - 1) (name_taken v place.parent place.name r))))
    changed_keeps (calls.Unlink path) = by_place P v path _ r (λ place e. by_path P v path _ r (λ found f.
        link_lost (take_name v place.parent place.name).volume tx found.birth (below_root (tree_of_now v) rooted path place found e f) (name_taken v place.parent place.name r)))
    changed_keeps (calls.Link path other) = by_path P v path _ r (λ found f. by_place P v other _ r (λ place e.
        name_added (set_links v found.birth (λ links. links + 1)).volume place.parent place.name found.birth (links_keep v found.birth (λ links. links + 1) r)))
    changed_keeps (calls.Rename path other) = by_found P v path _ r (λ found f. by_place P v path _ r (λ from e. by_place P v other _ r (λ to g.
        by_rename P v tx (record { moved = found; from = from; to = to; target = target_at (tree_of_now v) to }) r
        (λ t is.
        link_lost (lead_name (take_name v from.parent from.name).volume to.parent to.name found.birth).volume tx t.birth (met_no_root (tree_of_now v) rooted other to t g is)
        (name_led (take_name v from.parent from.name).volume to.parent to.name found.birth (name_taken v from.parent from.name r)))
        (below_keeps v from.parent from.name to.parent to.name found.birth r)
        (name_added (take_name v from.parent from.name).volume to.parent to.name found.birth (name_taken v from.parent from.name r)))))
    changed_keeps (calls.Write path off len value) = written_keeps path off (replicate len value)
    changed_keeps (calls.Bytes path off bytes) = written_keeps path off bytes
    changed_keeps (calls.Truncate path size) = by_path P v path _ r (λ found f.
        resize_keeps _ found.birth (λ old. size)
        (tail_keeps (cut_blocks v tx found.birth (div_ceil size 1024)).volume found.birth size (cut_keeps v tx found.birth (div_ceil size 1024) r)))
    changed_keeps other = r

    -- Whatever the call is, the root keeps the zone.
    pub called_keeps : (c : Call) → InChange (called v n tx c).change
    unfolding called
    called_keeps c = by (outcome (room_of v.geometry) (tree_of_now v) n c)
      where
        by : (x : Row) → InChange (called_by v n tx c x).change
        by (Err reply) = r
        by (Ok done) = changed_keeps c
