-- The blocks of a directory that gets a name.
use Rattle.std.specs.Prelude.{◌≡◌, ◌≢◌, ◌⊎◌, ◌+◌, ◌*◌, ◌/◌, ◌%◌, ◌^◌, ◌<◌, ◌≤◌, ◌&&◌, nat_eq, ℕ, Bool, true, false, if◌then◌else◌, List, length, Option, Some, None, option_map, refl}
use Rattle.std.proofs.Common.{sym, ap, subst, ◌∙◌, inl, inr, arith, eq-eqb}
use Rattle.std.proofs.lemmas.Bool.{cases_eq, ne_eqb}
use Rattle.std.proofs.lemmas.Option.{same_Some}
use Rattle.minix_tables.specs.directories.Slots.{room}
use Rattle.minix_tables.specs.directories.laws.Slots.{with_slot-here, room-within}
use Rattle.minix_layout.specs.declared.slot.Slot.{Slot}
use Rattle.minix_layout.specs.Slots.{IsEntry}
use Rattle.minix_layout.specs.Widths.{slot_size, slots_a_block, most_slots}
use Rattle.minix_layout.specs.laws.Places.{IsForm, narrow, wide, form_is, begins_below}
use Rattle.tree_model.specs.Calls.{directory_zones, is_full, slots_with}
use Rattle.tree_model.specs.Maps.{at_number, at_name}
use Rattle.tree_model.specs.Paths.{is_dot}
use Rattle.volume_ops.specs.Places.{table_block}
use Rattle.volume_ops.specs.Volume.{disk_of}
use Rattle.volume_model.specs.declared.placed.DirectoryPart.{DirectoryPart}
use Rattle.volume_model.specs.declared.placed.Part.TheVariants as parts
use Rattle.volume_model.specs.declared.placed.Placed.{Placed}
use Rattle.volume_model.specs.Moves.{IsVolume, with_name, name_added as slot_added}
use Rattle.volume_model.specs.Plain.{HasSlotZones}
use Rattle.volume_model.specs.Touched.{IsMeta}
use Rattle.volume_model.specs.Trees.{directory_from}
use Rattle.volume_model.specs.Volume.{IsPart, IsDirectoryPart, block, zone_in}
use Rattle.volume_model.specs.laws.SlotMoves.{MayPut, may_add_name}
use Rattle.volume_steps.specs.Now.{VolumeNow, Change, with_contents, unchanged, followed_by}
use Rattle.volume_steps.specs.Plain.{IsInUse}
use Rattle.volume_steps.specs.Steps.{at_node, tells_node, make_room, map_directory_block, put_name_slot, add_name, slot_told}
use Rattle.volume_steps.specs.Zones.{take_zones}
use Rattle.volume_steps.proofs.AddNames.{Where, where_is, hole, plenty, name_comes}
use Rattle.volume_steps.proofs.AddNames.Where.{among, behind}
use Rattle.volume_steps.proofs.NodeSteps.{IsSettled, AreSlotted}
use Rattle.volume_steps.proofs.QuietSteps.{at_node_is, at_directory_is}
use Rattle.volume_steps.proofs.Rooms.{with_room, with_room_placed, room_stands, room_new}
use Rattle.volume_steps.proofs.Taking.{frees}
use Rattle.tree_model.specs.laws.MapsLaws.{at_put_number, at_put_number_apart}
use Rattle.vol_check.specs.kept_clean.changed.Tidy.{IsTidy}
use Rattle.vol_check.proofs.KeptCleanLemmas.ChangedLemmas.Ends.{Ends, node_differs}
use Rattle.vol_check.proofs.KeptCleanLemmas.ChangedLemmas.Rising.{own, Rises, Told, told_changes}
use Rattle.vol_check.proofs.KeptCleanLemmas.ChangedLemmas.RoomBlocks.{room_raised, room_others, room_theirs}
use Rattle.vol_check.proofs.KeptCleanLemmas.ChangedLemmas.SlotBlocks.{IsNamed, put_named, named_later, room_was_free, slot_differs}
use Rattle.vol_check.proofs.KeptCleanLemmas.ChangedLemmas.BareFrames.{IsBareNow}
use Rattle.vol_check.proofs.KeptCleanLemmas.ChangedLemmas.BareSteps.{name_bare}
use Rattle.vol_check.proofs.KeptCleanLemmas.ChangedLemmas.BareZones.{room_bare}

-- ---- counts of slots, by the slots of a block

few_blocks : (size per : ℕ) → IsForm size per → (n : ℕ) → n < 519 * per → n / per < 262663
few_blocks size per narrow n few = omega arith
few_blocks size per wide n few = omega arith

few_bytes : (size per : ℕ) → IsForm size per → (n : ℕ) → n ≤ 519 * per → size * (n + 1) < 2 ^ 32
few_bytes size per narrow n few = omega arith
few_bytes size per wide n few = omega arith

part_begins : (size per : ℕ) → IsForm size per → (place n : ℕ) → place ≡ n → n % per ≢ 0 → per * (place / per) < n
part_begins size per narrow place n same part = omega arith
part_begins size per wide place n same part = omega arith

and_false : (b : Bool) → (b && false) ≡ false
and_false true = refl
and_false false = refl

-- ---- a name comes

-- It has come, the volume is in use, and the directory has as many links as before.
pub record IsAdded (v : VolumeNow) (n : ℕ) (p : Placed) (d : DirectoryPart) (s : Slot) (birth : ℕ) (c : Change) : Type 0 where
  pub named : IsNamed v n p d s birth c
  pub in_use : IsInUse c.volume
  pub links : named.placed.inode.links ≡ p.inode.links
  pub bare : IsBareNow v → IsBareNow c.volume

module _ (tx : ℕ) (v : VolumeNow) (in_use : IsInUse v) (n : ℕ) (p : Placed) (at : at_number v.contents.nodes n ≡ Some p) (d : DirectoryPart) (is : p.part ≡ parts.Directory d)
    (name : List ℕ) (birth : ℕ) (child : Placed) (at_child : at_number v.contents.nodes birth ≡ Some child) (apart : birth ≢ n)
    (free_name : at_name d.names name ≡ None) (no_dot : is_dot name ≡ false) (entry : IsEntry v.geometry.width (record { inode = child.number; name = name }))
    (old : IsSettled v.contents) (full : AreSlotted v.geometry (λ a. ⊥) v.contents) (left : is_full (directory_from d) ≡ false)
    (enough : directory_zones d.width (slots_with (directory_from d) name) ≤ directory_zones d.width (length d.slots) + frees v.zones) where
  abbrev s : Slot
  s = record { inode = child.number; name = name }

  form : IsForm (slot_size v.geometry.width) (slots_a_block v.geometry.width)
  form = form_is v.geometry.width

  of_volume : d.width ≡ v.geometry.width
  of_volume =
      let part : IsDirectoryPart v.geometry v.contents.blocks p.inode d = subst (IsPart v.geometry v.contents.blocks p.inode) is (in_use.volume.0.each n p at).part in
      part.width

  slot_zones : HasSlotZones v.geometry v.contents.blocks p.inode (length d.slots)
  slot_zones = full n p d at is (λ z. z)

  -- what puts the slot
  abbrev puts : VolumeNow → Placed → DirectoryPart → Placed → Change
  puts u p d child = record {
    volume = with_contents u (slot_added u.geometry u.contents n p d (record { inode = child.number; name = name }) birth);
    touched = tells_node n (slot_told u p (room d.slots) (with_name d (record { inode = child.number; name = name }) birth));
  }

  slot_is : (u : VolumeNow) (q : Placed) → at_number u.contents.nodes n ≡ Some q → q.part ≡ parts.Directory d → at_number u.contents.nodes birth ≡ Some child → put_name_slot u n name birth ≡ puts u q d child
  slot_is u q here part there =
      at_directory_is u n q d (λ p d. at_node u birth (λ child. puts u p d child)) here part
      ∙ at_node_is u birth child (λ child. puts u q d child) there

  -- ---- it has room

  here_named : zone_in v.contents.blocks p.inode (block (room d.slots / slots_a_block v.geometry.width)) ≢ 0 → make_room v n ≡ unchanged v → IsNamed v n p d s birth (add_name v n name birth)
  here_named mapped e = subst (IsNamed v n p d s birth) (sym add_is) (put_named v in_use.sound in_use.volume n p at d is s birth put)
    where
      put : MayPut v.geometry v.contents p d (room d.slots) (Some s) (with_name d s birth)
      put = may_add_name v.geometry v.contents n p d s birth in_use.volume at is mapped entry no_dot free_name (child, at_child, refl) (few_bytes (slot_size v.geometry.width) (slots_a_block v.geometry.width) form (length d.slots) slot_zones.few)

      add_is : add_name v n name birth ≡ puts v p d child
      add_is = ap (λ c. followed_by c (λ w. put_name_slot w n name birth)) e ∙ ap (λ c. followed_by (unchanged v) (λ w. c)) (slot_is v p at is at_child)

  here_bare : zone_in v.contents.blocks p.inode (block (room d.slots / slots_a_block v.geometry.width)) ≢ 0 → make_room v n ≡ unchanged v → IsBareNow v → IsBareNow (add_name v n name birth).volume
  here_bare mapped e bare = subst (λ (c : Change). IsBareNow c.volume)
      (sym (ap (λ c. followed_by c (λ w. put_name_slot w n name birth)) e ∙ ap (λ c. followed_by (unchanged v) (λ w. c)) (slot_is v p at is at_child)))
      (name_bare v.geometry in_use.sound v.contents in_use.volume n p at d is s birth mapped entry (few_bytes (slot_size v.geometry.width) (slots_a_block v.geometry.width) form (length d.slots) slot_zones.few) bare)

  -- ---- it gets a block

  module _ (all_used : room d.slots ≡ length d.slots) (few : length d.slots < most_slots v.geometry.width) (whole : length d.slots % slots_a_block v.geometry.width ≡ 0) (one_more : slots_with (directory_from d) name ≡ length d.slots + 1) where
    abbrev index : ℕ
    index = length d.slots / slots_a_block v.geometry.width

    high : index < 262663
    high = few_blocks (slot_size v.geometry.width) (slots_a_block v.geometry.width) form (length d.slots) few

    gap : zone_in v.contents.blocks p.inode (block index) ≡ 0
    gap = hole tx v in_use n p at d is name birth child at_child apart free_name no_dot entry old full left enough all_used few whole one_more

    taken : length (take_zones (λ x. zone_in v.contents.blocks p.inode x) index v.zones).numbers ≤ frees v.zones
    taken = plenty tx v in_use n p at d is name birth child at_child apart free_name no_dot entry old full left enough all_used few whole one_more

    abbrev r : VolumeNow
    r = record { geometry = v.geometry; contents = with_room v in_use n p at d is index high gap taken; zones = (take_zones (λ x. zone_in v.contents.blocks p.inode x) index v.zones).zones }

    abbrev rp : Placed
    rp = with_room_placed v in_use n p at d is index high gap taken

    r_stands : IsVolume r.geometry r.contents
    r_stands = room_stands v in_use n p at d is index high gap taken

    r_at : at_number r.contents.nodes n ≡ Some rp
    r_at = at_put_number v.contents.nodes n rp

    r_child : at_number r.contents.nodes birth ≡ Some child
    r_child = at_put_number_apart v.contents.nodes n rp birth apart ∙ at_child

    put : MayPut r.geometry r.contents rp d (room d.slots) (Some s) (with_name d s birth)
    put = may_add_name r.geometry r.contents n rp d s birth r_stands r_at refl
        (subst (λ i. zone_in r.contents.blocks rp.inode (block i) ≢ 0) (sym (ap (λ k. k / slots_a_block v.geometry.width) all_used)) (room_new v in_use n p at d is index high gap taken)) entry no_dot free_name (child, r_child, refl)
        (few_bytes (slot_size v.geometry.width) (slots_a_block v.geometry.width) form (length d.slots) slot_zones.few)

    block_is : make_room v n ≡ map_directory_block v n p d index
    block_is =
        at_directory_is v n p d (λ p d. if nat_eq (room d.slots) (length d.slots) && nat_eq (length d.slots % slots_a_block v.geometry.width) 0 then map_directory_block v n p d (length d.slots / slots_a_block v.geometry.width) else unchanged v) at is
        ∙ (rw (eq-eqb (room d.slots) (length d.slots) all_used, eq-eqb (length d.slots % slots_a_block v.geometry.width) 0 whole) refl)

    there_is : add_name v n name birth ≡ followed_by (map_directory_block v n p d index) (λ w. puts w rp d child)
    there_is = ap (λ c. followed_by c (λ w. put_name_slot w n name birth)) block_is
        ∙ ap (λ c. followed_by (map_directory_block v n p d index) (λ w. c)) (slot_is r rp r_at refl r_child)

    there_named : IsNamed v n p d s birth (add_name v n name birth)
    there_named =
        let raised = room_raised v in_use n p d at is index high gap taken in
        let same : rp ≡ raised.placed = same_Some rp raised.placed (sym r_at ∙ raised.stands) in
        subst (IsNamed v n p d s birth) (sym there_is)
        (named_later v n p d s birth (map_directory_block v n p d index) (λ w. puts w rp d child) raised (room_others v in_use n p d at is index high gap taken) (room_theirs v in_use n p d at is index high gap taken)
        (subst (λ q. IsNamed r n q d s birth (puts r rp d child)) same (put_named r in_use.sound r_stands n rp r_at d refl s birth put)))

    there_bare : IsBareNow v → IsBareNow (add_name v n name birth).volume
    there_bare bare = subst (λ (c : Change). IsBareNow c.volume) (sym there_is)
        (name_bare r.geometry in_use.sound r.contents r_stands n rp r_at d refl s birth
        (subst (λ i. zone_in r.contents.blocks rp.inode (block i) ≢ 0) (sym (ap (λ k. k / slots_a_block v.geometry.width) all_used)) (room_new v in_use n p at d is index high gap taken)) entry
        (few_bytes (slot_size v.geometry.width) (slots_a_block v.geometry.width) form (length d.slots) slot_zones.few) (room_bare v in_use n p d at is index high gap taken bare))

  -- ---- both

  no_room : (nat_eq (room d.slots) (length d.slots) && nat_eq (length d.slots % slots_a_block v.geometry.width) 0) ≡ false → make_room v n ≡ unchanged v
  no_room f =
      at_directory_is v n p d (λ p d. if nat_eq (room d.slots) (length d.slots) && nat_eq (length d.slots % slots_a_block v.geometry.width) 0 then map_directory_block v n p d (length d.slots / slots_a_block v.geometry.width) else unchanged v) at is
      ∙ ap (λ (b : Bool). if b then map_directory_block v n p d (length d.slots / slots_a_block v.geometry.width) else unchanged v) f

  -- The name is there, and why each block is told.
  name_named : IsNamed v n p d s birth (add_name v n name birth)
  name_named = by (where_is v.contents.nodes d name (in_use.volume.0.names n p d at is) free_name left)
    where
      by : Where d name → IsNamed v n p d s birth (add_name v n name birth)
      by (among low e) = here_named (slot_zones.no_hole (room d.slots / slots_a_block v.geometry.width) (begins_below (slot_size v.geometry.width) (slots_a_block v.geometry.width) form (room d.slots) (length d.slots) low))
          (no_room (rw (ne_eqb (room d.slots) (length d.slots) (λ same. (omega arith))) refl))
      by (behind all e few) = elim (cases_eq (length d.slots % slots_a_block v.geometry.width) 0) [
        | inl whole ↦ there_named all (subst (λ width. length d.slots < most_slots width) of_volume few) whole e
        | inr part ↦ here_named (slot_zones.no_hole (room d.slots / slots_a_block v.geometry.width) (part_begins (slot_size v.geometry.width) (slots_a_block v.geometry.width) form (room d.slots) (length d.slots) all part))
            (no_room (rw (ne_eqb (length d.slots % slots_a_block v.geometry.width) 0 part) (and_false (nat_eq (room d.slots) (length d.slots)))))
      ]

  -- The volume stays bare.
  stays_bare : IsBareNow v → IsBareNow (add_name v n name birth).volume
  stays_bare = by (where_is v.contents.nodes d name (in_use.volume.0.names n p d at is) free_name left)
    where
      by : Where d name → IsBareNow v → IsBareNow (add_name v n name birth).volume
      by (among low e) = here_bare (slot_zones.no_hole (room d.slots / slots_a_block v.geometry.width) (begins_below (slot_size v.geometry.width) (slots_a_block v.geometry.width) form (room d.slots) (length d.slots) low))
          (no_room (rw (ne_eqb (room d.slots) (length d.slots) (λ same. (omega arith))) refl))
      by (behind all e few) = elim (cases_eq (length d.slots % slots_a_block v.geometry.width) 0) [
        | inl whole ↦ there_bare all (subst (λ width. length d.slots < most_slots width) of_volume few) whole e
        | inr part ↦ here_bare (slot_zones.no_hole (room d.slots / slots_a_block v.geometry.width) (part_begins (slot_size v.geometry.width) (slots_a_block v.geometry.width) form (room d.slots) (length d.slots) all part))
            (no_room (rw (ne_eqb (length d.slots % slots_a_block v.geometry.width) 0 part) (and_false (nat_eq (room d.slots) (length d.slots)))))
      ]

  pub name_added : IsAdded v n p d s birth (add_name v n name birth)
  name_added =
      let named = name_named in
      let step = name_comes tx v in_use n p at d is name birth child at_child apart free_name no_dot entry old full left enough in
      record {
        named = named;
        in_use = step.steady.in_use;
        links = same_Some named.placed.inode.links p.inode.links
            (sym (ap (option_map (λ (p : Placed). p.inode.links)) named.stands) ∙ (step.links_are n ∙ ap (option_map (λ (p : Placed). p.inode.links)) at));
        bare = stays_bare;
      }

-- ---- both ends of a call

module _ (tx : ℕ) (v : VolumeNow) (c : Change) (e : Ends tx v c) (tidy : IsTidy v.geometry v.contents v.zones) (n : ℕ) (p q : Placed) (at : at_number v.contents.nodes n ≡ Some p) (d : DirectoryPart) (is : p.part ≡ parts.Directory d)
    (at_now : at_number c.volume.contents.nodes n ≡ Some q) (rises : Rises v c.volume p q) (s : Slot) (birth : ℕ) (part : q.part ≡ parts.Directory (with_name d s birth)) where
  slot_other : ◌≡◌ {A = Option Slot} None (Some s) → ⊥
  slot_other same = cc

  -- the block of its slot
  pub slot_changes : (b : ℕ) → own c.volume q (block (room d.slots / slots_a_block v.geometry.width)) ≡ b → IsMeta v.geometry v.contents b → disk_of c.volume.contents.blocks b ≢ disk_of v.contents.blocks b
  slot_changes b same =
      subst (λ b. IsMeta v.geometry v.contents b → disk_of c.volume.contents.blocks b ≢ disk_of v.contents.blocks b) same
      (slot_differs tx v c e n p q at at_now rises (with_name d s birth) part (room d.slots) None (Some s) (with_slot-here d.slots (room d.slots) s (room-within d.slots)) slot_other
      (room_was_free v e.before.in_use tidy n p d at is))

  -- what is told where a name comes
  pub named_changes : (b : ℕ) → Told v c.volume p q b ⊎ ((own c.volume q (block (room d.slots / slots_a_block v.geometry.width)) ≡ b) ⊎ ((table_block v.geometry p.number ≡ b) × (q.inode ≢ p.inode))) →
      IsMeta v.geometry v.contents b → disk_of c.volume.contents.blocks b ≢ disk_of v.contents.blocks b
  named_changes b (inl t) meta = told_changes tx v c e n p q at at_now rises b t meta
  named_changes b (inr (inl same)) meta = slot_changes b same meta
  named_changes b (inr (inr t)) meta =
      subst (λ b. disk_of c.volume.contents.blocks b ≢ disk_of v.contents.blocks b) t.0 (node_differs tx v c e n p q at at_now rises.number t.1)
