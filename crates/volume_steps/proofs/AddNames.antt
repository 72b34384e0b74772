-- A name comes, in a directory that has room for it or gets one block more.
use Rattle.std.specs.Prelude.{◌≡◌, ◌≢◌, ◌≤◌, ◌<◌, ◌+◌, ◌*◌, ◌/◌, ◌%◌, ◌^◌, ℕ, nat_eq, nat_lt, nat_le, ◌==◌, Bool, true, false, ◌&&◌, if◌then◌else◌, List, [], ◌∷◌, ◌++◌, length, codes, Option, Some, None, option_map, refl}
use Rattle.std.proofs.Common.{sym, ap, subst, inl, inr, ◌∙◌, arith, eq-eqb, eqb-true}
use Rattle.std.proofs.lemmas.Bool.{cases_Bool, cases_eq, cases_lt, eqb-false, lt-ltb, le-ltb, ne_eqb, true≢false}
use Rattle.blk_base.specs.Members.{In}
use Rattle.minix_layout.specs.Widths.{slot_size, slots_a_block, most_slots}
use Rattle.minix_layout.specs.laws.Places.{IsForm, narrow, wide, form_is, begins_below}
use Rattle.minix_layout.specs.declared.division.Geometry.{Geometry}
use Rattle.minix_layout.specs.declared.slot.Slot.{Slot}
use Rattle.minix_layout.specs.Slots.{IsEntry}
use Rattle.std.specs.List.{slice_get}
use Rattle.tree_model.specs.declared.node.Node.{Node}
use Rattle.tree_model.specs.declared.node.Node.TheVariants as nodes
use Rattle.tree_model.specs.Maps.{at_number, at_name, put_number, put_name}
use Rattle.tree_model.specs.laws.MapsLaws.{at_put_number, at_put_number_apart}
use Rattle.tree_model.specs.Paths.{is_dot}
use Rattle.tree_model.specs.Calls.{directory_zones, used_zones, is_full, slots_with, with_name as tree_with_name}
use Rattle.tree_model.proofs.Outcomes.{slot_needs}
use Rattle.volume_model.specs.declared.placed.Placed.{Placed}
use Rattle.volume_model.specs.declared.placed.Part.TheVariants as parts
use Rattle.volume_model.specs.declared.placed.DirectoryPart.{DirectoryPart}
use Rattle.volume_model.specs.Edits.{touched_by_all}
use Rattle.minix_tables.specs.directories.Slots.{room, with_slot}
use Rattle.minix_tables.specs.directories.laws.Slots.{room-within, room-free, room-count, full-count, length-with_slot, length-with_slot_more, with_slot-kept, with_slot-here, with_slot-other}
use Rattle.volume_model.specs.Volume.{IsPart, IsDirectoryPart, Place, block, indirect, zone_in, HasNames}
use Rattle.volume_model.specs.laws.Ways.{own_behind, home-single}
use Rattle.volume_model.specs.Moves.{IsVolume, with_name, name_added}
use Rattle.volume_model.specs.Touched.{Contents}
use Rattle.volume_model.specs.Plain.{HasDots, HasSlotZones}
use Rattle.volume_model.specs.Trees.{directory_from, tree_now, node_from}
use Rattle.volume_model.specs.laws.SlotMoves.{MayPut, may_add_name, put_stands}
use Rattle.volume_steps.specs.Now.{VolumeNow, Change, tree_of_now, with_contents, unchanged, followed_by}
use Rattle.volume_steps.specs.Zones.{TakenFor, next_zone, take_zones, lacks_outer, lacks_second, numbers_if}
use Rattle.volume_steps.specs.Steps.{at_node, tells_node, make_room, map_directory_block, put_name_slot, add_name, slot_told}
use Rattle.volume_steps.specs.Plain.{IsInUse}
use Rattle.volume_steps.proofs.Taking.{frees}
use Rattle.volume_steps.proofs.Grows.{GrowsTo, takes_none, grown_steady}
use Rattle.volume_steps.proofs.NodeSteps.{IsSettled, AreSlotted, grows_then}
use Rattle.volume_steps.proofs.NewDirectories.{takes_of_taken}
use Rattle.volume_steps.proofs.NameSteps.{slot_blocks, slot_grows, slot_maps, slot_numbers, slot_settled, slot_slotted, slot_tree}
use Rattle.volume_steps.proofs.StepsTo.{StepsTo, links_at, links_put}
use Rattle.volume_steps.proofs.QuietSteps.{at_node_is, at_directory_is}
use Rattle.volume_steps.proofs.TreeSteps.{tree_at, tree_in_order, used_put_more}
use Rattle.volume_steps.proofs.Rooms.{es, room_links, room_maps, room_numbers, with_room, with_room_placed, room_taken, room_stands, room_grows, mapped_blocks, room_settled, room_slotted, room_tree, room_new, room_kept, room_back}
use Rattle.volume_steps.proofs.Listed.{put_told, nodes_then}
use Rattle.volume_steps.proofs.Marked.{marks_same, marks_taken, numbers_both, SameNumbers}
use Rattle.volume_steps.proofs.TakeZones.{numbers_are_zones}

-- ---- where the slot is

-- the first free slot lies among the slots, or they are all in use
pub data Where (d : DirectoryPart) (name : List ℕ) : Type 0 where
  among : room d.slots < length d.slots → slots_with (directory_from d) name ≡ length d.slots → Where d name
  behind : room d.slots ≡ length d.slots → slots_with (directory_from d) name ≡ length d.slots + 1 → length d.slots < most_slots d.width → Where d name

pub where_is : (placed : List (ℕ × Placed)) (d : DirectoryPart) (name : List ℕ) → HasNames placed d → at_name d.names name ≡ None → is_full (directory_from d) ≡ false → Where d name
where_is placed d name h free_name left = elim (cases_lt (room d.slots) (length d.slots)) [
  | inl low ↦
      let used = room-count d.slots low in
      let count = h.count in
      let less : nat_lt (length d.names + 2) (length d.slots) ≡ true = lt-ltb (length d.names + 2) (length d.slots) (omega arith) in
      among low (rw free_name (rw less refl))
  | inr high ↦
      let within = room-within d.slots in
      let e : room d.slots ≡ length d.slots = omega arith in
      let used = full-count d.slots e in
      let count = h.count in
      let more : nat_lt (length d.names + 2) (length d.slots) ≡ false = le-ltb (length d.names + 2) (length d.slots) (omega arith) in
      behind e (rw free_name (rw more refl)) (few more left)
]
  where
    few : nat_lt (length d.names + 2) (length d.slots) ≡ false → is_full (directory_from d) ≡ false → length d.slots < most_slots d.width
    few more left = by (nat_le (most_slots d.width) (length d.slots)) refl (rw more at left)
      where
        by : (b : Bool) → nat_le (most_slots d.width) (length d.slots) ≡ b → b ≡ false → length d.slots < most_slots d.width
        by true q f = absurd (true≢false f)
        by false q f = grind arith

slots_long : (d : DirectoryPart) (name : List ℕ) (s : Slot) → Where d name → length (with_slot d.slots (room d.slots) s) ≡ slots_with (directory_from d) name
slots_long d name s (among low e) = length-with_slot d.slots (room d.slots) s low ∙ sym e
slots_long d name s (behind at e few) = length-with_slot_more d.slots (room d.slots) s at ∙ (ap (λ k. k + 1) at ∙ sym e)

-- the dots stay where a slot comes
dots_with : (slots : List (Option Slot)) (own parent : ℕ) (s : Slot) → HasDots slots own parent → is_dot s.name ≡ false → HasDots (with_slot slots (room slots) s) own parent
dots_with slots own parent s h no_dot = record {
  here = with_slot-kept slots (room slots) 0 s (Some dot) (λ e. taken 0 dot e h.here) h.here;
  above = with_slot-kept slots (room slots) 1 s (Some dots) (λ e. taken 1 dots e h.above) h.above;
  no_later = λ k t late found. elim (cases_eq k (room slots)) [
    | inl e ↦ ap (λ (t : Slot). is_dot t.name) (same_slot t s (sym found ∙ (ap (slice_get (with_slot slots (room slots) s)) e ∙ with_slot-here slots (room slots) s (room-within slots)))) ∙ no_dot
    | inr a ↦ h.no_later k t late (with_slot-other slots (room slots) k s (Some t) (room-within slots) a found)
  ];
}
  where
    dot : Slot
    dot = record { inode = own; name = codes "." }

    dots : Slot
    dots = record { inode = parent; name = codes ".." }

    same_slot : (a b : Slot) → ◌≡◌ {A = Option (Option Slot)} (Some (Some a)) (Some (Some b)) → a ≡ b
    same_slot a b e = cc

    taken : (k : ℕ) (t : Slot) → k ≡ room slots → slice_get slots k ≡ Some (Some t) → ⊥
    taken k t e at = room-free slots t (ap (slice_get slots) (sym e) ∙ at)

and_false : (b : Bool) → (b && false) ≡ false
and_false true = refl
and_false false = refl

append_none : (xs : List ℕ) → xs ++ [] ≡ xs
append_none [] = refl
append_none (x ∷ xs) = ap (λ ys. x ∷ ys) (append_none xs)

-- ---- counts of slots, by the slots of a block

few_blocks : (size per : ℕ) → IsForm size per → (n : ℕ) → n < 519 * per → n / per < 519
few_blocks size per narrow n few = omega arith
few_blocks size per wide n few = omega arith

whole_blocks : (size per : ℕ) → IsForm size per → (n : ℕ) → n % per ≡ 0 → per * (n / per) ≡ n
whole_blocks size per narrow n whole = omega arith
whole_blocks size per wide n whole = omega arith

seven_blocks : (size per : ℕ) → IsForm size per → (n : ℕ) → n ≡ 7 * per → n / per ≡ 7
seven_blocks size per narrow n e = omega arith
seven_blocks size per wide n e = omega arith

seven_whole : (size per : ℕ) → IsForm size per → (n : ℕ) → n ≡ 7 * per → n % per ≡ 0
seven_whole size per narrow n e = omega arith
seven_whole size per wide n e = omega arith

beyond_seven : (size per : ℕ) → IsForm size per → (n : ℕ) → 7 ≤ n / per → n ≢ 7 * per → n % per ≡ 0 → per * 7 < n
beyond_seven size per narrow n above other whole = omega arith
beyond_seven size per wide n above other whole = omega arith

within_seven : (size per : ℕ) → IsForm size per → (n index : ℕ) → n ≡ 7 * per → per * index < n → index < 7
within_seven size per narrow n index e low = omega arith
within_seven size per wide n index e low = omega arith

few_bytes : (size per : ℕ) → IsForm size per → (n : ℕ) → n ≤ 519 * per → size * (n + 1) < 2 ^ 32
few_bytes size per narrow n few = omega arith
few_bytes size per wide n few = omega arith

part_begins : (size per : ℕ) → IsForm size per → (place n : ℕ) → place ≡ n → n % per ≢ 0 → per * (place / per) < n
part_begins size per narrow place n same part = omega arith
part_begins size per wide place n same part = omega arith

one_slot_more : (size per : ℕ) → IsForm size per → (n : ℕ) → n < 519 * per → n + 1 ≤ 519 * per
one_slot_more size per narrow n few = omega arith
one_slot_more size per wide n few = omega arith

other_block : (size per : ℕ) → IsForm size per → (n i index : ℕ) → per * i < n + 1 → i ≢ index → per * index ≡ n → per * i < n
other_block size per narrow n i index low other ends = omega arith
other_block size per wide n i index low other ends = omega arith

last_begins : (size per : ℕ) → IsForm size per → (n i index : ℕ) → i ≡ index → per * index ≡ n → per * i < n + 1
last_begins size per narrow n i index e ends = omega arith
last_begins size per wide n i index e ends = omega arith

before_more : (size per : ℕ) → IsForm size per → (n index : ℕ) → n % per ≢ 0 → per * index < n + 1 → per * index < n
before_more size per narrow n index part low = omega arith
before_more size per wide n index part low = omega arith

-- ---- a name comes

module _ (tx : ℕ) (v : VolumeNow) (in_use : IsInUse v) (n : ℕ) (p : Placed) (at : at_number v.contents.nodes n ≡ Some p) (d : DirectoryPart) (is : p.part ≡ parts.Directory d)
    (name : List ℕ) (birth : ℕ) (child : Placed) (at_child : at_number v.contents.nodes birth ≡ Some child) (apart : birth ≢ n)
    (free_name : at_name d.names name ≡ None) (no_dot : is_dot name ≡ false) (entry : IsEntry v.geometry.width (record { inode = child.number; name = name }))
    (old : IsSettled v.contents) (full : AreSlotted v.geometry (λ a. ⊥) v.contents) (left : is_full (directory_from d) ≡ false)
    (enough : directory_zones d.width (slots_with (directory_from d) name) ≤ directory_zones d.width (length d.slots) + frees v.zones) where
  abbrev g : Geometry
  g = v.geometry

  abbrev s : Slot
  s = record { inode = child.number; name = name }

  abbrev next : DirectoryPart
  next = with_name d s birth

  form : IsForm (slot_size v.geometry.width) (slots_a_block v.geometry.width)
  form = form_is v.geometry.width

  of_volume : d.width ≡ v.geometry.width
  of_volume =
      let part : IsDirectoryPart v.geometry v.contents.blocks p.inode d = subst (IsPart v.geometry v.contents.blocks p.inode) is (in_use.volume.0.each n p at).part in
      part.width

  slot_of_volume : (slots : ℕ) → directory_zones d.width (slots + 1) ≡
      directory_zones d.width slots + (if slots % slots_a_block v.geometry.width == 0 then 1 else 0) + (if slots == 7 * slots_a_block v.geometry.width then 1 else 0)
  slot_of_volume slots = subst (λ width. directory_zones d.width (slots + 1) ≡ directory_zones d.width slots + (if slots % slots_a_block width == 0 then 1 else 0) + (if slots == 7 * slots_a_block width then 1 else 0)) of_volume (slot_needs d.width slots)

  place : Where d name
  place = where_is v.contents.nodes d name (in_use.volume.0.names n p d at is) free_name left

  slot_zones : HasSlotZones v.geometry v.contents.blocks p.inode (length d.slots)
  slot_zones = full n p d at is (λ z. z)

  abbrev later : List (ℕ × Node)
  later = put_number (tree_of_now v) n (nodes.Directory (tree_with_name (directory_from d) name birth))

  same_next : directory_from next ≡ tree_with_name (directory_from d) name birth
  same_next = (let long = slots_long d name s place in λ i. record { parent = d.parent; width = d.width; slots = long i; names = put_name d.names name birth })

  used_after : used_zones later + directory_zones d.width (length d.slots) ≡ used_zones (tree_of_now v) + directory_zones d.width (slots_with (directory_from d) name)
  used_after =
      used_put_more (tree_of_now v) n (nodes.Directory (directory_from d)) (nodes.Directory (tree_with_name (directory_from d) name birth))
      (tree_in_order v.contents.blocks v.contents.nodes in_use.volume.0.in_order)
      (tree_at v.contents.blocks v.contents.nodes n p at ∙ ap (λ part. Some (node_from v.contents.blocks p.inode part)) is)

  -- ---- it has room

  module _ (mapped : zone_in v.contents.blocks p.inode (block (room d.slots / slots_a_block v.geometry.width)) ≢ 0) (no_more : directory_zones d.width (slots_with (directory_from d) name) ≡ directory_zones d.width (length d.slots))
      (zones_after : HasSlotZones v.geometry v.contents.blocks p.inode (slots_with (directory_from d) name)) where
    put : MayPut g v.contents p d (room d.slots) (Some s) next
    put = may_add_name g v.contents n p d s birth in_use.volume at is mapped entry no_dot free_name (child, at_child, refl) (few_bytes (slot_size v.geometry.width) (slots_a_block v.geometry.width) form (length d.slots) slot_zones.few)

    abbrev w : Contents
    w = name_added g v.contents n p d s birth

    tree_here : tree_of_now (with_contents v w) ≡ later
    tree_here = slot_tree g in_use.sound v.contents n p in_use.volume at d is (room d.slots) (Some s) next put ∙ ap (λ directory. put_number (tree_of_now v) n (nodes.Directory directory)) same_next

    abbrev put_here : Change
    put_here = record {
      volume = with_contents v w;
      touched = record { blocks = slot_told v p (room d.slots) next; freed = []; revoked = []; pages = []; dropped = []; nodes = n ∷ [] };
    }

    named_here : StepsTo tx v put_here later (links_at v.contents.nodes)
    named_here = record {
      steady = grown_steady tx v w v.zones (slot_blocks g in_use.sound v.contents n p in_use.volume at d is (room d.slots) (Some s) next put) [] (n ∷ []) in_use
          (put_stands g in_use.sound v.contents n p in_use.volume at d is (room d.slots) (Some s) next put)
          (slot_grows g in_use.sound v.contents n p in_use.volume at d is (room d.slots) (Some s) next put) (takes_none v.zones)
          (let all = used_after in let was = in_use.counted in let same = ap used_zones tree_here in let no = no_more in omega arith)
          (put_told g v.contents w put_here.touched n _ refl (inl refl) (λ b i. elim i [ inl e ↦ sym e | inr z ↦ absurd z ]) (λ zones is. absurd (cc is)))
          (marks_same g in_use.sound v.contents w v.zones in_use.volume.0.whole in_use.volume.0.size
          (slot_maps g in_use.sound v.contents n p in_use.volume at d is (room d.slots) (Some s) next put) (slot_numbers g in_use.sound v.contents n p in_use.volume at d is (room d.slots) (Some s) next put));
      tree_is = tree_here;
      settled = (let dots = old.dots n p d at is in
          slot_settled g in_use.sound v.contents n p in_use.volume at d is (room d.slots) (Some s) next put old (dots.0, dots.1, dots_with d.slots p.number dots.0.number s dots.2 no_dot));
      slotted = slot_slotted g in_use.sound v.contents n p in_use.volume at d is (room d.slots) (Some s) next put (λ a r e found same other. full a r e found same (λ z. z))
          (subst (HasSlotZones v.geometry v.contents.blocks p.inode) (sym (slots_long d name s place)) zones_after);
      links_are = λ a. links_put v.contents.nodes n _ a (links_at v.contents.nodes) (λ e. ap (links_at v.contents.nodes) e ∙ ap (option_map (λ (p : Placed). p.inode.links)) at) (λ other. refl);
      waiting = omega arith;
    }

    slot_is : put_name_slot v n name birth ≡ put_here
    slot_is =
        at_directory_is v n p d (λ p d. at_node v birth (λ child. by p d child)) at is
        ∙ at_node_is v birth child (λ child. by p d child) at_child
      where
        by : Placed → DirectoryPart → Placed → Change
        by p d child = record {
          volume = with_contents v (name_added v.geometry v.contents n p d (record { inode = child.number; name = name }) birth);
          touched = tells_node n (slot_told v p (room d.slots) (with_name d (record { inode = child.number; name = name }) birth));
        }

    here_is : make_room v n ≡ unchanged v → add_name v n name birth ≡ put_here
    here_is e = ap (λ c. followed_by c (λ w. put_name_slot w n name birth)) e ∙ ap (λ c. followed_by (unchanged v) (λ w. c)) slot_is

    numbers_here : SameNumbers v.contents.nodes put_here.volume.contents.nodes
    numbers_here = slot_numbers g in_use.sound v.contents n p in_use.volume at d is (room d.slots) (Some s) next put

    here_all : make_room v n ≡ unchanged v → StepsTo tx v (add_name v n name birth) later (links_at v.contents.nodes)
    here_all e = subst (λ c. StepsTo tx v c later (links_at v.contents.nodes)) (sym (here_is e)) named_here

  -- ---- it gets a block

  module _ (all_used : room d.slots ≡ length d.slots) (few : length d.slots < (most_slots v.geometry.width)) (whole : length d.slots % slots_a_block v.geometry.width ≡ 0) (one_more : slots_with (directory_from d) name ≡ length d.slots + 1) where
    abbrev index : ℕ
    index = length d.slots / slots_a_block v.geometry.width

    own : Place → ℕ
    own x = zone_in v.contents.blocks p.inode x

    high : index < 262663
    high = let few = few_blocks (slot_size v.geometry.width) (slots_a_block v.geometry.width) form (length d.slots) few in omega arith

    ends : slots_a_block v.geometry.width * index ≡ length d.slots
    ends = whole_blocks (slot_size v.geometry.width) (slots_a_block v.geometry.width) form (length d.slots) whole

    pub hole : zone_in v.contents.blocks p.inode (block index) ≡ 0
    hole = elim (cases_Bool (nat_eq (zone_in v.contents.blocks p.inode (block index)) 0)) [
      | inl t ↦ eqb-true _ _ t
      | inr f ↦ (let low = slot_zones.no_more index (eqb-false _ _ f) in let e = ends in absurd (omega arith))
    ]

    -- a zone of numbers is wanted where seven blocks are full
    outer_is : lacks_outer (λ x. zone_in v.contents.blocks p.inode x) index ≡ (length d.slots == (7 * slots_a_block v.geometry.width))
    outer_is = elim (cases_lt index 7) [
      | inl low ↦ rw (lt-ltb index 7 low) (sym (ne_eqb (length d.slots) (7 * slots_a_block v.geometry.width) (λ e. (let i = seven_blocks (slot_size v.geometry.width) (slots_a_block v.geometry.width) form (length d.slots) e in omega arith))))
      | inr above ↦ elim (cases_eq (length d.slots) (7 * slots_a_block v.geometry.width)) [
        | inl e ↦ rw (le-ltb index 7 above, lt-ltb index 519 (few_blocks (slot_size v.geometry.width) (slots_a_block v.geometry.width) form (length d.slots) few)) (eq-eqb (zone_in v.contents.blocks p.inode indirect) 0 (none_yet e) ∙ sym (eq-eqb (length d.slots) (7 * slots_a_block v.geometry.width) e))
        | inr other ↦ rw (le-ltb index 7 above, lt-ltb index 519 (few_blocks (slot_size v.geometry.width) (slots_a_block v.geometry.width) form (length d.slots) few))
            (ne_eqb (zone_in v.contents.blocks p.inode indirect) 0 (λ none. slot_zones.no_hole 7 (beyond_seven (slot_size v.geometry.width) (slots_a_block v.geometry.width) form (length d.slots) above other whole)
            (own_behind v.contents.blocks p.inode in_use.volume.0.whole (block 7) indirect 0 (home-single 7 (omega arith) (omega arith)) none))
            ∙ sym (ne_eqb (length d.slots) (7 * slots_a_block v.geometry.width) other))
      ]
    ]
      where
        none_yet : length d.slots ≡ (7 * slots_a_block v.geometry.width) → zone_in v.contents.blocks p.inode indirect ≡ 0
        none_yet e = elim (cases_Bool (nat_eq (zone_in v.contents.blocks p.inode indirect) 0)) [
          | inl t ↦ eqb-true _ _ t
          | inr f ↦
              let w = in_use.volume.1 n p at indirect (eqb-false _ _ f) in
              let low = within_seven (slot_size v.geometry.width) (slots_a_block v.geometry.width) form (length d.slots) w.0 e (slot_zones.no_more w.0 w.1) in
              let on = w.2.0 in
              absurd (omega arith)
        ]

    second_is : lacks_second (λ x. zone_in v.contents.blocks p.inode x) index ≡ false
    second_is = rw (lt-ltb index 519 (few_blocks (slot_size v.geometry.width) (slots_a_block v.geometry.width) form (length d.slots) few)) refl

    numbers_long : (o t : Bool) (z x y : ℕ) → t ≡ false → length (z ∷ (numbers_if o x ++ numbers_if t y)) ≡ 1 + (if o then 1 else 0)
    numbers_long true true z x y e = absurd (true≢false e)
    numbers_long true false z x y e = refl
    numbers_long false true z x y e = absurd (true≢false e)
    numbers_long false false z x y e = refl

    taken_long : length (take_zones (λ x. zone_in v.contents.blocks p.inode x) index v.zones).numbers ≡ 1 + (if length d.slots == (7 * slots_a_block v.geometry.width) then 1 else 0)
    taken_long =
        numbers_long (lacks_outer (λ x. zone_in v.contents.blocks p.inode x) index) (lacks_second (λ x. zone_in v.contents.blocks p.inode x) index)
        (next_zone v.zones) (take_zones (λ x. zone_in v.contents.blocks p.inode x) index v.zones).taken.outer (take_zones (λ x. zone_in v.contents.blocks p.inode x) index v.zones).taken.second second_is
        ∙ ap (λ (b : Bool). 1 + (if b then 1 else 0)) outer_is

    zones_more : directory_zones d.width (slots_with (directory_from d) name) ≡ directory_zones d.width (length d.slots) + length (take_zones (λ x. zone_in v.contents.blocks p.inode x) index v.zones).numbers
    zones_more =
        ap (directory_zones d.width) one_more
        ∙ (slot_of_volume (length d.slots)
        ∙ sum_one (directory_zones d.width (length d.slots)) (if length d.slots % slots_a_block v.geometry.width == 0 then 1 else 0) (if length d.slots == (7 * slots_a_block v.geometry.width) then 1 else 0) (take_zones (λ x. zone_in v.contents.blocks p.inode x) index v.zones).numbers
        (ap (λ (b : Bool). if b then 1 else 0) (eq-eqb (length d.slots % slots_a_block v.geometry.width) 0 whole)) taken_long)
      where
        sum_one : (x a b : ℕ) (l : List ℕ) → a ≡ 1 → length l ≡ 1 + b → x + a + b ≡ x + length l
        sum_one x a b l e f = omega arith

    pub plenty : length (take_zones (λ x. zone_in v.contents.blocks p.inode x) index v.zones).numbers ≤ frees v.zones
    plenty = let more = zones_more in let all = enough in omega arith

    abbrev r : Contents
    r = with_room v in_use n p at d is index high hole plenty

    abbrev rp : Placed
    rp = with_room_placed v in_use n p at d is index high hole plenty

    r_stands : IsVolume g r
    r_stands = room_stands v in_use n p at d is index high hole plenty

    r_at : at_number r.nodes n ≡ Some rp
    r_at = at_put_number v.contents.nodes n rp

    r_child : at_number r.nodes birth ≡ Some child
    r_child = at_put_number_apart v.contents.nodes n rp birth apart ∙ at_child

    slot_place : room d.slots / slots_a_block v.geometry.width ≡ index
    slot_place = ap (λ k. k / slots_a_block v.geometry.width) all_used

    put_there : MayPut g r rp d (room d.slots) (Some s) next
    put_there = may_add_name g r n rp d s birth r_stands r_at refl
        (subst (λ i. zone_in r.blocks rp.inode (block i) ≢ 0) (sym slot_place) (room_new v in_use n p at d is index high hole plenty)) entry no_dot free_name (child, r_child, refl) (few_bytes (slot_size v.geometry.width) (slots_a_block v.geometry.width) form (length d.slots) slot_zones.few)

    abbrev rw_after : Contents
    rw_after = name_added g r n rp d s birth

    abbrev first_blocks : List ℕ
    first_blocks = touched_by_all g (es v in_use n p at d is index high hole plenty) ++ mapped_blocks v in_use n p at d is index high hole plenty

    abbrev taken_zones : TakenFor
    taken_zones = take_zones (λ x. zone_in v.contents.blocks p.inode x) index v.zones

    there_grows : GrowsTo g v.contents rw_after (first_blocks ++ slot_blocks g in_use.sound r n rp r_stands r_at d refl (room d.slots) (Some s) next put_there) taken_zones.numbers
    there_grows = subst (λ zs. GrowsTo g v.contents rw_after (first_blocks ++ slot_blocks g in_use.sound r n rp r_stands r_at d refl (room d.slots) (Some s) next put_there) zs) (append_none taken_zones.numbers)
        (grows_then g v.contents r rw_after first_blocks (slot_blocks g in_use.sound r n rp r_stands r_at d refl (room d.slots) (Some s) next put_there) taken_zones.numbers [] [] []
        (room_grows v in_use n p at d is index high hole plenty) (slot_grows g in_use.sound r n rp r_stands r_at d refl (room d.slots) (Some s) next put_there) r_stands.0
        (put_stands g in_use.sound r n rp r_stands r_at d refl (room d.slots) (Some s) next put_there).0)

    tree_there : tree_now rw_after.blocks rw_after.nodes ≡ later
    tree_there =
        slot_tree g in_use.sound r n rp r_stands r_at d refl (room d.slots) (Some s) next put_there
        ∙ (ap (λ tree. put_number tree n (nodes.Directory (directory_from next))) (room_tree v in_use n p at d is index high hole plenty)
        ∙ ap (λ directory. put_number (tree_of_now v) n (nodes.Directory directory)) same_next)

    abbrev put_behind : Change
    put_behind = record {
      volume = record { geometry = g; contents = rw_after; zones = taken_zones.zones };
      touched = record { blocks = first_blocks ++ slot_blocks g in_use.sound r n rp r_stands r_at d refl (room d.slots) (Some s) next put_there; freed = []; revoked = []; pages = []; dropped = []; nodes = n ∷ n ∷ [] };
    }

    zones_behind : HasSlotZones g r.blocks rp.inode (length next.slots)
    zones_behind = subst (HasSlotZones g r.blocks rp.inode) (sym (slots_long d name s place ∙ one_more)) (record {
      few = omega arith;
      no_hole = λ i low. elim (cases_eq i index) [
        | inl e ↦ subst (λ i. zone_in r.blocks rp.inode (block i) ≢ 0) (sym e) (room_new v in_use n p at d is index high hole plenty)
        | inr other ↦ room_kept v in_use n p at d is index high hole plenty i (slot_zones.no_hole i (other_block (slot_size v.geometry.width) (slots_a_block v.geometry.width) form (length d.slots) i index low other ends))
      ];
      no_more = λ i some. elim (cases_eq i index) [
        | inl e ↦ last_begins (slot_size v.geometry.width) (slots_a_block v.geometry.width) form (length d.slots) i index e ends
        | inr other ↦ (let low = slot_zones.no_more i (room_back v in_use n p at d is index high hole plenty i other some) in omega arith)
      ];
    })

    named_behind : StepsTo tx v put_behind later (links_at v.contents.nodes)
    named_behind = record {
      steady = grown_steady tx v rw_after taken_zones.zones (first_blocks ++ slot_blocks g in_use.sound r n rp r_stands r_at d refl (room d.slots) (Some s) next put_there) taken_zones.numbers (n ∷ n ∷ []) in_use
          (put_stands g in_use.sound r n rp r_stands r_at d refl (room d.slots) (Some s) next put_there) there_grows
          (takes_of_taken v.zones taken_zones.zones taken_zones.numbers (room_taken v in_use n p at d is index high hole plenty))
          (let all = used_after in
          let was = in_use.counted in
          let same = ap used_zones tree_there in
          let more = (room_taken v in_use n p at d is index high hole plenty).more in
          let needs = zones_more in
          omega arith)
          (nodes_then g v.contents r rw_after (tells_node n first_blocks) (tells_node n (slot_blocks g in_use.sound r n rp r_stands r_at d refl (room d.slots) (Some s) next put_there))
          (put_told g v.contents r (tells_node n first_blocks) n rp refl (inl refl) (λ b i. elim i [ inl e ↦ sym e | inr z ↦ absurd z ])
          (λ zones is. absurd (cc is)))
          (put_told g r rw_after (tells_node n (slot_blocks g in_use.sound r n rp r_stands r_at d refl (room d.slots) (Some s) next put_there)) n _ refl (inl refl) (λ b i. elim i [ inl e ↦ sym e | inr z ↦ absurd z ]) (λ zones is. absurd (cc is))))
          (marks_taken g in_use.sound v.contents rw_after v.zones taken_zones.zones taken_zones.numbers in_use.volume.0.whole in_use.volume.0.size (numbers_are_zones v in_use p.inode index plenty)
          (room_taken v in_use n p at d is index high hole plenty)
          (λ b low below. slot_maps g in_use.sound r n rp r_stands r_at d refl (room d.slots) (Some s) next put_there b low below ∙ room_maps v in_use n p at d is index high hole plenty b low below)
          (numbers_both v.contents.nodes r.nodes rw_after.nodes (room_numbers v in_use n p at d is index high hole plenty) (slot_numbers g in_use.sound r n rp r_stands r_at d refl (room d.slots) (Some s) next put_there)));
      tree_is = tree_there;
      settled =
          let later_old = room_settled v in_use n p at d is index high hole plenty old in
          let dots = later_old.dots n rp d r_at refl in
          slot_settled g in_use.sound r n rp r_stands r_at d refl (room d.slots) (Some s) next put_there later_old (dots.0, dots.1, dots_with d.slots p.number dots.0.number s dots.2 no_dot);
      slotted = slot_slotted g in_use.sound r n rp r_stands r_at d refl (room d.slots) (Some s) next put_there (room_slotted v in_use n p at d is index high hole plenty full) zones_behind;
      links_are = λ a. links_put r.nodes n _ a (links_at v.contents.nodes)
          (λ e. ap (links_at v.contents.nodes) e ∙ (ap (option_map (λ (p : Placed). p.inode.links)) at ∙ ap Some (sym (room_links v in_use n p at d is index high hole plenty))))
          (λ other. ap (option_map (λ (p : Placed). p.inode.links)) (at_put_number_apart v.contents.nodes n rp a other));
      waiting = (let same = (room_taken v in_use n p at d is index high hole plenty).same in omega arith);
    }

    block_is : make_room v n ≡ map_directory_block v n p d index
    block_is =
        at_directory_is v n p d (λ p d. if nat_eq (room d.slots) (length d.slots) && nat_eq (length d.slots % slots_a_block v.geometry.width) 0 then map_directory_block v n p d (length d.slots / slots_a_block v.geometry.width) else unchanged v) at is
        ∙ (rw (eq-eqb (room d.slots) (length d.slots) all_used, eq-eqb (length d.slots % slots_a_block v.geometry.width) 0 whole) refl)

    slot_is_behind : put_name_slot (record { geometry = g; contents = r; zones = taken_zones.zones }) n name birth ≡ record {
      volume = record { geometry = g; contents = rw_after; zones = taken_zones.zones };
      touched = tells_node n (slot_blocks g in_use.sound r n rp r_stands r_at d refl (room d.slots) (Some s) next put_there);
    }
    slot_is_behind =
        at_directory_is (record { geometry = g; contents = r; zones = taken_zones.zones }) n rp d (λ p d. at_node (record { geometry = g; contents = r; zones = taken_zones.zones }) birth (λ child. by p d child)) r_at refl
        ∙ at_node_is (record { geometry = g; contents = r; zones = taken_zones.zones }) birth child (λ child. by rp d child) r_child
      where
        by : Placed → DirectoryPart → Placed → Change
        by p d child = record {
          volume = record { geometry = g; contents = name_added g r n p d (record { inode = child.number; name = name }) birth; zones = taken_zones.zones };
          touched = tells_node n (slot_told (record { geometry = g; contents = r; zones = taken_zones.zones }) p (room d.slots) (with_name d (record { inode = child.number; name = name }) birth));
        }

    there_is : add_name v n name birth ≡ put_behind
    there_is = ap (λ c. followed_by c (λ w. put_name_slot w n name birth)) block_is
        ∙ ap (λ c. followed_by (map_directory_block v n p d index) (λ w. c)) slot_is_behind

    numbers_there : SameNumbers v.contents.nodes put_behind.volume.contents.nodes
    numbers_there = numbers_both v.contents.nodes r.nodes rw_after.nodes (room_numbers v in_use n p at d is index high hole plenty) (slot_numbers g in_use.sound r n rp r_stands r_at d refl (room d.slots) (Some s) next put_there)

    there_all : StepsTo tx v (add_name v n name birth) later (links_at v.contents.nodes)
    there_all = subst (λ c. StepsTo tx v c later (links_at v.contents.nodes)) (sym there_is) named_behind

  -- ---- both

  no_room : (nat_eq (room d.slots) (length d.slots) && nat_eq (length d.slots % slots_a_block v.geometry.width) 0) ≡ false → make_room v n ≡ unchanged v
  no_room f =
      at_directory_is v n p d (λ p d. if nat_eq (room d.slots) (length d.slots) && nat_eq (length d.slots % slots_a_block v.geometry.width) 0 then map_directory_block v n p d (length d.slots / slots_a_block v.geometry.width) else unchanged v) at is
      ∙ ap (λ (b : Bool). if b then map_directory_block v n p d (length d.slots / slots_a_block v.geometry.width) else unchanged v) f

  -- what comes, and that no zone is freed for it
  record Comes : Type 0 where
    step : StepsTo tx v (add_name v n name birth) later (links_at v.contents.nodes)
    frees_none : (zone : ℕ) → In zone (add_name v n name birth).touched.freed → ⊥
    numbers : SameNumbers v.contents.nodes (add_name v n name birth).volume.contents.nodes

  all_comes : Comes
  all_comes = by place
    where
      few_of : length d.slots < most_slots d.width → length d.slots < most_slots v.geometry.width
      few_of few = subst (λ width. length d.slots < most_slots width) of_volume few

      sum_none : (x a b : ℕ) → a ≡ 0 → b ≡ 0 → x + a + b ≡ x
      sum_none x a b e f = omega arith

      here : (mapped : zone_in v.contents.blocks p.inode (block (room d.slots / slots_a_block v.geometry.width)) ≢ 0) (no_more : directory_zones d.width (slots_with (directory_from d) name) ≡ directory_zones d.width (length d.slots))
          (zones_after : HasSlotZones v.geometry v.contents.blocks p.inode (slots_with (directory_from d) name)) → make_room v n ≡ unchanged v → Comes
      here mapped no_more zones_after e = record {
        step = here_all mapped no_more zones_after e;
        frees_none = λ zone i. subst (λ c. In zone c.touched.freed → ⊥) (sym (here_is mapped no_more zones_after e)) (λ j. j) i;
        numbers = subst (λ c. SameNumbers v.contents.nodes c.volume.contents.nodes) (sym (here_is mapped no_more zones_after e)) (numbers_here mapped no_more zones_after);
      }

      by : Where d name → Comes
      by (among low e) = here (slot_zones.no_hole (room d.slots / slots_a_block v.geometry.width) (begins_below (slot_size v.geometry.width) (slots_a_block v.geometry.width) form (room d.slots) (length d.slots) low)) (ap (directory_zones d.width) e) (subst (HasSlotZones v.geometry v.contents.blocks p.inode) (sym e) slot_zones)
          (no_room (rw (ne_eqb (room d.slots) (length d.slots) (λ same. (omega arith))) refl))
      by (behind all e few) = elim (cases_eq (length d.slots % slots_a_block v.geometry.width) 0) [
        | inl whole ↦ record { step = there_all all (few_of few) whole e; frees_none = λ zone i. subst (λ c. In zone c.touched.freed → ⊥) (sym (there_is all (few_of few) whole e)) (λ j. j) i; numbers = subst (λ c. SameNumbers v.contents.nodes c.volume.contents.nodes) (sym (there_is all (few_of few) whole e)) (numbers_there all (few_of few) whole e) }
        | inr part ↦ here (slot_zones.no_hole (room d.slots / slots_a_block v.geometry.width) (part_begins (slot_size v.geometry.width) (slots_a_block v.geometry.width) form (room d.slots) (length d.slots) all part))
            (ap (directory_zones d.width) e
            ∙ (slot_of_volume (length d.slots)
            ∙ sum_none (directory_zones d.width (length d.slots)) (if length d.slots % slots_a_block v.geometry.width == 0 then 1 else 0) (if length d.slots == (7 * slots_a_block v.geometry.width) then 1 else 0)
            (ap (λ (b : Bool). if b then 1 else 0) (ne_eqb (length d.slots % slots_a_block v.geometry.width) 0 part))
            (ap (λ (b : Bool). if b then 1 else 0) (ne_eqb (length d.slots) (7 * slots_a_block v.geometry.width) (λ e. part (seven_whole (slot_size v.geometry.width) (slots_a_block v.geometry.width) form (length d.slots) e))))))
            (subst (HasSlotZones v.geometry v.contents.blocks p.inode) (sym e) (record {
              few = one_slot_more (slot_size v.geometry.width) (slots_a_block v.geometry.width) form (length d.slots) (few_of few);
              no_hole = λ i low. slot_zones.no_hole i (before_more (slot_size v.geometry.width) (slots_a_block v.geometry.width) form (length d.slots) i part low);
              no_more = λ i some. (let low = slot_zones.no_more i some in omega arith);
            }))
            (no_room (rw (ne_eqb (length d.slots % slots_a_block v.geometry.width) 0 part) (and_false (nat_eq (room d.slots) (length d.slots)))))
      ]

  -- The name is there, and its slot.
  pub name_comes : StepsTo tx v (add_name v n name birth) later (links_at v.contents.nodes)
  name_comes = all_comes.step

  pub name_numbers : SameNumbers v.contents.nodes (add_name v n name birth).volume.contents.nodes
  name_numbers = all_comes.numbers

  pub name_frees : (zone : ℕ) → In zone (add_name v n name birth).touched.freed → ⊥
  name_frees = all_comes.frees_none
