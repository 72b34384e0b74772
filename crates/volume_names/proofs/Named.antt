-- What the code writes for a name is what a name's coming is.
use Rattle.std.specs.Prelude.{◌≡◌, ◌≢◌, ◌*◌, ◌/◌, ◌%◌, ◌&&◌, ℕ, nat_eq, true, false, Bool, if◌then◌else◌, List, map, length, Some, refl}
use Rattle.std.proofs.Common.{sym, ap, ◌∙◌, inl, inr, eqb-true}
use Rattle.std.proofs.lemmas.Bool.{cases_Bool}
use Rattle.byte_fields.specs.Fields.{zeros}
use Rattle.minix_layout.specs.Widths.{slot_size, slots_a_block}
use Rattle.minix_layout.specs.declared.slot.Slot.{Slot}
use Rattle.tree_model.specs.Maps.{at_number, put_number}
use Rattle.tree_model.specs.laws.MapsLaws.{at_put_number, at_put_number_apart}
use Rattle.tree_model.specs.laws.MapOrder.{InOrder, in_order_put}
use Rattle.minix_tables.specs.directories.Slots.{room}
use Rattle.volume_model.specs.declared.placed.Placed.{Placed}
use Rattle.volume_model.specs.declared.placed.Part.TheVariants as parts
use Rattle.volume_model.specs.declared.placed.DirectoryPart.{DirectoryPart}
use Rattle.volume_model.specs.declared.placed.Part.{Part}
use Rattle.volume_model.specs.Edits.{put_slot, edited}
use Rattle.volume_model.specs.Volume.{block, zone_in}
use Rattle.volume_model.specs.Touched.{Contents, Touched, and_then}
use Rattle.volume_model.specs.Moves.{opened, with_name, with_size, name_added, inode_back}
use Rattle.volume_model.specs.MapBlock.{OpenInode, own_of, map_block}
use Rattle.volume_steps.specs.Now.{VolumeNow, Change, with_contents, written, unchanged, followed_by}
use Rattle.volume_steps.specs.Zones.{TakenFor, zone_bit, take_zones}
use Rattle.volume_steps.specs.Steps.{at_node, tells_node, make_room, map_directory_block, put_name_slot, add_name, slot_told}
use Rattle.volume_steps.proofs.Files.{put_twice}
use Rattle.volume_steps.proofs.QuietSteps.{at_node_is, at_directory_is}
use Rattle.volume_names.proofs.Changed.{volume_of}
use Rattle.volume_names.proofs.NameRooms.{and_first}
use Rattle.volume_names.specs.code.NewSlot.{new_slot}
use Rattle.volume_names.specs.code.Steps.{entered_in, slot_step, slot_written, block_step, block_added, name_written}

module _ (v : VolumeNow) (n : ℕ) (p : Placed) (d : DirectoryPart) (name : List ℕ) (birth : ℕ) (child : Placed) (order : InOrder v.contents.nodes)
    (at : at_number v.contents.nodes n ≡ Some p) (is : p.part ≡ parts.Directory d) (at_child : at_number v.contents.nodes birth ≡ Some child) (apart : birth ≢ n) (wide : d.width ≡ v.geometry.width) where
  abbrev s : Slot
  s = record { inode = child.number; name = name }

  abbrev next : DirectoryPart
  next = with_name d s birth

  abbrev k : ℕ
  k = room d.slots

  abbrev slots : ℕ
  slots = length next.slots

  abbrev begins : Bool
  begins = nat_eq (room d.slots) (length d.slots) && nat_eq (length d.slots % slots_a_block d.width) 0

  abbrev e : VolumeNow
  e = entered_in v n p d s birth

  abbrev now : Placed
  now = record { number = p.number; inode = p.inode; part = parts.Directory next }

  there : at_number e.contents.nodes n ≡ Some now
  there = at_put_number v.contents.nodes n now

  -- the name's slot, where it stands in a volume
  named_slot : (u : VolumeNow) (q : Placed) → at_number u.contents.nodes n ≡ Some q → q.part ≡ parts.Directory d → at_number u.contents.nodes birth ≡ Some child →
      put_name_slot u n name birth ≡ record {
        volume = with_contents u (name_added u.geometry u.contents n q d s birth);
        touched = tells_node n (slot_told u q k next);
      }
  named_slot u q stands kind has =
      at_directory_is u n q d (λ p d. at_node u birth (λ child. by p d child)) stands kind
      ∙ at_node_is u birth child (λ child. by q d child) has
    where
      by : Placed → DirectoryPart → Placed → Change
      by p d child = record {
        volume = with_contents u (name_added u.geometry u.contents n p d (record { inode = child.number; name = name }) birth);
        touched = tells_node n (slot_told u p (room d.slots) (with_name d (record { inode = child.number; name = name }) birth));
      }

  room_is : make_room v n ≡ (if begins then map_directory_block v n p d (length d.slots / slots_a_block v.geometry.width) else unchanged v)
  room_is =
      at_directory_is v n p d
      (λ p d. if nat_eq (room d.slots) (length d.slots) && nat_eq (length d.slots % slots_a_block v.geometry.width) 0 then map_directory_block v n p d (length d.slots / slots_a_block v.geometry.width) else unchanged v) at is
      ∙ sym (ap (λ width. if nat_eq (room d.slots) (length d.slots) && nat_eq (length d.slots % slots_a_block width) 0 then map_directory_block v n p d (length d.slots / slots_a_block v.geometry.width) else unchanged v) wide)

  abbrev last : VolumeNow → Placed → Placed
  last u q = record { number = q.number; inode = with_size q.inode (slot_size u.geometry.width * slots); part = parts.Directory next }

  -- a volume once the slot is written for this node
  abbrev ended : VolumeNow → Placed → List (ℕ × Placed) → Change
  ended u q nodes = record {
    volume = volume_of u.geometry
        (inode_back u.geometry (edited u.geometry u.contents.blocks (put_slot (zone_in u.contents.blocks q.inode (block (k / slots_a_block u.geometry.width))) (k % slots_a_block u.geometry.width) (Some s))) q (with_size q.inode (slot_size u.geometry.width * slots)))
        nodes u.zones;
    touched = tells_node n (slot_told u q k next);
  }

  slot_is : (u : VolumeNow) (q : Placed) → at_number u.contents.nodes n ≡ Some q → q.part ≡ parts.Directory next → slot_written u n k (Some s) slots ≡ ended u q (put_number u.contents.nodes n (last u q))
  slot_is u q stands kind =
      at_node_is u n q (slot_step u n k (Some s) slots) stands
      ∙ ap (λ part. ended u q (put_number u.contents.nodes n (record { number = q.number; inode = with_size q.inode (slot_size u.geometry.width * slots); part = part }))) kind

  -- ---- it has room

  here : begins ≡ false → name_written e n s (new_slot d s) ≡ add_name v n name birth
  here none =
      ap (λ (b : Bool). followed_by (if b then block_added e n (k / slots_a_block v.geometry.width) else unchanged e) (λ w. slot_written w n k (Some s) slots)) none
      ∙ (slot_is e now there refl
      ∙ (ap (ended v p) (put_twice v.contents.nodes n now (last v p) order)
      ∙ (sym (named_slot v p at is at_child)
      ∙ sym (ap (λ c. followed_by c (λ w. put_name_slot w n name birth)) (room_is ∙ ap (λ (b : Bool). if b then map_directory_block v n p d (length d.slots / slots_a_block v.geometry.width) else unchanged v) none)))))

  -- ---- it gets a block

  abbrev t : TakenFor
  t = take_zones (own_of (opened v.contents p)) (k / slots_a_block v.geometry.width) v.zones

  abbrev c : Contents
  c = written v.geometry v.contents (map (zone_bit v.geometry true) t.numbers)

  abbrev m : OpenInode
  m = map_block v.geometry t.taken (zeros 1024) (opened c p) (k / slots_a_block v.geometry.width)

  abbrev grown : List (ℕ × Placed) → VolumeNow
  grown nodes = volume_of v.geometry (inode_back v.geometry m.blocks p m.inode) nodes t.zones

  abbrev told : Touched
  told = (block_step v n (k / slots_a_block v.geometry.width) p).touched

  abbrev larger : Part → Placed
  larger part = record { number = p.number; inode = m.inode; part = part }

  abbrev both : List (ℕ × Placed) → Change
  both nodes =
      let end = ended (grown nodes) (larger (parts.Directory d)) nodes in
      record { volume = end.volume; touched = and_then told end.touched }

  code_side : begins ≡ true → name_written e n s (new_slot d s) ≡ both (put_number (put_number (put_number v.contents.nodes n now) n (larger (parts.Directory next))) n (last v (larger (parts.Directory d))))
  code_side some =
      ap (λ (b : Bool). followed_by (if b then block_added e n (k / slots_a_block v.geometry.width) else unchanged e) (λ w. slot_written w n k (Some s) slots)) some
      ∙ (ap (λ c. followed_by c (λ w. slot_written w n k (Some s) slots)) (at_node_is e n now (block_step e n (k / slots_a_block v.geometry.width)) there)
      ∙ ap (λ (c : Change). record { volume = c.volume; touched = and_then told c.touched })
      (slot_is (grown (put_number (put_number v.contents.nodes n now) n (larger (parts.Directory next)))) (larger (parts.Directory next))
      (at_put_number (put_number v.contents.nodes n now) n (larger (parts.Directory next))) refl))

  step_side : begins ≡ true → add_name v n name birth ≡ both (put_number (put_number v.contents.nodes n (larger (parts.Directory d))) n (last v (larger (parts.Directory d))))
  step_side some =
      ap (λ c. followed_by c (λ w. put_name_slot w n name birth))
      (room_is ∙ (ap (λ (b : Bool). if b then map_directory_block v n p d (length d.slots / slots_a_block v.geometry.width) else unchanged v) some ∙ ap (λ k. map_directory_block v n p d (k / slots_a_block v.geometry.width)) (sym all_used)))
      ∙ ap (λ (c : Change). record { volume = c.volume; touched = and_then told c.touched })
      (named_slot (grown (put_number v.contents.nodes n (larger (parts.Directory d)))) (larger (parts.Directory d)) (at_put_number v.contents.nodes n (larger (parts.Directory d))) refl
      (at_put_number_apart v.contents.nodes n (larger (parts.Directory d)) birth apart ∙ at_child))
    where
      all_used : k ≡ length d.slots
      all_used = eqb-true k (length d.slots) (and_first (nat_eq k (length d.slots)) _ some)

  grows : begins ≡ true → name_written e n s (new_slot d s) ≡ add_name v n name birth
  grows some =
      code_side some
      ∙ (ap both (put_twice (put_number v.contents.nodes n now) n (larger (parts.Directory next)) (last v (larger (parts.Directory d))) (in_order_put v.contents.nodes n now order)
      ∙ (put_twice v.contents.nodes n now (last v (larger (parts.Directory d))) order
      ∙ sym (put_twice v.contents.nodes n (larger (parts.Directory d)) (last v (larger (parts.Directory d))) order)))
      ∙ sym (step_side some))

  -- what is written is the step
  pub named : name_written e n s (new_slot d s) ≡ add_name v n name birth
  named = elim (cases_Bool begins) [ inl some ↦ grows some | inr none ↦ here none ]
