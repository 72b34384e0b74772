-- A directory that gets another parent.
use Rattle.std.specs.Prelude.{◌≡◌, ◌<◌, ◌≤◌, ◌-◌, ◌+◌, ◌*◌, ℕ, false, List, codes, length, Option, Some, None, refl}
use Rattle.std.proofs.Common.{sym, ap, subst, ◌∙◌, arith}
use Rattle.std.proofs.lemmas.Option.{get_or_from_slice_get, same_Some}
use Rattle.blk_base.specs.laws.Members.{slice_get-length}
use Rattle.minix_layout.specs.Widths.{slot_size}
use Rattle.minix_layout.specs.declared.slot.Slot.{Slot}
use Rattle.minix_tables.specs.directories.Slots.{has_name, place_of, slot_at}
use Rattle.minix_tables.specs.directories.laws.Found.{placed}
use Rattle.tree_model.specs.Maps.{at_number}
use Rattle.tree_model.specs.laws.MapsLaws.{at_put_number, at_put_number_apart}
use Rattle.volume_model.specs.declared.placed.Placed.{Placed}
use Rattle.volume_model.specs.declared.placed.Part.{Part}
use Rattle.volume_model.specs.declared.placed.Part.TheVariants as parts
use Rattle.volume_model.specs.declared.placed.DirectoryPart.{DirectoryPart}
use Rattle.volume_model.specs.Plain.{HasDots}
use Rattle.volume_model.specs.Volume.{IsPart}
use Rattle.volume_model.specs.Moves.{back_told, slot_put, with_size}
use Rattle.volume_steps.specs.Now.{VolumeNow, Change, followed_by, tells_blocks, with_contents}
use Rattle.volume_steps.specs.Steps.{at_node, take_name, add_name, set_links, set_parent, with_links, with_parent, inode_put, slot_told, tells_node}
use Rattle.volume_steps.specs.Calls.{move_below}
use Rattle.volume_steps.specs.Plain.{IsInUse}
use Rattle.volume_steps.proofs.CallPaths.{good_no_dot, good_entry}
use Rattle.volume_steps.proofs.NodeSteps.{IsSettled, AreSlotted}
use Rattle.volume_steps.proofs.PlainNow.{settled_before, slotted_before}
use Rattle.volume_steps.proofs.QuietSteps.{at_node_is, at_directory_is, linked, linked_steady, linked_settled, linked_slotted, set_links_is}
use Rattle.volume_steps.proofs.SlotChanges.{parent_set, parent_is_set, set_parent_is}
use Rattle.volume_names.specs.declared.directories.NewSlot.{NewSlot}
use Rattle.volume_names.specs.code.NewSlot.{new_slot}
use Rattle.volume_names.specs.code.Steps.{MayWrite, entered, more_links, name_written}
use Rattle.volume_names.proofs.Creates.{fits_volume}
use Rattle.volume_names.proofs.NameRooms.{NameRoom, wide, may_write}
use Rattle.volume_names.proofs.Named.{named}
use Rattle.volume_names.specs.removals.code.Naming.{HasSlot}
use Rattle.volume_names.proofs.RemovalsLemmas.Taken.{less, less_is, less_in_use, less_settled, less_slotted, fewer, fewer_links, fewer_is, fewer_in_use, fewer_slotted, fewer_stands}
use Rattle.volume_names.specs.renames.May.{MayMoveAcross, MayMoveBelow}
use Rattle.volume_names.specs.renames.code.Parts.{MayTurn, part_put}
use Rattle.volume_names.proofs.RenamesLemmas.Across.{q, d, child, takes, s, X, told_after, good_name, to_stands, child_stands, some, fits, entered_volume, taken_is, place_is}
use Rattle.volume_names.proofs.RenamesLemmas.Parts.{inode_beside, inode_over, slot_beside}
use Rattle.volume_names.proofs.RenamesLemmas.Taking.{slot_stays}

-- ---- the slot of a parent

-- it is the second one
dots_second : (slots : List (Option Slot)) (own parent : ℕ) → HasDots slots own parent → place_of slots (codes "..") ≡ Some 1
dots_second slots own parent h = placed slots (codes "..") 1 (slice_get-length slots 1 (Some (record { inode = parent; name = codes ".." })) h.above)
    (ap (has_name (codes "..")) (get_or_from_slice_get slots 1 (Some (record { inode = parent; name = codes ".." })) None h.above)) before
  where
    first : has_name (codes "..") (slot_at slots 0) ≡ false
    first = ap (has_name (codes "..")) (get_or_from_slice_get slots 0 (Some (record { inode = own; name = codes "." })) None h.here)

    before : (k : ℕ) → k < 1 → has_name (codes "..") (slot_at slots k) ≡ false
    before k low = (let none : k ≡ 0 = omega arith in ap (λ k. has_name (codes "..") (slot_at slots k)) none ∙ first)

-- of a volume in use
abbrev dots_slot : (v : VolumeNow) (h : IsInUse v) → IsSettled v.contents → (n : ℕ) (p : Placed) (e : DirectoryPart) → at_number v.contents.nodes n ≡ Some p → p.part ≡ parts.Directory e → HasSlot v n (codes "..")
dots_slot v h old n p e at is = record {
  order = h.volume.0.in_order;
  width = h.sound.width;
  placed = p;
  part = e;
  stands = at;
  is = is;
  size = (subst (IsPart v.geometry v.contents.blocks p.inode) is (h.volume.0.each n p at).part).size;
  fits = (h.volume.0.each n p at).fits.size;
  once = (h.volume.0.names n p e at is).once;
  place = 1;
  has = dots_second e.slots p.number (old.dots n p e at is).0.number (old.dots n p e at is).2;
}

module _ (v : VolumeNow) (from : ℕ) (name : List ℕ) (to : ℕ) (other : List ℕ) (birth : ℕ) (m : MayMoveBelow v from name to other birth) where
  abbrev h : MayMoveAcross v from name to other birth
  h = m.across

  abbrev Q : Placed
  Q = q v from name to other birth h

  abbrev D : DirectoryPart
  D = d v from name to other birth h

  abbrev C : Placed
  C = child v from name to other birth h

  abbrev S : Slot
  S = s v from name to other birth h

  abbrev first : Change
  first = less v from name (takes v from name to other birth h)

  pub in_use1 : IsInUse first.volume
  in_use1 = less_in_use v from name (takes v from name to other birth h)

  pub settled1 : IsSettled first.volume.contents
  settled1 = less_settled v from name (takes v from name to other birth h) (settled_before v h.leaves.plain)

  pub slotted1 : AreSlotted v.geometry (λ a. ⊥) first.volume.contents
  slotted1 = less_slotted v from name (takes v from name to other birth h) (slotted_before v h.leaves.plain)

  -- ---- the old parent loses a link

  pub record ParentAt : Type 0 where
    pub node : Placed
    pub stands : at_number first.volume.contents.nodes from ≡ Some node
    pub few : node.inode.links ≤ 250

  pub old : ParentAt
  old = record {
    node = _;
    stands = at_put_number v.contents.nodes from _;
    few = settled1.few_links from _ (at_put_number v.contents.nodes from _);
  }

  abbrev second : Change
  second = fewer_links first.volume in_use1 from old.node old.stands old.few

  pub in_use2 : IsInUse second.volume
  in_use2 = fewer_in_use first.volume in_use1 from old.node old.stands old.few

  pub settled2 : IsSettled second.volume.contents
  settled2 = linked_settled 0 first.volume in_use1 from old.node old.stands (old.node.inode.links - 1) (fewer first.volume in_use1 from old.node old.stands old.few) settled1

  pub slotted2 : AreSlotted v.geometry (λ a. ⊥) second.volume.contents
  slotted2 = fewer_slotted first.volume in_use1 from old.node old.stands old.few slotted1

  pub child2 : at_number second.volume.contents.nodes birth ≡ Some C
  child2 = fewer_stands first.volume in_use1 from old.node old.stands old.few birth C h.leaves.apart (child_stands v from name to other birth h)

  pub to2 : at_number second.volume.contents.nodes to ≡ Some Q
  to2 = fewer_stands first.volume in_use1 from old.node old.stands old.few to Q (λ e. h.away (sym e)) (to_stands v from name to other birth h)

  -- ---- the directory gets its other parent

  abbrev third : Change
  third = parent_set 0 second.volume in_use2 settled2 slotted2 birth C child2 m.part m.is to Q to2

  pub in_use3 : IsInUse third.volume
  in_use3 = (parent_is_set 0 second.volume in_use2 settled2 slotted2 birth C child2 m.part m.is to Q to2).steady.in_use

  pub settled3 : IsSettled third.volume.contents
  settled3 = (parent_is_set 0 second.volume in_use2 settled2 slotted2 birth C child2 m.part m.is to Q to2).settled

  pub slotted3 : AreSlotted v.geometry (λ a. ⊥) third.volume.contents
  slotted3 = (parent_is_set 0 second.volume in_use2 settled2 slotted2 birth C child2 m.part m.is to Q to2).slotted

  pub to3 : at_number third.volume.contents.nodes to ≡ Some Q
  to3 = at_put_number_apart second.volume.contents.nodes birth _ to (λ e. h.apart (sym e)) ∙ to2

  -- ---- the new parent has one link more

  pub few3 : Q.inode.links + 1 ≤ 250
  few3 = (let low = m.links in omega arith)

  abbrev fourth : Change
  fourth = linked 0 third.volume in_use3 to Q to3 (Q.inode.links + 1) few3

  abbrev Q4 : Placed
  Q4 = record { number = Q.number; inode = with_links Q.inode (Q.inode.links + 1); part = Q.part }

  pub to4 : at_number fourth.volume.contents.nodes to ≡ Some Q4
  to4 = at_put_number third.volume.contents.nodes to Q4

  abbrev up : Slot
  up = record { inode = Q.number; name = codes ".." }

  abbrev C3 : Placed
  C3 = record { number = C.number; inode = with_size C.inode (slot_size v.geometry.width * length (with_parent m.part to up).slots); part = parts.Directory (with_parent m.part to up) }

  pub child4 : at_number fourth.volume.contents.nodes birth ≡ Some C3
  child4 = at_put_number_apart third.volume.contents.nodes to Q4 birth h.apart ∙ at_put_number second.volume.contents.nodes birth C3

  abbrev room : NameRoom fourth.volume to other birth
  room = record {
    in_use = (linked_steady 0 third.volume in_use3 to Q to3 (Q.inode.links + 1) few3).in_use;
    placed = Q4;
    stands = to4;
    part = D;
    is = h.place.is;
    child = C3;
    at_child = child4;
    apart = h.apart;
    free = h.place.free;
    no_dot = good_no_dot other (good_name v from name to other birth h);
    entry = good_entry v.geometry.width other C3.number h.leaves.plain.in_use.sound.width (good_name v from name to other birth h) (fits_volume v to other h.place h.leaves.plain.in_use) (some v from name to other birth h) (fits v from name to other birth h);
    settled = linked_settled 0 third.volume in_use3 to Q to3 (Q.inode.links + 1) few3 settled3;
    slotted = linked_slotted 0 third.volume in_use3 to Q to3 (Q.inode.links + 1) few3 slotted3;
    left = h.place.left;
    enough = (let zones = h.zones in omega arith);
  }

  -- ---- as the code has it: the new name stands in memory from the first step on

  abbrev Y : Part
  Y = X v from name to other birth h

  abbrev W : VolumeNow → VolumeNow
  W u = part_put u to Q Y

  old_in : at_number (W first.volume).contents.nodes from ≡ Some old.node
  old_in = at_put_number_apart first.volume.contents.nodes to _ from h.away ∙ old.stands

  pub old_number : (p : Placed) → at_number (W first.volume).contents.nodes from ≡ Some p → 0 < p.number
  old_number p at = subst (λ (p : Placed). 0 < p.number) (same_Some old.node p (sym old_in ∙ at)) (in_use1.volume.0.each from old.node old.stands).some

  abbrev links_at_node : VolumeNow → ℕ → (ℕ → ℕ) → Placed → Change
  links_at_node u n change p = record { volume = inode_put u n p (with_links p.inode (change p.inode.links)); touched = tells_blocks (back_told u.geometry p (with_links p.inode (change p.inode.links))) }

  second_in : set_links (W first.volume) from (λ links. links - 1) ≡ record { volume = W second.volume; touched = second.touched }
  second_in =
      at_node_is (W first.volume) from old.node (links_at_node (W first.volume) from (λ links. links - 1)) old_in
      ∙ inode_beside first.volume in_use1.volume.0.in_order from old.node (with_links old.node.inode (old.node.inode.links - 1)) to Q Y (λ e. h.away (sym e))

  child_in : at_number (W second.volume).contents.nodes birth ≡ Some C
  child_in = at_put_number_apart second.volume.contents.nodes to _ birth h.apart ∙ child2

  to_in : (u : VolumeNow) → at_number (W u).contents.nodes to ≡ Some (record { number = Q.number; inode = Q.inode; part = Y })
  to_in u = at_put_number u.contents.nodes to _

  pub may_turn : (above : ℕ) → Q.number ≡ above → MayTurn (W second.volume) birth to above
  may_turn above e = record {
    slot = slot_stays second.volume birth (codes "..") (dots_slot second.volume in_use2 settled2 birth C m.part child2 m.is) to Q Y h.apart;
    second = refl;
    placed = record { number = Q.number; inode = Q.inode; part = Y };
    stands = to_in second.volume;
    number = e;
  }

  abbrev turn_at : VolumeNow → Placed → DirectoryPart → Placed → Change
  turn_at u p d above = record {
    volume = with_contents u (slot_put u.geometry u.contents birth p 1 (Some (record { inode = above.number; name = codes ".." })) (with_parent d to (record { inode = above.number; name = codes ".." })));
    touched = tells_node birth (slot_told u p 1 (with_parent d to (record { inode = above.number; name = codes ".." })));
  }

  third_in : set_parent (W second.volume) birth to ≡ record { volume = W third.volume; touched = third.touched }
  third_in =
      at_directory_is (W second.volume) birth C m.part (λ p d. at_node (W second.volume) to (λ above. turn_at (W second.volume) p d above)) child_in m.is
      ∙ (at_node_is (W second.volume) to (record { number = Q.number; inode = Q.inode; part = Y }) (λ above. turn_at (W second.volume) C m.part above) (to_in second.volume)
      ∙ slot_beside second.volume in_use2.volume.0.in_order birth C 1 (Some up) (with_parent m.part to up) to Q Y (λ e. h.apart (sym e)))

  pub to_number : (p : Placed) → at_number (W third.volume).contents.nodes to ≡ Some p → 0 < p.number
  to_number p at = subst (λ (p : Placed). 0 < p.number) (same_Some _ p (sym (to_in third.volume) ∙ at)) (h.leaves.plain.in_use.volume.0.each to Q h.place.stands).some

  pub to_links : (p : Placed) → at_number (W third.volume).contents.nodes to ≡ Some p → p.inode.links < 255
  to_links p at = subst (λ (p : Placed). p.inode.links < 255) (same_Some _ p (sym (to_in third.volume) ∙ at)) (less Q.inode.links m.links)
    where
      less : (k : ℕ) → k < 250 → k < 255
      less k low = omega arith

  fourth_in : more_links (W third.volume) to ≡ record { volume = part_put fourth.volume to Q4 Y; touched = fourth.touched }
  fourth_in =
      at_node_is (W third.volume) to (record { number = Q.number; inode = Q.inode; part = Y }) (links_at_node (W third.volume) to (λ links. links + 1)) (to_in third.volume)
      ∙ inode_over third.volume in_use3.volume.0.in_order to Q (with_links Q.inode (Q.inode.links + 1)) Y

  -- ---- in memory

  module _ (slot : Slot) (slot_is : slot ≡ S) (nodes : List (ℕ × Placed)) (nodes_are : nodes ≡ entered v.contents.nodes to Q D slot birth) (at : NewSlot) (at_is : at ≡ new_slot D slot) where
    abbrev u : VolumeNow
    u = entered_volume v from name to other birth h slot slot_is nodes nodes_are at at_is

    first_in : take_name u from name ≡ record { volume = W first.volume; touched = first.touched }
    first_in = taken_is v from name to other birth h slot slot_is nodes nodes_are at at_is

    pub after_first : (w : VolumeNow) → w ≡ (take_name u from name).volume → w ≡ W first.volume
    after_first w e = e ∙ ap (λ (c : Change). c.volume) first_in

    pub after_second : (w x : VolumeNow) → w ≡ W first.volume → x ≡ (set_links w from (λ links. links - 1)).volume → x ≡ W second.volume
    after_second w x f e = e ∙ (ap (λ w. (set_links w from (λ links. links - 1)).volume) f ∙ ap (λ (c : Change). c.volume) second_in)

    pub after_third : (w x : VolumeNow) → w ≡ W second.volume → x ≡ (set_parent w birth to).volume → x ≡ W third.volume
    after_third w x f e = e ∙ (ap (λ w. (set_parent w birth to).volume) f ∙ ap (λ (c : Change). c.volume) third_in)

    pub may_be_written : (w x : VolumeNow) → w ≡ W third.volume → x ≡ (more_links w to).volume → MayWrite x to slot at
    may_be_written w x f e = subst (λ x. MayWrite x to slot at) (sym (e ∙ (ap (λ w. (more_links w to).volume) f ∙ ap (λ (c : Change). c.volume) fourth_in)))
        (subst (λ slot. MayWrite (part_put fourth.volume to Q4 Y) to slot at) (sym slot_is)
        (subst (MayWrite (part_put fourth.volume to Q4 Y) to S) (sym (place_is v from name to other birth h slot slot_is nodes nodes_are at at_is)) (may_write fourth.volume to other birth room)))

    abbrev last_as : VolumeNow → Change
    last_as w = name_written w to slot at

    written_in : last_as (part_put fourth.volume to Q4 Y) ≡ add_name fourth.volume to other birth
    written_in =
        ap (λ slot. name_written (part_put fourth.volume to Q4 Y) to slot at) slot_is
        ∙ (ap (name_written (part_put fourth.volume to Q4 Y) to S) (place_is v from name to other birth h slot slot_is nodes nodes_are at at_is)
        ∙ named fourth.volume to Q4 D other birth C3 (linked_steady 0 third.volume in_use3 to Q to3 (Q.inode.links + 1) few3).in_use.volume.0.in_order to4 h.place.is child4 h.apart (wide fourth.volume to other birth room))

    -- the call as the code does it
    pub moved_below :
        followed_by (take_name u from name) (λ a. followed_by (set_links a from (λ links. links - 1)) (λ b. followed_by (set_parent b birth to) (λ c. followed_by (more_links c to) last_as)))
        ≡ move_below v from name to other birth
    moved_below =
        ap (λ c. followed_by c (λ a. followed_by (set_links a from (λ links. links - 1)) (λ b. followed_by (set_parent b birth to) (λ c. followed_by (more_links c to) last_as)))) first_in
        ∙ (ap (told_after first.touched)
        (ap (λ c. followed_by c (λ b. followed_by (set_parent b birth to) (λ c. followed_by (more_links c to) last_as))) second_in
        ∙ ap (told_after second.touched)
        (ap (λ c. followed_by c (λ c. followed_by (more_links c to) last_as)) third_in
        ∙ ap (told_after third.touched) (ap (λ c. followed_by c last_as) fourth_in ∙ ap (told_after fourth.touched) written_in)))
        ∙ sym (step_is))
      where
        step_is : move_below v from name to other birth ≡ told_after first.touched (told_after second.touched (told_after third.touched (told_after fourth.touched (add_name fourth.volume to other birth))))
        step_is =
            ap (λ c. followed_by c (λ u. followed_by (set_links u from (λ links. links - 1)) (λ w. followed_by (set_parent w birth to) (λ x. followed_by (set_links x to (λ links. links + 1)) (λ y. add_name y to other birth)))))
            (less_is v from name (takes v from name to other birth h))
            ∙ ap (told_after first.touched)
            (ap (λ c. followed_by c (λ w. followed_by (set_parent w birth to) (λ x. followed_by (set_links x to (λ links. links + 1)) (λ y. add_name y to other birth))))
            (fewer_is first.volume in_use1 from old.node old.stands old.few)
            ∙ ap (told_after second.touched)
            (ap (λ c. followed_by c (λ x. followed_by (set_links x to (λ links. links + 1)) (λ y. add_name y to other birth)))
            (set_parent_is 0 second.volume in_use2 settled2 slotted2 birth C child2 m.part m.is to Q to2)
            ∙ ap (λ c. told_after third.touched (followed_by c (λ y. add_name y to other birth))) (set_links_is 0 third.volume in_use3 to Q to3 (Q.inode.links + 1) few3 (λ links. links + 1) refl)))
