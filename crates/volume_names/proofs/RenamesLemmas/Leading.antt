-- A slot that leads to another inode: what the code did is the step.
use Rattle.std.specs.Prelude.{◌≡◌, ◌≤◌, ◌/◌, ◌%◌, ℕ, List, [], ◌∷◌, length, codes, slice_set, Some, None}
use Rattle.std.specs.BTreeMap.{is_at}
use Rattle.std.specs.Map.{set_value}
use Rattle.std.specs.Ordering.{nat_cmp}
use Rattle.std.proofs.Common.{sym, ap, subst, ◌∙◌, arith}
use Rattle.std.proofs.lemmas.List.{length-set}
use Rattle.std.proofs.lemmas.Option.{get_or_from_slice_get}
use Rattle.minix_layout.specs.Widths.{IsWidth, of_14, of_30, slots_a_block}
use Rattle.minix_tables.specs.directories.Slots.{place_of, led_to, slots_led}
use Rattle.minix_tables.specs.directories.laws.Found.{found}
use Rattle.minix_layout.specs.declared.slot.Slot.{Slot}
use Rattle.tree_model.specs.Maps.{at_number}
use Rattle.volume_model.specs.declared.placed.Placed.{Placed}
use Rattle.volume_model.specs.declared.placed.Part.TheVariants as parts
use Rattle.volume_model.specs.declared.placed.DirectoryPart.{DirectoryPart}
use Rattle.volume_model.specs.Edits.{put_slot, edited}
use Rattle.volume_model.specs.Volume.{block, zone_in}
use Rattle.volume_model.specs.Moves.{slot_put}
use Rattle.volume_model.specs.Touched.{Touched, and_then}
use Rattle.volume_steps.specs.Now.{VolumeNow, Change, with_contents}
use Rattle.volume_steps.specs.Steps.{at_node, set_parent, with_parent, place_of as place_in_slots, slot_told, tells_node}
use Rattle.volume_steps.proofs.QuietSteps.{at_node_is, at_directory_is}
use Rattle.volume_names.specs.code.Steps.{After}
use Rattle.volume_names.proofs.Changed.{volume_of}
use Rattle.volume_names.specs.removals.code.Naming.{HasSlot, slot_change}
use Rattle.volume_names.proofs.RemovalsLemmas.NameTaken.{same_node, same_part, same_place}
use Rattle.volume_names.proofs.RemovalsLemmas.SlotWritten.{slot_is_written}
use Rattle.volume_names.specs.renames.code.Parts.{MayTurn, node_put, part_put, slot_led, slot_set, turned, led_at as parts_led}
use Rattle.volume_names.proofs.RenamesLemmas.Parts.{slot_over}
use Rattle.volume_names.proofs.RenamesLemmas.Taking.{slot_over_names}

module _ (v : VolumeNow) (n : ℕ) (s : Slot) (h : HasSlot v n s.name) where
  -- the step at this directory
  pub leads : slot_led v n s ≡ slot_change v n h.placed (place_in_slots s.name h.part.slots) (Some s) (slot_set h.part s)
  leads = at_directory_is v n h.placed h.part (λ p d. slot_change v n p (place_in_slots s.name d.slots) (Some s) (slot_set d s)) h.stands h.is

  module _ (q : Placed) (e : DirectoryPart) (at_q : at_number v.contents.nodes n ≡ Some q) (is : q.part ≡ parts.Directory e) where
    led_here : (at : ℕ) → place_of e.slots s.name ≡ Some at → slots_led e.slots at s.inode ≡ slice_set e.slots at (Some s)
    led_here at place =
        let f = found e.slots s.name at place in
        ap (led_to e.slots at s.inode) (get_or_from_slice_get e.slots at (Some f.0) None f.1) ∙ (λ i. slice_set e.slots at (Some (record { inode = s.inode; name = f.2 i })))

    pub led_at : (at zone : ℕ) (after : DirectoryPart) (first : List (List ℕ)) (nodes : List (ℕ × Placed)) (before touched : Touched) → place_of e.slots s.name ≡ Some at →
        after ≡ parts_led e at s.inode →
        zone ≡ zone_in v.contents.blocks q.inode (block (at / slots_a_block v.geometry.width)) → first ≡ edited v.geometry v.contents.blocks (put_slot zone (at % slots_a_block v.geometry.width) (Some s)) →
        nodes ≡ set_value (is_at (nat_cmp n)) v.contents.nodes (record { number = q.number; inode = q.inode; part = parts.Directory after }) →
        touched ≡ and_then before (tells_node n (zone ∷ [])) → After before (slot_led v n s) (volume_of v.geometry first nodes v.zones) touched
    led_at at zone after first nodes before touched place after_is zone_is first_is set told =
        let same = sym (same_node v n s.name h q at_q) in
        let part = sym (same_part v n s.name h q e at_q is) in
        let here = same_place v n s.name h at (ap (λ (d : DirectoryPart). place_of d.slots s.name) (sym part) ∙ place) in
        subst (λ c. After before c (volume_of v.geometry first nodes v.zones) touched) (sym leads)
        (slot_is_written v n h.placed h.part h.order h.stands h.size (place_in_slots s.name h.part.slots) (Some s) (slot_set h.part s) (length-set h.part.slots (place_in_slots s.name h.part.slots) (Some s))
        zone after first nodes before touched
        (after_is
        ∙ (ap (λ slots. record { parent = e.parent; width = e.width; names = e.names; slots = slots }) (led_here at place)
        ∙ (λ i. record { parent = (part i).parent; width = (part i).width; names = (part i).names; slots = slice_set (part i).slots (here i) (Some s) })))
        (zone_is ∙ (λ i. zone_in v.contents.blocks (same i).inode (block (here i / slots_a_block v.geometry.width))))
        (first_is ∙ ap (λ at. edited v.geometry v.contents.blocks (put_slot zone (at % slots_a_block v.geometry.width) (Some s))) here)
        (set ∙ ap (λ (p : Placed). set_value (is_at (nat_cmp n)) v.contents.nodes (record { number = p.number; inode = p.inode; part = parts.Directory after })) same)
        told)

-- ---- a directory gets another parent

-- its parent's slot is no longer than any width
pub dots_short : (width : ℕ) → IsWidth width → length (codes "..") ≤ width
dots_short width of_14 = omega arith
dots_short width of_30 = omega arith

module _ (v : VolumeNow) (n parent above : ℕ) (h : MayTurn v n parent above) where
  abbrev p : Placed
  p = h.slot.placed

  abbrev d : DirectoryPart
  d = h.slot.part

  abbrev s : Slot
  s = record { inode = above; name = codes ".." }

  abbrev pub turned_volume : VolumeNow
  turned_volume = part_put v n p (parts.Directory (turned d parent))

  abbrev pub turned_slot : HasSlot turned_volume n (codes "..")
  turned_slot = slot_over_names v n (codes "..") h.slot parent d.names

  second : place_in_slots (codes "..") d.slots ≡ 1
  second = sym (same_place v n (codes "..") h.slot h.slot.place h.slot.has) ∙ h.second

  abbrev by : Placed → DirectoryPart → Placed → Change
  by p d above = record {
    volume = with_contents v (slot_put v.geometry v.contents n p 1 (Some (record { inode = above.number; name = codes ".." })) (with_parent d parent (record { inode = above.number; name = codes ".." })));
    touched = tells_node n (slot_told v p 1 (with_parent d parent (record { inode = above.number; name = codes ".." })));
  }

  pub sets_parent : slot_led turned_volume n s ≡ set_parent v n parent
  sets_parent =
      leads turned_volume n s turned_slot
      ∙ (slot_over v h.slot.order n p (place_in_slots (codes "..") d.slots) (Some s) (slot_set (turned d parent) s) (parts.Directory (turned d parent))
      ∙ (ap (λ k. slot_change v n p k (Some s) (record { parent = parent; width = d.width; names = d.names; slots = slice_set d.slots k (Some s) })) second
      ∙ (ap (λ number. slot_change v n p 1 (Some (record { inode = number; name = codes ".." })) (with_parent d parent (record { inode = number; name = codes ".." }))) (sym h.number)
      ∙ sym (at_directory_is v n p d (λ p d. at_node v parent (λ above. by p d above)) h.slot.stands h.slot.is ∙ at_node_is v parent h.placed (λ above. by p d above) h.stands))))

  -- as it stands in memory
  pub sets_parent_in : (nodes : List (ℕ × Placed)) (u : VolumeNow) → u ≡ volume_of v.geometry v.contents.blocks nodes v.zones →
      ((q : Placed) (e : DirectoryPart) → at_number v.contents.nodes n ≡ Some q → q.part ≡ parts.Directory e → nodes ≡ node_put v.contents.nodes n q (parts.Directory (turned e parent))) → u ≡ turned_volume
  sets_parent_in nodes u is turns = is ∙ ap (λ nodes. volume_of v.geometry v.contents.blocks nodes v.zones) (turns p d h.slot.stands h.slot.is)
