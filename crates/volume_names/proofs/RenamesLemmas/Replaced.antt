-- A file that gets the name of another one.
use Rattle.std.specs.Prelude.{◌≡◌, ◌≢◌, ◌<◌, ◌≤◌, ◌-◌, ℕ, List, length, Some, None, refl}
use Rattle.std.specs.List.Sorted.{IsStrictlySortedBy}
use Rattle.std.specs.Map.{keys_of}
use Rattle.std.proofs.Common.{sym, ap, subst, ◌∙◌, inl, inr, arith}
use Rattle.std.proofs.lemmas.Bool.{cases_eq}
use Rattle.std.proofs.lemmas.Option.{same_Some}
use Rattle.minix_layout.specs.declared.slot.Slot.{Slot}
use Rattle.minix_layout.specs.Slots.{IsEntry}
use Rattle.tree_model.specs.Maps.{at_number, at_name, name_cmp}
use Rattle.tree_model.specs.laws.MapsLaws.{at_put_number, at_put_number_apart}
use Rattle.tree_model.specs.laws.MapOrder.{at_name_without_apart, names_in_order_without}
use Rattle.volume_model.specs.declared.placed.Placed.{Placed}
use Rattle.volume_model.specs.declared.placed.Part.TheVariants as parts
use Rattle.volume_model.specs.declared.placed.DirectoryPart.{DirectoryPart}
use Rattle.volume_model.specs.Volume.{Place, zone_in}
use Rattle.volume_model.specs.Touched.{Touched}
use Rattle.volume_steps.specs.Now.{VolumeNow, Change, followed_by}
use Rattle.volume_steps.specs.Plain.{IsInUse}
use Rattle.volume_steps.specs.Steps.{drop_node, lead_name, metadata_gone, place_of as place_in_slots, set_links, take_name, with_child}
use Rattle.volume_steps.specs.Calls.{lose_link, replace_in}
use Rattle.volume_steps.proofs.CallPaths.{good_entry}
use Rattle.volume_steps.proofs.GoneFiles.{lists_of_file}
use Rattle.volume_steps.proofs.NodeSteps.{IsSettled, AreSlotted}
use Rattle.volume_steps.proofs.PlainNow.{settled_before, slotted_before}
use Rattle.volume_steps.proofs.SlotChanges.{name_led, name_is_led, lead_name_is}
use Rattle.volume_in_use.proofs.NowLemmas.Notes.{and_assoc}
use Rattle.volume_names.specs.code.Steps.{After}
use Rattle.volume_names.proofs.Changed.{volume_of}
use Rattle.volume_names.specs.removals.May.{HasName}
use Rattle.volume_names.specs.removals.code.Dropping.{MayDrop, blocks_in}
use Rattle.volume_names.specs.removals.code.Naming.{CanTake, HasSlot}
use Rattle.volume_names.proofs.RemovalsLemmas.Dropped.{may_drop}
use Rattle.volume_names.proofs.RemovalsLemmas.Losing.{link_lost, node_lost}
use Rattle.volume_names.proofs.RemovalsLemmas.Metadata.{metadata_kept}
use Rattle.volume_names.proofs.RemovalsLemmas.NameTaken.{has_slot, taken_slot, takes_slot}
use Rattle.volume_names.proofs.RemovalsLemmas.Taken.{names_sorted, less, less_is, less_in_use, less_settled, less_slotted, zones_beside}
use Rattle.volume_names.specs.renames.May.{MayReplace}
use Rattle.volume_names.specs.renames.code.Parts.{node_put, part_put, name_put, slot_led, slot_set}
use Rattle.volume_names.proofs.RenamesLemmas.Across.{told_after}
use Rattle.volume_names.proofs.RenamesLemmas.Leading.{leads}
use Rattle.volume_names.proofs.RenamesLemmas.Parts.{slot_over}
use Rattle.volume_names.proofs.RenamesLemmas.Taking.{slot_stays, takes_beside, slot_over_names, takes_named, left, left_node}

module _ (v : VolumeNow) (from : ℕ) (name : List ℕ) (to : ℕ) (other : List ℕ) (birth gone : ℕ) (h : MayReplace v from name to other birth gone) where
  abbrev child : Placed
  child = h.leaves.child

  abbrev takes : CanTake v from name
  takes = record {
    in_use = h.leaves.plain.in_use;
    birth = birth;
    place = h.leaves.place;
    sorted = names_sorted v h.leaves.plain from name birth h.leaves.place;
  }

  abbrev before : HasSlot v from name
  before = has_slot v from name takes

  abbrev s : Slot
  s = record { inode = child.number; name = other }

  -- ---- the old name goes

  abbrev first : Change
  first = taken_slot v from name before

  same : less v from name takes ≡ first
  same = sym (less_is v from name takes) ∙ takes_slot v from name before

  in_use : IsInUse first.volume
  in_use = subst (λ (c : Change). IsInUse c.volume) same (less_in_use v from name takes)

  settled : IsSettled first.volume.contents
  settled = subst (λ (c : Change). IsSettled c.volume.contents) same (less_settled v from name takes (settled_before v h.leaves.plain))

  slotted : AreSlotted v.geometry (λ a. ⊥) first.volume.contents
  slotted = subst (λ (c : Change). AreSlotted v.geometry (λ a. ⊥) c.volume.contents) same (less_slotted v from name takes (slotted_before v h.leaves.plain))

  child_stands : at_number first.volume.contents.nodes birth ≡ Some child
  child_stands = at_put_number_apart v.contents.nodes from _ birth h.leaves.apart ∙ h.leaves.stands

  -- ---- the other name stands then, and its new node in memory before and after

  abbrev NamedIn : ℕ → List (ℕ × Placed) → Type 0
  NamedIn t nodes = (p : Placed) (e : DirectoryPart) → at_number v.contents.nodes t ≡ Some p → p.part ≡ parts.Directory e → nodes ≡ node_put v.contents.nodes t p (parts.Directory (name_put e other birth))

  record TargetAt (t : ℕ) : Type 0 where
    node : Placed
    part : DirectoryPart
    stands : at_number first.volume.contents.nodes t ≡ Some node
    is : node.part ≡ parts.Directory part
    named : at_name part.names other ≡ Some gone
    sorted : IsStrictlySortedBy name_cmp (keys_of part.names)
    may_take : (nodes : List (ℕ × Placed)) → NamedIn t nodes → HasSlot (volume_of v.geometry v.contents.blocks nodes v.zones) from name
    taken : (nodes : List (ℕ × Placed)) → NamedIn t nodes →
        take_name (volume_of v.geometry v.contents.blocks nodes v.zones) from name ≡ record { volume = part_put first.volume t node (parts.Directory (name_put part other birth)); touched = first.touched }

  -- in another directory
  beside : from ≢ to → TargetAt to
  beside away = record {
    node = h.place.placed;
    part = h.place.part;
    stands = at_put_number_apart v.contents.nodes from _ to (λ e. away (sym e)) ∙ h.place.stands;
    is = h.place.is;
    named = h.place.named;
    sorted = names_sorted v h.leaves.plain to other gone h.place;
    may_take = λ nodes named. subst (λ u. HasSlot u from name) (sym (volume_is nodes named)) (slot_stays v from name before to h.place.placed (parts.Directory (name_put h.place.part other birth)) away);
    taken = λ nodes named.
        ap (λ u. take_name u from name) (volume_is nodes named)
        ∙ (takes_beside v from name before to h.place.placed (parts.Directory (name_put h.place.part other birth)) away
        ∙ ap (λ (c : Change). record { volume = part_put c.volume to h.place.placed (parts.Directory (name_put h.place.part other birth)); touched = c.touched }) (takes_slot v from name before));
  }
    where
      volume_is : (nodes : List (ℕ × Placed)) → NamedIn to nodes → volume_of v.geometry v.contents.blocks nodes v.zones ≡ part_put v to h.place.placed (parts.Directory (name_put h.place.part other birth))
      volume_is nodes named = ap (λ nodes. volume_of v.geometry v.contents.blocks nodes v.zones) (named h.place.placed h.place.part h.place.stands h.place.is)

  -- in the same one
  within : HasName v from other gone → TargetAt from
  within there = record {
    node = left_node v from name before;
    part = left v from name before;
    stands = at_put_number v.contents.nodes from (left_node v from name before);
    is = refl;
    named = at_name_without_apart before.part.names name other sorted_names apart ∙ named_here;
    sorted = names_in_order_without before.part.names name sorted_names;
    may_take = λ nodes named. subst (λ u. HasSlot u from name) (sym (volume_is nodes named)) (slot_over_names v from name before before.part.parent (name_put before.part other birth).names);
    taken = λ nodes named. ap (λ u. take_name u from name) (volume_is nodes named) ∙ takes_named v from name before other birth sorted_names apart;
  }
    where
      sorted_names : IsStrictlySortedBy name_cmp (keys_of before.part.names)
      sorted_names = names_sorted v h.leaves.plain from name birth h.leaves.place

      same_directory : (d e : DirectoryPart) → parts.Directory d ≡ parts.Directory e → d ≡ e
      same_directory d e f = cc f

      named_here : at_name before.part.names other ≡ Some gone
      named_here = ap (λ (d : DirectoryPart). at_name d.names other)
          (same_directory before.part there.part (sym before.is ∙ (ap (λ (p : Placed). p.part) (same_Some before.placed there.placed (sym before.stands ∙ there.stands)) ∙ there.is)))
          ∙ there.named

      apart : name ≢ other
      apart e = h.apart (same_Some birth gone (sym h.leaves.place.named ∙ (ap (at_name before.part.names) e ∙ named_here)))

      volume_is : (nodes : List (ℕ × Placed)) → NamedIn from nodes → volume_of v.geometry v.contents.blocks nodes v.zones ≡ part_put v from before.placed (parts.Directory (name_put before.part other birth))
      volume_is nodes named = ap (λ nodes. volume_of v.geometry v.contents.blocks nodes v.zones) (named before.placed before.part before.stands before.is)

  target : TargetAt to
  target = elim (cases_eq from to) [
    | inl e ↦ subst TargetAt e (within (subst (λ t. HasName v t other gone) (sym e) h.place))
    | inr away ↦ beside away
  ]

  -- ---- the other name leads to the node

  abbrev can : CanTake first.volume to other
  can = record {
    in_use = in_use;
    birth = gone;
    place = record { placed = target.node; part = target.part; stands = target.stands; is = target.is; named = target.named };
    sorted = target.sorted;
  }

  abbrev met : HasSlot first.volume to other
  met = has_slot first.volume to other can

  entry : IsEntry v.geometry.width s
  entry = good_entry v.geometry.width other child.number h.leaves.plain.in_use.sound.width (record { plain = h.word }) h.short (h.leaves.plain.in_use.volume.0.each birth child h.leaves.stands).some
      (let within = (h.leaves.plain.in_use.volume.0.each birth child h.leaves.stands).within in let fit = h.leaves.plain.in_use.sound.fits.inodes in omega arith)

  abbrev second : Change
  second = name_led 0 first.volume in_use settled slotted to target.node target.stands target.part target.is other gone target.named target.sorted birth child child_stands entry

  in_use2 : IsInUse second.volume
  in_use2 = (name_is_led 0 first.volume in_use settled slotted to target.node target.stands target.part target.is other gone target.named target.sorted birth child child_stands entry).steady.in_use

  lead_is : lead_name first.volume to other birth ≡ second
  lead_is = lead_name_is 0 first.volume in_use settled slotted to target.node target.stands target.part target.is other gone target.named target.sorted birth child child_stands entry

  abbrev mid : VolumeNow
  mid = part_put first.volume to target.node (parts.Directory (name_put target.part other birth))

  met_in : HasSlot mid to other
  met_in = slot_over_names first.volume to other met target.part.parent (name_put target.part other birth).names

  led_in : slot_led mid to s ≡ second
  led_in =
      leads mid to s (slot_over_names first.volume to other met target.part.parent (name_put target.part other birth).names)
      ∙ slot_over first.volume in_use.volume.0.in_order to target.node (place_in_slots other target.part.slots) (Some s) (slot_set (name_put target.part other birth) s) (parts.Directory (name_put target.part other birth))

  -- ---- in memory

  module _ (nodes : List (ℕ × Placed)) (nodes_are : NamedIn to nodes) where
    abbrev pub named_volume : VolumeNow
    named_volume = volume_of v.geometry v.contents.blocks nodes v.zones

    pub may_take : HasSlot named_volume from name
    may_take = target.may_take nodes nodes_are

    taken_is : take_name named_volume from name ≡ record { volume = mid; touched = first.touched }
    taken_is = target.taken nodes nodes_are

    pub may_lead : (w : VolumeNow) → w ≡ (take_name named_volume from name).volume → (slot : Slot) → slot ≡ s → HasSlot w to slot.name
    may_lead w w_is slot slot_is = subst (λ w. HasSlot w to slot.name) (sym (w_is ∙ ap (λ (c : Change). c.volume) taken_is)) (subst (λ (slot : Slot). HasSlot mid to slot.name) (sym slot_is) met_in)

    pub is_short : (w : VolumeNow) → w ≡ (take_name named_volume from name).volume → (slot : Slot) → slot ≡ s → length slot.name ≤ w.geometry.width
    is_short w w_is slot slot_is = subst (λ (w : VolumeNow). length slot.name ≤ w.geometry.width) (sym (w_is ∙ ap (λ (c : Change). c.volume) taken_is)) (subst (λ (slot : Slot). length slot.name ≤ v.geometry.width) (sym slot_is) h.short)

    -- both steps, as the code does them
    pub taken_over : (slot : Slot) → slot ≡ s → followed_by (take_name named_volume from name) (λ w. slot_led w to slot) ≡ followed_by (take_name v from name) (λ w. lead_name w to other birth)
    taken_over slot slot_is =
        ap (λ c. followed_by c (λ w. slot_led w to slot)) taken_is
        ∙ (ap (told_after first.touched) (ap (slot_led mid to) slot_is ∙ (led_in ∙ sym lead_is))
        ∙ sym (ap (λ c. followed_by c (λ w. lead_name w to other birth)) (takes_slot v from name before)))

  -- ---- the other file, after both

  no_directory : (t : ℕ) (p : Placed) (e : DirectoryPart) → at_number v.contents.nodes t ≡ Some p → p.part ≡ parts.Directory e → gone ≢ t
  no_directory t p e stands is same = cc (sym h.is ∙ (ap (λ (p : Placed). p.part) (same_Some h.placed p (sym h.stands ∙ (ap (at_number v.contents.nodes) same ∙ stands))) ∙ is))

  far_from : gone ≢ from
  far_from = no_directory from h.leaves.place.placed h.leaves.place.part h.leaves.place.stands h.leaves.place.is

  far_to : gone ≢ to
  far_to = no_directory to h.place.placed h.place.part h.place.stands h.place.is

  gone_first : at_number first.volume.contents.nodes gone ≡ Some h.placed
  gone_first = at_put_number_apart v.contents.nodes from _ gone far_from ∙ h.stands

  gone_stands : at_number second.volume.contents.nodes gone ≡ Some h.placed
  gone_stands = at_put_number_apart first.volume.contents.nodes to _ gone far_to ∙ gone_first

  abbrev both : Change
  both = followed_by (take_name v from name) (λ w. lead_name w to other birth)

  both_is : both ≡ told_after first.touched second
  both_is = ap (λ c. followed_by c (λ w. lead_name w to other birth)) (takes_slot v from name before) ∙ ap (told_after first.touched) lead_is

  module _ (x : VolumeNow) (x_is : x ≡ both.volume) where
    x_as : x ≡ second.volume
    x_as = x_is ∙ ap (λ (c : Change). c.volume) both_is

    there : at_number x.contents.nodes gone ≡ Some h.placed
    there = ap (λ (x : VolumeNow). at_number x.contents.nodes gone) x_as ∙ gone_stands

    pub some_number : (q : Placed) → at_number x.contents.nodes gone ≡ Some q → 0 < q.number
    some_number q at = subst (λ (p : Placed). 0 < p.number) (same_Some h.placed q (sym there ∙ at)) (h.leaves.plain.in_use.volume.0.each gone h.placed h.stands).some

    -- the blocks that were counted
    pub same_blocks : (q : Placed) → at_number x.contents.nodes gone ≡ Some q → blocks_in q.part ≡ blocks_in h.placed.part
    same_blocks q at = ap (λ (p : Placed). blocks_in p.part) (same_Some q h.placed (sym at ∙ there))

    zones_first : (y : Place) → zone_in first.volume.contents.blocks h.placed.inode y ≡ zone_in v.contents.blocks h.placed.inode y
    zones_first = zones_beside v h.leaves.plain.in_use from before.placed before.stands (place_in_slots name before.part.slots) None (left v from name before) gone h.placed far_from h.stands

    zones_second : (y : Place) → zone_in second.volume.contents.blocks h.placed.inode y ≡ zone_in first.volume.contents.blocks h.placed.inode y
    zones_second = zones_beside first.volume in_use to target.node target.stands (place_in_slots other target.part.slots) (Some s) (with_child target.part (place_in_slots other target.part.slots) s birth) gone h.placed far_to gone_first

    pub may_go : (tx : ℕ) (metadata : List ℕ) → ((q : Placed) → at_number v.contents.nodes gone ≡ Some q → metadata ≡ metadata_gone v.contents q q.part) → MayDrop x tx gone metadata
    may_go tx metadata listed = subst (λ x. MayDrop x tx gone metadata) (sym x_as)
        (may_drop tx second.volume in_use2 gone h.placed gone_stands metadata
        (listed h.placed h.stands
        ∙ sym (metadata_kept first.volume.contents second.volume.contents h.placed zones_second ∙ metadata_kept v.contents first.volume.contents h.placed zones_first)) _ _ _
        (lists_of_file second.volume in_use2.volume gone h.placed gone_stands h.blocks h.is))

    -- ---- what its link is

    pub keeps_one : (tx : ℕ) (links : ℕ) → ((q : Placed) → at_number v.contents.nodes gone ≡ Some q → links ≡ q.inode.links) → 1 < links → (start touched : Touched) (last : VolumeNow) →
        After start (set_links x gone (λ links. links - 1)) last touched → After start (lose_link x tx gone) last touched
    keeps_one tx links told = link_lost x gone h.placed there tx links (told h.placed h.stands)

    pub keeps_none : (tx : ℕ) (links : ℕ) → ((q : Placed) → at_number v.contents.nodes gone ≡ Some q → links ≡ q.inode.links) → links ≤ 1 → (start touched : Touched) (last : VolumeNow) →
        After start (drop_node x tx gone) last touched → After start (lose_link x tx gone) last touched
    keeps_none tx links told = node_lost x gone h.placed there tx links (told h.placed h.stands)

  -- the call as the code does it
  pub replaced : (tx : ℕ) → followed_by both (λ w. lose_link w tx gone) ≡ replace_in v tx from name to other birth gone
  replaced tx = ap (λ t. record { volume = (followed_by both (λ w. lose_link w tx gone)).volume; touched = t }) (and_assoc (take_name v from name).touched (lead_name (take_name v from name).volume to other birth).touched (lose_link both.volume tx gone).touched)
