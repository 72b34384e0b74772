-- After a name was taken out of a directory, or a link from it: other nodes are as before, with their zones.
use Rattle.std.specs.Prelude.{◌≡◌, ◌≢◌, ◌-◌, ◌≤◌, ℕ, List, Option, Some, None, refl}
use Rattle.std.specs.List.Sorted.{IsStrictlySortedBy}
use Rattle.std.specs.Map.{keys_of}
use Rattle.std.proofs.Common.{ap, ◌∙◌, arith}
use Rattle.minix_layout.specs.declared.slot.Slot.{Slot}
use Rattle.tree_model.specs.Maps.{at_number, name_cmp}
use Rattle.tree_model.specs.laws.MapsLaws.{at_put_number_apart}
use Rattle.volume_ops.specs.Places.{table_block}
use Rattle.volume_model.specs.declared.placed.Placed.{Placed}
use Rattle.volume_model.specs.declared.placed.DirectoryPart.{DirectoryPart}
use Rattle.volume_model.specs.Edits.{put_slot}
use Rattle.volume_model.specs.Moves.{without_name}
use Rattle.volume_model.specs.laws.Changes.{table_below}
use Rattle.volume_model.specs.laws.Edits.{edited_elsewhere}
use Rattle.volume_model.specs.laws.Written.{zone_kept}
use Rattle.volume_model.specs.Trees.{directory_from, node_from}
use Rattle.volume_model.specs.Volume.{Place, block, zone_in}
use Rattle.volume_steps.specs.Now.{VolumeNow, Change}
use Rattle.volume_steps.specs.Plain.{IsInUse, IsPlainNow}
use Rattle.volume_steps.specs.Steps.{place_of, set_links, take_name}
use Rattle.volume_steps.proofs.NameSteps.{taken, w, taken_steady, taken_settled, taken_slotted, take_name_is}
use Rattle.volume_steps.proofs.NodeSteps.{IsSettled, AreSlotted}
use Rattle.volume_steps.proofs.PlainNow.{tree_is_plain}
use Rattle.volume_steps.proofs.QuietSteps.{linked, linked_steady, linked_slotted, set_links_is}
use Rattle.volume_steps.proofs.TreeSteps.{tree_at}
use Rattle.volume_names.specs.removals.May.{HasName}
use Rattle.volume_names.specs.removals.code.Naming.{CanTake, slot_change}
use Rattle.volume_model.specs.laws.Back.{back_apart}

-- a zone of a node lies behind the table
zone_high : (v : VolumeNow) (h : IsInUse v) (a : ℕ) (r p : Placed) (n : ℕ) → at_number v.contents.nodes a ≡ Some r → at_number v.contents.nodes n ≡ Some p → (x : Place) → zone_in v.contents.blocks r.inode x ≢ 0 →
    zone_in v.contents.blocks r.inode x ≢ table_block v.geometry p.number
zone_high v h a r p n found at x some same =
    let low = ((h.volume.0.each a r found).zones x some).0 in
    let told = h.volume.0.each n p at in
    let high = (table_below v.geometry p.number h.sound told.some told.within).1 in
    omega arith

-- a slot that is written leaves the zones of other nodes as they are
pub zones_beside : (v : VolumeNow) (h : IsInUse v) (n : ℕ) (p : Placed) → at_number v.contents.nodes n ≡ Some p → (k : ℕ) (o : Option Slot) (next : DirectoryPart) (a : ℕ) (r : Placed) → a ≢ n →
    at_number v.contents.nodes a ≡ Some r → (x : Place) → zone_in (slot_change v n p k o next).volume.contents.blocks r.inode x ≡ zone_in v.contents.blocks r.inode x
zones_beside v h n p at k o next a r apart found = zone_kept v.contents.blocks (slot_change v n p k o next).volume.contents.blocks r.inode (λ x some.
    back_apart v.geometry _ p _ _ (zone_high v h a r p n found at x some)
    ∙ edited_elsewhere v.geometry v.contents.blocks (put_slot (zone_in v.contents.blocks p.inode (block _)) _ _) _
    (λ same. apart (h.volume.0.zones a n r p x (block _) found at same some).0))

-- names of a plain directory stand in order
pub names_sorted : (v : VolumeNow) (h : IsPlainNow v) (parent : ℕ) (name : List ℕ) (birth : ℕ) (place : HasName v parent name birth) → IsStrictlySortedBy name_cmp (keys_of place.part.names)
names_sorted v h parent name birth place =
    (tree_is_plain v h).rooted.names_in_order parent (directory_from place.part)
    (tree_at v.contents.blocks v.contents.nodes parent place.placed place.stands ∙ ap (λ part. Some (node_from v.contents.blocks place.placed.inode part)) place.is)

pub can_take : (v : VolumeNow) (h : IsPlainNow v) (parent : ℕ) (name : List ℕ) (birth : ℕ) → HasName v parent name birth → CanTake v parent name
can_take v h parent name birth place = record { in_use = h.in_use; birth = birth; place = place; sorted = names_sorted v h parent name birth place }

-- ---- a name was taken

module _ (v : VolumeNow) (n : ℕ) (name : List ℕ) (h : CanTake v n name) where
  abbrev p : Placed
  p = h.place.placed

  abbrev pub less : Change
  less = taken 0 v h.in_use n p h.place.stands h.place.part h.place.is name h.birth h.place.named h.sorted

  pub less_is : take_name v n name ≡ less
  less_is = take_name_is 0 v h.in_use n p h.place.stands h.place.part h.place.is name h.birth h.place.named h.sorted

  pub less_in_use : IsInUse less.volume
  less_in_use = (taken_steady 0 v h.in_use n p h.place.stands h.place.part h.place.is name h.birth h.place.named h.sorted).in_use

  pub less_settled : IsSettled v.contents → IsSettled less.volume.contents
  less_settled = taken_settled 0 v h.in_use n p h.place.stands h.place.part h.place.is name h.birth h.place.named h.sorted

  pub less_slotted : AreSlotted v.geometry (λ a. ⊥) v.contents → AreSlotted v.geometry (λ a. ⊥) less.volume.contents
  less_slotted = taken_slotted 0 v h.in_use n p h.place.stands h.place.part h.place.is name h.birth h.place.named h.sorted

  -- another node stands there
  pub less_stands : (a : ℕ) (r : Placed) → a ≢ n → at_number v.contents.nodes a ≡ Some r → at_number less.volume.contents.nodes a ≡ Some r
  less_stands a r apart found = at_put_number_apart v.contents.nodes n _ a apart ∙ found

  -- with its zones
  pub less_zones : (a : ℕ) (r : Placed) → a ≢ n → at_number v.contents.nodes a ≡ Some r → (x : Place) → zone_in less.volume.contents.blocks r.inode x ≡ zone_in v.contents.blocks r.inode x
  less_zones = zones_beside v h.in_use n p h.place.stands (place_of name h.place.part.slots) None
      (without_name h.place.part (place_of name h.place.part.slots) (w 0 v h.in_use n p h.place.stands h.place.part h.place.is name h.birth h.place.named h.sorted).slot)

-- ---- a link was taken

module _ (v : VolumeNow) (h : IsInUse v) (n : ℕ) (p : Placed) (at : at_number v.contents.nodes n ≡ Some p) (few : p.inode.links ≤ 250) where
  pub fewer : p.inode.links - 1 ≤ 250
  fewer = omega arith

  abbrev pub fewer_links : Change
  fewer_links = linked 0 v h n p at (p.inode.links - 1) fewer

  pub fewer_is : set_links v n (λ links. links - 1) ≡ fewer_links
  fewer_is = set_links_is 0 v h n p at (p.inode.links - 1) fewer (λ links. links - 1) refl

  pub fewer_in_use : IsInUse fewer_links.volume
  fewer_in_use = (linked_steady 0 v h n p at (p.inode.links - 1) fewer).in_use

  pub fewer_slotted : AreSlotted v.geometry (λ a. ⊥) v.contents → AreSlotted v.geometry (λ a. ⊥) fewer_links.volume.contents
  fewer_slotted = linked_slotted 0 v h n p at (p.inode.links - 1) fewer

  pub fewer_stands : (a : ℕ) (r : Placed) → a ≢ n → at_number v.contents.nodes a ≡ Some r → at_number fewer_links.volume.contents.nodes a ≡ Some r
  fewer_stands a r apart found = at_put_number_apart v.contents.nodes n _ a apart ∙ found

  pub fewer_zones : (a : ℕ) (r : Placed) → at_number v.contents.nodes a ≡ Some r → (x : Place) → zone_in fewer_links.volume.contents.blocks r.inode x ≡ zone_in v.contents.blocks r.inode x
  fewer_zones a r found = zone_kept v.contents.blocks fewer_links.volume.contents.blocks r.inode (λ x some.
      back_apart v.geometry v.contents.blocks p _ _ (zone_high v h a r p n found at x some))
