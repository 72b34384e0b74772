-- A node that gets a name in another directory.
use Rattle.std.specs.Prelude.{◌≡◌, ◌<◌, ◌^◌, ℕ, List, Some, None}
use Rattle.std.proofs.Common.{sym, ap, subst, ◌∙◌, arith}
use Rattle.minix_layout.specs.declared.slot.Slot.{Slot}
use Rattle.minix_tables.specs.directories.Slots.{place_of}
use Rattle.tree_model.specs.Maps.{at_number, at_name}
use Rattle.tree_model.proofs.Hanging.{IsGoodName}
use Rattle.volume_model.specs.declared.placed.Placed.{Placed}
use Rattle.volume_model.specs.declared.placed.Part.{Part}
use Rattle.volume_model.specs.declared.placed.Part.TheVariants as parts
use Rattle.volume_model.specs.declared.placed.DirectoryPart.{DirectoryPart}
use Rattle.volume_model.specs.Moves.{with_name}
use Rattle.volume_model.specs.Touched.{Touched, and_then}
use Rattle.volume_steps.specs.Now.{VolumeNow, Change, followed_by}
use Rattle.volume_steps.specs.Steps.{take_name, add_name}
use Rattle.volume_steps.specs.Calls.{move_in}
use Rattle.volume_steps.proofs.CallPaths.{good_no_dot, good_entry}
use Rattle.volume_steps.proofs.PlainNow.{settled_before, slotted_before}
use Rattle.volume_names.specs.declared.directories.NewSlot.{NewSlot}
use Rattle.volume_names.specs.code.NewSlot.{new_slot}
use Rattle.volume_names.specs.code.Steps.{MayWrite, entered, name_written}
use Rattle.volume_names.proofs.Changed.{volume_of}
use Rattle.volume_names.proofs.Creates.{good, fits_volume, free_slot, free_name}
use Rattle.volume_names.proofs.NameRooms.{NameRoom, wide, may_write}
use Rattle.volume_names.proofs.Named.{named}
use Rattle.volume_names.specs.removals.code.Naming.{CanTake, HasSlot}
use Rattle.volume_names.proofs.RemovalsLemmas.NameTaken.{has_slot}
use Rattle.volume_names.proofs.RemovalsLemmas.Taken.{can_take, less, less_is, less_in_use, less_settled, less_slotted, less_stands}
use Rattle.volume_names.specs.renames.May.{MayMoveAcross}
use Rattle.volume_names.specs.renames.code.Parts.{part_put}
use Rattle.volume_names.proofs.RenamesLemmas.Taking.{slot_stays, takes_beside}

-- what was touched before comes first
abbrev pub told_after : Touched → Change → Change
told_after before c = record { volume = c.volume; touched = and_then before c.touched }

-- a name's slot that was made for a number of an inode
pub same_slot : (slot : Slot) (made number is : ℕ) (name : List ℕ) → slot ≡ record { inode = made; name = name } → made ≡ number → number ≡ is → slot ≡ record { inode = is; name = name }
same_slot slot made number is name e f g = e ∙ ap (λ inode. record { inode = inode; name = name }) (f ∙ g)

module _ (v : VolumeNow) (from : ℕ) (name : List ℕ) (to : ℕ) (other : List ℕ) (birth : ℕ) (h : MayMoveAcross v from name to other birth) where
  abbrev pub q : Placed
  q = h.place.placed

  abbrev pub d : DirectoryPart
  d = h.place.part

  abbrev pub child : Placed
  child = h.leaves.child

  pub takes : CanTake v from name
  takes = can_take v h.leaves.plain from name birth h.leaves.place

  abbrev pub s : Slot
  s = record { inode = child.number; name = other }

  -- the new parent in memory
  abbrev pub X : Part
  X = parts.Directory (with_name d s birth)

  abbrev pub v1 : VolumeNow
  v1 = (less v from name takes).volume

  pub no_place : (p : Placed) (d : DirectoryPart) → at_number v.contents.nodes to ≡ Some p → p.part ≡ parts.Directory d → place_of d.slots other ≡ None
  no_place = free_slot v to other h.place (λ p d at is. h.leaves.plain.in_use.volume.0.names to p d at is)

  pub no_name : (p : Placed) (d : DirectoryPart) → at_number v.contents.nodes to ≡ Some p → p.part ≡ parts.Directory d → at_name d.names other ≡ None
  no_name = free_name v to other h.place

  pub good_name : IsGoodName other
  good_name = good v to other h.place

  pub to_stands : at_number v1.contents.nodes to ≡ Some q
  to_stands = less_stands v from name takes to q (λ e. h.away (sym e)) h.place.stands

  pub child_stands : at_number v1.contents.nodes birth ≡ Some child
  child_stands = less_stands v from name takes birth child h.leaves.apart h.leaves.stands

  pub some : 0 < child.number
  some = (h.leaves.plain.in_use.volume.0.each birth child h.leaves.stands).some

  pub fits : child.number < 2 ^ 16
  fits = (let within = (h.leaves.plain.in_use.volume.0.each birth child h.leaves.stands).within in let fit = h.leaves.plain.in_use.sound.fits.inodes in omega arith)

  abbrev room : NameRoom v1 to other birth
  room = record {
    in_use = less_in_use v from name takes;
    placed = q;
    stands = to_stands;
    part = d;
    is = h.place.is;
    child = child;
    at_child = child_stands;
    apart = h.apart;
    free = h.place.free;
    no_dot = good_no_dot other good_name;
    entry = good_entry v.geometry.width other child.number h.leaves.plain.in_use.sound.width good_name (fits_volume v to other h.place h.leaves.plain.in_use) some fits;
    settled = less_settled v from name takes (settled_before v h.leaves.plain);
    slotted = less_slotted v from name takes (slotted_before v h.leaves.plain);
    left = h.place.left;
    enough = (let zones = h.zones in omega arith);
  }

  -- ---- in memory

  module _ (slot : Slot) (slot_is : slot ≡ s) (nodes : List (ℕ × Placed)) (nodes_are : nodes ≡ entered v.contents.nodes to q d slot birth) (at : NewSlot) (at_is : at ≡ new_slot d slot) where
    abbrev pub entered_volume : VolumeNow
    entered_volume = volume_of v.geometry v.contents.blocks nodes v.zones

    pub entered_is : entered_volume ≡ part_put v to q X
    entered_is = ap (λ nodes. volume_of v.geometry v.contents.blocks nodes v.zones) (nodes_are ∙ ap (λ slot. entered v.contents.nodes to q d slot birth) slot_is)

    pub place_is : at ≡ new_slot d s
    place_is = at_is ∙ ap (new_slot d) slot_is

    pub may_take : HasSlot entered_volume from name
    may_take = subst (λ u. HasSlot u from name) (sym entered_is) (slot_stays v from name (has_slot v from name takes) to q X h.away)

    pub taken_is : take_name entered_volume from name ≡ record { volume = part_put v1 to q X; touched = (less v from name takes).touched }
    taken_is =
        ap (λ u. take_name u from name) entered_is
        ∙ (takes_beside v from name (has_slot v from name takes) to q X h.away
        ∙ ap (λ (c : Change). record { volume = part_put c.volume to q X; touched = c.touched }) (less_is v from name takes))

    pub may_be_written : (w : VolumeNow) → w ≡ (take_name entered_volume from name).volume → MayWrite w to slot at
    may_be_written w e =
        subst (λ w. MayWrite w to slot at) (sym (e ∙ ap (λ (c : Change). c.volume) taken_is))
        (subst (λ slot. MayWrite (part_put v1 to q X) to slot at) (sym slot_is) (subst (MayWrite (part_put v1 to q X) to s) (sym place_is) (may_write v1 to other birth room)))

    -- the call as the code does it
    pub moved : followed_by (take_name entered_volume from name) (λ w. name_written w to slot at) ≡ move_in v from name to other birth
    moved =
        ap (λ c. followed_by c (λ w. name_written w to slot at)) taken_is
        ∙ (ap (told_after (less v from name takes).touched)
        (ap (λ slot. name_written (part_put v1 to q X) to slot at) slot_is
        ∙ (ap (name_written (part_put v1 to q X) to s) place_is
        ∙ named v1 to q d other birth child (less_in_use v from name takes).volume.0.in_order to_stands h.place.is child_stands h.apart (wide v1 to other birth room)))
        ∙ sym (ap (λ c. followed_by c (λ w. add_name w to other birth)) (less_is v from name takes)))
