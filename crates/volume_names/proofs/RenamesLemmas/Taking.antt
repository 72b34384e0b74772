-- A name that goes, where another one has come in memory.
use Rattle.std.specs.Prelude.{◌≡◌, ◌≢◌, ◌*◌, ℕ, List, length, slice_set, None, refl}
use Rattle.std.proofs.Common.{sym, ap, ◌∙◌}
use Rattle.minix_layout.specs.Widths.{slot_size}
use Rattle.tree_model.specs.laws.MapsLaws.{at_put_number, at_put_number_apart}
use Rattle.tree_model.specs.laws.MapOrder.{NamesInOrder, in_order_put}
use Rattle.volume_model.specs.declared.placed.Placed.{Placed}
use Rattle.volume_model.specs.declared.placed.Part.{Part}
use Rattle.volume_model.specs.declared.placed.Part.TheVariants as parts
use Rattle.volume_model.specs.declared.placed.DirectoryPart.{DirectoryPart}
use Rattle.volume_model.specs.Moves.{with_size}
use Rattle.volume_steps.specs.Now.{VolumeNow, Change}
use Rattle.volume_steps.specs.Steps.{take_name, place_of as place_in_slots}
use Rattle.volume_names.specs.removals.code.Naming.{HasSlot, slot_change, without_slot}
use Rattle.volume_names.proofs.RemovalsLemmas.NameTaken.{taken_slot, takes_slot}
use Rattle.volume_names.specs.renames.code.Parts.{part_put, name_put}
use Rattle.volume_names.proofs.RenamesLemmas.NameMaps.{gone_then_put}
use Rattle.volume_names.proofs.RenamesLemmas.Parts.{slot_beside, slot_over, slot_then}

module _ (v : VolumeNow) (n : ℕ) (name : List ℕ) (h : HasSlot v n name) where
  abbrev p : Placed
  p = h.placed

  abbrev d : DirectoryPart
  d = h.part

  abbrev k : ℕ
  k = place_in_slots name d.slots

  -- ---- another node has changed

  abbrev pub slot_stays : (m : ℕ) (q : Placed) (part : Part) → n ≢ m → HasSlot (part_put v m q part) n name
  slot_stays m q part apart = record {
    order = in_order_put v.contents.nodes m _ h.order;
    width = h.width;
    placed = p;
    part = d;
    stands = at_put_number_apart v.contents.nodes m _ n apart ∙ h.stands;
    is = h.is;
    size = h.size;
    fits = h.fits;
    once = h.once;
    place = h.place;
    has = h.has;
  }

  pub takes_beside : (m : ℕ) (q : Placed) (part : Part) → n ≢ m →
      take_name (part_put v m q part) n name ≡ record { volume = part_put (take_name v n name).volume m q part; touched = (take_name v n name).touched }
  takes_beside m q part apart =
      takes_slot (part_put v m q part) n name (slot_stays m q part apart)
      ∙ (slot_beside v h.order n p k None (without_slot d k name) m q part (λ e. apart (sym e))
      ∙ ap (λ (c : Change). record { volume = part_put c.volume m q part; touched = c.touched }) (sym (takes_slot v n name h)))

  -- ---- the directory itself has, and not in its slots

  abbrev pub slot_over_names : (parent : ℕ) (names : List (List ℕ × ℕ)) → HasSlot (part_put v n p (parts.Directory (record { parent = parent; width = d.width; names = names; slots = d.slots }))) n name
  slot_over_names parent names = record {
    order = in_order_put v.contents.nodes n _ h.order;
    width = h.width;
    placed = record { number = p.number; inode = p.inode; part = parts.Directory (record { parent = parent; width = d.width; names = names; slots = d.slots }) };
    part = record { parent = parent; width = d.width; names = names; slots = d.slots };
    stands = at_put_number v.contents.nodes n _;
    is = refl;
    size = h.size;
    fits = h.fits;
    once = h.once;
    place = h.place;
    has = h.has;
  }

  abbrev pub left : DirectoryPart
  left = without_slot d k name

  abbrev pub left_node : Placed
  left_node = record { number = p.number; inode = with_size p.inode (slot_size v.geometry.width * length left.slots); part = parts.Directory left }

  -- it has another name
  module _ (other : List ℕ) (birth : ℕ) where
    pub takes_named : NamesInOrder d.names → name ≢ other →
        take_name (part_put v n p (parts.Directory (name_put d other birth))) n name
        ≡ record { volume = part_put (taken_slot v n name h).volume n left_node (parts.Directory (name_put left other birth)); touched = (taken_slot v n name h).touched }
    takes_named order apart =
        takes_slot (part_put v n p (parts.Directory (name_put d other birth))) n name (slot_over_names d.parent (name_put d other birth).names)
        ∙ (slot_over v h.order n p k None (without_slot (name_put d other birth) k name) (parts.Directory (name_put d other birth))
        ∙ (ap (λ names. slot_change v n p k None (record { parent = d.parent; width = d.width; names = names; slots = slice_set d.slots k None })) (gone_then_put d.names name other birth order apart)
        ∙ sym (slot_then v h.order n p k None left (name_put left other birth) refl)))
