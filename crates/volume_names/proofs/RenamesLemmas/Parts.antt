-- Steps that write a slot or an inode, where another part of a directory has changed in memory: they come to the same.
use Rattle.std.specs.Prelude.{◌≡◌, ◌≢◌, ◌*◌, ◌/◌, ◌%◌, ℕ, List, ◌∷◌, length, Option}
use Rattle.std.proofs.Common.{sym, ap, ◌∙◌}
use Rattle.minix_layout.specs.Widths.{slot_size, slots_a_block}
use Rattle.minix_layout.specs.declared.inode.Inode.{Inode}
use Rattle.minix_layout.specs.declared.slot.Slot.{Slot}
use Rattle.tree_model.specs.Maps.{put_number}
use Rattle.tree_model.specs.laws.MapOrder.{InOrder}
use Rattle.volume_model.specs.declared.placed.Placed.{Placed}
use Rattle.volume_model.specs.declared.placed.Part.{Part}
use Rattle.volume_model.specs.declared.placed.Part.TheVariants as parts
use Rattle.volume_model.specs.declared.placed.DirectoryPart.{DirectoryPart}
use Rattle.volume_model.specs.Edits.{put_slot, edited}
use Rattle.volume_model.specs.Volume.{block, zone_in}
use Rattle.volume_model.specs.Moves.{with_size, inode_back, back_told}
use Rattle.volume_steps.specs.Now.{VolumeNow, Change, tells_blocks}
use Rattle.volume_steps.specs.Steps.{inode_put, slot_told, tells_node}
use Rattle.volume_steps.proofs.Files.{put_twice}
use Rattle.volume_names.proofs.Changed.{volume_of}
use Rattle.volume_names.proofs.Links.{put_either}
use Rattle.volume_names.specs.removals.code.Naming.{slot_change}
use Rattle.volume_names.specs.renames.code.Parts.{part_put}

-- an inode is written
abbrev pub inode_change : VolumeNow → ℕ → Placed → Inode → Change
inode_change v n p i = record { volume = inode_put v n p i; touched = tells_blocks (back_told v.geometry p i) }

module _ (v : VolumeNow) (order : InOrder v.contents.nodes) (n : ℕ) (p : Placed) where
  abbrev with_part : Part → Placed
  with_part part = record { number = p.number; inode = p.inode; part = part }

  -- ---- a slot

  abbrev slot_blocks : ℕ → Option Slot → ℕ → List (List ℕ)
  slot_blocks k o slots = inode_back v.geometry (edited v.geometry v.contents.blocks (put_slot (zone_in v.contents.blocks p.inode (block (k / slots_a_block v.geometry.width))) (k % slots_a_block v.geometry.width) o)) p (with_size p.inode (slot_size v.geometry.width * slots))

  abbrev slot_end : ℕ → Part → Placed
  slot_end slots part = record { number = p.number; inode = with_size p.inode (slot_size v.geometry.width * slots); part = part }

  module _ (k : ℕ) (o : Option Slot) (next : DirectoryPart) where
    abbrev slots : ℕ
    slots = length next.slots

    abbrev ended : List (ℕ × Placed) → Change
    ended nodes = record { volume = volume_of v.geometry (slot_blocks k o slots) nodes v.zones; touched = tells_node n (slot_told v p k next) }

    -- another node has changed
    pub slot_beside : (m : ℕ) (q : Placed) (part : Part) → m ≢ n →
        slot_change (part_put v m q part) n p k o next ≡ record { volume = part_put (slot_change v n p k o next).volume m q part; touched = (slot_change v n p k o next).touched }
    slot_beside m q part apart = ap ended (put_either v.contents.nodes m n (record { number = q.number; inode = q.inode; part = part }) (slot_end slots (parts.Directory next)) order apart)

    -- the directory itself has
    pub slot_over : (part : Part) → slot_change (part_put v n p part) n (with_part part) k o next ≡ slot_change v n p k o next
    slot_over part = ap ended (put_twice v.contents.nodes n (with_part part) (slot_end slots (parts.Directory next)) order)

    -- it changes afterwards
    pub slot_then : (after : DirectoryPart) → length after.slots ≡ slots →
        record { volume = part_put (slot_change v n p k o next).volume n (slot_end slots (parts.Directory next)) (parts.Directory after); touched = (slot_change v n p k o next).touched }
        ≡ slot_change v n p k o after
    slot_then after long =
        ap ended (put_twice v.contents.nodes n (slot_end slots (parts.Directory next)) (slot_end slots (parts.Directory after)) order)
        ∙ ap (λ slots. record {
          volume = volume_of v.geometry (slot_blocks k o slots) (put_number v.contents.nodes n (slot_end slots (parts.Directory after))) v.zones;
          touched = tells_node n (zone_in v.contents.blocks p.inode (block (k / slots_a_block v.geometry.width)) ∷ back_told v.geometry p (with_size p.inode (slot_size v.geometry.width * slots)));
        }) (sym long)

  -- ---- an inode

  module _ (i : Inode) where
    abbrev changed : List (ℕ × Placed) → Change
    changed nodes = record { volume = volume_of v.geometry (inode_back v.geometry v.contents.blocks p i) nodes v.zones; touched = tells_blocks (back_told v.geometry p i) }

    abbrev inode_end : Part → Placed
    inode_end part = record { number = p.number; inode = i; part = part }

    pub inode_beside : (m : ℕ) (q : Placed) (part : Part) → m ≢ n →
        inode_change (part_put v m q part) n p i ≡ record { volume = part_put (inode_change v n p i).volume m q part; touched = (inode_change v n p i).touched }
    inode_beside m q part apart = ap changed (put_either v.contents.nodes m n (record { number = q.number; inode = q.inode; part = part }) (inode_end p.part) order apart)

    pub inode_over : (part : Part) →
        inode_change (part_put v n p part) n (with_part part) i ≡ record { volume = part_put (inode_change v n p i).volume n (inode_end p.part) part; touched = (inode_change v n p i).touched }
    inode_over part = ap changed
        (put_twice v.contents.nodes n (with_part part) (inode_end part) order ∙ sym (put_twice v.contents.nodes n (inode_end p.part) (inode_end part) order))
