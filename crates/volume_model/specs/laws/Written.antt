-- Frame: what stands in blocks that were not changed stands there as before.
use Rattle.std.specs.Prelude.{◌≡◌, ◌≢◌, ℕ, ◌/◌, ◌%◌, List, Option}
use Rattle.std.proofs.Common.{sym, ap, subst, ◌∙◌}
use Rattle.blk_base.specs.Members.{In}
use Rattle.byte_fields.specs.Fields.{record_at}
use Rattle.minix_layout.specs.Widths.{slot_size, slots_a_block}
use Rattle.minix_layout.specs.declared.division.Geometry.{Geometry}
use Rattle.minix_layout.specs.declared.inode.Inode.{Inode}
use Rattle.minix_layout.specs.declared.slot.Slot.{Slot}
use Rattle.minix_layout.specs.Slots.{slot_of}
use Rattle.volume_ops.specs.Volume.{disk_of}
use Rattle.volume_ops.specs.VolumeFields.{inode_at, zone_behind}
use Rattle.volume_model.specs.declared.placed.Placed.{Placed}
use Rattle.volume_model.specs.declared.placed.Part.{Part}
use Rattle.volume_model.specs.declared.placed.Part.TheVariants as parts
use Rattle.volume_model.specs.Volume.{Place, block, zone_in, HasSlot, IsPart, IsStored}
use Rattle.volume_model.specs.laws.Zones.{zones_kept}

module _ (blocks after : List (List ℕ)) (i : Inode) (same : (x : Place) → zone_in blocks i x ≢ 0 → disk_of after (zone_in blocks i x) ≡ disk_of blocks (zone_in blocks i x)) where
  pub zone_kept : (x : Place) → zone_in after i x ≡ zone_in blocks i x
  zone_kept = zones_kept blocks after i (λ x _ some. same x some)

  module _ (g : Geometry) where
    slot_kept : (k : ℕ) (s : Option Slot) → HasSlot g blocks i k s → HasSlot g after i k s
    slot_kept k s h =
        let zone : zone_behind after i (k / slots_a_block g.width) ≡ zone_behind blocks i (k / slots_a_block g.width) = zone_kept (block (k / slots_a_block g.width)) in
        record {
          mapped = λ none. h.mapped (sym zone ∙ none);
          stands = ap (λ z. slot_of g.width (record_at (slot_size g.width) (k % slots_a_block g.width) (disk_of after z))) zone ∙ ap (λ body. slot_of g.width (record_at (slot_size g.width) (k % slots_a_block g.width) body)) (same (block (k / slots_a_block g.width)) h.mapped) ∙ h.stands;
        }

    pub part_kept : (p : Part) → IsPart g blocks i p → IsPart g after i p
    part_kept (parts.Directory d) h = record { kind = h.kind; width = h.width; size = h.size; slots = λ k s at. slot_kept k s (h.slots k s at) }
    part_kept (parts.File zones) h = record {
      kind = h.kind;
      listed = λ x i. (zone_kept (block x.index) ∙ (h.listed x i).0, (h.listed x i).1);
      full = λ index some.
          let same = zone_kept (block index) in
          subst (λ zone. In (record { index = index; zone = zone }) zones) (sym same) (h.full index (λ none. some (same ∙ none)));
      rising = h.rising;
    }

-- A node stands as before, where its inode and all its zones do.
pub stored_kept : (g : Geometry) (blocks after : List (List ℕ)) (p : Placed) → IsStored g blocks p →
    inode_at g after p.number ≡ inode_at g blocks p.number →
    ((x : Place) → zone_in blocks p.inode x ≢ 0 → disk_of after (zone_in blocks p.inode x) ≡ disk_of blocks (zone_in blocks p.inode x)) →
    IsStored g after p
stored_kept g blocks after p h inode same =
    let zone = zone_kept blocks after p.inode same in
    record {
      some = h.some;
      within = h.within;
      fits = h.fits;
      inode = inode ∙ h.inode;
      zones = λ x some. rw (zone x) (h.zones x (λ none. some (zone x ∙ none)));
      part = part_kept blocks after p.inode same g p.part h.part;
    }
