-- What single steps of a call make of the blocks that they touch.
use Rattle.std.specs.Prelude.{◌≡◌, ◌≢◌, ◌*◌, ◌/◌, ◌%◌, ◌<◌, ◌≤◌, ℕ, List, length, slice_set, Option, Some, None, Result, Ok}
use Rattle.std.specs.List.Sorted.{IsStrictlySortedBy}
use Rattle.std.specs.Map.{keys_of}
use Rattle.std.proofs.Common.{sym, ap, subst, ◌∙◌, inl, inr, arith}
use Rattle.std.proofs.lemmas.List.{length-set}
use Rattle.blk_base.specs.Members.{In}
use Rattle.byte_fields.specs.Fields.{record_at}
use Rattle.minix_layout.specs.declared.division.Geometry.{Geometry}
use Rattle.minix_layout.specs.declared.inode.Inode.{Inode}
use Rattle.minix_layout.specs.Geometry.{IsSound}
use Rattle.minix_layout.specs.Slots.{slot_of}
use Rattle.minix_layout.specs.laws.Places.{place_low, form_is}
use Rattle.minix_layout.specs.declared.slot.Slot.{Slot}
use Rattle.minix_layout.specs.declared.fault.LayoutFault.{LayoutFault}
use Rattle.minix_layout.specs.Widths.{slot_size, slots_a_block}
use Rattle.tree_model.specs.Maps.{at_number, at_name, name_cmp}
use Rattle.volume_ops.specs.Volume.{disk_of}
use Rattle.volume_model.specs.declared.placed.Placed.{Placed}
use Rattle.volume_model.specs.declared.placed.Part.TheVariants as parts
use Rattle.volume_model.specs.declared.placed.DirectoryPart.{DirectoryPart}
use Rattle.volume_model.specs.Edits.{put_slot, edited}
use Rattle.volume_model.specs.Moves.{inode_back, with_size}
use Rattle.volume_model.specs.Volume.{block, zone_in, IsDirectoryPart, IsPart}
use Rattle.volume_model.specs.laws.Back.{back_apart}
use Rattle.volume_model.specs.laws.Changes.{table_below}
use Rattle.volume_model.specs.laws.Edits.{slot_here}
use Rattle.volume_steps.specs.Now.{VolumeNow, Change}
use Rattle.volume_steps.specs.Plain.{IsInUse}
use Rattle.volume_steps.proofs.NameSteps.{NameStands, k, w, taken}
use Rattle.vol_check.proofs.KeptCleanLemmas.ChangedLemmas.Ends.{told_differs}

-- ---- an inode is written back

-- no zone of data is
pub back_high : (g : Geometry) (blocks : List (List ℕ)) (p : Placed) (i : Inode) → IsSound g → 0 < p.number → p.number ≤ g.inodes → (b : ℕ) → g.first ≤ b → disk_of (inode_back g blocks p i) b ≡ disk_of blocks b
back_high g blocks p i sound some within b low =
    let t = (table_below g p.number sound some within).1 in
    back_apart g blocks p i b (λ e. (omega arith))

-- ---- a name goes

module _ (tx : ℕ) (v : VolumeNow) (in_use : IsInUse v) (n : ℕ) (p : Placed) (at : at_number v.contents.nodes n ≡ Some p) (d : DirectoryPart) (is : p.part ≡ parts.Directory d)
    (name : List ℕ) (birth : ℕ) (found : at_name d.names name ≡ Some birth) (sorted : IsStrictlySortedBy name_cmp (keys_of d.names)) where
  abbrev g : Geometry
  g = v.geometry

  abbrev place : ℕ
  place = k tx v in_use n p at d is name birth found sorted

  stood : NameStands d.slots name
  stood = w tx v in_use n p at d is name birth found sorted

  abbrev change : Change
  change = taken tx v in_use n p at d is name birth found sorted

  -- the zone in which its slot stands
  abbrev slot_zone : ℕ
  slot_zone = zone_in v.contents.blocks p.inode (block (place / slots_a_block g.width))

  part : IsDirectoryPart g v.contents.blocks p.inode d
  part = subst (IsPart g v.contents.blocks p.inode) is (in_use.volume.0.each n p at).part

  slot_range : (g.first ≤ slot_zone) × (slot_zone < g.zones)
  slot_range = (in_use.volume.0.each n p at).zones (block (place / slots_a_block g.width)) (part.slots place (Some stood.slot) stood.stands).mapped

  -- the size stays, so the inode does
  size_same : with_size p.inode (slot_size g.width * length (slice_set d.slots place None)) ≡ p.inode
  size_same = by (ap (λ slots. slot_size g.width * slots) (length-set d.slots place None) ∙ sym part.size)
    where
      by : slot_size g.width * length (slice_set d.slots place None) ≡ p.inode.size → with_size p.inode (slot_size g.width * length (slice_set d.slots place None)) ≡ p.inode
      by e = λ i. record { mode = p.inode.mode; uid = p.inode.uid; size = e i; time = p.inode.time; gid = p.inode.gid; links = p.inode.links; zones = p.inode.zones }

  take_told : (b : ℕ) → In b change.touched.blocks → b ≡ slot_zone
  take_told b (inl e) = sym e
  take_told b (inr j) = absurd (told_differs g p _ b j size_same)

  take_differs : disk_of change.volume.contents.blocks slot_zone ≢ disk_of v.contents.blocks slot_zone
  take_differs same =
      let told = in_use.volume.0.each n p at in
      let high = slot_range.1 in
      let size = in_use.volume.0.size in
      let old = (part.slots place (Some stood.slot) stood.stands).stands in
      let now = slot_here g in_use.sound.width v.contents.blocks slot_zone (place % slots_a_block g.width) None in_use.volume.0.whole (omega arith) (place_low (slot_size g.width) (slots_a_block g.width) (form_is g.width) place) tt in
      let kept = back_high g (edited g v.contents.blocks (put_slot slot_zone (place % slots_a_block g.width) None)) p (with_size p.inode (slot_size g.width * length (slice_set d.slots place None))) in_use.sound told.some told.within slot_zone slot_range.0 in
      free_is_free stood.slot (sym now ∙ (ap (λ body. slot_of g.width (record_at (slot_size g.width) (place % slots_a_block g.width) body)) (sym kept ∙ same) ∙ old))
    where
      free_is_free : (s : Slot) → ◌≡◌ {A = Result (Option Slot) LayoutFault} (Ok None) (Ok (Some s)) → ⊥
      free_is_free s e = cc

  -- the block of its slot differs, where no zone of data changes after the name went
  pub take_changed : (after : List (List ℕ)) → ((b : ℕ) → g.first ≤ b → disk_of after b ≡ disk_of change.volume.contents.blocks b) → (b : ℕ) → In b change.touched.blocks → disk_of after b ≢ disk_of v.contents.blocks b
  take_changed after high b i = subst (λ b. disk_of after b ≢ disk_of v.contents.blocks b) (sym (take_told b i)) (λ same. take_differs (sym (high slot_zone slot_range.0) ∙ same))
