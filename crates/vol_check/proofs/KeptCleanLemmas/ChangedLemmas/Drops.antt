-- What a node that goes makes of the blocks that it touches.
use Rattle.std.specs.Prelude.{◌≡◌, ◌≢◌, ◌+◌, ◌/◌, ◌<◌, ◌≤◌, ◌⊎◌, ℕ, false, List, [], ◌∷◌, ◌++◌, Some}
use Rattle.std.proofs.Common.{ap, ◌∙◌, inl, inr, arith}
use Rattle.std.proofs.lemmas.Bool.{false≢true}
use Rattle.blk_base.specs.Members.{In}
use Rattle.blk_base.specs.laws.Members.{In-append_cases}
use Rattle.minix_layout.specs.declared.division.Geometry.{Geometry}
use Rattle.minix_layout.specs.declared.inode.Inode.{Inode}
use Rattle.minix_layout.specs.Inodes.{zero_inode}
use Rattle.tree_model.specs.Maps.{at_number}
use Rattle.volume_ops.specs.Places.{table_block, is_file, is_directory}
use Rattle.volume_ops.specs.Volume.{disk_of}
use Rattle.volume_ops.specs.VolumeFields.{inode_at}
use Rattle.volume_model.specs.declared.placed.Placed.{Placed}
use Rattle.volume_model.specs.declared.placed.Part.{Part}
use Rattle.volume_model.specs.declared.placed.Part.TheVariants as parts
use Rattle.volume_model.specs.Edits.{Edit, put_inode, edited, touched_by, touched_by_all}
use Rattle.volume_model.specs.Moves.{node_removed}
use Rattle.volume_model.specs.Touched.{Contents}
use Rattle.volume_model.specs.Volume.{IsPart}
use Rattle.volume_model.specs.laws.Changes.{changes_bit, changes_then, table_below}
use Rattle.volume_model.specs.laws.Edits.{inode_here, edited_elsewhere}
use Rattle.volume_model.specs.laws.MapBlock.{changes_wider}
use Rattle.volume_model.specs.laws.Removed.{zero_fits}
use Rattle.volume_steps.specs.Now.{VolumeNow, written}
use Rattle.volume_steps.specs.Plain.{IsInUse}
use Rattle.volume_steps.specs.Steps.{drop_edits}
use Rattle.volume_steps.specs.Zones.{inode_bit, zone_bit}
use Rattle.volume_steps.proofs.Bits.{ChangesNone, AreZones, bits_change}
use Rattle.vol_check.proofs.KeptCleanLemmas.ChangedLemmas.Ends.{bits_told}

-- ---- a node goes

-- a node is a directory or a file, and no inode of zeros is
pub no_zero : (g : Geometry) (blocks : List (List ℕ)) (i : Inode) (part : Part) → IsPart g blocks i part → zero_inode ≢ i
no_zero g blocks i (parts.Directory d) is e = false≢true (ap (λ (i : Inode). is_directory i.mode) e ∙ is.kind)
no_zero g blocks i (parts.File zones) is e = false≢true (ap (λ (i : Inode). is_file i.mode) e ∙ is.kind)

module _ (v : VolumeNow) (in_use : IsInUse v) (n : ℕ) (p : Placed) (at : at_number v.contents.nodes n ≡ Some p) (gone : List ℕ) (within : AreZones v.geometry gone) where
  abbrev g : Geometry
  g = v.geometry

  abbrev es : List Edit
  es = drop_edits g p gone

  abbrev c : Contents
  c = written g v.contents es

  bits : ChangesNone g v.contents.blocks c.blocks
  bits =
      let told = in_use.volume.0.each n p at in
      let high = told.within in
      let room = in_use.sound.inode_bits in
      let one = changes_bit g v.contents.blocks 2 p.number false in_use.sound in_use.volume.0.whole in_use.volume.0.size (omega arith) in
      let rest = bits_change g in_use.sound _ gone (edited g v.contents.blocks (inode_bit p.number false)) one.whole (one.size ∙ in_use.volume.0.size) within in
      changes_wider g (λ j i. elim i [ inl z ↦ z | inr z ↦ z ]) (λ b i. elim i [ inl z ↦ z | inr z ↦ z ]) (changes_then g one rest)

  table_low : (2 + g.imap + g.zmap ≤ table_block g p.number) × (table_block g p.number < g.first)
  table_low = let told = in_use.volume.0.each n p at in table_below g p.number in_use.sound told.some told.within

  -- its inode is zeros then
  pub drop_zero : inode_at g (node_removed g c n p).blocks p.number ≡ zero_inode
  drop_zero =
      let low = table_low.1 in
      let some = in_use.sound.some_zone in
      let size = bits.size ∙ in_use.volume.0.size in
      inode_here g c.blocks p.number zero_inode bits.whole (omega arith) zero_fits

  -- no zone of data changes
  pub drop_high : (b : ℕ) → g.first ≤ b → disk_of (node_removed g c n p).blocks b ≡ disk_of v.contents.blocks b
  drop_high b low =
      let t = table_low.1 in
      edited_elsewhere g c.blocks (put_inode p.number zero_inode) b (λ e. (omega arith)) ∙ bits.zones b low (λ z. z)

  pub drop_told : (b : ℕ) → In b (touched_by_all g es ++ table_block g p.number ∷ []) →
      (2 + p.number / 8192 ≡ b) ⊎ (((z : ℕ) × In z gone × (touched_by g (zone_bit g false z) ≡ b)) ⊎ (table_block g p.number ≡ b))
  drop_told b i = elim (In-append_cases (touched_by_all g es) (table_block g p.number ∷ []) b i) [
    | inl first ↦ elim first [ inl e ↦ inl e | inr j ↦ inr (inl (bits_told g false gone b j)) ]
    | inr last ↦ elim last [ inl e ↦ inr (inr e) | inr z ↦ absurd z ]
  ]
