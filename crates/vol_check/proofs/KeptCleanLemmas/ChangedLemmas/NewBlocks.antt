-- The blocks of a node that comes, and steps that leave what others have.
use Rattle.std.specs.Prelude.{◌≡◌, ◌≢◌, ◌⊎◌, ◌+◌, ◌/◌, ◌<◌, ℕ, Some, refl}
use Rattle.std.proofs.Common.{sym, subst, ◌∙◌, inl, inr, ⊎_elim, arith}
use Rattle.blk_base.specs.Members.{In}
use Rattle.tree_model.specs.Maps.{at_number}
use Rattle.minix_tables.specs.declared.zones.zone_state.ZoneState.TheVariants as states
use Rattle.minix_tables.specs.zones.Zones.{state_of}
use Rattle.volume_ops.specs.Places.{table_block}
use Rattle.volume_ops.specs.Volume.{disk_of}
use Rattle.volume_model.specs.declared.placed.Placed.{Placed}
use Rattle.volume_model.specs.Touched.{IsMeta}
use Rattle.volume_model.specs.Touched.IsMeta.{of_numbers}
use Rattle.volume_model.specs.Volume.{Place, zone_in, IsStored}
use Rattle.volume_model.specs.laws.Zones.{zones_kept}
use Rattle.volume_steps.specs.Now.{VolumeNow, Change}
use Rattle.volume_steps.specs.Plain.{IsInUse}
use Rattle.volume_steps.specs.UsedInodes.{IsInodeUsed}
use Rattle.volume_steps.specs.laws.Steady.{IsSteady}
use Rattle.vol_check.specs.kept_clean.changed.Tidy.{IsTidy}
use Rattle.vol_check.proofs.KeptCleanLemmas.ChangedLemmas.Drops.{no_zero}
use Rattle.vol_check.proofs.KeptCleanLemmas.ChangedLemmas.Ends.{Ends, come_bit, inode_differs}
use Rattle.vol_check.proofs.KeptCleanLemmas.ChangedLemmas.Rising.{own, Rises, not_free}

-- ---- a node that stays as it is

-- A step that writes before the zones and in free zones leaves the zones of each node.
module _ (tx : ℕ) (v : VolumeNow) (c : Change) (Writes : ℕ → ℕ → Type 0) (h : IsInUse v) (steady : IsSteady tx v c Writes) (revokes : (b : ℕ) → In b c.touched.revoked → ⊥)
    (apart : (b : ℕ) → In b c.touched.blocks → (b < v.geometry.first) ⊎ (state_of v.zones b ≡ Some states.Free))
    (used : (z : ℕ) → state_of v.zones z ≡ Some states.Used → state_of c.volume.zones z ≡ Some states.Used)
    (n : ℕ) (p : Placed) (at : at_number v.contents.nodes n ≡ Some p) where
  left_zones : (y : Place) → own c.volume p y ≡ own v p y
  left_zones = zones_kept v.contents.blocks c.volume.contents.blocks p.inode (λ x numbers there.
      let b = zone_in v.contents.blocks p.inode x in
      let meta : IsMeta v.geometry v.contents b = of_numbers n p x at numbers refl there in
      let low = ((h.volume.0.each n p at).zones x there).0 in
      steady.told.kept b (λ i. ⊎_elim (λ below. (omega arith)) (λ free. not_free v h b meta free) (apart b i)) meta
      (⊎_elim (λ still. still) (λ gone. absurd (revokes b gone)) (steady.told.stays_or_revoked b meta)))

  pub left_rises : Rises v c.volume p p
  left_rises = record {
    number = refl;
    kept = λ y some. left_zones y;
    taken = λ y none some. absurd (some (left_zones y ∙ none));
    free = steady.lowest.was_free;
    used = used;
  }

-- ---- a node comes

-- its bit, and its inode, which was all zeros
pub new_changes : (tx : ℕ) (v : VolumeNow) (c : Change) (e : Ends tx v c) → IsTidy v.geometry v.contents v.zones → (n : ℕ) (q : Placed) → at_number c.volume.contents.nodes n ≡ Some q →
    (IsInodeUsed v.contents.nodes q.number → ⊥) → (b : ℕ) → (2 + q.number / 8192 ≡ b) ⊎ (table_block v.geometry q.number ≡ b) →
    disk_of c.volume.contents.blocks b ≢ disk_of v.contents.blocks b
new_changes tx v c e tidy n q at unused b which = elim which [
  | inl same ↦ moved (2 + q.number / 8192) same (come_bit tx v c e q.number told.some told.within unused (record { birth = n; placed = q; stands = at; is = refl }))
  | inr same ↦ moved (table_block v.geometry q.number) same
      (inode_differs v.geometry v.contents.blocks c.volume.contents.blocks q.number
      (λ same. no_zero v.geometry c.volume.contents.blocks q.inode q.part told.part (sym (tidy.unused q.number told.some told.within unused) ∙ (sym same ∙ told.inode))))
]
  where
    told : IsStored v.geometry c.volume.contents.blocks q
    told = subst (λ g. IsStored g c.volume.contents.blocks q) e.geometry (e.after.in_use.volume.0.each n q at)

    moved : (a : ℕ) → a ≡ b → disk_of c.volume.contents.blocks a ≢ disk_of v.contents.blocks a → disk_of c.volume.contents.blocks b ≢ disk_of v.contents.blocks b
    moved a same differs = subst (λ b. disk_of c.volume.contents.blocks b ≢ disk_of v.contents.blocks b) same differs
