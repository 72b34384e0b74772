-- What a tidy volume has besides its maps, and which changes keep it.
use Rattle.std.specs.Prelude.{◌≡◌, ◌≢◌, ◌⊎◌, ◌/◌, ◌%◌, ◌<◌, ◌≤◌, ℕ, List, length, Option, Some, None, refl}
use Rattle.std.proofs.Common.{sym, ap, subst, ◌∙◌, inl, inr}
use Rattle.std.proofs.lemmas.Bool.{cases_eq}
use Rattle.std.proofs.lemmas.Option.{same_Some}
use Rattle.byte_fields.specs.Fields.{record_at}
use Rattle.minix_layout.specs.declared.division.Geometry.{Geometry}
use Rattle.minix_layout.specs.declared.inode.Inode.{Inode}
use Rattle.minix_layout.specs.declared.slot.Slot.{Slot}
use Rattle.minix_layout.specs.Geometry.{IsSound}
use Rattle.minix_layout.specs.Inodes.{zero_inode}
use Rattle.minix_layout.specs.Slots.{slot_of}
use Rattle.minix_layout.specs.Widths.{slot_size, slots_a_block}
use Rattle.tree_model.specs.Maps.{at_number, put_number}
use Rattle.tree_model.specs.laws.MapsLaws.{at_put_number, at_put_number_apart}
use Rattle.volume_ops.specs.Volume.{disk_of}
use Rattle.volume_ops.specs.VolumeFields.{inode_at}
use Rattle.volume_model.specs.declared.placed.DirectoryPart.{DirectoryPart}
use Rattle.volume_model.specs.declared.placed.Part.{Part}
use Rattle.volume_model.specs.declared.placed.Part.TheVariants as parts
use Rattle.volume_model.specs.declared.placed.Placed.{Placed}
use Rattle.volume_model.specs.Changes.{Changes}
use Rattle.volume_model.specs.MapBlock.{OpenInode}
use Rattle.volume_model.specs.Moves.{IsVolume, closed}
use Rattle.volume_model.specs.Touched.{Contents}
use Rattle.volume_model.specs.Volume.{Place, block, zone_in, HasSlot, IsVolumeOf}
use Rattle.volume_model.specs.laws.Written.{zone_kept}
use Rattle.volume_model.specs.laws.ZoneMoves.{MayMove, written, moved, may_change, same_disk, same_zone}
use Rattle.volume_steps.specs.UsedInodes.{IsInodeUsed}
use Rattle.volume_steps.proofs.Bits.{ChangesNone, kept_zone}
use Rattle.volume_steps.specs.Now.{VolumeNow}

-- each slot from this one on is free, in a block that the inode has
abbrev pub AreFreeFrom : Geometry → List (List ℕ) → Inode → ℕ → Type 0
AreFreeFrom g blocks i slots = (k : ℕ) → slots ≤ k → zone_in blocks i (block (k / slots_a_block g.width)) ≢ 0 → HasSlot g blocks i k None

-- An inode that no node has is all zeros, and behind the last slot of a directory each slot is free.
pub record IsBare (g : Geometry) (c : Contents) : Type 0 where
  pub unused : (number : ℕ) → 0 < number → number ≤ g.inodes → (IsInodeUsed c.nodes number → ⊥) → inode_at g c.blocks number ≡ zero_inode
  pub behind : (a : ℕ) (r : Placed) (d : DirectoryPart) → at_number c.nodes a ≡ Some r → r.part ≡ parts.Directory d → AreFreeFrom g c.blocks r.inode (length d.slots)

abbrev pub IsBareNow : VolumeNow → Type 0
IsBareNow v = IsBare v.geometry v.contents

-- ---- slots stay where zones and their bytes do

module _ (g : Geometry) (blocks after : List (List ℕ)) (i j : Inode) (zones : (x : Place) → zone_in after j x ≡ zone_in blocks i x)
    (bytes : (index : ℕ) → zone_in blocks i (block index) ≢ 0 → disk_of after (zone_in blocks i (block index)) ≡ disk_of blocks (zone_in blocks i (block index))) where
  slot_stays : (k : ℕ) (s : Option Slot) → HasSlot g blocks i k s → HasSlot g after j k s
  slot_stays k s h = record {
    mapped = λ none. h.mapped (sym (zones (block (k / slots_a_block g.width))) ∙ none);
    stands = ap (λ z. slot_of g.width (record_at (slot_size g.width) (k % slots_a_block g.width) (disk_of after z))) (zones (block (k / slots_a_block g.width)))
        ∙ (ap (λ body. slot_of g.width (record_at (slot_size g.width) (k % slots_a_block g.width) body)) (bytes (k / slots_a_block g.width) h.mapped) ∙ h.stands);
  }

  pub free_stays : (slots : ℕ) → AreFreeFrom g blocks i slots → AreFreeFrom g after j slots
  free_stays slots free k far some = slot_stays k None (free k far (λ none. some (zones (block (k / slots_a_block g.width)) ∙ none)))

-- ---- a node changes

module _ (g : Geometry) (v : Contents) (after : List (List ℕ)) (n : ℕ) (p q : Placed) (Z : ℕ → Type 0) (h : IsVolumeOf g v.blocks v.nodes) (at : at_number v.nodes n ≡ Some p) (number : q.number ≡ p.number)
    (changes : Changes g (λ j. j ≡ p.number) Z v.blocks after)
    (apart : (a : ℕ) (r : Placed) (x : Place) → at_number v.nodes a ≡ Some r → a ≢ n → zone_in v.blocks r.inode x ≢ 0 → Z (zone_in v.blocks r.inode x) → ⊥) where
  abbrev now : Contents
  now = record { blocks = after; nodes = put_number v.nodes n q }

  used_still : (m : ℕ) → IsInodeUsed v.nodes m → IsInodeUsed now.nodes m
  used_still m u = elim (cases_eq u.birth n) [
    | inl e ↦ record {
      birth = n;
      placed = q;
      stands = at_put_number v.nodes n q;
      is = number ∙ (ap (λ (p : Placed). p.number) (same_Some p u.placed (sym at ∙ (ap (at_number v.nodes) (sym e) ∙ u.stands))) ∙ u.is);
    }
    | inr far ↦ record { birth = u.birth; placed = u.placed; stands = at_put_number_apart v.nodes n q u.birth far ∙ u.stands; is = u.is }
  ]

  theirs : (a : ℕ) (r : Placed) → at_number v.nodes a ≡ Some r → a ≢ n → (x : Place) → zone_in v.blocks r.inode x ≢ 0 → disk_of after (zone_in v.blocks r.inode x) ≡ disk_of v.blocks (zone_in v.blocks r.inode x)
  theirs a r found far x some = changes.zones _ ((h.each a r found).zones x some).0 (apart a r x found far some)

  pub node_bare : ((d : DirectoryPart) → q.part ≡ parts.Directory d → AreFreeFrom g after q.inode (length d.slots)) → IsBare g v → IsBare g now
  node_bare mine bare = record {
    unused = λ m some within none.
        changes.inodes m some within (λ e. none (record { birth = n; placed = q; stands = at_put_number v.nodes n q; is = number ∙ sym e }))
        ∙ bare.unused m some within (λ u. none (used_still m u));
    behind = λ a r d found is. elim (cases_eq a n) [
      | inl e ↦
          let same : q ≡ r = same_Some q r (sym (at_put_number v.nodes n q) ∙ (ap (at_number now.nodes) (sym e) ∙ found)) in
          subst (λ (r : Placed). AreFreeFrom g after r.inode (length d.slots)) same (mine d (ap (λ (r : Placed). r.part) same ∙ is))
      | inr far ↦
          let was : at_number v.nodes a ≡ Some r = sym (at_put_number_apart v.nodes n q a far) ∙ found in
          free_stays g v.blocks after r.inode r.inode (zone_kept v.blocks after r.inode (theirs a r was far)) (λ index some. theirs a r was far (block index) some) (length d.slots) (bare.behind a r d was is)
    ];
  }

-- by a move
module _ (g : Geometry) (sound : IsSound g) (v : Contents) (n : ℕ) (p : Placed) (h : IsVolumeOf g v.blocks v.nodes) (at : at_number v.nodes n ≡ Some p) (u : OpenInode) (part : Part) (Z : ℕ → Type 0)
    (may : MayMove g sound v.blocks v.nodes n p h at u part Z) where
  abbrev after : List (List ℕ)
  after = written g sound v.blocks v.nodes n p h at u part Z may

  pub move_bare : ((d : DirectoryPart) → part ≡ parts.Directory d → AreFreeFrom g u.blocks u.inode (length d.slots)) → IsBare g v → IsBare g (closed g v n p u part)
  move_bare mine =
      let change = may_change g sound v.blocks v.nodes n p h at u part Z may in
      node_bare g v after n p (moved g sound v.blocks v.nodes n p h at u part Z may) (λ z. Z z ⊎ ⊥) h at refl change.changes change.not_theirs
      (λ d is. free_stays g u.blocks after u.inode u.inode (same_zone g sound v.blocks v.nodes n p h at u part Z may) (λ index some. same_disk g sound v.blocks v.nodes n p h at u part Z may (block index) some) (length d.slots) (mine d is))

-- ---- bits are written

module _ (g : Geometry) (v : Contents) (h : IsVolume g v) (after : List (List ℕ)) (none : ChangesNone g v.blocks after) where
  pub bits_bare : IsBare g v → IsBare g (record { blocks = after; nodes = v.nodes })
  bits_bare bare = record {
    unused = λ m some within no. none.inodes m some within (λ z. z) ∙ bare.unused m some within no;
    behind = λ a r d found is. free_stays g v.blocks after r.inode r.inode (kept_zone g v h after none a r found)
        (λ index some. none.zones _ ((h.0.each a r found).zones (block index) some).0 (λ z. z)) (length d.slots) (bare.behind a r d found is);
  }

-- ---- a node comes

module _ (g : Geometry) (v : Contents) (after : List (List ℕ)) (n : ℕ) (q : Placed) (Z : ℕ → Type 0) (h : IsVolumeOf g v.blocks v.nodes) (birth : at_number v.nodes n ≡ None)
    (changes : Changes g (λ j. j ≡ q.number) Z v.blocks after)
    (apart : (a : ℕ) (r : Placed) (x : Place) → at_number v.nodes a ≡ Some r → zone_in v.blocks r.inode x ≢ 0 → Z (zone_in v.blocks r.inode x) → ⊥) where
  abbrev come : Contents
  come = record { blocks = after; nodes = put_number v.nodes n q }

  far_from_new : (a : ℕ) (r : Placed) → at_number v.nodes a ≡ Some r → a ≢ n
  far_from_new a r found e = differ (sym birth ∙ (ap (at_number v.nodes) (sym e) ∙ found))
    where
      differ : ◌≡◌ {A = Option Placed} None (Some r) → ⊥
      differ e = cc

  old_bytes : (a : ℕ) (r : Placed) → at_number v.nodes a ≡ Some r → (x : Place) → zone_in v.blocks r.inode x ≢ 0 → disk_of after (zone_in v.blocks r.inode x) ≡ disk_of v.blocks (zone_in v.blocks r.inode x)
  old_bytes a r found x some = changes.zones _ ((h.each a r found).zones x some).0 (apart a r x found some)

  pub come_bare : ((d : DirectoryPart) → q.part ≡ parts.Directory d → AreFreeFrom g after q.inode (length d.slots)) → IsBare g v → IsBare g come
  come_bare mine bare = record {
    unused = λ m some within none.
        changes.inodes m some within (λ e. none (record { birth = n; placed = q; stands = at_put_number v.nodes n q; is = sym e }))
        ∙ bare.unused m some within (λ u. none (record { birth = u.birth; placed = u.placed; stands = at_put_number_apart v.nodes n q u.birth (far_from_new u.birth u.placed u.stands) ∙ u.stands; is = u.is }));
    behind = λ a r d found is. elim (cases_eq a n) [
      | inl e ↦
          let same : q ≡ r = same_Some q r (sym (at_put_number v.nodes n q) ∙ (ap (at_number come.nodes) (sym e) ∙ found)) in
          subst (λ (r : Placed). AreFreeFrom g after r.inode (length d.slots)) same (mine d (ap (λ (r : Placed). r.part) same ∙ is))
      | inr far ↦
          let was : at_number v.nodes a ≡ Some r = sym (at_put_number_apart v.nodes n q a far) ∙ found in
          free_stays g v.blocks after r.inode r.inode (zone_kept v.blocks after r.inode (old_bytes a r was)) (λ index some. old_bytes a r was (block index) some) (length d.slots) (bare.behind a r d was is)
    ];
  }
