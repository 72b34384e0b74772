-- An inode that is written back where it changed.
use Rattle.std.specs.Prelude.{◌≡◌, ◌≢◌, ℕ, ◌<◌, ◌≤◌, ◌==◌, ◌&&◌, Bool, true, false, List, length, if◌then◌else◌, [], ◌∷◌, refl}
use Rattle.std.specs.Str.{bytes_eq}
use Rattle.std.proofs.Common.{sym, ap, subst, ◌∙◌, inl, inr}
use Rattle.std.proofs.lemmas.Bool.{cases_Bool, eqb-true, eq-eqb, and_parts, true≢false}
use Rattle.std.proofs.lemmas.Slice.Eq.{bytes_eq-Decides}
use Rattle.blk_base.specs.Members.{In}
use Rattle.minix_layout.specs.declared.division.Geometry.{Geometry}
use Rattle.minix_layout.specs.declared.inode.Inode.{Inode}
use Rattle.minix_layout.specs.Geometry.{IsSound}
use Rattle.minix_layout.specs.Inodes.{FitInode}
use Rattle.volume_ops.specs.Places.{table_block}
use Rattle.volume_ops.specs.Volume.{disk_of}
use Rattle.volume_ops.specs.VolumeFields.{inode_at}
use Rattle.volume_model.specs.declared.placed.Placed.{Placed}
use Rattle.volume_model.specs.Edits.{put_inode, edited}
use Rattle.volume_model.specs.laws.Edits.{edited_elsewhere, inode_here}
use Rattle.volume_model.specs.Changes.{Changes}
use Rattle.volume_model.specs.laws.Changes.{changes_inode}
use Rattle.volume_model.specs.Volume.{IsWhole}
use Rattle.volume_model.specs.Moves.{same_inode, inode_told, inode_written, inode_back, back_told}

-- ---- two inodes

pub same_fields : (i j : Inode) → same_inode i j ≡ true → i ≡ j
same_fields i j e =
    let a = and_parts _ _ e in
    let b = and_parts _ _ a.1 in
    let c = and_parts _ _ b.1 in
    let d = and_parts _ _ c.1 in
    let f = and_parts _ _ d.1 in
    let g = and_parts _ _ f.1 in
    same (eqb-true _ _ a.0) (eqb-true _ _ b.0) (eqb-true _ _ c.0) (eqb-true _ _ d.0) (eqb-true _ _ f.0) (eqb-true _ _ g.0) ((bytes_eq-Decides i.zones j.zones).0 g.1)
  where
    same : i.mode ≡ j.mode → i.uid ≡ j.uid → i.size ≡ j.size → i.time ≡ j.time → i.gid ≡ j.gid → i.links ≡ j.links → i.zones ≡ j.zones → i ≡ j
    same a b c d e f g = λ k. record { mode = a k; uid = b k; size = c k; time = d k; gid = e k; links = f k; zones = g k }

pub fields_same : (i : Inode) → same_inode i i ≡ true
fields_same i = rw (eq-eqb i.mode i.mode refl, eq-eqb i.uid i.uid refl, eq-eqb i.size i.size refl, eq-eqb i.time i.time refl, eq-eqb i.gid i.gid refl, eq-eqb i.links i.links refl)
    ((bytes_eq-Decides i.zones i.zones).1 refl)

-- inodes that differ do not have the same fields
pub fields_differ : (i j : Inode) → i ≢ j → same_inode i j ≡ false
fields_differ i j apart = elim (cases_Bool (same_inode i j)) [ inl e ↦ absurd (apart (same_fields i j e)) | inr e ↦ e ]

-- ---- an inode that is written back

-- the table's block is touched, or none
pub told_table : (g : Geometry) (p : Placed) (i : Inode) (b : ℕ) → In b (back_told g p i) → b ≡ table_block g p.number
unfolding inode_told
told_table g p i b j = by (same_inode i p.inode) j
  where
    by : (same : Bool) → In b (if same then [] else table_block g p.number ∷ []) → b ≡ table_block g p.number
    by true j = absurd j
    by false (inl e) = sym e
    by false (inr j) = absurd j

-- where the inode changes, it is
pub told_here : (g : Geometry) (p : Placed) (i : Inode) → i ≢ p.inode → In (table_block g p.number) (back_told g p i)
unfolding inode_told
told_here g p i apart = rw (fields_differ i p.inode apart) (inl refl)

module _ (g : Geometry) (blocks : List (List ℕ)) (p : Placed) (i : Inode) where
  -- a block that is not told
  pub back_elsewhere : (b : ℕ) → (In b (back_told g p i) → ⊥) → disk_of (inode_back g blocks p i) b ≡ disk_of blocks b
  unfolding inode_told inode_written
  back_elsewhere b out = by (same_inode i p.inode) out
    where
      by : (same : Bool) → (In b (if same then [] else table_block g p.number ∷ []) → ⊥) → disk_of (if same then blocks else edited g blocks (put_inode p.number i)) b ≡ disk_of blocks b
      by true out = refl
      by false out = edited_elsewhere g blocks (put_inode p.number i) b (λ e. out (inl (sym e)))

  pub back_apart : (b : ℕ) → b ≢ table_block g p.number → disk_of (inode_back g blocks p i) b ≡ disk_of blocks b
  back_apart b apart = back_elsewhere b (λ j. apart (told_table g p i b j))

  pub changes_back : IsSound g → IsWhole blocks → length blocks ≡ g.zones → 0 < p.number → p.number ≤ g.inodes → FitInode i →
      Changes g (λ j. j ≡ p.number) (λ _. ⊥) blocks (inode_back g blocks p i)
  unfolding inode_written
  changes_back sound whole size some within fit = by (same_inode i p.inode)
    where
      by : (same : Bool) → Changes g (λ j. j ≡ p.number) (λ _. ⊥) blocks (if same then blocks else edited g blocks (put_inode p.number i))
      by true = record { whole = whole; size = refl; inodes = λ j more below none. refl; zones = λ b low none. refl }
      by false = changes_inode g blocks p.number i sound whole size some within fit

  -- the inode stands there then, where the old one stood before
  pub back_here : IsWhole blocks → table_block g p.number < length blocks → FitInode i → inode_at g blocks p.number ≡ p.inode → inode_at g (inode_back g blocks p i) p.number ≡ i
  unfolding inode_written
  back_here whole within fit old = by (same_inode i p.inode) refl
    where
      by : (same : Bool) → same_inode i p.inode ≡ same → inode_at g (if same then blocks else edited g blocks (put_inode p.number i)) p.number ≡ i
      by true e = old ∙ sym (same_fields i p.inode e)
      by false e = inode_here g blocks p.number i whole within fit

  -- Where the block is told, its bytes change.
  pub back_differs : IsWhole blocks → table_block g p.number < length blocks → FitInode i → inode_at g blocks p.number ≡ p.inode → (b : ℕ) → In b (back_told g p i) →
      disk_of (inode_back g blocks p i) b ≢ disk_of blocks b
  unfolding inode_told
  back_differs whole within fit old b j same = by (same_inode i p.inode) refl j
    where
      read : disk_of (inode_back g blocks p i) (table_block g p.number) ≡ disk_of blocks (table_block g p.number) → inode_at g (inode_back g blocks p i) p.number ≡ inode_at g blocks p.number
      read e = rw e refl

      by : (t : Bool) → same_inode i p.inode ≡ t → In b (if t then [] else table_block g p.number ∷ []) → ⊥
      by true e none = none
      by false e (inr none) = none
      by false e (inl here) =
          let stays = read (subst (λ b. disk_of (inode_back g blocks p i) b ≡ disk_of blocks b) (sym here) same) in
          let is : i ≡ p.inode = sym (back_here whole within fit old) ∙ (stays ∙ old) in
          true≢false (sym (ap (λ k. same_inode k p.inode) is ∙ fields_same p.inode) ∙ e)
