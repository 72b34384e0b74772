-- What a write of metadata leaves as it was.
use Rattle.std.specs.Prelude.{◌≡◌, ◌≢◌, ℕ, ◌-◌, ◌/◌, ◌%◌, ◌<◌, List, [], ◌∷◌, length, Option, Some, None, Result, Ok, IfSome, refl}
use Rattle.std.proofs.Common.{sym, ap, ◌∙◌, inl, inr, arith}
use Rattle.std.proofs.lemmas.List.{get_or-set_same, get_or-set_other, length-set}
use Rattle.std.proofs.lemmas.Bool.{cases_eq}
use Rattle.blk_base.specs.Members.{In}
use Rattle.byte_fields.specs.Fields.{record_at}
use Rattle.minix_layout.specs.Widths.{IsWidth, slot_size, slots_a_block}
use Rattle.minix_layout.specs.declared.division.Geometry.{Geometry}
use Rattle.minix_layout.specs.declared.inode.Inode.{Inode}
use Rattle.minix_layout.specs.declared.slot.Slot.{Slot}
use Rattle.minix_layout.specs.declared.fault.LayoutFault.{LayoutFault}
use Rattle.minix_layout.specs.Inodes.{FitInode}
use Rattle.minix_layout.specs.Slots.{slot_of, IsEntry, IsNamed}
use Rattle.minix_layout.specs.laws.InodeLaws.{inode_read_back, other_inode}
use Rattle.minix_layout.specs.laws.SlotLaws.{slot_read_back, other_slot, entries_short}
use Rattle.volume_ops.specs.Places.{table_block}
use Rattle.volume_ops.specs.Volume.{disk_of}
use Rattle.volume_ops.specs.VolumeFields.{inode_at}
use Rattle.volume_model.specs.Edits.{Edit, put_inode, put_slot, touched_by, body_after, edited, edited_all, touched_by_all}
use Rattle.volume_model.specs.Volume.{IsWhole}

module _ (g : Geometry) where
  pub length-edited : (blocks : List (List ℕ)) (e : Edit) → length (edited g blocks e) ≡ length blocks
  unfolding edited
  length-edited blocks e = length-set blocks (touched_by g e) _

  -- the block that was written
  pub edited_here : (blocks : List (List ℕ)) (e : Edit) → touched_by g e < length blocks →
      disk_of (edited g blocks e) (touched_by g e) ≡ body_after g e (disk_of blocks (touched_by g e))
  unfolding edited
  edited_here blocks e within = get_or-set_same blocks (touched_by g e) _ _ within

  -- any other block
  pub edited_elsewhere : (blocks : List (List ℕ)) (e : Edit) (b : ℕ) → b ≢ touched_by g e → disk_of (edited g blocks e) b ≡ disk_of blocks b
  unfolding edited
  edited_elsewhere blocks e b apart = get_or-set_other blocks (touched_by g e) b _ _ apart

  -- Frame of any list of writes: blocks that none of them touches keep their bytes.
  pub untouched : (es : List Edit) (blocks : List (List ℕ)) (b : ℕ) → (In b (touched_by_all g es) → ⊥) → disk_of (edited_all g blocks es) b ≡ disk_of blocks b
  untouched [] blocks b none = refl
  untouched (e ∷ es) blocks b none =
      untouched es (edited g blocks e) b (λ i. none (inr i))
      ∙ edited_elsewhere blocks e b (λ same. none (inl (sym same)))

  -- ---- an inode

  same_place : (n m : ℕ) → 0 < n → 0 < m → (n - 1) / 32 ≡ (m - 1) / 32 → (n - 1) % 32 ≡ (m - 1) % 32 → n ≡ m
  same_place n m some more block place = omega arith

  in_block : (n : ℕ) → (n - 1) % 32 < 32
  in_block n = omega arith

  pub inode_here : (blocks : List (List ℕ)) (n : ℕ) (i : Inode) → IsWhole blocks → table_block g n < length blocks → FitInode i →
      inode_at g (edited g blocks (put_inode n i)) n ≡ i
  inode_here blocks n i whole within fit =
      rw (edited_here blocks (put_inode n i) within) (inode_read_back (disk_of blocks (table_block g n)) ((n - 1) % 32) i (whole _) (in_block n) fit)

  pub inode_elsewhere : (blocks : List (List ℕ)) (n m : ℕ) (i : Inode) → IsWhole blocks → table_block g n < length blocks → 0 < n → 0 < m → m ≢ n →
      inode_at g (edited g blocks (put_inode n i)) m ≡ inode_at g blocks m
  inode_elsewhere blocks n m i whole within some more apart =
      elim (cases_eq (table_block g m) (table_block g n)) [
        | inl same ↦
            rw (same, edited_here blocks (put_inode n i) within)
            (other_inode (disk_of blocks (table_block g n)) ((n - 1) % 32) ((m - 1) % 32) i (whole _) (in_block n) (in_block m)
            (λ e. apart (sym (same_place n m some more (omega arith) e))))
        | inr differ ↦ rw (edited_elsewhere blocks (put_inode n i) (table_block g m) differ) refl
      ]

  -- a write elsewhere than in the table
  pub inode_kept : (blocks : List (List ℕ)) (e : Edit) (m : ℕ) → table_block g m ≢ touched_by g e → inode_at g (edited g blocks e) m ≡ inode_at g blocks m
  inode_kept blocks e m apart = rw (edited_elsewhere blocks e (table_block g m) apart) refl

  -- ---- a slot

  -- slot `at` of a block of slots
  abbrev pub slot_in_zone : List (List ℕ) → ℕ → ℕ → Result (Option Slot) LayoutFault
  slot_in_zone blocks zone at = slot_of g.width (record_at (slot_size g.width) at (disk_of blocks zone))

  pub slot_here : IsWidth g.width → (blocks : List (List ℕ)) (zone at : ℕ) (s : Option Slot) → IsWhole blocks → zone < length blocks → at < slots_a_block g.width → IfSome s (λ e. IsEntry g.width e) →
      slot_in_zone (edited g blocks (put_slot zone at s)) zone at ≡ Ok s
  slot_here width blocks zone at s whole within low entry =
      rw (edited_here blocks (put_slot zone at s) within) (slot_read_back g.width (disk_of blocks zone) at s width (whole _) low entry)

  pub slot_elsewhere : IsWidth g.width → (blocks : List (List ℕ)) (zone at other place : ℕ) (s : Option Slot) → IsWhole blocks → zone < length blocks → at < slots_a_block g.width → place < slots_a_block g.width → IfSome s (λ e. IsEntry g.width e) →
      ((other ≡ zone) → (place ≡ at) → ⊥) →
      slot_in_zone (edited g blocks (put_slot zone at s)) other place ≡ slot_in_zone blocks other place
  slot_elsewhere width blocks zone at other place s whole within low more entry apart =
      elim (cases_eq other zone) [
        | inl same ↦ rw (same, edited_here blocks (put_slot zone at s) within)
            (other_slot g.width (disk_of blocks zone) at place s width (whole _) low more (λ e. apart same (sym e)) (entries_short g.width s entry))
        | inr differ ↦ rw (edited_elsewhere blocks (put_slot zone at s) other differ) refl
      ]

  -- ---- whole blocks

  pub whole_edited : (blocks : List (List ℕ)) (e : Edit) → IsWhole blocks → length (body_after g e (disk_of blocks (touched_by g e))) ≡ 1024 → touched_by g e < length blocks → IsWhole (edited g blocks e)
  whole_edited blocks e whole size within b =
      elim (cases_eq b (touched_by g e)) [
        | inl same ↦ rw (same, edited_here blocks e within) size
        | inr differ ↦ ap length (edited_elsewhere blocks e b differ) ∙ whole b
      ]
