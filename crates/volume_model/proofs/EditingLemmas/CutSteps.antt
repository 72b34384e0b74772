-- The steps of a cut as the code takes them.
use Rattle.std.specs.Prelude.{◌≡◌, ℕ, suc, ◌+◌, ◌-◌, ◌/◌, ◌%◌, ◌<◌, ◌≤◌, nat_lt, Bool, true, false, ◌&&◌, ◌||◌, if◌then◌else◌, List, [], ◌∷◌, ◌++◌, take, drop, replicate, filter, length, slice_index, refl}
use Rattle.std.specs.List.{list_any}
use Rattle.std.proofs.Common.{sym, ap, ◌∙◌, inl, inr, arith}
use Rattle.std.proofs.lemmas.Bool.{cases_Bool, lt-ltb, le-ltb}
use Rattle.std.proofs.lemmas.List.{drop-replicate, drop_all, append-nil, length-replicate}
use Rattle.byte_fields.specs.Fields.{put_bytes, zeros}
use Rattle.minix_layout.specs.declared.division.Geometry.{Geometry}
use Rattle.minix_layout.specs.declared.inode.Inode.{Inode}
use Rattle.minix_tables.specs.inodes.Map.{entry_behind}
use Rattle.volume_ops.specs.declared.found.Mapped.{Mapped}
use Rattle.volume_model.specs.Edits.{Edit, clear_from, edited, edited_all}
use Rattle.volume_model.specs.Volume.{Place, block, indirect, double, inner}
use Rattle.volume_model.specs.Ways.{entry_of}
use Rattle.volume_model.specs.MapBlock.{OpenInode, with_zones}
use Rattle.volume_model.specs.Cut.{cut_zones, cut_to}
use Rattle.volume_model.specs.Counts.{passes, keeps_below, indices_of}
use Rattle.volume_model.specs.editing.code.Cutting.{clear_step, keeps_listed}

-- a test over the list itself
pub any_below : (p : ℕ → Bool) (from : ℕ) (zones : List Mapped) → list_any (λ (m : Mapped). nat_lt m.index from && p m.index) zones ≡ list_any p (filter (λ i. nat_lt i from) (indices_of zones))
any_below p from [] = refl
any_below p from (m ∷ ms) = elim (cases_Bool (nat_lt m.index from)) [
  | inl t ↦ rw t (ap (λ b. p m.index || b) (any_below p from ms))
  | inr f ↦ rw f (any_below p from ms)
]

module _ (g : Geometry) (keeps : Place → Bool) (s : OpenInode) where
  abbrev cut_inode : Inode
  cut_inode = with_zones s.inode (cut_zones keeps s.inode.zones)

  pub cut_near : (from : ℕ) → from < 7 → record { blocks = s.blocks; inode = cut_inode } ≡ cut_to g keeps s from
  unfolding cut_to
  cut_near from low = rw (lt-ltb from 7 low) refl

  pub cut_single : (from : ℕ) (after : List (List ℕ)) → 7 ≤ from → from < 519 → after ≡ clear_step g s.blocks (keeps indirect) (slice_index s.inode.zones 7) (from - 7) →
      record { blocks = after; inode = cut_inode } ≡ cut_to g keeps s from
  unfolding cut_to clear_step
  cut_single from after low high e = ap (λ b. record { blocks = b; inode = cut_inode }) e ∙ rw (le-ltb from 7 low, lt-ltb from 519 high) (by (keeps indirect))
    where
      by : (b : Bool) → ◌≡◌ {A = OpenInode} (record { blocks = if b then edited g s.blocks (clear_from (slice_index s.inode.zones 7) (from - 7)) else s.blocks; inode = cut_inode })
          (record { blocks = edited_all g s.blocks (if b then clear_from (slice_index s.inode.zones 7) (from - 7) ∷ [] else []); inode = cut_inode })
      by true = refl
      by false = refl

  pub cut_twice : (from : ℕ) (mid after : List (List ℕ)) → 519 ≤ from → from < 262663 →
      mid ≡ clear_step g s.blocks (keeps (inner ((from - 519) / 512))) (entry_behind (entry_of s.blocks) (slice_index s.inode.zones 8) ((from - 519) / 512)) ((from - 519) % 512) →
      after ≡ clear_step g mid (keeps double) (slice_index s.inode.zones 8) (if keeps (inner ((from - 519) / 512)) then suc ((from - 519) / 512) else (from - 519) / 512) →
      record { blocks = after; inode = cut_inode } ≡ cut_to g keeps s from
  unfolding cut_to clear_step
  cut_twice from mid after low high e f =
      ap (λ b. record { blocks = b; inode = cut_inode }) (f ∙ ap (λ b. if keeps double then edited g b (clear_from (slice_index s.inode.zones 8) k) else b) e)
      ∙ rw (le-ltb from 7 (omega arith), le-ltb from 519 low, lt-ltb from 262663 high) (by (keeps (inner j)) (keeps double))
    where
      j : ℕ
      j = (from - 519) / 512

      k : ℕ
      k = if keeps (inner j) then suc j else j

      a : Edit
      a = clear_from (entry_behind (entry_of s.blocks) (slice_index s.inode.zones 8) j) ((from - 519) % 512)

      by : (b c : Bool) → ◌≡◌ {A = OpenInode} (record { blocks = if c then edited g (if b then edited g s.blocks a else s.blocks) (clear_from (slice_index s.inode.zones 8) k) else (if b then edited g s.blocks a else s.blocks); inode = cut_inode })
          (record { blocks = edited_all g s.blocks (if b then a ∷ (if c then clear_from (slice_index s.inode.zones 8) k ∷ [] else []) else (if c then clear_from (slice_index s.inode.zones 8) k ∷ [] else [])); inode = cut_inode })
      by true true = refl
      by true false = refl
      by false true = refl
      by false false = refl

  pub cut_far : (from : ℕ) → 262663 ≤ from → record { blocks = s.blocks; inode = cut_inode } ≡ cut_to g keeps s from
  unfolding cut_to
  cut_far from low = rw (le-ltb from 7 (omega arith), le-ltb from 519 (omega arith), le-ltb from 262663 low) refl

  pub cut_near_by : (from : ℕ) (left : List ℕ) → left ≡ cut_zones keeps s.inode.zones → from < 7 → record { blocks = s.blocks; inode = with_zones s.inode left } ≡ cut_to g keeps s from
  cut_near_by from left l low = ap (λ (zs : List ℕ). record { blocks = s.blocks; inode = with_zones s.inode zs }) l ∙ cut_near from low

  pub cut_far_by : (from : ℕ) (left : List ℕ) → left ≡ cut_zones keeps s.inode.zones → 262663 ≤ from → record { blocks = s.blocks; inode = with_zones s.inode left } ≡ cut_to g keeps s from
  cut_far_by from left l low = ap (λ (zs : List ℕ). record { blocks = s.blocks; inode = with_zones s.inode zs }) l ∙ cut_far from low

  pub cut_single_by : (from : ℕ) (left : List ℕ) (after : List (List ℕ)) (keep : Bool) (zone : ℕ) → left ≡ cut_zones keeps s.inode.zones → 7 ≤ from → from < 519 →
      keep ≡ keeps indirect → zone ≡ slice_index s.inode.zones 7 → after ≡ clear_step g s.blocks keep zone (from - 7) →
      record { blocks = after; inode = with_zones s.inode left } ≡ cut_to g keeps s from
  cut_single_by from left after keep zone l low high k z e =
      ap (λ (zs : List ℕ). record { blocks = after; inode = with_zones s.inode zs }) l
      ∙ cut_single from after low high (e ∙ (ap (λ b. clear_step g s.blocks b zone (from - 7)) k ∙ ap (λ z. clear_step g s.blocks (keeps indirect) z (from - 7)) z))

  pub cut_twice_by : (from : ℕ) (left : List ℕ) (mid after : List (List ℕ)) (group twice : Bool) (outer pointer_block end : ℕ) → left ≡ cut_zones keeps s.inode.zones → 519 ≤ from → from < 262663 →
      group ≡ keeps (inner ((from - 519) / 512)) → twice ≡ keeps double → outer ≡ slice_index s.inode.zones 8 → pointer_block ≡ entry_behind (entry_of s.blocks) outer ((from - 519) / 512) →
      end ≡ (if group then suc ((from - 519) / 512) else (from - 519) / 512) →
      mid ≡ clear_step g s.blocks group pointer_block ((from - 519) % 512) → after ≡ clear_step g mid twice outer end →
      record { blocks = after; inode = with_zones s.inode left } ≡ cut_to g keeps s from
  cut_twice_by from left mid after group twice outer pointer_block end l low high a b z h d e f =
      ap (λ (zs : List ℕ). record { blocks = after; inode = with_zones s.inode zs }) l
      ∙ cut_twice from mid after low high
      (e ∙ (ap (λ c. clear_step g s.blocks c pointer_block ((from - 519) % 512)) a ∙ ap (λ y. clear_step g s.blocks (keeps (inner ((from - 519) / 512))) y ((from - 519) % 512)) (h ∙ ap (λ y. entry_behind (entry_of s.blocks) y ((from - 519) / 512)) z)))
      (f ∙ (ap (λ c. clear_step g mid c outer end) b ∙ (ap (λ y. clear_step g mid (keeps double) y end) z
      ∙ ap (clear_step g mid (keeps double) (slice_index s.inode.zones 8)) (d ∙ ap (λ (c : Bool). if c then suc ((from - 519) / 512) else (from - 519) / 512) a))))

-- the bytes of a zone of numbers that is cleared, as the code makes them
enough : (n m c : ℕ) → c ≡ 1024 - n → m ≡ 1024 → m ≤ n + c
enough n m c e f = omega arith

pub cleared_as : (body : List ℕ) (n : ℕ) → length body ≡ 1024 → n ≤ 1024 → take n body ++ drop n (replicate 1024 0) ≡ put_bytes n (zeros (1024 - n)) body
unfolding put_bytes zeros
cleared_as body n size low =
    ap (λ (ys : List ℕ). take n body ++ ys) (drop-replicate n 1024 0 ∙ (sym (append-nil (replicate (1024 - n) 0)) ∙ ap (λ (rest : List ℕ). replicate (1024 - n) 0 ++ rest)
    (sym (drop_all (n + length (replicate (1024 - n) 0)) body (enough n (length body) (length (replicate (1024 - n) 0)) (length-replicate (1024 - n) 0) size)))))

pub keeps_listed_as : (zones : List Mapped) (from : ℕ) (x : Place) → keeps_listed zones from x ≡ keeps_below (indices_of zones) from x
keeps_listed_as zones from (block i) = refl
keeps_listed_as zones from indirect = any_below (passes indirect) from zones
keeps_listed_as zones from double = any_below (passes double) from zones
keeps_listed_as zones from (inner group) = any_below (passes (inner group)) from zones

-- as functions
pub keeps_same : (zones : List Mapped) (from : ℕ) → keeps_listed zones from ≡ keeps_below (indices_of zones) from
keeps_same zones from = λ k. λ x. keeps_listed_as zones from x k

pub below : (g : Geometry) (zones : List Mapped) (from : ℕ) (s : OpenInode) → cut_to g (keeps_listed zones from) s from ≡ cut_to g (keeps_below (indices_of zones) from) s from
below g zones from s = ap (λ keeps. cut_to g keeps s from) (keeps_same zones from)
