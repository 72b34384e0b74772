-- The steps of mapping a block as the code takes them.
use Rattle.std.specs.Prelude.{◌≡◌, ℕ, ◌-◌, ◌/◌, ◌%◌, ◌<◌, ◌≤◌, List, slice_index, refl}
use Rattle.std.proofs.Common.{sym, ap, ◌∙◌, arith}
use Rattle.std.proofs.lemmas.Bool.{lt-ltb, le-ltb}
use Rattle.blk_base.specs.Block.{filled}
use Rattle.byte_fields.specs.Fields.{zeros}
use Rattle.minix_layout.specs.declared.division.Geometry.{Geometry}
use Rattle.minix_tables.specs.inodes.Map.{zone_at, entry_behind}
use Rattle.minix_tables.specs.inodes.laws.MapLaws.{zone_at-direct}
use Rattle.volume_model.specs.Volume.{Place, block, indirect, double, inner}
use Rattle.volume_model.specs.Ways.{slot, entry, home, entry_of}
use Rattle.volume_model.specs.laws.Ways.{home-direct, home-single, home-twice, home-inner}
use Rattle.volume_model.specs.MapBlock.{OpenInode, own_of, TakenZones, taken_at, get_step, get_steps, map_block, first_body}
use Rattle.volume_model.specs.editing.code.Mapping.{slot_step, entry_step}
use Rattle.volume_model.specs.laws.OnWay.{way-direct, way-single, way-twice, way-past}

-- a block behind zones of numbers
pub own_single : (s : OpenInode) (index : ℕ) → 7 ≤ index → index < 519 → own_of s (block index) ≡ entry_behind (entry_of s.blocks) (own_of s indirect) (index - 7)
unfolding zone_at
own_single s index low high = rw (le-ltb index 7 low, lt-ltb index 519 high) refl

pub own_twice : (s : OpenInode) (index : ℕ) → 519 ≤ index → index < 262663 → own_of s (block index) ≡ entry_behind (entry_of s.blocks) (own_of s (inner ((index - 519) / 512))) ((index - 519) % 512)
unfolding zone_at
own_twice s index low high = rw (le-ltb index 7 (omega arith), le-ltb index 519 low, lt-ltb index 262663 high) refl

module _ (g : Geometry) (t : TakenZones) (content : List ℕ) where
  step_slot : (s : OpenInode) (x : Place) (k : ℕ) → home x ≡ slot k → own_of s x ≡ slice_index s.inode.zones k → slot_step g s k (taken_at t x) (first_body content x) ≡ get_step g t content s x
  unfolding slot_step
  step_slot s x k at own = rw (at, own) refl

  step_entry : (s : OpenInode) (x h : Place) (k : ℕ) → home x ≡ entry h k → own_of s x ≡ entry_behind (entry_of s.blocks) (own_of s h) k →
      entry_step g s (own_of s h) k (taken_at t x) (first_body content x) ≡ get_step g t content s x
  unfolding entry_step
  step_entry s x h k at own = rw (at, own) refl

  -- the exits of the code
  pub map_direct : (s u : OpenInode) (index : ℕ) → index < 7 → u ≡ slot_step g s index t.data_zone content → u ≡ map_block g t content s index
  unfolding map_block
  map_direct s u index low e = e ∙ (step_slot s (block index) index (home-direct index low) (zone_at-direct (entry_of s.blocks) s.inode.zones index low) ∙ ap (get_steps g t content s) (sym (way-direct index low)))

  pub map_single : (s u w : OpenInode) (index : ℕ) → 7 ≤ index → index < 519 → u ≡ slot_step g s 7 t.outer (zeros 1024) → w ≡ entry_step g u (slice_index u.inode.zones 7) (index - 7) t.data_zone content →
      w ≡ map_block g t content s index
  unfolding map_block
  map_single s u w index low high e f =
      f ∙ (step_entry u (block index) indirect (index - 7) (home-single index low high) (own_single u index low high)
      ∙ (ap (λ u. get_step g t content u (block index)) (e ∙ step_slot s indirect 7 refl refl)
      ∙ ap (get_steps g t content s) (sym (way-single index low high))))

  pub map_twice : (s u w x : OpenInode) (index : ℕ) → 519 ≤ index → index < 262663 → u ≡ slot_step g s 8 t.outer (zeros 1024) →
      w ≡ entry_step g u (slice_index u.inode.zones 8) ((index - 519) / 512) t.second (zeros 1024) →
      x ≡ entry_step g w (entry_behind (entry_of w.blocks) (slice_index w.inode.zones 8) ((index - 519) / 512)) ((index - 519) % 512) t.data_zone content →
      x ≡ map_block g t content s index
  unfolding map_block
  map_twice s u w x index low high e f h =
      h ∙ (step_entry w (block index) (inner ((index - 519) / 512)) ((index - 519) % 512) (home-twice index low high) (own_twice w index low high)
      ∙ (ap (λ w. get_step g t content w (block index)) (f ∙ step_entry u (inner ((index - 519) / 512)) double ((index - 519) / 512) (home-inner _ (omega arith)) refl)
      ∙ (ap (λ u. get_step g t content (get_step g t content u (inner ((index - 519) / 512))) (block index)) (e ∙ step_slot s double 8 refl refl)
      ∙ ap (get_steps g t content s) (sym (way-twice index low high)))))

  pub map_past : (s : OpenInode) (index : ℕ) → 262663 ≤ index → s ≡ map_block g t content s index
  unfolding map_block
  map_past s index low = ap (get_steps g t content s) (sym (way-past index low))

  no_bytes : filled 0 ≡ zeros 1024
  unfolding filled zeros
  no_bytes = refl

  pub map_single_by : (s u w : OpenInode) (index : ℕ) (nothing : List ℕ) (pointer_block : ℕ) → 7 ≤ index → index < 519 → nothing ≡ filled 0 → pointer_block ≡ slice_index u.inode.zones 7 →
      u ≡ slot_step g s 7 t.outer nothing → w ≡ entry_step g u pointer_block (index - 7) t.data_zone content → w ≡ map_block g t content s index
  map_single_by s u w index nothing pointer_block low high z k e f =
      map_single s u w index low high (e ∙ ap (slot_step g s 7 t.outer) (z ∙ no_bytes)) (f ∙ ap (λ h. entry_step g u h (index - 7) t.data_zone content) k)

  pub map_twice_by : (s u w x : OpenInode) (index : ℕ) (nothing : List ℕ) (pointer_block also inside : ℕ) → 519 ≤ index → index < 262663 → nothing ≡ filled 0 →
      pointer_block ≡ slice_index u.inode.zones 8 → also ≡ slice_index w.inode.zones 8 → inside ≡ entry_behind (entry_of w.blocks) also ((index - 519) / 512) →
      u ≡ slot_step g s 8 t.outer nothing → w ≡ entry_step g u pointer_block ((index - 519) / 512) t.second nothing →
      x ≡ entry_step g w inside ((index - 519) % 512) t.data_zone content → x ≡ map_block g t content s index
  map_twice_by s u w x index nothing pointer_block also inside low high z k l m e f h =
      map_twice s u w x index low high (e ∙ ap (slot_step g s 8 t.outer) (z ∙ no_bytes))
      (f ∙ (ap (λ h. entry_step g u h ((index - 519) / 512) t.second nothing) k ∙ ap (entry_step g u (slice_index u.inode.zones 8) ((index - 519) / 512) t.second) (z ∙ no_bytes)))
      (h ∙ ap (λ h. entry_step g w h ((index - 519) % 512) t.data_zone content) (m ∙ ap (λ v. entry_behind (entry_of w.blocks) v ((index - 519) / 512)) l))
