-- Which blocks are written where a block of a directory is mapped.
use Rattle.std.specs.Prelude.{◌≡◌, ◌-◌, ◌*◌, ◌<◌, ◌≤◌, ℕ, nat_eq, true, false, List, [], ◌∷◌, length, slice_index, slice_set, refl}
use Rattle.std.proofs.Math.ListN.{set}
use Rattle.std.proofs.Common.{sym, ap, ◌∙◌, inl, inr, arith}
use Rattle.std.proofs.lemmas.Bool.{cases_Bool, cases_lt, lt-ltb, le-ltb}
use Rattle.std.proofs.lemmas.List.{get_or-set_same, get_or_past, length-set, drop-replicate}
use Rattle.blk_base.specs.Block.{filled}
use Rattle.byteorder.specs.Endian.{little_number}
use Rattle.byte_fields.specs.Fields.{zeros, number_at, number_of}
use Rattle.minix_layout.specs.declared.division.Geometry.{Geometry}
use Rattle.minix_tables.specs.inodes.Map.{zone_at, entry_behind}
use Rattle.volume_ops.specs.Places.{zone_number}
use Rattle.volume_ops.specs.Volume.{disk_of}
use Rattle.volume_model.specs.Edits.{put_body, edited, touched_by_all}
use Rattle.volume_model.specs.Volume.{block, indirect}
use Rattle.volume_model.specs.Ways.{way, entry_of}
use Rattle.volume_model.specs.MapBlock.{OpenInode, TakenZones, own_of, all_edits, get_zone}
use Rattle.volume_model.specs.laws.MapBlock.{little_zero}
use Rattle.volume_model.specs.laws.OnWay.{way-direct, way-single}
use Rattle.volume_model.specs.laws.Ways.{home-direct, home-single}
use Rattle.volume_names.specs.code.Steps.{blocks_mapped}

-- a block behind the indirect zone
behind_indirect : (s : OpenInode) (index : ℕ) → 7 ≤ index → index < 519 → own_of s (block index) ≡ entry_behind (entry_of s.blocks) (own_of s indirect) (index - 7)
unfolding zone_at
behind_indirect s index low high = rw (le-ltb index 7 low, lt-ltb index 519 high) refl

no_number : (k : ℕ) → zone_number (zeros 1024) k ≡ 0
unfolding number_at number_of zeros
no_number k = ap (little_number 2) (drop-replicate (2 * k) 1024 0) ∙ little_zero (1024 - 2 * k)

no_bytes : filled 0 ≡ zeros 1024
unfolding filled zeros
no_bytes = refl

-- zeros that were put stand, or there is no such block
fresh_body : (g : Geometry) (blocks : List (List ℕ)) (zone : ℕ) → disk_of (edited g blocks (put_body zone (zeros 1024))) zone ≡ zeros 1024
unfolding edited
fresh_body g blocks zone = elim (cases_lt zone (length blocks)) [
  | inl low ↦ get_or-set_same blocks zone (zeros 1024) (filled 0) low
  | inr far ↦ get_or_past (set blocks zone (zeros 1024)) zone (filled 0) (let long = length-set blocks zone (zeros 1024) in omega arith) ∙ no_bytes
]

fresh_entry : (g : Geometry) (blocks : List (List ℕ)) (zone k : ℕ) → entry_behind (entry_of (edited g blocks (put_body zone (zeros 1024)))) zone k ≡ 0
fresh_entry g blocks zone k = elim (cases_Bool (nat_eq zone 0)) [
  | inl t ↦ rw t refl
  | inr f ↦ rw f (ap (λ body. zone_number body k) (fresh_body g blocks zone) ∙ no_number k)
]

module _ (g : Geometry) (t : TakenZones) (s : OpenInode) (index : ℕ) (hole : own_of s (block index) ≡ 0) where
  direct : index < 7 → touched_by_all g (all_edits g t (zeros 1024) s (way index)) ≡ t.data_zone ∷ []
  direct low = rw (way-direct index low, hole, home-direct index low) refl

  -- the inode has a zone of numbers
  behind : 7 ≤ index → index < 519 → nat_eq (own_of s indirect) 0 ≡ false → touched_by_all g (all_edits g t (zeros 1024) s (way index)) ≡ t.data_zone ∷ slice_index s.inode.zones 7 ∷ []
  behind far few some = rw (way-single index far few, some, hole, home-single index far few) refl

  -- it gets one
  abbrev next : OpenInode
  next = get_zone g s indirect t.outer (zeros 1024)

  here : length s.inode.zones ≡ 9 → slice_index (slice_set s.inode.zones 7 t.outer) 7 ≡ t.outer
  here nine = get_or-set_same s.inode.zones 7 t.outer 0 (omega arith)

  empty : 7 ≤ index → index < 519 → length s.inode.zones ≡ 9 → own_of next (block index) ≡ 0
  empty far few nine =
      behind_indirect next index far few ∙ (ap (λ zone. entry_behind (entry_of next.blocks) zone (index - 7)) (here nine) ∙ fresh_entry g s.blocks t.outer (index - 7))

  fresh : 7 ≤ index → index < 519 → nat_eq (own_of s indirect) 0 ≡ true → length s.inode.zones ≡ 9 →
      touched_by_all g (all_edits g t (zeros 1024) s (way index)) ≡ t.outer ∷ t.data_zone ∷ t.outer ∷ []
  fresh far few none nine = rw (way-single index far few, none, empty far few nine, home-single index far few) (ap (λ zone. t.outer ∷ t.data_zone ∷ zone ∷ []) (here nine))

  pub blocks_are : index < 519 → length s.inode.zones ≡ 9 → touched_by_all g (all_edits g t (zeros 1024) s (way index)) ≡ blocks_mapped s.inode index t
  blocks_are few nine = elim (cases_lt index 7) [
    | inl low ↦ (let e : blocks_mapped s.inode index t ≡ t.data_zone ∷ [] = rw (lt-ltb index 7 low) refl in direct low ∙ sym e)
    | inr far ↦ elim (cases_Bool (nat_eq (slice_index s.inode.zones 7) 0)) [
      | inl none ↦ (let e : blocks_mapped s.inode index t ≡ t.outer ∷ t.data_zone ∷ t.outer ∷ [] = rw (le-ltb index 7 far, none) refl in fresh far few none nine ∙ sym e)
      | inr some ↦ (let e : blocks_mapped s.inode index t ≡ t.data_zone ∷ slice_index s.inode.zones 7 ∷ [] = rw (le-ltb index 7 far, some) refl in behind far few some ∙ sym e)
    ]
  ]
