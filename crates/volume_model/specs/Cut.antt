-- All blocks of a file from an index on go, and the zones of numbers that only led to them.
use Rattle.std.specs.Prelude.{◌≡◌, ◌≢◌, ℕ, suc, ◌-◌, ◌/◌, ◌%◌, ◌<◌, ◌*◌, nat_lt, nat_eq, not, ◌&&◌, Bool, true, if◌then◌else◌, List, [], ◌∷◌, map, drop, slice_index}
use Rattle.std.specs.List.{list_any, range_with_len}
use Rattle.minix_layout.specs.declared.division.Geometry.{Geometry}
use Rattle.volume_ops.specs.Volume.{disk_of}
use Rattle.volume_model.specs.Edits.{Edit, clear_from, edited_all}
use Rattle.volume_model.specs.Volume.{Place, block, indirect, double, inner, IsOfNumbers}
use Rattle.volume_model.specs.Ways.{slot, place_at, OnWay}
use Rattle.volume_model.specs.MapBlock.{OpenInode, own_of, with_zones}

-- Which places stay: blocks below the index, and zones of numbers on the way to one of these that is mapped.
pub record IsKeep (own : Place → ℕ) (from : ℕ) (keeps : Place → Bool) : Type 0 where
  pub blocks : (i : ℕ) → keeps (block i) ≡ nat_lt i from
  pub kept : (x : Place) → IsOfNumbers x → keeps x ≡ true → (index : ℕ) × (index < from) × (own (block index) ≢ 0) × OnWay x index
  pub held : (x : Place) (index : ℕ) → index < from → own (block index) ≢ 0 → OnWay x index → keeps x ≡ true

-- zones of numbers that are cut within, and from which entry on
abbrev pub cuts : (Place → Bool) → ℕ → List (Place × ℕ)
cuts keeps from =
    if nat_lt from 7 then []
    else (if nat_lt from 519 then (indirect, from - 7) ∷ []
    else (if nat_lt from 262663 then (inner ((from - 519) / 512), (from - 519) % 512) ∷ (double, if keeps (inner ((from - 519) / 512)) then suc ((from - 519) / 512) else (from - 519) / 512) ∷ []
    else []))

-- those that stay are written
abbrev pub cut_edits : (Place → ℕ) → (Place → Bool) → List (Place × ℕ) → List Edit
cut_edits own keeps [] = []
cut_edits own keeps (c ∷ cs) = if keeps c.0 then clear_from (own c.0) c.1 ∷ cut_edits own keeps cs else cut_edits own keeps cs

-- a byte of a zone of numbers is not 0, from this number of it on
unfoldable pub has_numbers : List (List ℕ) → ℕ → ℕ → Bool
has_numbers blocks zone at = list_any (λ x. not (nat_eq x 0)) (drop (2 * at) (disk_of blocks zone))

-- and those of them in which a number changes are touched
abbrev pub cut_told : List (List ℕ) → (Place → ℕ) → (Place → Bool) → List (Place × ℕ) → List ℕ
cut_told blocks own keeps [] = []
cut_told blocks own keeps (c ∷ cs) = if keeps c.0 && has_numbers blocks (own c.0) c.1 then own c.0 ∷ cut_told blocks own keeps cs else cut_told blocks own keeps cs

-- the nine of an inode, with 0 for each place that goes
abbrev pub cut_zones : (Place → Bool) → List ℕ → List ℕ
cut_zones keeps zones = map (λ k. if keeps (place_at (slot k)) then slice_index zones k else 0) (range_with_len 0 9)

-- the blocks from this index on go, and so do the zones of numbers that `keeps` does not hold; the size stays
unfoldable pub cut_to : Geometry → (Place → Bool) → OpenInode → ℕ → OpenInode
cut_to g keeps s from = record {
  blocks = edited_all g s.blocks (cut_edits (own_of s) keeps (cuts keeps from));
  inode = with_zones s.inode (cut_zones keeps s.inode.zones);
}
