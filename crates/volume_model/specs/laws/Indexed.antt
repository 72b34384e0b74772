-- The indices of a file in a volume that stands, and the zones that the plain step counts for it.
use Rattle.std.specs.Prelude.{◌≡◌, ℕ, nat_lt, List, [], ◌∷◌, filter, Some, refl}
use Rattle.std.specs.Map.{keys_of}
use Rattle.std.proofs.Common.{sym, ap, subst, ◌∙◌, inl, inr, arith}
use Rattle.std.proofs.lemmas.Bool.{cases_Bool}
use Rattle.blk_base.specs.laws.Members.{In-map, map-In}
use Rattle.minix_layout.specs.declared.division.Geometry.{Geometry}
use Rattle.tree_model.specs.Maps.{at_number}
use Rattle.volume_ops.specs.declared.found.Mapped.{Mapped}
use Rattle.volume_ops.specs.Volume.{disk_of, bodies_of}
use Rattle.volume_model.specs.declared.placed.Placed.{Placed}
use Rattle.volume_model.specs.declared.placed.Part.TheVariants as parts
use Rattle.volume_model.specs.Volume.{block, zone_in, IsFilePart, IsPart, IsVolumeOf}
use Rattle.volume_model.specs.laws.Ways.{direct, single, twice, past, range, home-past, own_none}
use Rattle.volume_model.specs.Ways.{IsJust}
use Rattle.volume_model.specs.laws.OnWay.{way_mapped}
use Rattle.volume_model.specs.Counts.{indices_of}
use Rattle.volume_model.specs.laws.Counts.{IsIndexed}

-- the indices of a file's list are those of its mapped blocks
pub file_indexed : (g : Geometry) (blocks : List (List ℕ)) (nodes : List (ℕ × Placed)) (n : ℕ) (p : Placed) (zones : List Mapped) → IsVolumeOf g blocks nodes → at_number nodes n ≡ Some p → p.part ≡ parts.File zones →
    IsJust (λ x. zone_in blocks p.inode x) → IsIndexed (λ x. zone_in blocks p.inode x) (indices_of zones)
file_indexed g blocks nodes n p zones h at is just =
    let part : IsFilePart blocks p.inode zones = subst (IsPart g blocks p.inode) is (h.each n p at).part in
    record {
      mapped = λ i j. (let w = In-map (λ (m : Mapped). m.index) zones i j in let told = part.listed w.0 w.1 in
          λ none. told.1 (sym told.0 ∙ (ap (λ i. zone_in blocks p.inode (block i)) w.2 ∙ none)));
      full = λ i some. map-In (λ (m : Mapped). m.index) zones _ (part.full i some);
      low = λ i some. elim (range i) [
        | direct low ↦ omega arith
        | single low high ↦ omega arith
        | twice low high ↦ high
        | past low ↦ absurd (some (own_none blocks p.inode h.whole (block i) (home-past i low)))
      ];
      just = just;
      behind = λ x i on some. way_mapped blocks p.inode h.whole x i on some;
    }

-- ---- the plain step's map of a file

pub keys_bodies : (blocks : List (List ℕ)) (zones : List Mapped) → keys_of (bodies_of blocks zones) ≡ indices_of zones
keys_bodies blocks [] = refl
keys_bodies blocks (m ∷ ms) = ap (λ (is : List ℕ). m.index ∷ is) (keys_bodies blocks ms)

pub filter_bodies : (blocks : List (List ℕ)) (from : ℕ) (zones : List Mapped) → filter (λ e. nat_lt e.0 from) (bodies_of blocks zones) ≡ bodies_of blocks (filter (λ m. nat_lt m.index from) zones)
filter_bodies blocks from [] = refl
filter_bodies blocks from (m ∷ ms) = elim (cases_Bool (nat_lt m.index from)) [
  | inl t ↦ rw t (ap (λ (es : List (ℕ × List ℕ)). (m.index, disk_of blocks m.zone) ∷ es) (filter_bodies blocks from ms))
  | inr f ↦ rw f (filter_bodies blocks from ms)
]

pub filter_indices : (from : ℕ) (zones : List Mapped) → filter (λ i. nat_lt i from) (indices_of zones) ≡ indices_of (filter (λ m. nat_lt m.index from) zones)
filter_indices from [] = refl
filter_indices from (m ∷ ms) = elim (cases_Bool (nat_lt m.index from)) [
  | inl t ↦ rw t (ap (λ (is : List ℕ). m.index ∷ is) (filter_indices from ms))
  | inr f ↦ rw f (filter_indices from ms)
]
