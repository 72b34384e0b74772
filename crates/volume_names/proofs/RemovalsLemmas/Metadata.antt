-- The zones that go with a node, as they are listed.
use Rattle.std.specs.Prelude.{◌≡◌, ℕ, suc, ◌+◌, ◌-◌, ◌<◌, nat_eq, false, not, ◌&&◌, List, [], ◌∷◌, ◌++◌, map, filter, Some, refl}
use Rattle.std.specs.Int.{div_ceil}
use Rattle.std.specs.List.{range_with_len}
use Rattle.std.proofs.Common.{sym, ap, ◌∙◌, length, arith}
use Rattle.std.proofs.lemmas.List.{append_assoc}
use Rattle.std.proofs.lemmas.Option.{same_Some}
use Rattle.minix_layout.specs.Widths.{slots_a_block}
use Rattle.tree_model.specs.Maps.{at_number}
use Rattle.volume_ops.specs.declared.found.Mapped.{Mapped}
use Rattle.volume_model.specs.declared.placed.Placed.{Placed}
use Rattle.volume_model.specs.declared.placed.Part.{Part}
use Rattle.volume_model.specs.declared.placed.Part.TheVariants as parts
use Rattle.volume_model.specs.declared.placed.DirectoryPart.{DirectoryPart}
use Rattle.volume_model.specs.Counts.{number_places}
use Rattle.volume_model.specs.Touched.{Contents}
use Rattle.volume_model.specs.Volume.{Place, block, indirect, double, inner, zone_in, IsOfNumbers}
use Rattle.volume_model.specs.editing.Zones.{numbers_cut}
use Rattle.volume_steps.specs.Now.{VolumeNow}
use Rattle.volume_steps.specs.Steps.{all_numbers, metadata_gone}
use Rattle.volume_steps.proofs.CutStep.{filter_agree_in, of_numbers_place}
use Rattle.volume_names.specs.removals.code.Dropping.{no_place}

-- no zone of numbers stays
none_stays : (x : Place) → IsOfNumbers x → no_place x ≡ false
none_stays (block i) h = elim h [ ]
none_stays indirect h = refl
none_stays double h = refl
none_stays (inner k) h = refl

-- the zones at these places
abbrev numbers_by : (Place → ℕ) → List ℕ
numbers_by own = map own (filter (λ x. not (nat_eq (own x) 0) && not false) number_places)

pub numbers_all : (c : Contents) (p : Placed) → numbers_cut c.blocks p.inode no_place ≡ all_numbers c p
unfolding numbers_cut
numbers_all c p =
    ap (map (λ x. zone_in c.blocks p.inode x))
    (filter_agree_in (λ x. not (nat_eq (zone_in c.blocks p.inode x) 0) && not (no_place x)) (λ x. not (nat_eq (zone_in c.blocks p.inode x) 0) && not false) number_places
    (λ x i. ap (λ b. not (nat_eq (zone_in c.blocks p.inode x) 0) && not b) (none_stays x (of_numbers_place x i))))

abbrev metadata_by : (Place → ℕ) → Part → List ℕ
metadata_by own (parts.File zones) = numbers_by own
metadata_by own (parts.Directory d) = map (λ index. own (block index)) (range_with_len 0 (div_ceil (length d.slots) (slots_a_block d.width))) ++ numbers_by own

metadata_as : (c : Contents) (p : Placed) (part : Part) → metadata_gone c p part ≡ metadata_by (λ x. zone_in c.blocks p.inode x) part
metadata_as c p (parts.File zones) = refl
metadata_as c p (parts.Directory d) = refl

-- a node that keeps its zones keeps those that are metadata
pub metadata_kept : (v w : Contents) (p : Placed) → ((x : Place) → zone_in w.blocks p.inode x ≡ zone_in v.blocks p.inode x) → metadata_gone w p p.part ≡ metadata_gone v p p.part
metadata_kept v w p same = metadata_as w p p.part ∙ ((λ i. metadata_by (λ x. same x i) p.part) ∙ sym (metadata_as v p p.part))

-- ---- as they are listed

module _ (v w : VolumeNow) (birth : ℕ) (q p : Placed) where
  pub file_metadata : (zones : List Mapped) (numbers : List ℕ) → w ≡ v → at_number w.contents.nodes birth ≡ Some q → at_number v.contents.nodes birth ≡ Some p → q.part ≡ parts.File zones →
      numbers ≡ numbers_cut w.contents.blocks q.inode no_place → numbers ≡ metadata_gone v.contents p p.part
  file_metadata zones numbers e found at is listed =
      let same = same_Some q p (sym found ∙ (ap (λ (v : VolumeNow). at_number v.contents.nodes birth) e ∙ at)) in
      listed
      ∙ ((λ i. numbers_cut (e i).contents.blocks (same i).inode no_place)
      ∙ (numbers_all v.contents p ∙ sym (ap (metadata_gone v.contents p) (ap (λ (p : Placed). p.part) (sym same) ∙ is))))

  pub directory_metadata : (d : DirectoryPart) (numbers zones all : List ℕ) (count slots : ℕ) → w ≡ v → at_number w.contents.nodes birth ≡ Some q → at_number v.contents.nodes birth ≡ Some p → q.part ≡ parts.Directory d →
      numbers ≡ numbers_cut w.contents.blocks q.inode no_place → zones ≡ map (λ index. zone_in w.contents.blocks q.inode (block index)) (range_with_len 0 count) → count ≡ div_ceil slots (slots_a_block d.width) → slots ≡ length d.slots →
      all ≡ zones ++ numbers → all ≡ metadata_gone v.contents p p.part
  directory_metadata d numbers zones all count slots e found at is listed zones_are count_is slots_are all_is =
      let same = same_Some q p (sym found ∙ (ap (λ (v : VolumeNow). at_number v.contents.nodes birth) e ∙ at)) in
      all_is
      ∙ ((λ i. zones_are i ++ listed i)
      ∙ ((λ i. map (λ index. zone_in (e i).contents.blocks (same i).inode (block index)) (range_with_len 0 ((count_is ∙ ap (λ n. div_ceil n (slots_a_block d.width)) slots_are) i)) ++ numbers_cut (e i).contents.blocks (same i).inode no_place)
      ∙ (ap (λ (numbers : List ℕ). map (λ index. zone_in v.contents.blocks p.inode (block index)) (range_with_len 0 (div_ceil (length d.slots) (slots_a_block d.width))) ++ numbers) (numbers_all v.contents p)
      ∙ sym (ap (metadata_gone v.contents p) (ap (λ (p : Placed). p.part) (sym same) ∙ is)))))

-- ---- zones that are listed by index

module _ (own : ℕ → ℕ) (all : List ℕ) (count : ℕ) where
  abbrev from : ℕ → List ℕ
  from index = map own (range_with_len index (count - index))

  from_next : (index : ℕ) → index < count → from index ≡ own index ∷ from (index + 1)
  from_next index low = ap (λ n. map own (range_with_len index n)) (let e : count - index ≡ suc (count - (index + 1)) = omega arith in e)

  pub next_zone : (zones more : List ℕ) (index zone : ℕ) → index < count → zone ≡ own index → more ≡ zones ++ zone ∷ [] → zones ++ from index ≡ all → more ++ from (index + 1) ≡ all
  next_zone zones more index zone low z e before =
      ap (λ xs. xs ++ from (index + 1)) e
      ∙ (append_assoc zones (zone ∷ []) (from (index + 1))
      ∙ (ap (λ z. zones ++ z ∷ from (index + 1)) z ∙ (sym (ap (λ xs. zones ++ xs) (from_next index low)) ∙ before)))
