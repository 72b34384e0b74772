-- All zones of a directory that goes: those of its slots, and the one of numbers.
use Rattle.std.specs.Prelude.{◌≡◌, ◌≢◌, ℕ, zero, suc, ◌+◌, ◌*◌, ◌<◌, ◌≤◌, nat_eq, nat_lt, Bool, true, false, not, ◌&&◌, if◌then◌else◌, List, [], ◌∷◌, ◌++◌, length, map, filter, Some, refl}
use Rattle.std.specs.List.{range_with_len}
use Rattle.std.specs.Int.{div_ceil}
use Rattle.std.proofs.Common.{sym, ap, subst, ◌∙◌, inl, inr, ⊎_elim, arith}
use Rattle.std.proofs.lemmas.Bool.{cases_Bool, true≢false, ltb-true, ltb-false}
use Rattle.std.proofs.lemmas.Grind.{div_ceil_times}
use Rattle.blk_base.specs.Members.{In}
use Rattle.blk_base.specs.laws.Members.{In-map, map-In, In-append_left, In-append_right, In-append_cases}
use Rattle.minix_layout.specs.Widths.{slot_size, slots_a_block}
use Rattle.minix_layout.specs.laws.Places.{IsForm, narrow, wide, form_is}
use Rattle.tree_model.specs.Maps.{at_number}
use Rattle.tree_model.specs.Calls.{directory_zones, node_zones}
use Rattle.volume_model.specs.declared.placed.Placed.{Placed}
use Rattle.volume_model.specs.declared.placed.Part.TheVariants as parts
use Rattle.volume_model.specs.declared.placed.DirectoryPart.{DirectoryPart}
use Rattle.volume_model.specs.Counts.{number_places}
use Rattle.volume_model.specs.Plain.{HasSlotZones}
use Rattle.volume_model.specs.Trees.{node_from, node_now}
use Rattle.volume_model.specs.Volume.{IsPart, IsDirectoryPart, Place, block, indirect, double, inner, zone_in, at_indirect, at_double, at_inner}
use Rattle.volume_model.specs.Ways.{OnWay}
use Rattle.volume_model.specs.laws.OnWay.{way_mapped}
use Rattle.volume_model.specs.laws.ZoneMoves.{no_numbers}
use Rattle.volume_steps.specs.Now.{VolumeNow}
use Rattle.volume_model.specs.Moves.{IsVolume}
use Rattle.volume_steps.specs.Steps.{all_numbers, block_zones, metadata_gone, pages_gone}
use Rattle.volume_steps.proofs.CutStep.{in_range, length_map, length_both}
use Rattle.volume_steps.proofs.Grows.{is_directory_part}
use Rattle.volume_steps.proofs.Taking.{AreApart, apart_both}
use Rattle.volume_steps.proofs.Drops.{IsGone}
use Rattle.volume_steps.proofs.GoneFiles.{in_from, one_place, goes_some, some_goes, number_in, in_number, numbers_once}

filter_none : {X : Type 0} (p : X → Bool) (xs : List X) → ((x : X) → In x xs → p x ≡ false) → filter p xs ≡ []
filter_none p [] none = refl
filter_none p (x ∷ xs) none = rw (none x (inl refl)) (filter_none p xs (λ y i. none y (inr i)))

length_range : (a n : ℕ) → length (range_with_len a n) ≡ n
length_range a zero = refl
length_range a (suc n) = ap suc (length_range (a + 1) n)

-- the blocks of so many slots are those that begin below their end
block_begins : (size per : ℕ) → IsForm size per → (slots index : ℕ) → index < div_ceil slots per → per * index < slots
block_begins size per narrow slots index low = let ceil = div_ceil_times slots 64 (omega arith) in omega arith
block_begins size per wide slots index low = let ceil = div_ceil_times slots 32 (omega arith) in omega arith

begins_in_count : (size per : ℕ) → IsForm size per → (slots index : ℕ) → per * index < slots → index < div_ceil slots per
begins_in_count size per narrow slots index low = let ceil = div_ceil_times slots 64 (omega arith) in omega arith
begins_in_count size per wide slots index low = let ceil = div_ceil_times slots 32 (omega arith) in omega arith

few_begin : (size per : ℕ) → IsForm size per → (slots index : ℕ) → per * index < slots → slots ≤ 519 * per → index < 519
few_begin size per narrow slots index low few = omega arith
few_begin size per wide slots index low few = omega arith

no_eighth : (size per : ℕ) → IsForm size per → (slots index : ℕ) → per * index < slots → 7 ≤ index → slots ≤ 7 * per → ⊥
no_eighth size per narrow slots index low high few = omega arith
no_eighth size per wide slots index low high few = omega arith

module _ (v : VolumeNow) (h : IsVolume v.geometry v.contents) (n : ℕ) (p : Placed) (at : at_number v.contents.nodes n ≡ Some p) (d : DirectoryPart) (is : p.part ≡ parts.Directory d)
    (slotted : HasSlotZones v.geometry v.contents.blocks p.inode (length d.slots)) where
  abbrev own : Place → ℕ
  own x = zone_in v.contents.blocks p.inode x

  abbrev goes : Place → Bool
  goes x = not (nat_eq (own x) 0) && not false

  abbrev numbers : List ℕ
  numbers = all_numbers v.contents p

  abbrev data_zone : ℕ → ℕ
  data_zone index = own (block index)

  abbrev count : ℕ
  count = div_ceil (length d.slots) (slots_a_block d.width)

  of_volume : d.width ≡ v.geometry.width
  of_volume =
      let part : IsDirectoryPart v.geometry v.contents.blocks p.inode d = subst (IsPart v.geometry v.contents.blocks p.inode) is (h.0.each n p at).part in
      part.width

  form : IsForm (slot_size d.width) (slots_a_block d.width)
  form = form_is d.width

  abbrev data_zones : List ℕ
  data_zones = map data_zone (range_with_len 0 count)

  below : (index : ℕ) → index < count → slots_a_block v.geometry.width * index < length d.slots
  below index low = subst (λ width. slots_a_block width * index < length d.slots) of_volume (block_begins (slot_size d.width) (slots_a_block d.width) form (length d.slots) index low)

  within : (index : ℕ) → slots_a_block v.geometry.width * index < length d.slots → index < count
  within index low =
      begins_in_count (slot_size d.width) (slots_a_block d.width) form (length d.slots) index (subst (λ width. slots_a_block width * index < length d.slots) (sym of_volume) low)

  data_at : (z : ℕ) → In z data_zones → (index : ℕ) × (own (block index) ≢ 0) × (own (block index) ≡ z)
  data_at z i =
      let w = In-map data_zone (range_with_len 0 count) z i in
      let low = (in_range 0 count w.0 w.1).1 in
      (w.0, slotted.no_hole w.0 (below w.0 (omega arith)), w.2)

  data_in : (index : ℕ) → own (block index) ≢ 0 → In (own (block index)) data_zones
  data_in index some = map-In data_zone (range_with_len 0 count) index (let low = within index (slotted.no_more index some) in in_from 0 count index (omega arith) (omega arith))

  zones_apart : (a k : ℕ) → a + k ≤ count → AreApart (map data_zone (range_with_len a k))
  zones_apart a zero low = tt
  zones_apart a (suc k) low = (alone, zones_apart (a + 1) k (omega arith))
    where
      alone : In (data_zone a) (map data_zone (range_with_len (a + 1) k)) → ⊥
      alone i =
          let w = In-map data_zone (range_with_len (a + 1) k) (data_zone a) i in
          let range = in_range (a + 1) k w.0 w.1 in
          let same : block a ≡ block w.0 = one_place v h n p at (block a) (block w.0) (sym w.2) (slotted.no_hole a (below a (omega arith))) in
          let e : a ≡ w.0 = cc same in
          let up = range.0 in
          omega arith

  abbrev gone : List ℕ
  gone = data_zones ++ numbers

  all_in : (x : Place) → own x ≢ 0 → In (own x) gone
  all_in (block i) some = In-append_left data_zones numbers (own (block i)) (data_in i some)
  all_in indirect some = In-append_right data_zones numbers (own indirect) (number_in v h n p at indirect at_indirect some)
  all_in double some = In-append_right data_zones numbers (own double) (number_in v h n p at double at_double some)
  all_in (inner k) some = In-append_right data_zones numbers (own (inner k)) (number_in v h n p at (inner k) at_inner some)

  has_all : (z : ℕ) → In z gone → (x : Place) × (own x ≢ 0) × (own x ≡ z)
  has_all z i = ⊎_elim (λ j. let w = data_at z j in (block w.0, w.1, w.2)) (λ j. let w = in_number v h n p at z j in (w.0, w.2, w.3)) (In-append_cases data_zones numbers z i)

  directory_gone : IsGone own n true gone gone []
  directory_gone = record {
    all = all_in;
    has = has_all;
    once = apart_both data_zones numbers (zones_apart 0 count (omega arith)) (numbers_once v h n p at) (λ z i j.
        let w = data_at z i in
        let y = in_number v h n p at z j in
        no_numbers y.0 w.0 (one_place v h n p at y.0 (block w.0) (y.3 ∙ sym w.2) y.2) y.1);
    meta = λ x some kind. all_in x some;
    meta_has = has_all;
    pages = λ y i. absurd i;
    pages_all = λ kind index some. absurd (true≢false kind);
  }

  -- ---- how many they are

  -- its blocks lie before those that need two zones of numbers
  near : (index : ℕ) → own (block index) ≢ 0 → index < 519
  near index some = few_begin (slot_size v.geometry.width) (slots_a_block v.geometry.width) (form_is v.geometry.width) (length d.slots) index (slotted.no_more index some) slotted.few

  no_second : (x : Place) → In x (double ∷ map inner (range_with_len 0 512)) → goes x ≡ false
  no_second x i = elim (cases_Bool (goes x)) [
    | inr f ↦ f
    | inl t ↦
        let w = h.1 n p at x (goes_some v h n p at x t) in
        let low = near w.0 w.1 in
        absurd (far x i w.0 w.2 low)
  ]
    where
      far : (x : Place) → In x (double ∷ map inner (range_with_len 0 512)) → (index : ℕ) → OnWay x index → index < 519 → ⊥
      far x (inl e) index on low = let way = subst (λ x. OnWay x index) (sym e) on in let high = way.0 in omega arith
      far x (inr i) index on low =
          let w = In-map inner (range_with_len 0 512) x i in
          let way = subst (λ x. OnWay x index) (sym w.2) on in
          let high = way.0 in
          omega arith

  first_goes : goes indirect ≡ nat_lt (7 * slots_a_block v.geometry.width) (length d.slots)
  first_goes = elim (cases_Bool (nat_lt (7 * slots_a_block v.geometry.width) (length d.slots))) [
    | inl t ↦
        let more = ltb-true _ _ t in
        some_goes v h n p at indirect (way_mapped v.contents.blocks p.inode h.0.whole indirect 7 ((omega arith), (omega arith)) (slotted.no_hole 7 (omega arith))) ∙ sym t
    | inr f ↦ elim (cases_Bool (goes indirect)) [
      | inr g ↦ g ∙ sym f
      | inl t ↦
          let w = h.1 n p at indirect (goes_some v h n p at indirect t) in
          let low = slotted.no_more w.0 w.1 in
          let high = w.2.0 in
          let few = ltb-false _ _ f in
          absurd (no_eighth (slot_size v.geometry.width) (slots_a_block v.geometry.width) (form_is v.geometry.width) (length d.slots) w.0 low high few)
    ]
  ]

  numbers_counted : length numbers ≡ (if nat_lt (7 * slots_a_block v.geometry.width) (length d.slots) then 1 else 0)
  numbers_counted =
      length_map own (filter goes number_places)
      ∙ (by (goes indirect) refl ∙ ap (λ (b : Bool). if b then 1 else 0) first_goes)
    where
      by : (b : Bool) → goes indirect ≡ b → length (filter goes number_places) ≡ (if goes indirect then 1 else 0)
      by true e = rw e (ap (λ (xs : List Place). suc (length xs)) (filter_none goes (double ∷ map inner (range_with_len 0 512)) no_second))
      by false e = rw e (ap (λ (xs : List Place). length xs) (filter_none goes (double ∷ map inner (range_with_len 0 512)) no_second))

  -- they are as many as the tree counts
  directory_counted : length gone ≡ directory_zones d.width (length d.slots)
  directory_counted = sums (length gone) (length data_zones) (length numbers) count _ (length_both data_zones numbers) (length_map data_zone (range_with_len 0 count) ∙ length_range 0 count)
      (subst (λ width. length numbers ≡ (if nat_lt (7 * slots_a_block width) (length d.slots) then 1 else 0)) (sym of_volume) numbers_counted)
    where
      sums : (t a b c e : ℕ) → t ≡ a + b → a ≡ c → b ≡ e → t ≡ c + e
      sums t a b c e p q r = omega arith

  -- so by its part
  pub lists_of_directory : IsGone own n (is_directory_part p.part) (block_zones v.contents p p.part ++ all_numbers v.contents p) (metadata_gone v.contents p p.part) (pages_gone n p.part)
  lists_of_directory = subst (λ part. IsGone own n (is_directory_part part) (block_zones v.contents p part ++ all_numbers v.contents p) (metadata_gone v.contents p part) (pages_gone n part)) (sym is) directory_gone

  pub count_of_directory : length (block_zones v.contents p p.part ++ all_numbers v.contents p) ≡ node_zones (node_now v.contents.blocks p)
  count_of_directory = ap (λ part. length (block_zones v.contents p part ++ all_numbers v.contents p)) is ∙ (directory_counted ∙ sym (ap (λ part. node_zones (node_from v.contents.blocks p.inode part)) is))
