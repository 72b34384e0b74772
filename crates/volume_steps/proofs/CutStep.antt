-- The blocks of a file from an index on go, and their zones wait.
use Rattle.std.specs.Prelude.{◌≡◌, ◌≢◌, ℕ, zero, suc, ◌+◌, ◌<◌, ◌≤◌, nat_eq, nat_lt, nat_le, Bool, true, false, not, ◌&&◌, if◌then◌else◌, List, [], ◌∷◌, ◌++◌, length, map, filter, Option, Some, refl, ◌⊎◌, drop, ◌*◌}
use Rattle.std.specs.List.{AllByRecursion, list_any, range_with_len}
use Rattle.std.specs.List.Sorted.{IsStrictlySortedBy}
use Rattle.std.specs.Ordering.{nat_cmp}
use Rattle.std.proofs.Common.{Less, sym, ap, subst, ◌∙◌, inl, inr, ⊎_elim, arith}
use Rattle.std.proofs.lemmas.Bool.{cases_Bool, cases_eq, eqb-false, ltb-false, lt-ltb, leb-false, true≢false, le-ltb, leb-true}
use Rattle.std.proofs.lemmas.Option.{same_Some}
use Rattle.blk_base.specs.Members.{In}
use Rattle.blk_base.specs.laws.Members.{In-map, In-filter, map-In, filter-In, filter_all, In-append_left, In-append_right, In-append_cases, none-list_any}
use Rattle.minix_layout.specs.declared.division.Geometry.{Geometry}
use Rattle.tree_model.specs.declared.node.File.{File}
use Rattle.tree_model.specs.declared.node.Node.TheVariants as nodes
use Rattle.tree_model.specs.Maps.{at_number, put_number}
use Rattle.tree_model.specs.laws.MapsLaws.{at_put_number, at_put_number_apart}
use Rattle.tree_model.specs.Calls.{node_zones, used_zones}
use Rattle.volume_ops.specs.declared.found.Mapped.{Mapped}
use Rattle.volume_ops.specs.Places.{largest_size}
use Rattle.volume_ops.specs.Volume.{disk_of, bodies_of}
use Rattle.minix_tables.specs.declared.zones.zone_state.ZoneState.{ZoneState}
use Rattle.minix_tables.specs.declared.zones.zone_state.ZoneState.TheVariants as states
use Rattle.minix_tables.specs.zones.Zones.{state_of}
use Rattle.volume_model.specs.declared.placed.Placed.{Placed}
use Rattle.volume_model.specs.declared.placed.Part.TheVariants as parts
use Rattle.volume_model.specs.Counts.{indices_of, keeps_below, number_places, uses as uses_place, zones_of_file}
use Rattle.volume_model.specs.Cut.{IsKeep, cuts, cut_edits, cut_to, has_numbers, cut_told, cut_zones}
use Rattle.volume_model.specs.Edits.{Edit, touched_by_all, touched_by}
use Rattle.volume_model.specs.MapBlock.{OpenInode, own_of, with_zones}
use Rattle.volume_model.specs.Moves.{IsVolume, file_cut, file_cut_touches, numbers_gone, page_of, opened, back_told}
use Rattle.volume_model.specs.Plain.{HasZone}
use Rattle.volume_model.specs.Touched.{Contents, Page, Touched, Tells}
use Rattle.volume_model.specs.Trees.{node_now, tree_now}
use Rattle.volume_model.specs.Volume.{Place, block, indirect, double, inner, zone_in, IsPart, IsFilePart, IsRising, IsOfNumbers, at_indirect, at_double, at_inner}
use Rattle.volume_model.specs.laws.Counts.{IsIndexed, keep_below, count_cut, used_or_hole}
use Rattle.volume_model.specs.laws.CutTells.{cut_tells_all, gone_is, in_gone, left as left_cut, stays_as as stays_cut, theirs as theirs_cut, page_bytes as page_bytes_cut, after as after_cut}
use Rattle.volume_model.specs.laws.Indexed.{file_indexed, filter_bodies, filter_indices}
use Rattle.volume_model.specs.laws.Touched.{tells_then}
use Rattle.volume_model.specs.laws.ZoneMoves.{cut_file_stands, cut_file_just, no_numbers}
use Rattle.volume_steps.specs.Now.{VolumeNow, Change, tree_of_now, unchanged, written, tells_writes}
use Rattle.volume_steps.specs.Plain.{IsInUse}
use Rattle.volume_steps.specs.Steps.{blocks_cut, cut_blocks}
use Rattle.volume_steps.specs.Zones.{all_given, zone_bit}
use Rattle.volume_steps.specs.laws.Steady.{IsSteady}
use Rattle.volume_steps.proofs.Bits.{ChangesNone, AreZones, kept_volume, kept_zone, kept_tree, bits_none, bits_tell, node_kept, bits_before}
use Rattle.volume_steps.proofs.FileSteps.{IsFileStep, IsFileAt, IsFileChange, change_settled, change_slotted, change_directories, file_at, at_file_is}
use Rattle.volume_steps.proofs.Files.{bodies_kept, node_is_file, node_zones_are, tree_changed}
use Rattle.volume_steps.proofs.PageStep.{unchanged_step}
use Rattle.volume_steps.proofs.Taking.{given_lowest, AreApart, AreGiven, all_are_given, apart_both, in_zones, frees, uses}
use Rattle.volume_steps.proofs.TakeZones.{zone_range}
use Rattle.volume_steps.proofs.Together.{tells_as, used_waits}
use Rattle.volume_steps.proofs.TreeSteps.{tree_at, tree_in_order, used_put_more}
use Rattle.volume_steps.proofs.Listed.{put_told}
use Rattle.volume_steps.proofs.Marked.{SameMaps, marks_given, numbers_put}
use Rattle.volume_model.specs.laws.Edits.{untouched}
use Rattle.volume_model.specs.laws.Changes.{table_below}
use Rattle.volume_model.specs.laws.Back.{back_apart}

-- ---- places of zones of numbers, each once

pub in_range : (a n i : ℕ) → In i (range_with_len a n) → (a ≤ i) × (i < a + n)
in_range a zero i j = absurd j
in_range a (suc n) i (inl e) = (omega arith, omega arith)
in_range a (suc n) i (inr j) = let r = in_range (a + 1) n i j in let low = r.0 in let high = r.1 in (omega arith, omega arith)

inner_apart : (a n : ℕ) → AreApart (map inner (range_with_len a n))
inner_apart a zero = tt
inner_apart a (suc n) = (
  (λ i. (let w = In-map inner (range_with_len (a + 1) n) (inner a) i in let r = in_range (a + 1) n w.0 w.1 in let low = r.0 in let e : w.0 ≡ a = cc w.2 in omega arith)),
  inner_apart (a + 1) n,
)

no_inner : (xs : List ℕ) (x : Place) → ((k : ℕ) → inner k ≢ x) → In x (map inner xs) → ⊥
no_inner xs x apart i = let w = In-map inner xs x i in apart w.0 w.2

pub places_apart : AreApart number_places
places_apart = (
  (λ i. elim i [ inl e ↦ cc e | inr j ↦ no_inner (range_with_len 0 512) indirect (λ k e. cc e) j ]),
  ((λ j. no_inner (range_with_len 0 512) double (λ k e. cc e) j), inner_apart 0 512),
)

pub of_numbers_place : (x : Place) → In x number_places → IsOfNumbers x
of_numbers_place x (inl e) = subst IsOfNumbers e at_indirect
of_numbers_place x (inr (inl e)) = subst IsOfNumbers e at_double
of_numbers_place x (inr (inr i)) = let w = In-map inner (range_with_len 0 512) x i in subst IsOfNumbers w.2 at_inner

-- ---- lists

pub length_map : {X Y : Type 0} (f : X → Y) (xs : List X) → length (map f xs) ≡ length xs
length_map f [] = refl
length_map f (x ∷ xs) = ap suc (length_map f xs)

pub length_both : (xs ys : List ℕ) → length (xs ++ ys) ≡ length xs + length ys
length_both [] ys = omega arith
length_both (x ∷ xs) ys = let rest = length_both xs ys in omega arith

pub filter_agree_in : {X : Type 0} (p q : X → Bool) (xs : List X) → ((x : X) → In x xs → p x ≡ q x) → filter p xs ≡ filter q xs
filter_agree_in p q [] same = refl
filter_agree_in p q (x ∷ xs) same =
    let rest = filter_agree_in p q xs (λ y i. same y (inr i)) in
    elim (cases_Bool (q x)) [
      | inl t ↦ rw (same x (inl refl) ∙ t, t) (ap (λ ys. x ∷ ys) rest)
      | inr f ↦ rw (same x (inl refl) ∙ f, f) rest
    ]

length_gone : (from : ℕ) (zones : List Mapped) → length (filter (λ i. not (nat_lt i from)) (indices_of zones)) ≡ length (filter (λ (m : Mapped). not (nat_lt m.index from)) zones)
length_gone from [] = refl
length_gone from (m ∷ zones) = elim (cases_Bool (nat_lt m.index from)) [
  | inl t ↦ rw t (length_gone from zones)
  | inr f ↦ rw f (ap suc (length_gone from zones))
]

is_less : (a b : ℕ) → nat_cmp a b ≡ Less → a < b
is_less a b is = grind arith

pub above_all : (low : ℕ) (zones : List Mapped) → AllByRecursion (λ y. nat_cmp low y ≡ Less) (indices_of zones) → (m : Mapped) → In m zones → low < m.index
above_all low [] h m i = absurd i
above_all low (z ∷ zones) h m (inl e) = (let next = is_less low z.index h.0 in let f : z.index ≡ m.index = ap (λ (m : Mapped). m.index) e in omega arith)
above_all low (z ∷ zones) h m (inr i) = above_all low zones h.1 m i

-- the zones that a cut writes are the node's
cut_touched : (g : Geometry) (own : Place → ℕ) (keeps : Place → Bool) (cs : List (Place × ℕ)) (b : ℕ) → In b (touched_by_all g (cut_edits own keeps cs)) → (x : Place) × (own x ≡ b)
cut_touched g own keeps [] b i = absurd i
cut_touched g own keeps (c ∷ cs) b i = elim (cases_Bool (keeps c.0)) [
  | inr f ↦ cut_touched g own keeps cs b (rw f at i)
  | inl t ↦ by (λ j. cut_touched g own keeps cs b j) (rw t at i)
]
  where
    by : (In b (touched_by_all g (cut_edits own keeps cs)) → (x : Place) × (own x ≡ b)) → (own c.0 ≡ b) ⊎ In b (touched_by_all g (cut_edits own keeps cs)) → (x : Place) × (own x ≡ b)
    by rest (inl e) = (c.0, e)
    by rest (inr j) = rest j

-- one of a list that passes a test
some_in : {X : Type 0} (xs : List X) (test : X → Bool) → list_any test xs ≡ true → (x : X) × In x xs × (test x ≡ true)
some_in [] test e = absurd (true≢false (sym e))
some_in (x ∷ xs) test e = elim (cases_Bool (test x)) [
  | inl t ↦ (x, inl refl, t)
  | inr f ↦ (let w = some_in xs test (rw f at e) in (w.0, inr w.1, w.2))
]

-- what is told of a cut, where the zones of numbers have the same bytes
cut_told_same : (blocks after : List (List ℕ)) (own other : Place → ℕ) (keeps : Place → Bool) (cs : List (Place × ℕ)) → ((x : Place) → other x ≡ own x) → ((x : Place) → disk_of after (own x) ≡ disk_of blocks (own x)) →
    cut_told after other keeps cs ≡ cut_told blocks own keeps cs
unfolding has_numbers
cut_told_same blocks after own other keeps [] same bytes = refl
cut_told_same blocks after own other keeps (c ∷ cs) same bytes =
    let rest = cut_told_same blocks after own other keeps cs same bytes in
    let body : disk_of after (other c.0) ≡ disk_of blocks (own c.0) = ap (disk_of after) (same c.0) ∙ bytes c.0 in
    λ k. if keeps c.0 && list_any (λ x. not (nat_eq x 0)) (drop (2 * c.1) (body k)) then same c.0 k ∷ rest k else rest k

-- ---- the step

module _ (tx : ℕ) (v : VolumeNow) (h : IsInUse v) (n : ℕ) (p : Placed) (zones : List Mapped) (at : at_number v.contents.nodes n ≡ Some p) (is : p.part ≡ parts.File zones) (from : ℕ) where
  abbrev g : Geometry
  g = v.geometry

  abbrev blocks : List (List ℕ)
  blocks = v.contents.blocks

  abbrev own : Place → ℕ
  own x = zone_in blocks p.inode x

  abbrev keeps : Place → Bool
  keeps = keeps_below (indices_of zones) from

  abbrev goes : Place → Bool
  goes x = not (nat_eq (own x) 0) && not (keeps x)

  abbrev gone : List Mapped
  gone = filter (λ m. not (nat_lt m.index from)) zones

  abbrev numbers : List ℕ
  numbers = numbers_gone v.contents p keeps

  abbrev data_gone : List ℕ
  data_gone = map (λ (m : Mapped). m.zone) gone

  abbrev freed : List ℕ
  freed = data_gone ++ numbers

  indexed : IsIndexed own (indices_of zones)
  indexed = file_indexed g blocks v.contents.nodes n p zones h.volume.0 at is (h.volume.1 n p at)

  keep : IsKeep own from keeps
  keep = keep_below own (indices_of zones) indexed from

  part : IsFilePart blocks p.inode zones
  part = subst (IsPart v.geometry blocks p.inode) is (h.volume.0.each n p at).part

  number_gone : (z : ℕ) → In z numbers → (x : Place) × (own x ≡ z) × (own x ≢ 0) × (keeps x ≡ false)
  number_gone z i = gone_is g h.sound blocks v.contents.nodes n p h.volume.0 at from keeps keep (h.volume.1 n p at) zones is z i

  data_at : (z : ℕ) → In z data_gone → (m : Mapped) × In m zones × (m.zone ≡ z) × (nat_lt m.index from ≡ false)
  data_at z i =
      let w = In-map (λ (m : Mapped). m.zone) gone z i in
      let f = In-filter (λ (m : Mapped). not (nat_lt m.index from)) zones w.0 w.1 in
      (w.0, f.0, w.2, turned (nat_lt w.0.index from) f.1)
    where
      turned : (b : Bool) → not b ≡ true → b ≡ false
      turned true t = sym t
      turned false t = refl

  -- what goes was a zone of the file, at a place that does not stay
  freed_at : (z : ℕ) → In z freed → (x : Place) × (own x ≡ z) × (own x ≢ 0) × (keeps x ≡ false)
  freed_at z i = ⊎_elim
      (λ j. let w = data_at z j in let told = part.listed w.0 w.1 in (block w.0.index, told.0 ∙ w.2, (λ none. told.1 (sym told.0 ∙ none)), w.3))
      (λ j. number_gone z j)
      (In-append_cases data_gone numbers z i)

  at_freed : (x : Place) → own x ≢ 0 → keeps x ≡ false → In (own x) freed
  at_freed (block i) some f =
      In-append_left data_gone numbers (own (block i))
      (map-In (λ (m : Mapped). m.zone) gone (record { index = i; zone = own (block i) }) (filter-In (λ (m : Mapped). not (nat_lt m.index from)) zones _ (part.full i some) (ap not f)))
  at_freed indirect some f = In-append_right data_gone numbers (own indirect) (in_gone g h.sound blocks v.contents.nodes n p h.volume.0 at from keeps keep (h.volume.1 n p at) zones is indirect at_indirect some f)
  at_freed double some f = In-append_right data_gone numbers (own double) (in_gone g h.sound blocks v.contents.nodes n p h.volume.0 at from keeps keep (h.volume.1 n p at) zones is double at_double some f)
  at_freed (inner k) some f = In-append_right data_gone numbers (own (inner k)) (in_gone g h.sound blocks v.contents.nodes n p h.volume.0 at from keeps keep (h.volume.1 n p at) zones is (inner k) at_inner some f)

  was_used : (z : ℕ) → In z freed → state_of v.zones z ≡ Some states.Used
  was_used z i = let w = freed_at z i in (h.used z).1 (record { birth = n; placed = p; place = w.0; stands = at; zone_is = w.1; some = λ none. w.2 (w.1 ∙ none) })

  within : AreZones g freed
  within z i = zone_range v h z states.Used (was_used z i)

  -- ---- each once

  one_place : (x y : Place) → own x ≡ own y → own x ≢ 0 → x ≡ y
  one_place x y same some = (h.volume.0.zones n n p p x y at at same some).1

  zones_apart : (ms : List Mapped) → ((m : Mapped) → In m ms → In m zones) → IsRising ms → AreApart (map (λ (m : Mapped). m.zone) (filter (λ m. not (nat_lt m.index from)) ms))
  unfolding IsStrictlySortedBy
  zones_apart [] all rising = tt
  zones_apart (m ∷ ms) all rising = elim (cases_Bool (nat_lt m.index from)) [
    | inl t ↦ rw t (zones_apart ms (λ y i. all y (inr i)) rising.1)
    | inr f ↦ rw f (alone, zones_apart ms (λ y i. all y (inr i)) rising.1)
  ]
    where
      alone : In m.zone (map (λ (m : Mapped). m.zone) (filter (λ m. not (nat_lt m.index from)) ms)) → ⊥
      alone i =
          let w = In-map (λ (m : Mapped). m.zone) (filter (λ m. not (nat_lt m.index from)) ms) m.zone i in
          let y = (In-filter (λ (m : Mapped). not (nat_lt m.index from)) ms w.0 w.1).0 in
          let here = part.listed m (all m (inl refl)) in
          let there = part.listed w.0 (all w.0 (inr y)) in
          let above = above_all m.index ms rising.0 w.0 y in
          let same : block m.index ≡ block w.0.index = one_place (block m.index) (block w.0.index) (here.0 ∙ (sym w.2 ∙ sym there.0)) (λ none. here.1 (sym here.0 ∙ none)) in
          let e : m.index ≡ w.0.index = cc same in
          omega arith

  numbers_apart : (xs : List Place) → AreApart xs → AreApart (map own (filter goes xs))
  numbers_apart [] apart = tt
  numbers_apart (x ∷ xs) apart = elim (cases_Bool (goes x)) [
    | inr f ↦ rw f (numbers_apart xs apart.1)
    | inl t ↦ rw t (alone t, numbers_apart xs apart.1)
  ]
    where
      there : (b : Bool) → nat_eq (own x) 0 ≡ b → (not b && not (keeps x)) ≡ true → own x ≢ 0
      there true e t = absurd (true≢false (sym t))
      there false e t = eqb-false _ _ e

      alone : goes x ≡ true → In (own x) (map own (filter goes xs)) → ⊥
      alone t i =
          let w = In-map own (filter goes xs) (own x) i in
          let y = (In-filter goes xs w.0 w.1).0 in
          let same : x ≡ w.0 = one_place x w.0 (sym w.2) (there (nat_eq (own x) 0) refl t) in
          apart.0 (subst (λ z. In z xs) (sym same) y)

  pub freed_apart : AreApart freed
  freed_apart = apart_both data_gone numbers (zones_apart zones (λ m i. i) part.rising) (numbers_apart number_places places_apart) (λ z i j.
      let w = data_at z i in
      let told = part.listed w.0 w.1 in
      let y = In-map own (filter goes number_places) z j in
      let f = In-filter goes number_places y.0 y.1 in
      let same : y.0 ≡ block w.0.index = one_place y.0 (block w.0.index) (y.2 ∙ (sym w.2 ∙ sym told.0)) (λ none. told.1 (w.2 ∙ (sym y.2 ∙ none))) in
      no_numbers y.0 w.0.index same (of_numbers_place y.0 f.0))

  given : AreGiven tx v.zones (all_given tx freed v.zones) freed
  given = all_are_given tx freed v.zones freed_apart was_used

  -- ---- the bits are cleared first

  abbrev es : List Edit
  es = map (zone_bit g false) freed

  abbrev c : Contents
  c = written g v.contents es

  none : ChangesNone g blocks c.blocks
  none = bits_none g h.sound v.contents h.volume false freed within

  volume : IsVolume g c
  volume = kept_volume g v.contents h.volume c.blocks none

  own_kept : (x : Place) → zone_in c.blocks p.inode x ≡ own x
  own_kept = kept_zone g v.contents h.volume c.blocks none n p at

  keep_now : IsKeep (λ x. zone_in c.blocks p.inode x) from keeps
  keep_now = keep_below (λ x. zone_in c.blocks p.inode x) (indices_of zones) (file_indexed g c.blocks c.nodes n p zones volume.0 at is (volume.1 n p at)) from

  abbrev w : Contents
  w = file_cut g c n p zones keeps from

  abbrev kept : List Mapped
  kept = filter (λ m. nat_lt m.index from) zones

  abbrev u : OpenInode
  u = after_cut g h.sound c.blocks c.nodes n p volume.0 at from keeps keep_now (volume.1 n p at) zones is

  abbrev q : Placed
  q = record { number = p.number; inode = u.inode; part = parts.File kept }

  stands : IsVolume g w
  stands = (
    cut_file_stands g h.sound c.blocks c.nodes n p volume.0 at from keeps keep_now (volume.1 n p at) zones is,
    cut_file_just g h.sound c.blocks c.nodes n p volume.0 at from keeps keep_now (volume.1 n p at) zones is volume.1,
  )

  theirs : (a : ℕ) (r : Placed) → at_number v.contents.nodes a ≡ Some r → a ≢ n → (x : Place) → zone_in w.blocks r.inode x ≡ zone_in blocks r.inode x
  theirs a r found apart x =
      theirs_cut g h.sound c.blocks c.nodes n p volume.0 at from keeps keep_now (volume.1 n p at) zones is a r found apart x
      ∙ kept_zone g v.contents h.volume c.blocks none a r found x

  stays : (x : Place) → keeps x ≡ true → zone_in w.blocks u.inode x ≡ own x
  stays x t = stays_cut g h.sound c.blocks c.nodes n p volume.0 at from keeps keep_now (volume.1 n p at) zones is x t ∙ own_kept x

  left : (x : Place) → zone_in w.blocks u.inode x ≢ 0 → (keeps x ≡ true) × (zone_in w.blocks u.inode x ≡ own x)
  left x some = let l = left_cut g h.sound c.blocks c.nodes n p volume.0 at from keeps keep_now (volume.1 n p at) zones is x some in (l.0, l.1 ∙ own_kept x)

  here : at_number w.nodes n ≡ Some q
  here = at_put_number v.contents.nodes n q

  -- ---- which zones nodes have

  has_after : (z : ℕ) → HasZone v.contents z → (In z freed → ⊥) → HasZone w z
  has_after z k out = elim (cases_eq k.birth n) [
    | inr apart ↦ record { birth = k.birth; placed = k.placed; place = k.place; stands = at_put_number_apart v.contents.nodes n q k.birth apart ∙ k.stands; zone_is = theirs k.birth k.placed k.stands apart k.place ∙ k.zone_is; some = k.some }
    | inl e ↦
        let same : p ≡ k.placed = same_Some p k.placed (sym at ∙ subst (λ b. at_number v.contents.nodes b ≡ Some k.placed) e k.stands) in
        let zone : own k.place ≡ z = ap (λ (r : Placed). zone_in blocks r.inode k.place) same ∙ k.zone_is in
        elim (cases_Bool (keeps k.place)) [
          | inl t ↦ record { birth = n; placed = q; place = k.place; stands = here; zone_is = stays k.place t ∙ zone; some = k.some }
          | inr f ↦ absurd (out (subst (λ z. In z freed) zone (at_freed k.place (λ none. k.some (sym zone ∙ none)) f)))
        ]
  ]

  has_before : (z : ℕ) → HasZone w z → HasZone v.contents z × (In z freed → ⊥)
  has_before z k = elim (cases_eq k.birth n) [
    | inr apart ↦
        let was : at_number v.contents.nodes k.birth ≡ Some k.placed = sym (at_put_number_apart v.contents.nodes n q k.birth apart) ∙ k.stands in
        let zone : zone_in blocks k.placed.inode k.place ≡ z = sym (theirs k.birth k.placed was apart k.place) ∙ k.zone_is in (
          record { birth = k.birth; placed = k.placed; place = k.place; stands = was; zone_is = zone; some = k.some },
          λ i. let f = freed_at z i in apart (sym (h.volume.0.zones n k.birth p k.placed f.0 k.place at was (f.1 ∙ sym zone) f.2).0),
        )
    | inl e ↦
        let same : q ≡ k.placed = same_Some q k.placed (sym here ∙ subst (λ b. at_number w.nodes b ≡ Some k.placed) e k.stands) in
        let zone : zone_in w.blocks u.inode k.place ≡ z = ap (λ (r : Placed). zone_in w.blocks r.inode k.place) same ∙ k.zone_is in
        let l = left k.place (λ none. k.some (sym zone ∙ none)) in
        let was : own k.place ≡ z = sym l.1 ∙ zone in (
          record { birth = n; placed = p; place = k.place; stands = at; zone_is = was; some = k.some },
          λ i. let f = freed_at z i in true≢false (sym l.0 ∙ (ap keeps (sym (one_place f.0 k.place (f.1 ∙ sym was) f.2)) ∙ f.3)),
        )
  ]

  -- ---- the tree

  bytes : (a : ℕ) (r : Placed) (zs : List Mapped) (m : Mapped) → at_number v.contents.nodes a ≡ Some r → r.part ≡ parts.File zs → In m zs → disk_of w.blocks m.zone ≡ disk_of c.blocks m.zone
  bytes a r zs m found file i =
      let told = (subst (IsPart v.geometry c.blocks r.inode) file (volume.0.each a r found).part).listed m i in
      page_bytes_cut g h.sound c.blocks c.nodes n p volume.0 at from keeps keep_now (volume.1 n p at) zones is
      (record { birth = a; index = m.index; zone = m.zone }) (record { placed = r; zones = zs; stands = found; is_file = file; zone = told.0; some = told.1 })

  early : (m : Mapped) → In m zones → disk_of c.blocks m.zone ≡ disk_of blocks m.zone
  early m i =
      let told = part.listed m i in
      subst (λ z. disk_of c.blocks z ≡ disk_of blocks z) told.0
      (none.zones _ ((h.volume.0.each n p at).zones (block m.index) (λ e. told.1 (sym told.0 ∙ e))).0 (λ z. z))

  abbrev pub file_left : File
  file_left = record { size = p.inode.size; links = p.inode.links; blocks = filter (λ e. nat_lt e.0 from) (bodies_of blocks zones) }

  bodies : bodies_of w.blocks kept ≡ filter (λ e. nat_lt e.0 from) (bodies_of blocks zones)
  bodies =
      bodies_kept blocks w.blocks kept (λ m i. (let f = In-filter (λ (m : Mapped). nat_lt m.index from) zones m i in bytes n p zones m at is f.0 ∙ early m f.0))
      ∙ sym (filter_bodies blocks from zones)

  same_size : u.inode.size ≡ p.inode.size
  unfolding cut_to
  same_size = refl

  same_links : u.inode.links ≡ p.inode.links
  unfolding cut_to
  same_links = refl

  left_part : IsFilePart w.blocks u.inode kept
  left_part = (stands.0.each n q here).part

  node : node_now w.blocks q ≡ nodes.File file_left
  node = node_is_file w.blocks q kept refl left_part.rising ∙ file_as u.inode.size u.inode.links (bodies_of w.blocks kept) same_size same_links bodies
    where
      file_as : (size links : ℕ) (left_bodies : List (ℕ × List ℕ)) → size ≡ p.inode.size → links ≡ p.inode.links → left_bodies ≡ filter (λ e. nat_lt e.0 from) (bodies_of blocks zones) →
          nodes.File (record { size = size; links = links; blocks = left_bodies }) ≡ nodes.File file_left
      file_as size links left_bodies a b e = λ k. nodes.File (record { size = a k; links = b k; blocks = e k })

  tree : tree_now w.blocks w.nodes ≡ put_number (tree_of_now v) n (nodes.File file_left)
  tree =
      tree_changed c.blocks w.blocks c.nodes n q volume.0.in_order (λ a r found apart. node_kept c.blocks w.blocks r (λ zs m file i. bytes a r zs m found file i))
      ∙ (ap (λ tree. put_number tree n (node_now w.blocks q)) (kept_tree g v.contents h.volume c.blocks none)
      ∙ ap (λ node. put_number (tree_of_now v) n node) node)

  -- ---- how many zones

  same_test : (x : Place) → IsOfNumbers x → goes x ≡ (uses_place (indices_of zones) x && not (uses_place (filter (λ i. nat_lt i from) (indices_of zones)) x))
  same_test x m = ap (λ b. not b && not (keeps x)) (used_or_hole own (indices_of zones) indexed x m) ∙ by x m
    where
      twice : (b : Bool) (c : Bool) → (not (not b) && c) ≡ (b && c)
      twice true c = refl
      twice false c = refl

      by : (x : Place) → IsOfNumbers x → (not (not (uses_place (indices_of zones) x)) && not (keeps x)) ≡ (uses_place (indices_of zones) x && not (uses_place (filter (λ i. nat_lt i from) (indices_of zones)) x))
      by indirect at_indirect = twice (uses_place (indices_of zones) indirect) _
      by double at_double = twice (uses_place (indices_of zones) double) _
      by (inner k) at_inner = twice (uses_place (indices_of zones) (inner k)) _
      by (block i) m = elim m [ ]

  fewer : zones_of_file (indices_of zones) ≡ zones_of_file (indices_of kept) + length freed
  fewer =
      count_cut own (indices_of zones) indexed from
      ∙ (ap (λ is. zones_of_file is + (length (filter (λ i. not (nat_lt i from)) (indices_of zones)) + length (filter (λ x. uses_place (indices_of zones) x && not (uses_place (filter (λ i. nat_lt i from) (indices_of zones)) x)) number_places))) (filter_indices from zones)
      ∙ ap (λ k. zones_of_file (indices_of kept) + k) all)
    where
      all : length (filter (λ i. not (nat_lt i from)) (indices_of zones)) + length (filter (λ x. uses_place (indices_of zones) x && not (uses_place (filter (λ i. nat_lt i from) (indices_of zones)) x)) number_places) ≡ length freed
      all =
          let a = length_gone from zones in
          let b = length_map (λ (m : Mapped). m.zone) gone in
          let c = length_map own (filter goes number_places) in
          let d : length (filter goes number_places) ≡ length (filter (λ x. uses_place (indices_of zones) x && not (uses_place (filter (λ i. nat_lt i from) (indices_of zones)) x)) number_places) =
          ap length (filter_agree_in goes _ number_places (λ x i. same_test x (of_numbers_place x i))) in
          sums _ _ _ _ _ _ _ a b c d (length_both data_gone numbers)
        where
          sums : (a b c d e f t : ℕ) → a ≡ b → c ≡ b → d ≡ e → e ≡ f → t ≡ c + d → a + f ≡ t
          sums a b c d e f t p q r s x = omega arith

  counted : uses (all_given tx freed v.zones) ≡ used_zones (tree_now w.blocks w.nodes)
  counted =
      let old = h.counted in
      let gives = given.fewer in
      let order = tree_in_order blocks v.contents.nodes h.volume.0.in_order in
      let sum = used_put_more (tree_of_now v) n (node_now blocks p) (nodes.File file_left) order (tree_at blocks v.contents.nodes n p at) in
      let was = node_zones_are blocks p zones is part.rising in
      let now : node_zones (nodes.File file_left) ≡ zones_of_file (indices_of kept) = ap node_zones (sym node) ∙ node_zones_are w.blocks q kept refl left_part.rising in
      let less = fewer in
      let same : used_zones (tree_now w.blocks w.nodes) ≡ used_zones (put_number (tree_of_now v) n (nodes.File file_left)) = ap used_zones tree in
      sums _ _ _ _ _ _ _ _ _ _ old gives sum was now less same
    where
      sums : (used left tree put after old new before rest gone : ℕ) → used ≡ tree → left + gone ≡ used → put + old ≡ tree + new → old ≡ before → new ≡ rest → before ≡ rest + gone → after ≡ put → left ≡ after
      sums used left tree put after old new before rest gone a b c d e f s = omega arith

  -- ---- what is told

  abbrev pub cut : Change
  cut = blocks_cut v tx n p zones keeps from

  -- no bit that is cleared stands in a zone of the file
  number_bytes : (x : Place) → disk_of c.blocks (own x) ≡ disk_of blocks (own x)
  number_bytes x = untouched g es blocks (own x) (λ i.
      let range = bits_before g h.sound false freed within (own x) i in
      let low = range.0 in
      let high = range.1 in
      elim (cases_eq (own x) 0) [
        | inl none ↦ omega arith
        | inr some ↦ (let mine = ((h.volume.0.each n p at).zones x some).0 in omega arith)
      ])

  told_same : cut_told c.blocks (λ x. zone_in c.blocks p.inode x) keeps (cuts keeps from) ++ back_told g p (cut_to g keeps (opened c p) from).inode
      ≡ cut_told blocks own keeps (cuts keeps from) ++ back_told g p (cut_to g keeps (opened v.contents p) from).inode
  unfolding cut_to
  told_same = ap (λ bs. bs ++ back_told g p (with_zones p.inode (cut_zones keeps p.inode.zones)))
      (cut_told_same blocks c.blocks own (λ x. zone_in c.blocks p.inode x) keeps (cuts keeps from) own_kept number_bytes)

  abbrev touches_by : (Place → ℕ) → List ℕ → Touched
  touches_by own told_blocks = record {
    blocks = told_blocks;
    freed = data_gone ++ map own (filter (λ x. not (nat_eq (own x) 0) && not (keeps x)) number_places);
    revoked = map own (filter (λ x. not (nat_eq (own x) 0) && not (keeps x)) number_places);
    pages = [];
    dropped = map (page_of n) gone;
    nodes = n ∷ [];
  }

  told : Tells g v.contents w cut.touched (λ birth index. ⊥)
  told = tells_as g v.contents w cut.touched (λ birth index. ⊥ ⊎ ⊥) (λ birth index. ⊥)
      (tells_then g v.contents c w (tells_writes g es) (file_cut_touches g v.contents n p zones keeps from) (λ birth index. ⊥) (λ birth index. ⊥)
      (bits_tell g h.sound v.contents h.volume false freed within)
      (subst (λ t. Tells g c w t (λ birth index. ⊥)) (λ k. touches_by (λ x. own_kept x k) (told_same k))
      (cut_tells_all g h.sound c.blocks c.nodes n p volume.0 at from keeps keep_now (volume.1 n p at) zones is))
      (record { not_taken = λ b i j. i; not_dropped = λ x i j. i; not_mapped = λ x zone i page. i }))
      (λ birth index e. ⊎_elim (λ z. z) (λ z. z) e) (λ birth index z. absurd z)

  in_use : IsInUse cut.volume
  in_use = record {
    sound = h.sound;
    volume = stands;
    first = given.first ∙ h.first;
    size = given.size ∙ h.size;
    used = λ z. (
      λ used. ⊎_elim (λ i. absurd (waits_used (sym (given.now z i) ∙ used))) (λ out. has_after z ((h.used z).0 (sym (given.others z out) ∙ used)) out) (in_zones z freed),
      λ k. (let b = has_before z k in given.others z b.1 ∙ (h.used z).1 b.0),
    );
    counted = counted;
  }
    where
      waits_used : ◌≡◌ {A = Option ZoneState} (Some (states.Quarantined tx)) (Some states.Used) → ⊥
      waits_used e = cc

  -- the zones that are written lie behind the maps
  maps_stay : SameMaps g c.blocks w.blocks
  unfolding cut_to
  maps_stay b low below =
      back_apart g (cut_to g keeps (opened c p) from).blocks p (cut_to g keeps (opened c p) from).inode b
      (λ e. (let stored = volume.0.each n p at in let far = (table_below g p.number h.sound stored.some stored.within).0 in omega arith))
      ∙ untouched g (cut_edits (own_of (opened c p)) keeps (cuts keeps from)) c.blocks b (λ i.
      let x = cut_touched g (own_of (opened c p)) keeps (cuts keeps from) b i in
      let e = x.1 in
      elim (cases_eq (own_of (opened c p) x.0) 0) [
        | inl none ↦ omega arith
        | inr some ↦ (let range = ((volume.0.each n p at).zones x.0 some).0 in let same : zone_in c.blocks p.inode x.0 ≡ b = e in let tables = h.sound.tables_below in omega arith)
      ])

  change : IsFileChange v.contents w n p q
  change = record {
    nodes_are = refl;
    stands = at;
    no_directory = λ d e. cc e;
    number = refl;
    links = same_links;
    size = λ old. subst (λ size. size ≤ largest_size) (sym same_size) (old.sizes n p zones at is);
    theirs = theirs;
  }

  pub cut_free : frees cut.volume.zones ≡ frees v.zones
  cut_free = given.same

  pub dropped_from : (x : Page) → In x cut.touched.dropped → (x.birth ≡ n) × (from ≤ x.index)
  dropped_from x i =
      let w = In-map (page_of n) gone x i in
      let f = In-filter (λ (m : Mapped). not (nat_lt m.index from)) zones w.0 w.1 in
      (sym (ap (λ (x : Page). x.birth) w.2), subst (λ k. from ≤ k) (ap (λ (x : Page). x.index) w.2) (ltb-false _ _ (turned (nat_lt w.0.index from) f.1)))
    where
      turned : (b : Bool) → not b ≡ true → b ≡ false
      turned true t = sym t
      turned false t = refl

  module _ (some : list_any (λ (m : Mapped). nat_le from m.index) zones ≡ true) where
    -- the bit of a zone that goes
    told_bit : (b : ℕ) × In b (touched_by_all g es)
    told_bit =
        let m = some_in zones (λ (m : Mapped). nat_le from m.index) some in
        let told = part.listed m.0 m.1 in
        let i = at_freed (block m.0.index) (λ none. told.1 (sym told.0 ∙ none)) (le-ltb m.0.index from (leb-true _ _ m.2)) in
        (touched_by g (zone_bit g false (own (block m.0.index))), map-In (touched_by g) es _ (map-In (zone_bit g false) freed _ i))

    steady : IsSteady tx v cut (λ birth index. ⊥)
    steady = record {
      geometry = refl;
      in_use = in_use;
      told = told;
      nodes = put_told g v.contents w cut.touched n q refl (inl refl) (λ b i. elim i [ inl e ↦ sym e | inr z ↦ absurd z ]) (λ zs file. (told_bit.0, In-append_left (touched_by_all g es) _ told_bit.0 told_bit.1, (bits_before g h.sound false freed within told_bit.0 told_bit.1).1));
      lowest = given_lowest tx v.zones (all_given tx freed v.zones) freed given was_used;
      marks = marks_given tx g h.sound v.contents w v.zones (all_given tx freed v.zones) freed h.volume.0.whole h.volume.0.size within given was_used maps_stay (numbers_put v.contents.nodes w.nodes n p q refl at refl);
      freed = λ z i. given.now z i;
      was_used = λ z i. was_used z i;
      waits_on = λ z freed_by waits. given.others z (λ i. used_waits freed_by (sym (was_used z i) ∙ waits)) ∙ waits;
      waited = λ z freed_by out waits. sym (given.others z out) ∙ waits;
    }

    -- The blocks are gone.
    pub cut_step : IsFileStep tx v n cut file_left (λ birth index. ⊥)
    cut_step = record {
      steady = steady;
      settled = change_settled v.contents w n p q change;
      slotted = change_slotted v.contents w n p q change v.geometry;
      tree = tree;
      waiting = given.more;
      directories = change_directories v.contents w n p q change;
      numbers = numbers_put v.contents.nodes w.nodes n p q refl at refl;
    }

-- ---- where there are any

-- no page is written, and those that are dropped are of this file, from the index on
pub record IsCutStep (tx : ℕ) (v : VolumeNow) (n from : ℕ) (c : Change) (f : File) : Type 0 where
  pub step : IsFileStep tx v n c f (λ birth index. ⊥)
  pub free_same : frees c.volume.zones ≡ frees v.zones
  pub no_pages : c.touched.pages ≡ []
  pub dropped : (x : Page) → In x c.touched.dropped → (x.birth ≡ n) × (from ≤ x.index)

-- a file whose blocks from an index on are gone
abbrev pub with_blocks_below : File → ℕ → File
with_blocks_below f from = record { size = f.size; links = f.links; blocks = filter (λ e. nat_lt e.0 from) f.blocks }

module _ (tx : ℕ) (v : VolumeNow) (h : IsInUse v) (n : ℕ) (f : File) (found : at_number (tree_of_now v) n ≡ Some (nodes.File f)) (from : ℕ) where
  x : IsFileAt v n f
  x = file_at v h n f found

  abbrev after : File
  after = with_blocks_below f from

  abbrev cut_of : Placed → List Mapped → Change
  cut_of p zones = if list_any (λ (m : Mapped). nat_le from m.index) zones then blocks_cut v tx n p zones (keeps_below (indices_of zones) from) from else unchanged v

  all_below : list_any (λ (m : Mapped). nat_le from m.index) x.zones ≡ false → f ≡ after
  all_below none = ap (λ (es : List (ℕ × List ℕ)). record { size = f.size; links = f.links; blocks = es }) (sym same)
    where
      low : (m : Mapped) → In m x.zones → nat_lt m.index from ≡ true
      low m i = lt-ltb m.index from (leb-false _ _ (none-list_any (λ (m : Mapped). nat_le from m.index) x.zones m none i))

      same : filter (λ e. nat_lt e.0 from) f.blocks ≡ f.blocks
      same =
          ap (λ (f : File). filter (λ e. nat_lt e.0 from) f.blocks) x.file
          ∙ (filter_bodies v.contents.blocks from x.zones
          ∙ (ap (bodies_of v.contents.blocks) (filter_all (λ (m : Mapped). nat_lt m.index from) x.zones low) ∙ sym (ap (λ (f : File). f.blocks) x.file)))

  pub cut_blocks_step : IsCutStep tx v n from (cut_blocks v tx n from) after
  cut_blocks_step = subst (λ c. IsCutStep tx v n from c after) (sym (at_file_is v n x.placed x.zones cut_of x.stands x.is_file)) (elim (cases_Bool (list_any (λ (m : Mapped). nat_le from m.index) x.zones)) [
    | inl y ↦
        subst (λ c. IsCutStep tx v n from c after) (let e : blocks_cut v tx n x.placed x.zones (keeps_below (indices_of x.zones) from) from ≡ cut_of x.placed x.zones = rw y refl in e)
        (subst (λ f. IsCutStep tx v n from (blocks_cut v tx n x.placed x.zones (keeps_below (indices_of x.zones) from) from) f) (sym (ap (λ (f : File). with_blocks_below f from) x.file)) (record {
          step = cut_step tx v h n x.placed x.zones x.stands x.is_file from y;
          free_same = cut_free tx v h n x.placed x.zones x.stands x.is_file from;
          no_pages = refl;
          dropped = dropped_from tx v h n x.placed x.zones x.stands x.is_file from;
        }))
    | inr z ↦
        subst (λ c. IsCutStep tx v n from c after) (let e : unchanged v ≡ cut_of x.placed x.zones = rw z refl in e)
        (subst (λ f. IsCutStep tx v n from (unchanged v) f) (all_below z) (record { step = unchanged_step tx v h n f found; free_same = refl; no_pages = refl; dropped = λ x i. absurd i }))
  ])
