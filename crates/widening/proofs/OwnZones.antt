-- The zones of a directory, in the lists in which they are gathered: each stands at a place of its own.
use Rattle.std.specs.Prelude.{◌≡◌, ◌≢◌, ℕ, zero, suc, ◌+◌, ◌*◌, ◌<◌, ◌≤◌, ◌⊎◌, ◌==◌, nat_lt, Bool, true, false, not, if◌then◌else◌, List, [], ◌∷◌, ◌++◌, map, length, take, slice_index, refl}
use Rattle.std.specs.List.{concat}
use Rattle.std.proofs.Common.{sym, ap, subst, ◌∙◌, inl, inr, ⊎_elim, arith}
use Rattle.std.proofs.lemmas.Bool.{cases_eq, cases_lt, eq-eqb, ne_eqb, lt-ltb, le-ltb, true≢false}
use Rattle.std.proofs.lemmas.List.{length-take}
use Rattle.std.proofs.lemmas.List.FromFn.{length-map-range_with_len, get_or-map-range_with_len}
use Rattle.blk_base.specs.Members.{In}
use Rattle.blk_base.specs.laws.Members.{In-append_cases, In-filter}
use Rattle.minix_layout.specs.declared.inode.Inode.{Inode}
use Rattle.minix_tables.specs.inodes.laws.MapLaws.{zone_at-direct, zone_at-indirect, zone_at-double}
use Rattle.volume_ops.specs.Places.{zone_number, zone_numbers}
use Rattle.volume_ops.specs.Volume.{disk_of}
use Rattle.volume_ops.specs.ZonePlaces.{ZonePlace, block, indirect, double, inner, zone_in}
use Rattle.widening.specs.Directories.{no_holes, zones_behind, data_zones, number_zones}
use Rattle.widening.proofs.ZoneLists.{AreApart, apart_append, apart_no_holes, apart_concat, In-concat, in_index, index_past, index_take}

-- ---- the numbers of a zone of numbers

length-numbers : (body : List ℕ) → length (zone_numbers body) ≡ 512
unfolding zone_numbers
length-numbers body = length-map-range_with_len (zone_number body) 0 512

number_there : (body : List ℕ) (k : ℕ) → k < 512 → slice_index (zone_numbers body) k ≡ zone_number body k
unfolding zone_numbers
number_there body k low = let e : 0 + k ≡ k = omega arith in get_or-map-range_with_len (zone_number body) 0 512 k k 0 low e

no_hole : (z : ℕ) → not (z == 0) ≡ true → z ≢ 0
no_hole z t hole = true≢false (sym t ∙ ap not (eq-eqb z 0 hole))

pair_apart : (a b : ℕ) → (a ≢ 0 → a ≡ b → ⊥) → AreApart (no_holes (a ∷ b ∷ []))
pair_apart a b differ =
    apart_no_holes (a ∷ b ∷ []) by
  where
    by : (j k : ℕ) → slice_index (a ∷ b ∷ []) j ≡ slice_index (a ∷ b ∷ []) k → slice_index (a ∷ b ∷ []) j ≢ 0 → j ≡ k
    by zero zero e some = refl
    by zero (suc zero) e some = absurd (differ some e)
    by zero (suc (suc k)) e some = absurd (some e)
    by (suc zero) zero e some = absurd (differ (λ none. some (e ∙ none)) (sym e))
    by (suc zero) (suc zero) e some = refl
    by (suc zero) (suc (suc k)) e some = absurd (some e)
    by (suc (suc j)) k e some = absurd (some refl)

-- ---- kinds of places

-- zones of the inode, behind the indirect zone and behind the inner ones; the indirect, the doubly indirect and the inner ones
abbrev kind : ZonePlace → ℕ
kind (block index) = if nat_lt index 7 then 0 else (if nat_lt index 519 then 1 else 2)
kind indirect = 3
kind double = 4
kind (inner k) = 5

kind_direct : (k : ℕ) → k < 7 → kind (block k) ≡ 0
kind_direct k low = rw (lt-ltb k 7 low) refl

kind_indirect : (k : ℕ) → k < 512 → kind (block (7 + k)) ≡ 1
kind_indirect k low = rw (le-ltb (7 + k) 7 (omega arith), lt-ltb (7 + k) 519 (omega (arith, low))) refl

kind_double : (j k : ℕ) → kind (block (519 + 512 * j + k)) ≡ 2
kind_double j k = rw (le-ltb (519 + 512 * j + k) 7 (omega arith), le-ltb (519 + 512 * j + k) 519 (omega arith)) refl

abbrev index_of : ZonePlace → ℕ
index_of (block index) = index
index_of (inner k) = k
index_of other = 0

module _ (blocks : List (List ℕ)) (i : Inode) where
  -- a place of this kind has the zone
  record Stands (which : ℕ) (z : ℕ) : Type 0 where
    pub place : ZonePlace
    pub zone : zone_in blocks i place ≡ z
    pub some : z ≢ 0
    pub kind_is : kind place ≡ which

  -- some place has it
  pub record IsOwn (z : ℕ) : Type 0 where
    pub place : ZonePlace
    pub zone : zone_in blocks i place ≡ z
    pub some : z ≢ 0

  own_by : {which z : ℕ} → Stands which z → IsOwn z
  own_by s = record { place = s.place; zone = s.zone; some = s.some }

  -- ---- numbers at places in a row

  module _ (xs : List ℕ) (n : ℕ) (at : ℕ → ZonePlace) (few : length xs ≤ n) (stand : (k : ℕ) → k < n → slice_index xs k ≡ zone_in blocks i (at k)) where
    in_row : (z : ℕ) → In z (no_holes xs) → (k : ℕ) × (k < n) × (zone_in blocks i (at k) ≡ z) × (z ≢ 0)
    in_row z y =
        let x = In-filter (λ z. not (z == 0)) xs z y in
        let k = in_index xs z x.0 in
        let low : k.0 < n = (let below = k.1 in omega (arith, below, few)) in
        (k.0, low, sym (stand k.0 low) ∙ k.2, no_hole z x.1)

    row_apart : ((x y : ZonePlace) → zone_in blocks i x ≢ 0 → zone_in blocks i x ≡ zone_in blocks i y → x ≡ y) → ((j k : ℕ) → at j ≡ at k → j ≡ k) → AreApart (no_holes xs)
    row_apart once one = apart_no_holes xs (λ j k e some. by j k e some (cases_lt j n) (cases_lt k n))
      where
        by : (j k : ℕ) → slice_index xs j ≡ slice_index xs k → slice_index xs j ≢ 0 → (j < n) ⊎ (n ≤ j) → (k < n) ⊎ (n ≤ k) → j ≡ k
        by j k e some (inl low) (inl more) = one j k (once (at j) (at k) (λ none. some (stand j low ∙ none)) (sym (stand j low) ∙ (e ∙ stand k more)))
        by j k e some (inr past) c = absurd (some (index_past xs j (omega (arith, few, past))))
        by j k e some (inl low) (inr past) = absurd (some (e ∙ index_past xs k (omega (arith, few, past))))

  -- ---- the zones behind a zone of numbers

  behind_none : (zone : ℕ) → zone ≡ 0 → zones_behind blocks zone ≡ []
  behind_none zone none = rw (eq-eqb zone 0 none) refl

  behind_zone : (zone : ℕ) → zone ≢ 0 → zones_behind blocks zone ≡ no_holes (zone_numbers (disk_of blocks zone))
  behind_zone zone some = rw (ne_eqb zone 0 some) refl

  module _ (zone : ℕ) (at : ℕ → ZonePlace) (row : zone ≢ 0 → (k : ℕ) → k < 512 → zone_number (disk_of blocks zone) k ≡ zone_in blocks i (at k)) where
    few_numbers : length (zone_numbers (disk_of blocks zone)) ≤ 512
    few_numbers = let n = length-numbers (disk_of blocks zone) in omega (arith, n)

    stand_numbers : zone ≢ 0 → (k : ℕ) → k < 512 → slice_index (zone_numbers (disk_of blocks zone)) k ≡ zone_in blocks i (at k)
    stand_numbers some k low = number_there (disk_of blocks zone) k low ∙ row some k low

    behind_in : (z : ℕ) → In z (zones_behind blocks zone) → (zone ≢ 0) × (k : ℕ) × (k < 512) × (zone_in blocks i (at k) ≡ z) × (z ≢ 0)
    behind_in z y =
        elim (cases_eq zone 0) [
          | inl none ↦ absurd (subst (λ zs. In z zs) (behind_none zone none) y)
          | inr some ↦ (let r = in_row (zone_numbers (disk_of blocks zone)) 512 at few_numbers (stand_numbers some) z (subst (λ zs. In z zs) (behind_zone zone some) y) in (some, r.0, r.1, r.2, r.3))
        ]

    behind_apart : ((x y : ZonePlace) → zone_in blocks i x ≢ 0 → zone_in blocks i x ≡ zone_in blocks i y → x ≡ y) → ((j k : ℕ) → at j ≡ at k → j ≡ k) → AreApart (zones_behind blocks zone)
    behind_apart once one =
        elim (cases_eq zone 0) [
          | inl none ↦ subst (λ zs. AreApart zs) (sym (behind_none zone none)) tt
          | inr some ↦ subst (λ zs. AreApart zs) (sym (behind_zone zone some)) (row_apart (zone_numbers (disk_of blocks zone)) 512 at few_numbers (stand_numbers some) once one)
        ]

  abbrev seventh : ℕ
  seventh = slice_index i.zones 7

  abbrev eighth : ℕ
  eighth = slice_index i.zones 8

  abbrev entries : ℕ → ℕ → ℕ
  entries = λ zone at. zone_number (disk_of blocks zone) at

  abbrev after : ℕ → ℕ → ZonePlace
  after first k = block (first + k)

  indirect_row : seventh ≢ 0 → (k : ℕ) → k < 512 → zone_number (disk_of blocks seventh) k ≡ zone_in blocks i (after 7 k)
  indirect_row some k low = sym (zone_at-indirect entries i.zones k some low)

  inner_row : eighth ≢ 0 → (k : ℕ) → k < 512 → zone_number (disk_of blocks eighth) k ≡ zone_in blocks i (inner k)
  inner_row some k low = sym (rw (lt-ltb k 512 low, ne_eqb eighth 0 some) refl)

  double_row : (j zone : ℕ) → eighth ≢ 0 → j < 512 → zone_in blocks i (inner j) ≡ zone → zone ≢ 0 → (k : ℕ) → k < 512 → zone_number (disk_of blocks zone) k ≡ zone_in blocks i (after (519 + 512 * j) k)
  double_row j zone some low is there k few =
      let e : entries eighth j ≡ zone = inner_row some j low ∙ is in
      sym (zone_at-double entries i.zones j k some (λ none. there (sym e ∙ none)) low few ∙ ap (λ z. zone_number (disk_of blocks z) k) e)

  -- ---- which zones stand where

  direct_few : length (take 7 i.zones) ≤ 7
  direct_few = let n = length-take 7 i.zones in omega (arith, n)

  direct_stand : (k : ℕ) → k < 7 → slice_index (take 7 i.zones) k ≡ zone_in blocks i (block k)
  direct_stand k low = index_take 7 i.zones k low ∙ sym (zone_at-direct entries i.zones k low)

  direct_in : (z : ℕ) → In z (no_holes (take 7 i.zones)) → Stands 0 z
  direct_in z y = let x = in_row (take 7 i.zones) 7 (λ k. block k) direct_few direct_stand z y in record { place = block x.0; zone = x.2; some = x.3; kind_is = kind_direct x.0 x.1 }

  indirect_in : (z : ℕ) → In z (zones_behind blocks seventh) → Stands 1 z
  indirect_in z y = let x = behind_in seventh (after 7) indirect_row z y in record { place = block (7 + x.1); zone = x.3; some = x.4; kind_is = kind_indirect x.1 x.2 }

  inner_in : (z : ℕ) → In z (zones_behind blocks eighth) → (eighth ≢ 0) × (j : ℕ) × (j < 512) × (zone_in blocks i (inner j) ≡ z) × (z ≢ 0)
  inner_in z y = behind_in eighth inner inner_row z y

  abbrev inners : List ℕ
  inners = zones_behind blocks eighth

  double_at : (w z : ℕ) (m : In w inners) → In z (zones_behind blocks w) → (k : ℕ) × (k < 512) × (zone_in blocks i (block (519 + 512 * (inner_in w m).1 + k)) ≡ z) × (z ≢ 0)
  double_at w z m y = let x = inner_in w m in let b = behind_in w (after (519 + 512 * x.1)) (λ there. double_row x.1 w x.0 x.2 x.3 there) z y in (b.1, b.2, b.3, b.4)

  double_in : (z : ℕ) → In z (concat (map (zones_behind blocks) inners)) → Stands 2 z
  double_in z y =
      let w = In-concat (zones_behind blocks) inners z y in
      let x = double_at w.0 z w.1 w.2 in
      record { place = block (519 + 512 * (inner_in w.0 w.1).1 + x.0); zone = x.2; some = x.3; kind_is = kind_double (inner_in w.0 w.1).1 x.0 }

  -- ---- all of them

  data_in : (z : ℕ) → In z (data_zones blocks i) → (which : ℕ) × (which < 3) × Stands which z
  data_in z y =
      ⊎_elim
      (λ a. (0, omega arith, direct_in z a))
      (λ b. ⊎_elim (λ c. (1, omega arith, indirect_in z c)) (λ d. (2, omega arith, double_in z d)) (In-append_cases (zones_behind blocks seventh) _ z b))
      (In-append_cases (no_holes (take 7 i.zones)) _ z y)

  abbrev tops : Bool → List ℕ
  tops kept = no_holes ((if kept then 0 else seventh) ∷ eighth ∷ [])

  tops_in : (kept : Bool) (z : ℕ) → In z (tops kept) → (which : ℕ) × (3 ≤ which) × (which < 5) × Stands which z × (kept ≡ true → which ≢ 3)
  tops_in kept z y = let x = In-filter (λ z. not (z == 0)) ((if kept then 0 else seventh) ∷ eighth ∷ []) z y in by kept (no_hole z x.1) x.0
    where
      by : (kept : Bool) → z ≢ 0 → In z ((if kept then 0 else seventh) ∷ eighth ∷ []) → (which : ℕ) × (3 ≤ which) × (which < 5) × Stands which z × (kept ≡ true → which ≢ 3)
      by kept some (inr (inl e)) = (4, omega arith, omega arith, record { place = double; zone = e; some = some; kind_is = refl }, λ t e. omega (arith, e))
      by kept some (inr (inr e)) = absurd e
      by true some (inl e) = absurd (some (sym e))
      by false some (inl e) = (3, omega arith, omega arith, record { place = indirect; zone = e; some = some; kind_is = refl }, λ t. absurd (true≢false (sym t)))

  numbers_in : (kept : Bool) (z : ℕ) → In z (number_zones blocks i kept) → (which : ℕ) × (3 ≤ which) × Stands which z × (kept ≡ true → which ≢ 3)
  numbers_in kept z y =
      ⊎_elim
      (λ a. let x = tops_in kept z a in (x.0, x.1, x.3, x.4))
      (λ b. let x = inner_in z b in (5, omega arith, record { place = inner x.1; zone = x.3; some = x.4; kind_is = refl }, λ t e. omega (arith, e)))
      (In-append_cases (tops kept) inners z y)

  pub own_is : (kept : Bool) (z : ℕ) → In z (data_zones blocks i ++ number_zones blocks i kept) → IsOwn z
  own_is kept z y =
      ⊎_elim (λ a. own_by (data_in z a).2) (λ b. own_by (numbers_in kept z b).2) (In-append_cases (data_zones blocks i) (number_zones blocks i kept) z y)

  module _ (once : (x y : ZonePlace) → zone_in blocks i x ≢ 0 → zone_in blocks i x ≡ zone_in blocks i y → x ≡ y) where
    same_kind : {a b z : ℕ} → Stands a z → Stands b z → a ≡ b
    same_kind s t = sym s.kind_is ∙ (ap kind (once s.place t.place (λ none. s.some (sym s.zone ∙ none)) (s.zone ∙ sym t.zone)) ∙ t.kind_is)

    double_apart : AreApart (concat (map (zones_behind blocks) inners))
    double_apart =
        apart_concat (zones_behind blocks) inners
        (λ w m. let x = inner_in w m in behind_apart w (after (519 + 512 * x.1)) (λ there. double_row x.1 w x.0 x.2 x.3 there) once (λ j k e. let same = ap index_of e in omega (arith, same)))
        (λ w u z m n y v.
        let x = inner_in w m in
        let t = inner_in u n in
        let a = double_at w z m y in
        let b = double_at u z n v in
        let same = ap index_of (once (block (519 + 512 * x.1 + a.0)) (block (519 + 512 * t.1 + b.0)) (λ none. a.3 (sym a.2 ∙ none)) (a.2 ∙ sym b.2)) in
        let low = a.1 in
        let more = b.1 in
        let j : x.1 ≡ t.1 = omega (arith, same, low, more) in
        sym x.3 ∙ (ap (λ k. zone_in blocks i (inner k)) j ∙ t.3))
        (behind_apart eighth inner inner_row once (λ j k e. ap index_of e))

    data_apart : AreApart (data_zones blocks i)
    data_apart =
        apart_append (no_holes (take 7 i.zones)) _
        (row_apart (take 7 i.zones) 7 (λ k. block k) direct_few direct_stand once (λ j k e. ap index_of e))
        (apart_append (zones_behind blocks seventh) _
        (behind_apart seventh (after 7) indirect_row once (λ j k e. let same = ap index_of e in omega (arith, same)))
        double_apart
        (λ z a b. let e = same_kind (indirect_in z a) (double_in z b) in omega (arith, e)))
        (λ z a b.
        ⊎_elim (λ c. let e = same_kind (direct_in z a) (indirect_in z c) in omega (arith, e)) (λ d. let e = same_kind (direct_in z a) (double_in z d) in omega (arith, e))
        (In-append_cases (zones_behind blocks seventh) _ z b))

    tops_apart : (kept : Bool) → AreApart (tops kept)
    tops_apart true = pair_apart 0 eighth (λ some e. some refl)
    tops_apart false = pair_apart seventh eighth (λ some e. absurd (let same = ap kind (once indirect double some e) in let no : 3 ≡ 4 = same in omega (arith, no)))

    numbers_apart : (kept : Bool) → AreApart (number_zones blocks i kept)
    numbers_apart kept =
        apart_append (tops kept) inners (tops_apart kept) (behind_apart eighth inner inner_row once (λ j k e. ap index_of e))
        (λ z a b.
        let x = tops_in kept z a in
        let y = inner_in z b in
        let s : Stands 5 z = record { place = inner y.1; zone = y.3; some = y.4; kind_is = refl } in
        let e = same_kind x.3 s in
        let high = x.2 in
        omega (arith, e, high))

    -- no zone stands in them twice
    pub own_apart : (kept : Bool) → AreApart (data_zones blocks i ++ number_zones blocks i kept)
    own_apart kept =
        apart_append (data_zones blocks i) (number_zones blocks i kept) data_apart (numbers_apart kept)
        (λ z a b.
        let x = data_in z a in
        let y = numbers_in kept z b in
        let e = same_kind x.2 y.2 in
        let low = x.1 in
        let high = y.1 in
        omega (arith, e, low, high))

    -- the indirect zone that is kept is none of the others
    pub kept_apart : In seventh (data_zones blocks i ++ number_zones blocks i true) → ⊥
    kept_apart y =
        ⊎_elim
        (λ a.
        let x = data_in seventh a in
        let s : Stands 3 seventh = record { place = indirect; zone = refl; some = x.2.some; kind_is = refl } in
        let e = same_kind x.2 s in
        let low = x.1 in
        omega (arith, e, low))
        (λ b.
        let x = numbers_in true seventh b in
        let s : Stands 3 seventh = record { place = indirect; zone = refl; some = x.2.some; kind_is = refl } in
        x.3 refl (same_kind x.2 s))
        (In-append_cases (data_zones blocks i) (number_zones blocks i true) seventh y)
