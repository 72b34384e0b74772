-- The fields of the map at each step of the code.
use Rattle.std.proofs.Common.{◌≡◌, ◌≢◌, ℕ, zero, suc, ◌+◌, ◌-◌, ◌<◌, ◌≤◌, ◌^◌, ◌⊎◌, Bool, true, false, cond, ◌==◌, ◌||◌, nat_le, if◌then◌else◌, min, List, [], ◌∷◌, ◌++◌, map, take, drop, length, get_or, replicate, slice_set, Option, Some, None, count_by, refl, sym, ap, subst, ◌∙◌, inl, inr, ⊎_elim, arith}
use mir.Val.{bool_byte}
use Rattle.std.specs.List.{slice_get, list_any, range_with_len, position, position_or_len}
use Rattle.std.specs.Option.{option_map, unwrap_or}
use Rattle.std.proofs.lemmas.Bool.{cases_eq, cases_lt, cases_Bool, true≢false, lt-ltb, le-leb, lt-leb, eq-eqb, ne_eqb}
use Rattle.std.proofs.lemmas.Option.{same_Some, slice_get-get_or, slice_get_within, get_or_from_slice_get, slice_get-map}
use Rattle.std.proofs.lemmas.List.{take-append-le, take_all, length-set, length-map, same_lists, get_or-set_same, get_or-set_other}
use Rattle.std.proofs.lemmas.List.Sums.{sum_by-le-sum_by, sum_by-cons, fails_before_first, count_by_more_yes, count_by_more_no}
use Rattle.std.proofs.lemmas.List.Folds.{list_any_more}
use Rattle.std.proofs.lemmas.List.FromFn.{get_or-map-range_with_len, length-map-range_with_len}
use Rattle.blk_base.specs.laws.Members.{slice_get-set_same, slice_get-set_other}
use Rattle.minix_tables.specs.declared.zones.zone_state.ZoneState.{ZoneState}
use Rattle.minix_tables.specs.declared.zones.zone_state.ZoneState.TheVariants as states
use Rattle.minix_tables.specs.zones.Zones.{NoneFreeBelow, is_free, is_quarantined, is_quarantined_for, is_quarantined_to, let_go, mark}
use Rattle.minix_tables.specs.zones.code.ZoneMap.{IsZoneMap}
use Rattle.minix_tables.specs.zones.laws.Counts.{count_written, one_if, released_free, released_quarantined}

same_state : (x y : ZoneState) → ◌≡◌ {A = Option ZoneState} (Some x) (Some y) → x ≡ y
same_state x y e = same_Some x y e

-- ---- the search

-- the next place is not free either
pub none_free_more : (zs : List ZoneState) (at : ℕ) → NoneFreeBelow zs at → (slice_get zs at ≢ Some states.Free) → NoneFreeBelow zs (at + 1)
none_free_more zs at none here k below found =
    elim (cases_eq k at) [
      | inl e ↦ here (subst (λ k. slice_get zs k ≡ Some states.Free) e found)
      | inr apart ↦ none k (omega arith) found
    ]

state_free : (z : ZoneState) → is_free z ≡ true → z ≡ states.Free
state_free states.Free h = refl
state_free states.Used h = cc
state_free (states.Quarantined tx) h = cc

pub free_at : (zs : List ZoneState) (at : ℕ) (d : ZoneState) → at < length zs → is_free (get_or zs at d) ≡ true → slice_get zs at ≡ Some states.Free
free_at zs at d inside h = slice_get-get_or zs at d inside ∙ ap Some (state_free (get_or zs at d) h)

pub not_free_at : (zs : List ZoneState) (at : ℕ) (d : ZoneState) → is_free (get_or zs at d) ≡ false → slice_get zs at ≢ Some states.Free
not_free_at zs at d h e = true≢false (sym (ap is_free (get_or_from_slice_get zs at states.Free d e)) ∙ h)

-- ---- take and give

none_free_set : (zs : List ZoneState) (low at : ℕ) (z : ZoneState) → NoneFreeBelow zs low → at < length zs → (z ≡ states.Free → ⊥) → NoneFreeBelow (slice_set zs at z) low
none_free_set zs low at z none within used k below h =
    elim (cases_eq k at) [
      | inl e ↦ used (same_state z states.Free (sym (slice_get-set_same zs at z within) ∙ subst (λ k. slice_get (slice_set zs at z) k ≡ Some states.Free) e h))
      | inr apart ↦ none k below (sym (slice_get-set_other zs at k z apart) ∙ h)
    ]

pub given_map : (first : ℕ) (zs : List ZoneState) (low free held at tx : ℕ) → IsZoneMap first zs low free held → slice_get zs at ≡ Some states.Used →
    IsZoneMap first (slice_set zs at (states.Quarantined tx)) low free (held + 1)
given_map first zs low free held at tx h used =
    let inside = slice_get_within zs at states.Used used in
    let size = length-set zs at (states.Quarantined tx) in
    let frees = count_written is_free zs at (states.Quarantined tx) states.Used used in
    let helds = count_written is_quarantined zs at (states.Quarantined tx) states.Used used in
    let was_free = h.free_is in
    let was_held = h.quarantined_is in
    let fits = h.fits in
    let within = h.within in
    record {
      none_below = none_free_set zs low at (states.Quarantined tx) h.none_below inside (λ e. cc);
      within = omega arith;
      free_is = omega arith;
      quarantined_is = omega arith;
      fits = omega arith;
    }

pub taken_map : (first : ℕ) (zs : List ZoneState) (low free held at : ℕ) → IsZoneMap first zs low free held → slice_get zs at ≡ Some states.Free → NoneFreeBelow zs at →
    (0 < free) × IsZoneMap first (slice_set zs at states.Used) (at + 1) (free - 1) held
taken_map first zs low free held at h is none =
    let inside = slice_get_within zs at states.Free is in
    let size = length-set zs at states.Used in
    let frees = count_written is_free zs at states.Used states.Free is in
    let helds = count_written is_quarantined zs at states.Used states.Free is in
    let was_free = h.free_is in
    let was_held = h.quarantined_is in
    let fits = h.fits in (
      omega arith,
      record {
        none_below = none_free_more (slice_set zs at states.Used) at (none_free_set zs at at states.Used none inside (λ e. cc))
            (λ found. no_free (sym (slice_get-set_same zs at states.Used inside) ∙ found));
        within = omega arith;
        free_is = omega arith;
        quarantined_is = omega arith;
        fits = omega arith;
      },
    )
  where
    no_free : ◌≡◌ {A = Option ZoneState} (Some states.Used) (Some states.Free) → ⊥
    no_free e = cc

-- ---- quarantine

for_is_held : (tx : ℕ) (z : ZoneState) → one_if (is_quarantined_for tx z) ≤ one_if (is_quarantined z)
for_is_held tx states.Free = omega arith
for_is_held tx states.Used = omega arith
for_is_held tx (states.Quarantined freed_by) = at_most (is_quarantined_for tx (states.Quarantined freed_by))
  where
    at_most : (t : Bool) → one_if t ≤ 1
    at_most true = omega arith
    at_most false = omega arith

to_is_held : (tx : ℕ) (z : ZoneState) → one_if (is_quarantined_to tx z) ≤ one_if (is_quarantined z)
to_is_held tx states.Free = omega arith
to_is_held tx states.Used = omega arith
to_is_held tx (states.Quarantined freed_by) = at_most (is_quarantined_to tx (states.Quarantined freed_by))
  where
    at_most : (t : Bool) → one_if t ≤ 1
    at_most true = omega arith
    at_most false = omega arith

-- where none is in quarantine, none is for these transactions
pub none_to : (tx : ℕ) (zs : List ZoneState) → count_by is_quarantined zs ≡ 0 → 0 ≡ count_by (is_quarantined_to tx) zs
none_to tx zs none =
    let most = sum_by-le-sum_by (λ z. one_if (is_quarantined_to tx z)) (λ z. one_if (is_quarantined z)) zs (to_is_held tx) in
    omega arith

go_kept : (tx : ℕ) (z : ZoneState) → is_quarantined_for tx z ≡ false → let_go tx z ≡ z
go_kept tx z h = ap (λ t. if t then states.Free else z) h

none_for : (tx : ℕ) (zs : List ZoneState) → count_by (is_quarantined_for tx) zs ≡ 0 → map (let_go tx) zs ≡ zs
none_for tx [] none = refl
none_for tx (z ∷ zs) none =
    let sum = sum_by-cons (λ x. one_if (is_quarantined_for tx x)) z zs in
    let here : one_if (is_quarantined_for tx z) ≡ 0 = omega arith in
    let rest : count_by (is_quarantined_for tx) zs ≡ 0 = omega arith in
    ap (λ x. x ∷ map (let_go tx) zs) (go_kept tx z (is_no (is_quarantined_for tx z) here)) ∙ ap (λ xs. z ∷ xs) (none_for tx zs rest)
  where
    is_no : (t : Bool) → one_if t ≡ 0 → t ≡ false
    is_no true e = absurd (omega arith)
    is_no false e = refl

pub none_held : (tx : ℕ) (zs : List ZoneState) → count_by is_quarantined zs ≡ 0 → zs ≡ map (let_go tx) zs
none_held tx zs none =
    let most = sum_by-le-sum_by (λ z. one_if (is_quarantined_for tx z)) (λ z. one_if (is_quarantined z)) zs (for_is_held tx) in
    sym (none_for tx zs (omega arith))

-- no more are freed than there are
pub freed_most : (tx : ℕ) (zs : List ZoneState) → count_by (is_quarantined_for tx) zs ≤ count_by is_quarantined zs
freed_most tx zs = sum_by-le-sum_by (λ z. one_if (is_quarantined_for tx z)) (λ z. one_if (is_quarantined z)) zs (for_is_held tx)

-- a zone that is free after a release was free or waited
go_free : (tx : ℕ) (z : ZoneState) → let_go tx z ≡ states.Free → (z ≡ states.Free) ⊎ (is_quarantined_for tx z ≡ true)
go_free tx z h =
    elim (cases_Bool (is_quarantined_for tx z)) [
      | inl t ↦ inr t
      | inr f ↦ inl (sym (go_kept tx z f) ∙ h)
    ]

-- before the first one none waits
before_position : (p : ZoneState → Bool) (xs : List ZoneState) (low k : ℕ) (d : ZoneState) → k < min low (unwrap_or (position p xs) low) → k < length xs → p (get_or xs k d) ≡ false
before_position p xs low k d below inside = by (cases_lt (position_or_len p xs) (length xs))
  where
    by : (position_or_len p xs < length xs) ⊎ (length xs ≤ position_or_len p xs) → p (get_or xs k d) ≡ false
    by (inl found) =
        let first : unwrap_or (position p xs) low ≡ position_or_len p xs = ap (λ t. unwrap_or (cond t (Some (position_or_len p xs)) None) low) (lt-ltb (position_or_len p xs) (length xs) found) in
        fails_before_first p xs k d (omega arith)
    by (inr none) = fails_before_first p xs k d (omega arith)

pub released_map : (first : ℕ) (zs : List ZoneState) (low free held tx freed : ℕ) → IsZoneMap first zs low free held → freed ≡ count_by (is_quarantined_for tx) zs →
    IsZoneMap first (map (let_go tx) zs) (min low (unwrap_or (position (is_quarantined_for tx) zs) low)) (free + freed) (held - freed)
released_map first zs low free held tx freed h count =
    let size = length-map zs (let_go tx) in
    let frees = released_free tx zs in
    let helds = released_quarantined tx zs in
    let was_free = h.free_is in
    let was_held = h.quarantined_is in
    let fits = h.fits in
    let within = h.within in
    record { none_below = none; within = omega arith; free_is = omega arith; quarantined_is = omega arith; fits = omega arith }
  where
    none : NoneFreeBelow (map (let_go tx) zs) (min low (unwrap_or (position (is_quarantined_for tx) zs) low))
    none k below found =
        let size = length-map zs (let_go tx) in
        let inside = slice_get_within (map (let_go tx) zs) k states.Free found in
        let was : slice_get zs k ≡ Some (get_or zs k states.Used) = slice_get-get_or zs k states.Used (omega arith) in
        let gone = same_state (let_go tx (get_or zs k states.Used)) states.Free (sym (slice_get-map (let_go tx) zs k ∙ ap (option_map (let_go tx)) was) ∙ found) in
        ⊎_elim
        (λ e. h.none_below k (omega arith) (was ∙ ap Some e))
        (λ t. true≢false (sym t ∙ before_position (is_quarantined_for tx) zs low k states.Used below (omega arith)))
        (go_free tx (get_or zs k states.Used) gone)

-- a list that was handed out whole and written
pub all_written : (xs ys : List ZoneState) (n : ℕ) → n ≡ length ys → take n (ys ++ drop (length ys) xs) ≡ ys
all_written xs ys n size = ap (λ k. take k (ys ++ drop (length ys) xs)) size ∙ take-append-le (length ys) ys (drop (length ys) xs) (omega arith) ∙ take_all (length ys) ys (omega arith)

-- the byte of a bool counts one
pub byte_is_one : (b : Bool) → bool_byte b ≡ one_if b
byte_is_one true = refl
byte_is_one false = refl

-- the place at which a loop stands is as it was
at_index : (f : ZoneState → ZoneState) (xs : List ZoneState) (i : ℕ) (d : ZoneState) → i < length xs → get_or (map f (take i xs) ++ drop i xs) i d ≡ get_or xs i d
at_index f [] i d h = absurd (omega arith)
at_index f (x ∷ xs) zero d h = refl
at_index f (x ∷ xs) (suc i) d h = at_index f xs i d (omega arith)

-- one more zone is counted
pub freed_more : (tx : ℕ) (xs ys : List ZoneState) (i n : ℕ) (x : ZoneState) → i < length xs → ys ≡ map (let_go tx) (take i xs) ++ drop i xs → x ≡ get_or ys i x →
    n ≡ count_by (is_quarantined_for tx) (take i xs) → n + one_if (is_quarantined_for tx x) ≡ count_by (is_quarantined_for tx) (take (i + 1) xs)
freed_more tx xs ys i n x inside same is count =
    let here : x ≡ get_or xs i x = is ∙ ap (λ zs. get_or zs i x) same ∙ at_index (let_go tx) xs i x inside in
    elim (cases_Bool (is_quarantined_for tx x)) [
      | inl t ↦ rw t (let more = count_by_more_yes (is_quarantined_for tx) xs i x inside (ap (is_quarantined_for tx) (sym here) ∙ t) in omega arith)
      | inr f ↦ rw f (let more = count_by_more_no (is_quarantined_for tx) xs i x inside (ap (is_quarantined_for tx) (sym here) ∙ f) in omega arith)
    ]

-- ---- a new map

-- with nothing listed all are free
pub none_marked : (n first : ℕ) → replicate n states.Free ≡ map (mark []) (range_with_len first n)
none_marked zero first = refl
none_marked (suc n) first = ap (λ zs. states.Free ∷ zs) (none_marked n (first + 1))

-- one more zone is listed
marked_more : (used : List ℕ) (k zone : ℕ) → k < length used → mark (take (k + 1) used) zone ≡ (if get_or used k 0 == zone then states.Used else mark (take k used) zone)
marked_more used k zone inside =
    ap (λ t. if t then states.Used else states.Free) (list_any_more (λ u. u == zone) used k 0 inside)
    ∙ by (list_any (λ u. u == zone) (take k used)) (get_or used k 0 == zone)
  where
    by : (s t : Bool) → (if (s || t) then states.Used else states.Free) ≡ (if t then states.Used else (if s then states.Used else states.Free))
    by true true = refl
    by true false = refl
    by false true = refl
    by false false = refl

pub mark_step : (used : List ℕ) (k first n u : ℕ) → k < length used → u ≡ get_or used k 0 →
    (if nat_le first u then slice_set (map (mark (take k used)) (range_with_len first n)) (u - first) states.Used else map (mark (take k used)) (range_with_len first n))
    ≡ map (mark (take (k + 1) used)) (range_with_len first n)
mark_step used k first n u inside is =
    elim (cases_lt u first) [
      | inl below ↦
          ap (λ t. if t then slice_set old (u - first) states.Used else old) (lt-leb first u below)
          ∙ same_lists old new (length-map-range_with_len (mark (take k used)) first n ∙ sym (length-map-range_with_len (mark (take (k + 1) used)) first n))
          (λ j d h. before j d (omega (arith, size))
          ∙ sym (after j d (omega (arith, size)) ∙ ap (λ t. if t then states.Used else mark (take k used) (first + j)) (ne_eqb (get_or used k 0) (first + j) (λ e. absurd (omega arith)))))
      | inr above ↦
          ap (λ t. if t then slice_set old (u - first) states.Used else old) (le-leb first u above)
          ∙ same_lists (slice_set old (u - first) states.Used) new (length-set old (u - first) states.Used ∙ size ∙ sym (length-map-range_with_len (mark (take (k + 1) used)) first n))
          (λ j d h. here above j d (omega (arith, size, length-set old (u - first) states.Used)))
    ]
  where
    old : List ZoneState
    old = map (mark (take k used)) (range_with_len first n)

    new : List ZoneState
    new = map (mark (take (k + 1) used)) (range_with_len first n)

    size : length old ≡ n
    size = length-map-range_with_len (mark (take k used)) first n

    before : (j : ℕ) (d : ZoneState) → j < n → get_or old j d ≡ mark (take k used) (first + j)
    before j d h = get_or-map-range_with_len (mark (take k used)) first n j (first + j) d h refl

    after : (j : ℕ) (d : ZoneState) → j < n → get_or new j d ≡ (if get_or used k 0 == first + j then states.Used else mark (take k used) (first + j))
    after j d h = get_or-map-range_with_len (mark (take (k + 1) used)) first n j (first + j) d h refl ∙ marked_more used k (first + j) inside

    here : first ≤ u → (j : ℕ) (d : ZoneState) → j < n → get_or (slice_set old (u - first) states.Used) j d ≡ get_or new j d
    here above j d h =
        elim (cases_eq j (u - first)) [
          | inl same ↦
              ap (λ x. get_or (slice_set old (u - first) states.Used) x d) same
              ∙ get_or-set_same old (u - first) states.Used d (omega (arith, size))
              ∙ sym (after j d h ∙ ap (λ t. if t then states.Used else mark (take k used) (first + j)) (eq-eqb (get_or used k 0) (first + j) (omega arith)))
          | inr apart ↦
              get_or-set_other old (u - first) j states.Used d apart
              ∙ before j d h
              ∙ sym (after j d h ∙ ap (λ t. if t then states.Used else mark (take k used) (first + j)) (ne_eqb (get_or used k 0) (first + j) (λ e. apart (omega arith))))
        ]

-- a new map keeps what a map keeps
pub made_map : (used : List ℕ) (first zones free n : ℕ) → n ≡ zones - first → first < 2 ^ 16 → zones < 2 ^ 16 →
    free ≡ count_by is_free (map (mark used) (range_with_len first n)) →
    IsZoneMap first (map (mark used) (range_with_len first n)) 0 free 0
made_map used first zones free n size low high count =
    let long = length-map-range_with_len (mark used) first n in
    record {
      none_below = λ k below found. absurd (omega arith);
      within = omega arith;
      free_is = count;
      quarantined_is = none n first;
      fits = omega arith;
    }
  where
    by : (t : Bool) → one_if (is_quarantined (if t then states.Used else states.Free)) ≡ 0
    by true = refl
    by false = refl

    none : (n first : ℕ) → 0 ≡ count_by is_quarantined (map (mark used) (range_with_len first n))
    none zero first = refl
    none (suc n) first =
        let sum = sum_by-cons (λ x. one_if (is_quarantined x)) (mark used first) (map (mark used) (range_with_len (first + 1) n)) in
        let rest = none n (first + 1) in
        let here = by (list_any (λ u. u == first) used) in
        omega arith
