-- Zones are taken one after the other, and zones are given into quarantine: what each zone is then, and how many are free.
use Rattle.std.specs.Prelude.{◌≡◌, ◌≢◌, ℕ, suc, ◌+◌, ◌-◌, ◌≤◌, ◌<◌, false, option_map, List, [], ◌∷◌, ◌++◌, length, Option, Some, None, count_by, refl, ◌⊎◌}
use Rattle.std.proofs.Common.{sym, ap, subst, ◌∙◌, inl, inr, ⊎_elim, arith}
use Rattle.std.proofs.lemmas.Bool.{cases_eq, cases_lt}
use Rattle.std.proofs.lemmas.List.{length-set}
use Rattle.std.proofs.lemmas.List.Sums.{sum_by-cons}
use Rattle.std.proofs.lemmas.Option.{none-some, same_Some}
use Rattle.std.specs.List.{slice_get}
use Rattle.blk_base.specs.Members.{In}
use Rattle.blk_base.specs.laws.Members.{In-append_left, In-append_right, In-append_cases}
use Rattle.minix_tables.specs.declared.zones.zone_state.ZoneState.{ZoneState}
use Rattle.minix_tables.specs.declared.zones.zone_state.ZoneState.TheVariants as states
use Rattle.minix_tables.specs.zones.Zones.{Zones, state_of, with_state, lowest_free, least_free, taken, given, is_free, is_used, is_quarantined}
use Rattle.minix_tables.specs.zones.laws.States.{state_written, state_elsewhere, state_above, above_first, inside}
use Rattle.minix_tables.specs.zones.laws.Lowest.{lowest_is}
use Rattle.minix_tables.specs.zones.laws.Counts.{one_if, count_written, taken_is}
use Rattle.volume_steps.specs.Zones.{next_zone, all_given}
use Rattle.volume_steps.specs.laws.Steady.{TakesLowest}

abbrev pub frees : Zones → ℕ
frees m = count_by is_free m.states

abbrev pub uses : Zones → ℕ
uses m = count_by is_used m.states

abbrev pub waits : Zones → ℕ
waits m = count_by is_quarantined m.states

-- ---- lists of zones

-- each zone stands in the list once
abbrev pub AreApart : {X : Type 0} → List X → Type 0
AreApart [] = Unit {0}
AreApart (z ∷ zones) = (In z zones → ⊥) × AreApart zones

pub apart_both : (xs ys : List ℕ) → AreApart xs → AreApart ys → ((z : ℕ) → In z xs → In z ys → ⊥) → AreApart (xs ++ ys)
apart_both [] ys one two none = two
apart_both (x ∷ xs) ys one two none = (
  (λ i. ⊎_elim one.0 (λ j. none x (inl refl) j) (In-append_cases xs ys x i)),
  apart_both xs ys one.1 two (λ z i j. none z (inr i) j),
)

pub apart_parts : (xs ys : List ℕ) → AreApart (xs ++ ys) → (z : ℕ) → In z xs → In z ys → ⊥
apart_parts [] ys apart z i j = i
apart_parts (x ∷ xs) ys apart z i j = ⊎_elim (λ e. apart.0 (subst (λ z. In z (xs ++ ys)) (sym e) (In-append_right xs ys z j))) (λ k. apart_parts xs ys apart.1 z k j) i

-- ---- the lowest ones

pub lowest_none : (m : Zones) → TakesLowest m m
lowest_none m = record { was_free = λ z free. free; below = λ z y was now free. absurd (now was) }

-- whether a zone is free
free_or : (m : Zones) (z : ℕ) → (state_of m z ≡ Some states.Free) ⊎ (state_of m z ≢ Some states.Free)
free_or m z = by (state_of m z)
  where
    by : (o : Option ZoneState) → (o ≡ Some states.Free) ⊎ (o ≢ Some states.Free)
    by None = inr (λ e. cc e)
    by (Some states.Free) = inl refl
    by (Some states.Used) = inr (λ e. cc e)
    by (Some (states.Quarantined tx)) = inr (λ e. cc e)

pub lowest_then : (m n o : Zones) → TakesLowest m n → TakesLowest n o → TakesLowest m o
lowest_then m n o h k = record {
  was_free = λ z free. h.was_free z (k.was_free z free);
  below = λ z y was now free. ⊎_elim (λ still. k.below z y still now free) (λ gone. h.below z y was gone (k.was_free y free)) (free_or n z);
}

-- ---- zones that are taken

-- these zones were free and are in use now, each once
pub record AreTaken (m n : Zones) (zones : List ℕ) : Type 0 where
  pub first : n.first ≡ m.first
  pub size : length n.states ≡ length m.states
  pub apart : AreApart zones
  pub was : (z : ℕ) → In z zones → state_of m z ≡ Some states.Free
  pub now : (z : ℕ) → In z zones → state_of n z ≡ Some states.Used
  pub others : (z : ℕ) → (In z zones → ⊥) → state_of n z ≡ state_of m z
  pub fewer : frees n + length zones ≡ frees m
  pub more : uses n ≡ uses m + length zones
  pub same : waits n ≡ waits m
  pub lowest : TakesLowest m n

-- a zone is in a list or not
pub in_zones : (z : ℕ) (zones : List ℕ) → In z zones ⊎ (In z zones → ⊥)
in_zones z [] = inr (λ n. n)
in_zones z (y ∷ ys) = elim (cases_eq y z) [
  | inl e ↦ inl (inl e)
  | inr a ↦ elim (in_zones z ys) [ inl i ↦ inl (inr i) | inr n ↦ inr (λ i. elim i [ inl e ↦ a e | inr j ↦ n j ]) ]
]

pub free_used : ◌≡◌ {A = Option ZoneState} (Some states.Free) (Some states.Used) → ⊥
free_used e = cc

pub none_taken : (m : Zones) → AreTaken m m []
none_taken m = record { first = refl; size = refl; apart = tt; was = λ z i. absurd i; now = λ z i. absurd i; others = λ z none. refl; fewer = (omega arith); more = (omega arith); same = refl; lowest = lowest_none m }

pub taken_then : (m n o : Zones) (xs ys : List ℕ) → AreTaken m n xs → AreTaken n o ys → AreTaken m o (xs ++ ys)
taken_then m n o xs ys h k = record {
  first = k.first ∙ h.first;
  size = k.size ∙ h.size;
  apart = apart_both xs ys h.apart k.apart (λ z i j. free_used (sym (k.was z j) ∙ h.now z i));
  was = λ z i. ⊎_elim (λ first. h.was z first)
      (λ second. ⊎_elim (λ first. absurd (free_used (sym (k.was z second) ∙ h.now z first))) (λ none. sym (h.others z none) ∙ k.was z second) (in_zones z xs))
      (In-append_cases xs ys z i);
  now = λ z i. ⊎_elim (λ second. k.now z second) (λ none. k.others z none ∙ ⊎_elim (λ first. h.now z first) (λ second. absurd (none second)) (In-append_cases xs ys z i)) (in_zones z ys);
  others = λ z none. k.others z (λ i. none (In-append_right xs ys z i)) ∙ h.others z (λ i. none (In-append_left xs ys z i));
  fewer = (let a = h.fewer in let b = k.fewer in let l = length_both xs ys in omega arith);
  more = (let a = h.more in let b = k.more in let l = length_both xs ys in omega arith);
  same = k.same ∙ h.same;
  lowest = lowest_then m n o h.lowest k.lowest;
}
  where
    length_both : (xs ys : List ℕ) → length (xs ++ ys) ≡ length xs + length ys
    length_both [] ys = omega arith
    length_both (x ∷ xs) ys = let rest = length_both xs ys in omega arith

-- where a zone is free, the lowest one is found
none_behind : (o : Option ℕ) → option_map suc o ≡ None → o ≡ None
none_behind None e = refl
none_behind (Some n) e = absurd (none-some (suc n) (sym e))

count_rest : (z : ZoneState) (zs : List ZoneState) → is_free z ≡ false → 1 ≤ count_by is_free (z ∷ zs) → 1 ≤ count_by is_free zs
count_rest z zs other some =
    let one = sum_by-cons (λ x. one_if (is_free x)) z zs in
    let none : one_if (is_free z) ≡ 0 = ap one_if other in
    omega arith

some_free : (zs : List ZoneState) → 1 ≤ count_by is_free zs → least_free zs ≡ None → ⊥
some_free [] some none = omega arith
some_free (states.Free ∷ zs) some none = cc none
some_free (states.Used ∷ zs) some none = some_free zs (count_rest states.Used zs refl some) (none_behind (least_free zs) none)
some_free (states.Quarantined tx ∷ zs) some none = some_free zs (count_rest (states.Quarantined tx) zs refl some) (none_behind (least_free zs) none)

pub next_is_lowest : (m : Zones) → 1 ≤ frees m → lowest_free m ≡ Some (next_zone m)
next_is_lowest m some = by (least_free m.states) refl
  where
    by : (o : Option ℕ) → least_free m.states ≡ o → lowest_free m ≡ Some (next_zone m)
    by None e = absurd (some_free m.states some e)
    by (Some at) e =
        let found : lowest_free m ≡ Some (m.first + at) = ap (option_map (λ at. m.first + at)) e in
        found ∙ ap Some (sym (ap (λ (o : Option ℕ). elim o as (λ _. ℕ) [ None ↦ 0 | Some zone ↦ zone ]) found))

pub one_taken : (m : Zones) → 1 ≤ frees m → AreTaken m (taken m) (next_zone m ∷ [])
one_taken m some =
    let found = next_is_lowest m some in
    let free = ((lowest_is m (next_zone m)).0 found).free in
    let at = inside m (next_zone m) states.Free free in
    let fewer = count_written is_free m.states (next_zone m - m.first) states.Used states.Free at in
    let more = count_written is_used m.states (next_zone m - m.first) states.Used states.Free at in
    let same = count_written is_quarantined m.states (next_zone m - m.first) states.Used states.Free at in
    subst (λ n. AreTaken m n (next_zone m ∷ [])) (sym (taken_is m (next_zone m) found)) (record {
      first = refl;
      size = length-set m.states (next_zone m - m.first) states.Used;
      apart = ((λ i. i), tt);
      was = λ z i. elim i [ inl e ↦ ap (state_of m) (sym e) ∙ free | inr n ↦ absurd n ];
      now = λ z i. elim i [ inl e ↦ ap (state_of (with_state m (next_zone m) states.Used)) (sym e) ∙ state_written m (next_zone m) states.Used states.Free free | inr n ↦ absurd n ];
      others = λ z none. state_elsewhere m (next_zone m) z states.Used states.Free free (λ e. none (inl (sym e)));
      fewer = (omega arith);
      more = (omega arith);
      same = (omega arith);
      lowest = one_lowest free;
    })
  where
    one_lowest : state_of m (next_zone m) ≡ Some states.Free → TakesLowest m (with_state m (next_zone m) states.Used)
    one_lowest free = record {
      was_free = λ z now. ⊎_elim
          (λ e. absurd (free_used (sym now ∙ (ap (state_of (with_state m (next_zone m) states.Used)) e ∙ state_written m (next_zone m) states.Used states.Free free))))
          (λ far. sym (state_elsewhere m (next_zone m) z states.Used states.Free free far) ∙ now) (cases_eq z (next_zone m));
      below = λ z y was now left. ⊎_elim
          (λ e. above z y e left)
          (λ far. absurd (now (state_elsewhere m (next_zone m) z states.Used states.Free free far ∙ was))) (cases_eq z (next_zone m));
    }
      where
        above : (z y : ℕ) → z ≡ next_zone m → state_of (with_state m (next_zone m) states.Used) y ≡ Some states.Free → z < y
        above z y e left = elim (cases_eq y (next_zone m)) [
          | inl here ↦ absurd (free_used (sym left ∙ (ap (state_of (with_state m (next_zone m) states.Used)) here ∙ state_written m (next_zone m) states.Used states.Free free)))
          | inr far ↦ elim (cases_lt y (next_zone m)) [
            | inl low ↦ absurd (((lowest_is m (next_zone m)).0 (next_is_lowest m some)).lowest y low (sym (state_elsewhere m (next_zone m) y states.Used states.Free free far) ∙ left))
            | inr high ↦ (omega arith)
          ]
        ]

-- ---- zones that are given

-- these zones were in use and wait for the transaction now
pub record AreGiven (tx : ℕ) (m n : Zones) (zones : List ℕ) : Type 0 where
  pub first : n.first ≡ m.first
  pub size : length n.states ≡ length m.states
  pub now : (z : ℕ) → In z zones → state_of n z ≡ Some (states.Quarantined tx)
  pub others : (z : ℕ) → (In z zones → ⊥) → state_of n z ≡ state_of m z
  pub same : frees n ≡ frees m
  pub fewer : uses n + length zones ≡ uses m
  pub more : waits n ≡ waits m + length zones

pub all_are_given : (tx : ℕ) (zones : List ℕ) (m : Zones) → AreApart zones → ((z : ℕ) → In z zones → state_of m z ≡ Some states.Used) → AreGiven tx m (all_given tx zones m) zones
all_are_given tx [] m apart used = record { first = refl; size = refl; now = λ z i. absurd i; others = λ z none. refl; same = refl; fewer = (omega arith); more = (omega arith) }
all_are_given tx (z ∷ zones) m apart used =
    let here = used z (inl refl) in
    let at = inside m z states.Used here in
    let same = count_written is_free m.states (z - m.first) (states.Quarantined tx) states.Used at in
    let fewer = count_written is_used m.states (z - m.first) (states.Quarantined tx) states.Used at in
    let more = count_written is_quarantined m.states (z - m.first) (states.Quarantined tx) states.Used at in
    let elsewhere = λ (y : ℕ) (a : y ≢ z). state_elsewhere m z y (states.Quarantined tx) states.Used here a in
    let rest = all_are_given tx zones (given m z tx) apart.1 (λ y i. elsewhere y (λ e. apart.0 (subst (λ y. In y zones) e i)) ∙ used y (inr i)) in
    let a = rest.same in
    let b = rest.fewer in
    let c = rest.more in
    record {
      first = rest.first;
      size = rest.size ∙ length-set m.states (z - m.first) (states.Quarantined tx);
      now = λ y i. elim i [
        | inl e ↦ subst (λ y. state_of (all_given tx zones (given m z tx)) y ≡ Some (states.Quarantined tx)) e (rest.others z apart.0 ∙ state_written m z (states.Quarantined tx) states.Used here)
        | inr j ↦ rest.now y j
      ];
      others = λ y none. rest.others y (λ i. none (inr i)) ∙ elsewhere y (λ e. none (inl (sym e)));
      same = (omega arith);
      fewer = (omega arith);
      more = (omega arith);
    }

-- those that are given were not free
pub given_lowest : (tx : ℕ) (m n : Zones) (zones : List ℕ) → AreGiven tx m n zones → ((z : ℕ) → In z zones → state_of m z ≡ Some states.Used) → TakesLowest m n
given_lowest tx m n zones h used = record {
  was_free = λ z free. ⊎_elim (λ i. absurd (waits_free (sym (h.now z i) ∙ free))) (λ out. sym (h.others z out) ∙ free) (in_zones z zones);
  below = λ z y was now left. ⊎_elim (λ i. absurd (free_used (sym was ∙ used z i))) (λ out. absurd (now (h.others z out ∙ was))) (in_zones z zones);
}
  where
    waits_free : ◌≡◌ {A = Option ZoneState} (Some (states.Quarantined tx)) (Some states.Free) → ⊥
    waits_free e = cc

-- ---- how many are free

count_fewer : (xs ys : List ZoneState) → length xs ≡ length ys → ((k : ℕ) → slice_get xs k ≡ Some states.Free → slice_get ys k ≡ Some states.Free) → count_by is_free xs ≤ count_by is_free ys
count_fewer [] ys long free = omega arith
count_fewer (x ∷ xs) [] long free = absurd (omega arith)
count_fewer (x ∷ xs) (y ∷ ys) long free =
    let one = sum_by-cons (λ z. one_if (is_free z)) x xs in
    let two = sum_by-cons (λ z. one_if (is_free z)) y ys in
    let rest = count_fewer xs ys (omega arith) (λ k at. free (suc k) at) in
    let here = first x y (λ e. same_Some y states.Free (free 0 (ap Some e))) in
    omega arith
  where
    first : (x y : ZoneState) → (x ≡ states.Free → y ≡ states.Free) → one_if (is_free x) ≤ one_if (is_free y)
    first states.Free y same = (let e : one_if (is_free y) ≡ 1 = ap (λ z. one_if (is_free z)) (same refl) in omega arith)
    first states.Used y same = omega arith
    first (states.Quarantined tx) y same = omega arith

pub fewer_free : (m n : Zones) → n.first ≡ m.first → length n.states ≡ length m.states → TakesLowest m n → frees n ≤ frees m
fewer_free m n first size h = count_fewer n.states m.states size (λ k at.
    let zone = n.first + k in
    let here : state_of n zone ≡ Some states.Free = state_above n zone (omega arith) ∙ (ap (slice_get n.states) (let e : zone - n.first ≡ k = omega arith in e) ∙ at) in
    inside_at m zone k (λ low. (omega arith)) (h.was_free zone here))
  where
    inside_at : (m : Zones) (zone k : ℕ) → (m.first ≤ zone → zone - m.first ≡ k) → state_of m zone ≡ Some states.Free → slice_get m.states k ≡ Some states.Free
    inside_at m zone k place free = sym (ap (slice_get m.states) (place (above_first m zone states.Free free))) ∙ inside m zone states.Free free
