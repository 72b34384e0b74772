-- Places in a list of keys that stand in order.
use Rattle.std.proofs.Common.{◌≡◌, ℕ, zero, suc, ◌+◌, ◌<◌, ◌≤◌, ◌==◌, ◌⊎◌, ◌&&◌, Bool, true, false, nat_lt, if◌then◌else◌, List, [], ◌∷◌, length, get_or, refl, sym, ap, ◌∙◌, inl, inr, ⊎_elim, arith, eqb-true, eq-eqb}
use Rattle.std.proofs.lemmas.Bool.{cases_lt, cases_Bool, false≢true, and_from, and_parts, or_cases, or_left, or_right, ltb-true, lt-ltb}
use Rattle.blk_base.specs.Members.{In}
use Rattle.page_cache.specs.code.Keys.{KeyBelow, IsRisingKeys, is_before, is_key, place_of, stands}

pub before_by : (k : ℕ × ℕ) (f i : ℕ) → is_before k f i ≡ true → (k.0 < f) ⊎ ((k.0 ≡ f) × (k.1 < i))
before_by k f i t =
    ⊎_elim
    (λ lt. inl (ltb-true k.0 f lt))
    (λ b. let x = and_parts (k.0 == f) (nat_lt k.1 i) b in inr (eqb-true k.0 f x.0, ltb-true k.1 i x.1))
    (or_cases (nat_lt k.0 f) (k.0 == f && nat_lt k.1 i) t)

pub by_before : (k : ℕ × ℕ) (f i : ℕ) → (k.0 < f) ⊎ ((k.0 ≡ f) × (k.1 < i)) → is_before k f i ≡ true
by_before k f i (inl lt) = or_left (nat_lt k.0 f) (k.0 == f && nat_lt k.1 i) (lt-ltb k.0 f lt)
by_before k f i (inr b) =
    or_right (nat_lt k.0 f) (k.0 == f && nat_lt k.1 i)
    (and_from (k.0 == f) (nat_lt k.1 i) (eq-eqb k.0 f b.0) (lt-ltb k.1 i b.1))

-- a key behind one that does not stand before (f, i) does not either
behind : (p q : ℕ × ℕ) (f i : ℕ) → KeyBelow p q → is_before p f i ≡ false → is_before q f i ≡ false
behind p q f i below not_before =
    ⊎_elim
    (λ t. absurd (false≢true (sym not_before ∙ by_before p f i (lower (before_by q f i t) below))))
    (λ e. e)
    (cases_Bool (is_before q f i))
  where
    lower : (q.0 < f) ⊎ ((q.0 ≡ f) × (q.1 < i)) → KeyBelow p q → (p.0 < f) ⊎ ((p.0 ≡ f) × (p.1 < i))
    lower (inl a) (inl b) = inl (omega arith)
    lower (inl a) (inr b) = let e = b.0 in inl (omega arith)
    lower (inr a) (inl b) = let e = a.0 in inl (omega arith)
    lower (inr a) (inr b) = let e = b.1 in let d = a.1 in inr (b.0 ∙ a.0, omega arith)

In-get_or : (ps : List (ℕ × ℕ)) (k : ℕ) (d : ℕ × ℕ) → k < length ps → In (get_or ps k d) ps
In-get_or [] k d h = absurd (omega arith)
In-get_or (p ∷ ps) zero d h = inl refl
In-get_or (p ∷ ps) (suc k) d h = inr (In-get_or ps k d (omega arith))

pub place_within : (ps : List (ℕ × ℕ)) (f i : ℕ) → place_of ps f i ≤ length ps
place_within [] f i = omega arith
place_within (p ∷ ps) f i = by (is_before p f i) (place_within ps f i)
  where
    by : (t : Bool) → place_of ps f i ≤ length ps → (if t then suc (place_of ps f i) else 0) ≤ suc (length ps)
    by true h = omega arith
    by false h = omega arith

-- keys before the place stand before (f, i)
pub before_place : (ps : List (ℕ × ℕ)) (f i k : ℕ) (d : ℕ × ℕ) → k < place_of ps f i → is_before (get_or ps k d) f i ≡ true
before_place [] f i k d h = absurd (omega arith)
before_place (p ∷ ps) f i k d h = by (λ j low. before_place ps f i j d low) (is_before p f i) refl k h
  where
    by : ((j : ℕ) → j < place_of ps f i → is_before (get_or ps j d) f i ≡ true) → (t : Bool) → is_before p f i ≡ t → (k : ℕ) → k < (if t then suc (place_of ps f i) else 0) → is_before (get_or (p ∷ ps) k d) f i ≡ true
    by rest false e k low = absurd (omega arith)
    by rest true e zero low = e
    by rest true e (suc k) low = rest k (omega arith)

-- keys from the place on do not
pub after_place : (ps : List (ℕ × ℕ)) (f i k : ℕ) (d : ℕ × ℕ) → IsRisingKeys ps → place_of ps f i ≤ k → k < length ps → is_before (get_or ps k d) f i ≡ false
after_place [] f i k d r low high = absurd (omega arith)
after_place (p ∷ ps) f i k d r low high = by (λ j low high. after_place ps f i j d r.1 low high) (is_before p f i) refl k low high
  where
    by : ((j : ℕ) → place_of ps f i ≤ j → j < length ps → is_before (get_or ps j d) f i ≡ false) → (t : Bool) → is_before p f i ≡ t → (k : ℕ) → (if t then suc (place_of ps f i) else 0) ≤ k → k < suc (length ps) → is_before (get_or (p ∷ ps) k d) f i ≡ false
    by rest true e zero low high = absurd (omega arith)
    by rest true e (suc k) low high = rest k (omega arith) (omega arith)
    by rest false e zero low high = e
    by rest false e (suc k) low high = behind p (get_or ps k d) f i (r.0 (get_or ps k d) (In-get_or ps k d (omega arith))) e

-- a key that stands before (f, i) stands before its place, and one that does not from there on
pub place_behind : (ps : List (ℕ × ℕ)) (f i k : ℕ) (d : ℕ × ℕ) → IsRisingKeys ps → k < length ps → is_before (get_or ps k d) f i ≡ true → k + 1 ≤ place_of ps f i
place_behind ps f i k d r inside before =
    ⊎_elim (λ low. omega arith) (λ high. absurd (false≢true (sym (after_place ps f i k d r high inside) ∙ before))) (cases_lt k (place_of ps f i))

pub place_before : (ps : List (ℕ × ℕ)) (f i k : ℕ) (d : ℕ × ℕ) → is_before (get_or ps k d) f i ≡ false → place_of ps f i ≤ k
place_before ps f i k d not_before =
    ⊎_elim (λ low. absurd (false≢true (sym not_before ∙ before_place ps f i k d low))) (λ high. high) (cases_lt k (place_of ps f i))

pub stands_at : (ps : List (ℕ × ℕ)) (f i : ℕ) (d : ℕ × ℕ) → place_of ps f i < length ps → is_key (get_or ps (place_of ps f i) d) f i ≡ true → stands ps f i ≡ true
stands_at [] f i d low is = absurd (omega arith)
stands_at (p ∷ ps) f i d low is = by (stands_at ps f i d) (is_before p f i) low is
  where
    by : (place_of ps f i < length ps → is_key (get_or ps (place_of ps f i) d) f i ≡ true → stands ps f i ≡ true) → (t : Bool) → (if t then suc (place_of ps f i) else 0) < suc (length ps) → is_key (get_or (p ∷ ps) (if t then suc (place_of ps f i) else 0) d) f i ≡ true
        → (if t then stands ps f i else is_key p f i) ≡ true
    by rest true low is = rest (omega arith) is
    by rest false low is = is

pub stands_nowhere : (ps : List (ℕ × ℕ)) (f i : ℕ) (d : ℕ × ℕ) → (place_of ps f i < length ps → is_key (get_or ps (place_of ps f i) d) f i ≡ false) → stands ps f i ≡ false
stands_nowhere [] f i d none = refl
stands_nowhere (p ∷ ps) f i d none = by (stands_nowhere ps f i d) (is_before p f i) none
  where
    by : ((place_of ps f i < length ps → is_key (get_or ps (place_of ps f i) d) f i ≡ false) → stands ps f i ≡ false) → (t : Bool) → ((if t then suc (place_of ps f i) else 0) < suc (length ps) → is_key (get_or (p ∷ ps) (if t then suc (place_of ps f i) else 0) d) f i ≡ false)
        → (if t then stands ps f i else is_key p f i) ≡ false
    by rest true none = rest (λ low. none (omega arith))
    by rest false none = none (omega arith)

-- the same, by what the code reads
pub stands_here : (ps : List (ℕ × ℕ)) (f i at : ℕ) (x : ℕ × ℕ) → at ≡ place_of ps f i → at < length ps → x ≡ get_or ps at x → is_key x f i ≡ true → stands ps f i ≡ true
stands_here ps f i at x place inside read is =
    stands_at ps f i x (omega arith) (ap (λ n. is_key (get_or ps n x) f i) (sym place) ∙ ap (λ y. is_key y f i) (sym read) ∙ is)

pub stands_other : (ps : List (ℕ × ℕ)) (f i at : ℕ) (x : ℕ × ℕ) → at ≡ place_of ps f i → x ≡ get_or ps at x → is_key x f i ≡ false → stands ps f i ≡ false
stands_other ps f i at x place read is =
    stands_nowhere ps f i x (λ h. ap (λ n. is_key (get_or ps n x) f i) (sym place) ∙ ap (λ y. is_key y f i) (sym read) ∙ is)

pub stands_past : (ps : List (ℕ × ℕ)) (f i at : ℕ) → at ≡ place_of ps f i → length ps ≤ at → stands ps f i ≡ false
stands_past [] f i at place past = refl
stands_past (p ∷ ps) f i at place past = stands_nowhere (p ∷ ps) f i p (λ h. absurd (omega arith))
