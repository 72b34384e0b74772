-- The marks of the zones that are in use.
use Rattle.std.proofs.Common.{◌≡◌, ◌≢◌, ◌<◌, ◌≤◌, ℕ, zero, suc, ◌+◌, ◌-◌, ◌==◌, ◌||◌, ◌↔◌, Bool, true, false, cond, if◌then◌else◌, List, [], ◌∷◌, map, length, Some, refl, sym, ap, subst, ◌∙◌, arith, inl, inr, count_by, slice_get}
use Rattle.std.specs.List.{range_with_len, list_any}
use Rattle.std.proofs.lemmas.Bool.{cases_Bool, cases_eq, cases_lt, ne_eqb, eq-eqb, eqb-true, le-ltb, lt-ltb}
use Rattle.std.proofs.lemmas.List.FromFn.{length-map-range_with_len}
use Rattle.std.proofs.lemmas.List.Sums.{sum_by-cons}
use Rattle.blk_base.specs.Members.{In}
use Rattle.blk_base.specs.laws.Members.{In-list_any, list_any-In, list_any-none, slice_get-length}
use Rattle.minix_layout.specs.declared.division.Geometry.{Geometry}
use Rattle.minix_tables.specs.declared.zones.zone_state.ZoneState.{ZoneState}
use Rattle.minix_tables.specs.declared.zones.zone_state.ZoneState.TheVariants as states
use Rattle.minix_tables.specs.zones.Zones.{mark, made, state_of, is_used, is_quarantined}
use Rattle.volume_steps.proofs.Taking.{AreApart}

abbrev listed : List ℕ → ℕ → Bool
listed zs k = list_any (λ u. u == k) zs

-- ---- one zone

abbrev one : List ℕ → ℕ → ℕ
one zs k = cond (is_used (mark zs k)) 1 0

one_here : (z : ℕ) (zs : List ℕ) → one (z ∷ zs) z ≡ 1
one_here z zs = ap (λ (b : Bool). cond (is_used (if (b || listed zs z) then states.Used else states.Free)) 1 0) (eq-eqb z z refl)

one_other : (z k : ℕ) (zs : List ℕ) → z ≢ k → one (z ∷ zs) k ≡ one zs k
one_other z k zs apart = ap (λ (b : Bool). cond (is_used (if (b || listed zs k) then states.Used else states.Free)) 1 0) (ne_eqb z k apart)

not_listed : (zs : List ℕ) (k : ℕ) → (In k zs → ⊥) → listed zs k ≡ false
not_listed zs k out = list_any-none (λ u. u == k) zs (λ u i. ne_eqb u k (λ e. out (subst (λ u. In u zs) e i)))

is_listed : (zs : List ℕ) (k : ℕ) → In k zs → listed zs k ≡ true
is_listed zs k i = list_any-In (λ u. u == k) zs k i (eq-eqb k k refl)

listed_in : (zs : List ℕ) (k : ℕ) → listed zs k ≡ true → In k zs
listed_in zs k t = (let w = In-list_any (λ u. u == k) zs t in subst (λ u. In u zs) (eqb-true w.0 k w.2) w.1)

one_none : (k : ℕ) (zs : List ℕ) → (In k zs → ⊥) → one zs k ≡ 0
one_none k zs out = ap (λ (b : Bool). cond (is_used (if b then states.Used else states.Free)) 1 0) (not_listed zs k out)

-- ---- a range of them

abbrev uses : List ℕ → ℕ → ℕ → ℕ
uses zs a n = count_by is_used (map (mark zs) (range_with_len a n))

uses_first : (zs : List ℕ) (a n : ℕ) → uses zs a (suc n) ≡ one zs a + uses zs (a + 1) n
uses_first zs a n = sum_by-cons (λ x. cond (is_used x) 1 0) (mark zs a) (map (mark zs) (range_with_len (a + 1) n))

uses_none : (a n : ℕ) → uses [] a n ≡ 0
uses_none a zero = refl
uses_none a (suc n) = (let first = uses_first [] a n in let rest = uses_none (a + 1) n in let here = one_none a [] (λ i. i) in omega arith)

-- a zone before them counts for nothing
before : (z : ℕ) (zs : List ℕ) (a n : ℕ) → z < a → uses (z ∷ zs) a n ≡ uses zs a n
before z zs a zero less = refl
before z zs a (suc n) less =
    let first = uses_first (z ∷ zs) a n in
    let second = uses_first zs a n in
    let here = one_other z a zs (λ e. omega arith) in
    let rest = before z zs (a + 1) n (omega arith) in
    omega arith

one_more : (z : ℕ) (zs : List ℕ) (a n : ℕ) → (In z zs → ⊥) → a ≤ z → z < a + n → uses (z ∷ zs) a n ≡ suc (uses zs a n)
one_more z zs a zero out low high = absurd (omega arith)
one_more z zs a (suc n) out low high = elim (cases_eq z a) [
  | inl same ↦
      let first = uses_first (z ∷ zs) a n in
      let second = uses_first zs a n in
      let here : one (z ∷ zs) a ≡ 1 = ap (one (z ∷ zs)) (sym same) ∙ one_here z zs in
      let not_here : one zs a ≡ 0 = ap (one zs) (sym same) ∙ one_none z zs out in
      let rest = before z zs (a + 1) n (omega arith) in
      omega arith
  | inr apart ↦
      let first = uses_first (z ∷ zs) a n in
      let second = uses_first zs a n in
      let here = one_other z a zs apart in
      let rest = one_more z zs (a + 1) n out (omega arith) (omega arith) in
      omega arith
]

-- zones that differ, each within the range, are as many as are marked
pub all_marked : (zs : List ℕ) (a n : ℕ) → AreApart zs → ((z : ℕ) → In z zs → (a ≤ z) × (z < a + n)) → uses zs a n ≡ length zs
all_marked [] a n apart within = uses_none a n
all_marked (z ∷ zs) a n apart within =
    let here = within z (inl refl) in
    one_more z zs a n apart.0 here.0 here.1 ∙ ap suc (all_marked zs a n apart.1 (λ y i. within y (inr i)))

-- lists with the same zones mark the same
same_mark : (xs ys : List ℕ) (k : ℕ) → In k xs ↔ In k ys → mark xs k ≡ mark ys k
same_mark xs ys k h = ap (λ (b : Bool). if b then states.Used else states.Free) (elim (cases_Bool (listed ys k)) [
  | inl t ↦ is_listed xs k (h.1 (listed_in ys k t)) ∙ sym t
  | inr f ↦ elim (cases_Bool (listed xs k)) [
    | inl t ↦ absurd (let there = is_listed ys k (h.0 (listed_in xs k t)) in cc)
    | inr g ↦ g ∙ sym f
  ]
])

pub same_marks : (xs ys : List ℕ) (a n : ℕ) → ((k : ℕ) → k < a + n → In k xs ↔ In k ys) → map (mark xs) (range_with_len a n) ≡ map (mark ys) (range_with_len a n)
same_marks xs ys a zero h = refl
same_marks xs ys a (suc n) h =
    ap (λ (s : ZoneState). s ∷ map (mark xs) (range_with_len (a + 1) n)) (same_mark xs ys a (h a (omega arith)))
    ∙ ap (λ (more : List ZoneState). mark ys a ∷ more) (same_marks xs ys (a + 1) n (λ k less. h k (omega arith)))

-- none waits
pub none_waits : (zs : List ℕ) (a n : ℕ) → count_by is_quarantined (map (mark zs) (range_with_len a n)) ≡ 0
none_waits zs a zero = refl
none_waits zs a (suc n) =
    let first = sum_by-cons (λ x. cond (is_quarantined x) 1 0) (mark zs a) (map (mark zs) (range_with_len (a + 1) n)) in
    let here = no_wait (listed zs a) in
    let rest = none_waits zs (a + 1) n in
    omega arith
  where
    no_wait : (b : Bool) → ◌≡◌ {A = ℕ} (cond (is_quarantined (if b then states.Used else states.Free)) 1 0) 0
    no_wait true = refl
    no_wait false = refl

-- ---- the state of a zone

state_there : {X : Type 0} (f : ℕ → X) (n a k : ℕ) (y : X) → slice_get (map f (range_with_len a n)) k ≡ Some y → y ≡ f (a + k)
state_there f zero a k y e = absurd (cc)
state_there f (suc n) a zero y e = (let same : a ≡ a + 0 = omega arith in let here : y ≡ f a = cc in here ∙ ap f same)
state_there f (suc n) a (suc k) y e = (let same : (a + 1) + k ≡ a + suc k = omega arith in state_there f n (a + 1) k y e ∙ ap f same)

there_state : {X : Type 0} (f : ℕ → X) (n a k : ℕ) → k < n → slice_get (map f (range_with_len a n)) k ≡ Some (f (a + k))
there_state f zero a k less = absurd (omega arith)
there_state f (suc n) a zero less = (let same : a ≡ a + 0 = omega arith in ap (λ k. Some (f k)) same)
there_state f (suc n) a (suc k) less = (let same : (a + 1) + k ≡ a + suc k = omega arith in there_state f n (a + 1) k (omega arith) ∙ ap (λ k. Some (f k)) same)

mark_in : (zs : List ℕ) (k : ℕ) → states.Used ≡ mark zs k → In k zs
mark_in zs k e = elim (cases_Bool (listed zs k)) [
  | inl t ↦ listed_in zs k t
  | inr f ↦ absurd (let free : mark zs k ≡ states.Free = ap (λ (b : Bool). if b then states.Used else states.Free) f in cc)
]

module _ (g : Geometry) (zs : List ℕ) (zone : ℕ) where
  pub used_listed : state_of (made g zs) zone ≡ Some states.Used → (zone < g.zones) × In zone zs
  used_listed e = elim (cases_lt zone g.first) [
    | inl below ↦ absurd (let none = lt-ltb zone g.first below in cc (rw none at e))
    | inr from ↦
        let there = rw (le-ltb zone g.first from) at e in
        let size = length-map-range_with_len (mark zs) g.first (g.zones - g.first) in
        let inside = slice_get-length (map (mark zs) (range_with_len g.first (g.zones - g.first))) (zone - g.first) states.Used there in
        let same : g.first + (zone - g.first) ≡ zone = omega arith in
        (omega arith, mark_in zs zone (state_there (mark zs) (g.zones - g.first) g.first (zone - g.first) states.Used there ∙ ap (mark zs) same))
  ]

  pub listed_used : g.first ≤ zone → zone < g.zones → In zone zs → state_of (made g zs) zone ≡ Some states.Used
  listed_used low high i =
      let same : g.first + (zone - g.first) ≡ zone = omega arith in
      rw (le-ltb zone g.first low)
      (there_state (mark zs) (g.zones - g.first) g.first (zone - g.first) (omega arith)
      ∙ ap (λ k. Some (mark zs k)) same ∙ ap (λ (b : Bool). Some (if b then states.Used else states.Free)) (is_listed zs zone i))
