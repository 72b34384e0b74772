-- Pages stand in the order of birth and index, so each stands once.
use Rattle.std.specs.Prelude.{◌≡◌, ℕ, suc, ◌+◌, ◌<◌, ◌==◌, ◌⊎◌, Bool, true, false, not, ◌&&◌, nat_lt, List, [], ◌∷◌, length, Option, Some, None, refl, if◌then◌else◌}
use Rattle.std.specs.List.{filter}
use Rattle.std.proofs.Common.{sym, ap, subst, ◌∙◌, inl, inr, ⊎_elim, arith, eqb-true, eq-eqb}
use Rattle.std.proofs.lemmas.Bool.{cases_lt, false≢true, or_cases, or_left, or_right, and_parts, and_from, ltb-true, lt-ltb}
use Rattle.std.proofs.lemmas.Option.{none-some, same_Some}
use Rattle.blk_base.specs.Members.{In}
use Rattle.blk_base.specs.laws.Members.{In-filter}
use Rattle.page_cache.specs.declared.cached_page.CachedPage.{CachedPage}
use Rattle.page_cache.specs.declared.cached_page.PageState.{PageState}
use Rattle.page_cache.specs.Pages.{Below, IsRising, is_page, is_below, is_before, page_at, put_page, drop_page, marked, mark_page}
use Rattle.page_cache.specs.laws.Maps.{is_page-same, same-is_page, page_at-key}

pub below_by : (p q : CachedPage) → is_below p.birth p.index q ≡ true → Below p q
below_by p q t =
    ⊎_elim
    (λ lt. inl (ltb-true p.birth q.birth lt))
    (λ b. let x = and_parts (p.birth == q.birth) (nat_lt p.index q.index) b in inr (eqb-true p.birth q.birth x.0, ltb-true p.index q.index x.1))
    (or_cases (nat_lt p.birth q.birth) (p.birth == q.birth && nat_lt p.index q.index) t)

pub by_below : (p q : CachedPage) → Below p q → is_below p.birth p.index q ≡ true
by_below p q (inl lt) = or_left (nat_lt p.birth q.birth) (p.birth == q.birth && nat_lt p.index q.index) (lt-ltb p.birth q.birth lt)
by_below p q (inr b) =
    or_right (nat_lt p.birth q.birth) (p.birth == q.birth && nat_lt p.index q.index)
    (and_from (p.birth == q.birth) (nat_lt p.index q.index) (eq-eqb p.birth q.birth b.0) (lt-ltb p.index q.index b.1))

pub below_below : (p q x : CachedPage) → Below p q → Below q x → Below p x
below_below p q x (inl a) (inl b) = inl (omega arith)
below_below p q x (inl a) (inr b) = let e = b.0 in inl (omega arith)
below_below p q x (inr a) (inl b) = let e = a.0 in inl (omega arith)
below_below p q x (inr a) (inr b) = let e = a.1 in let d = b.1 in inr (a.0 ∙ b.0, omega arith)

pub not_same : (p q : CachedPage) → Below p q → (p.birth ≡ q.birth) × (p.index ≡ q.index) → ⊥
not_same p q (inl a) k = let e = k.0 in omega arith
not_same p q (inr a) k = let e = k.1 in let b = a.1 in omega arith

pub otherwise_above : (p q : CachedPage) → is_page p q.birth q.index ≡ false → is_below q.birth q.index p ≡ false → Below p q
otherwise_above p q n b =
    ⊎_elim
    (λ lt. inl lt)
    (λ ge.
    ⊎_elim
    (λ lt. absurd (false≢true (sym b ∙ by_below q p (inl lt))))
    (λ le.
    let e : p.birth ≡ q.birth = omega arith in
    ⊎_elim
    (λ lt. inr (e, lt))
    (λ ge.
    ⊎_elim
    (λ lt. absurd (false≢true (sym b ∙ by_below q p (inr (sym e, lt)))))
    (λ le. let d : p.index ≡ q.index = omega arith in absurd (false≢true (sym n ∙ same-is_page p q.birth q.index e d)))
    (cases_lt q.index p.index))
    (cases_lt p.index q.index))
    (cases_lt q.birth p.birth))
    (cases_lt p.birth q.birth)

In-put : (ps : List CachedPage) (q x : CachedPage) → In x (put_page ps q) → (q ≡ x) ⊎ In x ps
In-put [] q x (inl e) = inl e
In-put [] q x (inr n) = absurd n
In-put (p ∷ ps) q x i = first (In-put ps q x) (is_page p q.birth q.index) i
  where
    second : (In x (put_page ps q) → (q ≡ x) ⊎ In x ps) → (t : Bool) → In x (if t then q ∷ p ∷ ps else p ∷ put_page ps q) → (q ≡ x) ⊎ In x (p ∷ ps)
    second rest true (inl e) = inl e
    second rest true (inr j) = inr j
    second rest false (inl e) = inr (inl e)
    second rest false (inr j) = ⊎_elim inl (λ k. inr (inr k)) (rest j)

    first : (In x (put_page ps q) → (q ≡ x) ⊎ In x ps) → (t : Bool) → In x (if t then q ∷ ps else if is_below q.birth q.index p then q ∷ p ∷ ps else p ∷ put_page ps q) → (q ≡ x) ⊎ In x (p ∷ ps)
    first rest true (inl e) = inl e
    first rest true (inr j) = inr (inr j)
    first rest false j = second rest (is_below q.birth q.index p) j

pub put-rising : (ps : List CachedPage) (q : CachedPage) → IsRising ps → IsRising (put_page ps q)
put-rising [] q r = (λ x i. absurd i, tt)
put-rising (p ∷ ps) q r = first (put-rising ps q r.1) (is_page p q.birth q.index) refl
  where
    replaced : (x : CachedPage) → (p.birth ≡ q.birth) × (p.index ≡ q.index) → Below p x → Below q x
    replaced x k (inl a) = let e = k.0 in inl (omega arith)
    replaced x k (inr a) = let e = k.1 in let b = a.1 in inr (sym k.0 ∙ a.0, omega arith)

    second : IsRising (put_page ps q) → is_page p q.birth q.index ≡ false → (t : Bool) → is_below q.birth q.index p ≡ t → IsRising (if t then q ∷ p ∷ ps else p ∷ put_page ps q)
    second rest n true b = (λ x i. ⊎_elim (λ e. subst (Below q) e (below_by q p b)) (λ j. below_below q p x (below_by q p b) (r.0 x j)) i, r)
    second rest n false b = (λ x i. ⊎_elim (λ e. subst (Below p) e (otherwise_above p q n b)) (λ j. r.0 x j) (In-put ps q x i), rest)

    first : IsRising (put_page ps q) → (t : Bool) → is_page p q.birth q.index ≡ t → IsRising (if t then q ∷ ps else if is_below q.birth q.index p then q ∷ p ∷ ps else p ∷ put_page ps q)
    first rest true k = (λ x i. replaced x (is_page-same p q.birth q.index k) (r.0 x i), r.1)
    first rest false k = second rest k (is_below q.birth q.index p) refl

filter-rising : (test : CachedPage → Bool) (ps : List CachedPage) → IsRising ps → IsRising (filter test ps)
filter-rising test [] r = tt
filter-rising test (p ∷ ps) r = by (filter-rising test ps r.1) (test p)
  where
    by : IsRising (filter test ps) → (t : Bool) → IsRising (if t then p ∷ filter test ps else filter test ps)
    by rest true = (λ x i. r.0 x (In-filter test ps x i).0, rest)
    by rest false = rest

-- each page of the list is what stands under its birth and index
pub keyed : (ps : List CachedPage) → IsRising ps → (p : CachedPage) → In p ps → page_at ps p.birth p.index ≡ Some p
keyed [] r p i = absurd i
keyed (q ∷ ps) r p (inl e) = subst (λ (x : CachedPage). page_at (q ∷ ps) x.birth x.index ≡ Some x) e (ap (λ t. if t then Some q else page_at ps q.birth q.index) (same-is_page q q.birth q.index refl refl))
keyed (q ∷ ps) r p (inr i) = by (keyed ps r.1 p i) (is_page q p.birth p.index) refl
  where
    by : page_at ps p.birth p.index ≡ Some p → (t : Bool) → is_page q p.birth p.index ≡ t → (if t then Some q else page_at ps p.birth p.index) ≡ Some p
    by rest true t = absurd (not_same q p (r.0 p i) (is_page-same q p.birth p.index t))
    by rest false t = rest

pub mark-rising : (ps : List CachedPage) (f i : ℕ) (s : PageState) → IsRising ps → IsRising (mark_page ps f i s)
mark-rising ps f i s r = by (page_at ps f i)
  where
    by : (o : Option CachedPage) → IsRising (elim o as (λ _. List CachedPage) [ None ↦ ps | Some p ↦ put_page ps (marked p s) ])
    by None = r
    by (Some p) = put-rising ps (marked p s) r

pub drop-rising : (ps : List CachedPage) (f i : ℕ) → IsRising ps → IsRising (drop_page ps f i)
drop-rising ps f i r = filter-rising (λ p. not (is_page p f i)) ps r

-- a page stands before another one exactly where its key is the lower one
pub before_by : (p : CachedPage) (f i : ℕ) → is_before p f i ≡ true → (p.birth < f) ⊎ ((p.birth ≡ f) × (p.index < i))
before_by p f i t =
    ⊎_elim
    (λ lt. inl (ltb-true p.birth f lt))
    (λ b. let x = and_parts (p.birth == f) (nat_lt p.index i) b in inr (eqb-true p.birth f x.0, ltb-true p.index i x.1))
    (or_cases (nat_lt p.birth f) (p.birth == f && nat_lt p.index i) t)

pub by_before : (p : CachedPage) (f i : ℕ) → (p.birth < f) ⊎ ((p.birth ≡ f) × (p.index < i)) → is_before p f i ≡ true
by_before p f i (inl lt) = or_left (nat_lt p.birth f) (p.birth == f && nat_lt p.index i) (lt-ltb p.birth f lt)
by_before p f i (inr b) =
    or_right (nat_lt p.birth f) (p.birth == f && nat_lt p.index i)
    (and_from (p.birth == f) (nat_lt p.index i) (eq-eqb p.birth f b.0) (lt-ltb p.index i b.1))

-- what is found is in the list, under its key
pub page_at-In : (ps : List CachedPage) (f i : ℕ) (p : CachedPage) → page_at ps f i ≡ Some p → In p ps
page_at-In [] f i p e = absurd (none-some p e)
page_at-In (q ∷ ps) f i p e = by (page_at-In ps f i p) (is_page q f i) e
  where
    by : (page_at ps f i ≡ Some p → In p ps) → (t : Bool) → (if t then Some q else page_at ps f i) ≡ Some p → In p (q ∷ ps)
    by rest true d = inl (same_Some q p d)
    by rest false d = inr (rest d)

-- a new page makes the list longer by one
pub put-new : (ps : List CachedPage) (q : CachedPage) → IsRising ps → page_at ps q.birth q.index ≡ None → length (put_page ps q) ≡ length ps + 1
put-new [] q r e = refl
put-new (p ∷ ps) q r e = first (put-new ps q r.1) (is_page p q.birth q.index) e
  where
    second : length (put_page ps q) ≡ length ps + 1 → (t : Bool) → length (if t then q ∷ p ∷ ps else p ∷ put_page ps q) ≡ suc (length ps) + 1
    second rest true = omega arith
    second rest false = omega arith

    first : (page_at ps q.birth q.index ≡ None → length (put_page ps q) ≡ length ps + 1) → (t : Bool) → (if t then Some p else page_at ps q.birth q.index) ≡ None
        → length (if t then q ∷ ps else if is_below q.birth q.index p then q ∷ p ∷ ps else p ∷ put_page ps q) ≡ suc (length ps) + 1
    first rest true d = absurd (none-some p (sym d))
    first rest false d = second (rest d) (is_below q.birth q.index p)

-- a page that is there is replaced
pub put-known : (ps : List CachedPage) (x q : CachedPage) → IsRising ps → page_at ps q.birth q.index ≡ Some x → length (put_page ps q) ≡ length ps
put-known [] x q r e = absurd (none-some x e)
put-known (p ∷ ps) x q r e = first (put-known ps x q r.1) (is_page p q.birth q.index) e
  where
    -- the page stands behind p, so p does not stand behind its key
    above : page_at ps q.birth q.index ≡ Some x → is_below q.birth q.index p ≡ true → ⊥
    above d t =
        let key = page_at-key ps q.birth q.index x d in
        ⊎_elim
        (λ (a : q.birth < p.birth). ⊎_elim (λ b. omega (arith, key.0)) (λ b. omega (arith, key.0, b.0)) (r.0 x (page_at-In ps q.birth q.index x d)))
        (λ a. ⊎_elim (λ b. omega (arith, key.0, a.0)) (λ b. omega (arith, key.1, a.1, b.1)) (r.0 x (page_at-In ps q.birth q.index x d)))
        (below_by q p t)

    second : length (put_page ps q) ≡ length ps → page_at ps q.birth q.index ≡ Some x → (t : Bool) → is_below q.birth q.index p ≡ t → length (if t then q ∷ p ∷ ps else p ∷ put_page ps q) ≡ suc (length ps)
    second rest d true b = absurd (above d b)
    second rest d false b = omega arith

    first : (page_at ps q.birth q.index ≡ Some x → length (put_page ps q) ≡ length ps) → (t : Bool) → (if t then Some p else page_at ps q.birth q.index) ≡ Some x
        → length (if t then q ∷ ps else if is_below q.birth q.index p then q ∷ p ∷ ps else p ∷ put_page ps q) ≡ suc (length ps)
    first rest true d = refl
    first rest false d = second (rest d) d (is_below q.birth q.index p) refl
