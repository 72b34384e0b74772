-- Places in a list of pages that stand in order.
use Rattle.std.proofs.Common.{◌≡◌, ℕ, suc, ◌<◌, ◌≤◌, ◌==◌, ◌⊎◌, ◌&&◌, Bool, true, false, not, cond, nat_lt, if◌then◌else◌, List, [], ◌∷◌, map, slice_set, Option, Some, None, refl, sym, ap, ◌∙◌, inl, inr, ⊎_elim, arith, eqb-true, eq-eqb}
use Rattle.std.specs.List.{slice_get, find, insert, remove}
use Rattle.std.proofs.Math.Path.{ap₂}
use Rattle.std.proofs.lemmas.Bool.{cases_lt, cases_Bool, false≢true, and_from, and_parts, or_cases, or_left, or_right, ltb-true, lt-ltb}
use Rattle.std.proofs.lemmas.Option.{none-some, same_Some}
use Rattle.blk_base.specs.Members.{In}
use Rattle.page_cache.specs.declared.cached_page.CachedPage.{CachedPage}
use Rattle.page_cache.specs.Pages.{Below, IsRising, is_page, is_below, is_before, is_unsent, key_of, page_at, put_page, drop_page, next_unsent, next_in_file}
use Rattle.page_cache.specs.code.Keys as keys
use Rattle.page_cache.specs.laws.Maps.{is_page-same, same-is_page}
use Rattle.page_cache.specs.laws.Order.{before_by, by_before}
use Rattle.page_cache.specs.laws.Next.{next_is, next_none, next_in_file_is, next_in_file_none}

-- the place of a page among its like, and whether it stands there, by the keys
abbrev pub place_of : List CachedPage → ℕ → ℕ → ℕ
place_of ps f i = keys.place_of (map key_of ps) f i

abbrev pub stands : List CachedPage → ℕ → ℕ → Bool
stands ps f i = keys.stands (map key_of ps) f i

-- a page behind one that does not stand before (f, i) does not either
pub behind : (p q : CachedPage) (f i : ℕ) → Below p q → is_before p f i ≡ false → is_before q f i ≡ false
behind p q f i below not_before =
    ⊎_elim
    (λ t. absurd (false≢true (sym not_before ∙ by_before p f i (lower (before_by q f i t) below))))
    (λ e. e)
    (cases_Bool (is_before q f i))
  where
    lower : (q.birth < f) ⊎ ((q.birth ≡ f) × (q.index < i)) → Below p q → (p.birth < f) ⊎ ((p.birth ≡ f) × (p.index < i))
    lower (inl a) (inl b) = inl (omega arith)
    lower (inl a) (inr b) = let e = b.0 in inl (omega arith)
    lower (inr a) (inl b) = let e = a.0 in inl (omega arith)
    lower (inr a) (inr b) = let e = b.1 in let d = a.1 in inr (b.0 ∙ a.0, omega arith)

-- a page that stands before (f, i) is not that page
pub before_other : (p : CachedPage) (f i : ℕ) → is_before p f i ≡ true → is_page p f i ≡ false
before_other p f i t =
    ⊎_elim
    (λ same. let k = is_page-same p f i same in absurd (apart k (before_by p f i t)))
    (λ e. e)
    (cases_Bool (is_page p f i))
  where
    apart : (p.birth ≡ f) × (p.index ≡ i) → (p.birth < f) ⊎ ((p.birth ≡ f) × (p.index < i)) → ⊥
    apart k (inl b) = let e = k.0 in omega arith
    apart k (inr b) = let e = k.1 in let d = b.1 in omega arith

-- nor does (f, i) stand before it
pub before_not_below : (p : CachedPage) (f i : ℕ) → is_before p f i ≡ true → is_below f i p ≡ false
before_not_below p f i t = ⊎_elim (λ u. absurd (apart (before_by p f i t) (below u))) (λ e. e) (cases_Bool (is_below f i p))
  where
    below : is_below f i p ≡ true → (f < p.birth) ⊎ ((f ≡ p.birth) × (i < p.index))
    below u =
        ⊎_elim
        (λ lt. inl (ltb-true f p.birth lt))
        (λ b. let x = and_parts (f == p.birth) (nat_lt i p.index) b in inr (eqb-true f p.birth x.0, ltb-true i p.index x.1))
        (or_cases (nat_lt f p.birth) (f == p.birth && nat_lt i p.index) u)

    apart : (p.birth < f) ⊎ ((p.birth ≡ f) × (p.index < i)) → (f < p.birth) ⊎ ((f ≡ p.birth) × (i < p.index)) → ⊥
    apart (inl a) (inl b) = omega arith
    apart (inl a) (inr b) = let e = b.0 in omega arith
    apart (inr a) (inl b) = let e = a.0 in omega arith
    apart (inr a) (inr b) = let e = a.1 in let d = b.1 in omega arith

below_from : (p : CachedPage) (f i : ℕ) → (f < p.birth) ⊎ ((f ≡ p.birth) × (i < p.index)) → is_below f i p ≡ true
below_from p f i (inl lt) = or_left (nat_lt f p.birth) (f == p.birth && nat_lt i p.index) (lt-ltb f p.birth lt)
below_from p f i (inr b) =
    or_right (nat_lt f p.birth) (f == p.birth && nat_lt i p.index)
    (and_from (f == p.birth) (nat_lt i p.index) (eq-eqb f p.birth b.0) (lt-ltb i p.index b.1))

-- a page that is neither before (f, i) nor that page stands behind it
pub not_before_below : (p : CachedPage) (f i : ℕ) → is_before p f i ≡ false → is_page p f i ≡ false → is_below f i p ≡ true
not_before_below p f i b n =
    ⊎_elim
    (λ lt. below_from p f i (inl lt))
    (λ ge.
    ⊎_elim
    (λ lt. absurd (false≢true (sym b ∙ by_before p f i (inl lt))))
    (λ le.
    let e : p.birth ≡ f = omega arith in
    ⊎_elim
    (λ lt. below_from p f i (inr (sym e, lt)))
    (λ ge.
    ⊎_elim
    (λ lt. absurd (false≢true (sym b ∙ by_before p f i (inr (e, lt)))))
    (λ le. let d : p.index ≡ i = omega arith in absurd (false≢true (sym n ∙ same-is_page p f i e d)))
    (cases_lt p.index i))
    (cases_lt i p.index))
    (cases_lt p.birth f))
    (cases_lt f p.birth)

-- behind a page that does not stand before (f, i) there is no such page
pub later_other : (p q : CachedPage) (f i : ℕ) → Below p q → is_before p f i ≡ false → is_page q f i ≡ false
later_other p q f i below not_before =
    ⊎_elim
    (λ t. absurd (false≢true (sym not_before ∙ by_before p f i (at (is_page-same q f i t) below))))
    (λ e. e)
    (cases_Bool (is_page q f i))
  where
    at : (q.birth ≡ f) × (q.index ≡ i) → Below p q → (p.birth < f) ⊎ ((p.birth ≡ f) × (p.index < i))
    at k (inl b) = let e = k.0 in inl (omega arith)
    at k (inr b) = let e = k.1 in let d = b.1 in inr (b.0 ∙ k.0, omega arith)

pub none_among : (ps : List CachedPage) (f i : ℕ) → ((q : CachedPage) → In q ps → is_page q f i ≡ false) → (page_at ps f i ≡ None) × (drop_page ps f i ≡ ps)
none_among [] f i none = (refl, refl)
none_among (p ∷ ps) f i none =
    let rest = none_among ps f i (λ q j. none q (inr j)) in
    let here = none p (inl refl) in (
      ap (λ t. if t then Some p else page_at ps f i) here ∙ rest.0,
      ap (λ t. cond (not t) (p ∷ drop_page ps f i) (drop_page ps f i)) here ∙ ap (λ xs. p ∷ xs) rest.1,
    )

-- a page that stands at its place is what is found, replaced and dropped
pub found_there : (ps : List CachedPage) (f i : ℕ) → IsRising ps → stands ps f i ≡ true
    → (slice_get ps (place_of ps f i) ≡ page_at ps f i) × (drop_page ps f i ≡ remove ps (place_of ps f i))
found_there [] f i r s = absurd (false≢true s)
found_there (p ∷ ps) f i r s = by (found_there ps f i r.1) (is_before p f i) refl s
  where
    by : (stands ps f i ≡ true → (slice_get ps (place_of ps f i) ≡ page_at ps f i) × (drop_page ps f i ≡ remove ps (place_of ps f i))) → (t : Bool) → is_before p f i ≡ t → (if t then stands ps f i else is_page p f i) ≡ true
        → (slice_get (p ∷ ps) (if t then suc (place_of ps f i) else 0) ≡ page_at (p ∷ ps) f i) × (drop_page (p ∷ ps) f i ≡ remove (p ∷ ps) (if t then suc (place_of ps f i) else 0))
    by ih true e s =
        let rest = ih s in
        let other = before_other p f i e in (
          rest.0 ∙ sym (ap (λ t. if t then Some p else page_at ps f i) other),
          ap (λ t. cond (not t) (p ∷ drop_page ps f i) (drop_page ps f i)) other ∙ ap (λ xs. p ∷ xs) rest.1,
        )
    by ih false e s =
        let none = none_among ps f i (λ q j. later_other p q f i (r.0 q j) e) in (
          sym (ap (λ t. if t then Some p else page_at ps f i) s),
          ap (λ t. cond (not t) (p ∷ drop_page ps f i) (drop_page ps f i)) s ∙ none.1,
        )

pub put_there : (ps : List CachedPage) (q : CachedPage) → IsRising ps → stands ps q.birth q.index ≡ true → put_page ps q ≡ slice_set ps (place_of ps q.birth q.index) q
put_there [] q r s = absurd (false≢true s)
put_there (p ∷ ps) q r s = by (put_there ps q r.1) (is_before p q.birth q.index) refl s
  where
    by : (stands ps q.birth q.index ≡ true → put_page ps q ≡ slice_set ps (place_of ps q.birth q.index) q) → (t : Bool) → is_before p q.birth q.index ≡ t → (if t then stands ps q.birth q.index else is_page p q.birth q.index) ≡ true
        → put_page (p ∷ ps) q ≡ slice_set (p ∷ ps) (if t then suc (place_of ps q.birth q.index) else 0) q
    by ih true e s =
        ap (λ t. if t then q ∷ ps else if is_below q.birth q.index p then q ∷ p ∷ ps else p ∷ put_page ps q) (before_other p q.birth q.index e)
        ∙ ap (λ t. if t then q ∷ p ∷ ps else p ∷ put_page ps q) (before_not_below p q.birth q.index e)
        ∙ ap (λ xs. p ∷ xs) (ih s)
    by ih false e s = ap (λ t. if t then q ∷ ps else if is_below q.birth q.index p then q ∷ p ∷ ps else p ∷ put_page ps q) s

-- where it does not, there is none
pub found_nowhere : (ps : List CachedPage) (f i : ℕ) → IsRising ps → stands ps f i ≡ false → (page_at ps f i ≡ None) × (drop_page ps f i ≡ ps)
found_nowhere [] f i r s = (refl, refl)
found_nowhere (p ∷ ps) f i r s = by (found_nowhere ps f i r.1) (is_before p f i) refl s
  where
    with_other : is_page p f i ≡ false → (page_at ps f i ≡ None) × (drop_page ps f i ≡ ps) → (page_at (p ∷ ps) f i ≡ None) × (drop_page (p ∷ ps) f i ≡ p ∷ ps)
    with_other other rest = (
      ap (λ t. if t then Some p else page_at ps f i) other ∙ rest.0,
      ap (λ t. cond (not t) (p ∷ drop_page ps f i) (drop_page ps f i)) other ∙ ap (λ xs. p ∷ xs) rest.1,
    )

    by : (stands ps f i ≡ false → (page_at ps f i ≡ None) × (drop_page ps f i ≡ ps)) → (t : Bool) → is_before p f i ≡ t → (if t then stands ps f i else is_page p f i) ≡ false → (page_at (p ∷ ps) f i ≡ None) × (drop_page (p ∷ ps) f i ≡ p ∷ ps)
    by ih true e s = with_other (before_other p f i e) (ih s)
    by ih false e s = with_other s (none_among ps f i (λ q j. later_other p q f i (r.0 q j) e))

pub put_between : (ps : List CachedPage) (q : CachedPage) → IsRising ps → stands ps q.birth q.index ≡ false → put_page ps q ≡ insert ps (place_of ps q.birth q.index) q
put_between [] q r s = refl
put_between (p ∷ ps) q r s = by (put_between ps q r.1) (is_before p q.birth q.index) refl s
  where
    by : (stands ps q.birth q.index ≡ false → put_page ps q ≡ insert ps (place_of ps q.birth q.index) q) → (t : Bool) → is_before p q.birth q.index ≡ t → (if t then stands ps q.birth q.index else is_page p q.birth q.index) ≡ false
        → put_page (p ∷ ps) q ≡ insert (p ∷ ps) (if t then suc (place_of ps q.birth q.index) else 0) q
    by ih true e s =
        ap (λ t. if t then q ∷ ps else if is_below q.birth q.index p then q ∷ p ∷ ps else p ∷ put_page ps q) (before_other p q.birth q.index e)
        ∙ ap (λ t. if t then q ∷ p ∷ ps else p ∷ put_page ps q) (before_not_below p q.birth q.index e)
        ∙ ap (λ xs. p ∷ xs) (ih s)
    by ih false e s =
        ap (λ t. if t then q ∷ ps else if is_below q.birth q.index p then q ∷ p ∷ ps else p ∷ put_page ps q) s
        ∙ ap (λ t. if t then q ∷ p ∷ ps else p ∷ put_page ps q) (not_before_below p q.birth q.index e s)

-- by a key that is the page's
pub put_there_by : (ps : List CachedPage) (f i : ℕ) (q : CachedPage) → IsRising ps → stands ps f i ≡ true → q.birth ≡ f → q.index ≡ i → put_page ps q ≡ slice_set ps (place_of ps f i) q
put_there_by ps f i q r s e d =
    put_there ps q r (ap₂ (λ g j. stands ps g j) e d ∙ s) ∙ ap (λ n. slice_set ps n q) (ap₂ (λ g j. place_of ps g j) e d)

pub put_between_by : (ps : List CachedPage) (f i : ℕ) (q : CachedPage) → IsRising ps → stands ps f i ≡ false → q.birth ≡ f → q.index ≡ i → put_page ps q ≡ insert ps (place_of ps f i) q
put_between_by ps f i q r s e d =
    put_between ps q r (ap₂ (λ g j. stands ps g j) e d ∙ s) ∙ ap (λ n. insert ps n q) (ap₂ (λ g j. place_of ps g j) e d)

-- ---- the next unsent page

-- the next unsent page of all, where it is of the file, is the file's
pub file_next : (ps : List CachedPage) (f from : ℕ) (p : CachedPage) → IsRising ps → next_unsent ps f from ≡ Some p → p.birth ≡ f → next_in_file ps f from ≡ Some p
file_next ps f from p r e birth = by (next_in_file ps f from) refl
  where
    on : is_before p f from ≡ false → from ≤ p.index
    on b = ⊎_elim (λ lt. absurd (false≢true (sym b ∙ by_before p f from (inr (birth, lt))))) (λ le. le) (cases_lt p.index from)

    by : (o : Option CachedPage) → next_in_file ps f from ≡ o → o ≡ Some p
    by None n =
        let x = next_is ps f from p r e in
        let low = (next_in_file_none ps f from).0 n p x.0 x.1 birth in
        let high = on x.2 in
        absurd (omega arith)
    by (Some q) n =
        let x = next_is ps f from p r e in
        let y = next_in_file_is ps f from q r n in
        let least = y.4 p x.0 x.1 birth (on x.2) in
        ⊎_elim
        (λ same. ap Some (sym same))
        (⊎_elim (λ lower. let b = y.2 in absurd (omega arith)) (λ here. let i = here.1 in absurd (omega arith)))
        (x.3 q y.0 y.1 (not_before q y.2 y.3))
      where
        not_before : (q : CachedPage) → q.birth ≡ f → from ≤ q.index → is_before q f from ≡ false
        not_before q b i =
            ⊎_elim
            (λ t. ⊎_elim (λ lt. absurd (omega arith)) (λ h. let d = h.1 in absurd (omega arith)) (before_by q f from t))
            (λ e. e)
            (cases_Bool (is_before q f from))

pub no_file_next : (ps : List CachedPage) (f from : ℕ) (p : CachedPage) → IsRising ps → next_unsent ps f from ≡ Some p → (p.birth ≡ f → ⊥) → next_in_file ps f from ≡ None
no_file_next ps f from p r e other = (next_in_file_none ps f from).1 by
  where
    by : (q : CachedPage) → In q ps → is_unsent q.state ≡ true → q.birth ≡ f → q.index < from
    by q i u b =
        let x = next_is ps f from p r e in
        ⊎_elim
        (λ lt. lt)
        (λ le.
        ⊎_elim
        (λ same. absurd (other (ap (λ (y : CachedPage). y.birth) same ∙ b)))
        (⊎_elim
        (λ lower. absurd (false≢true (sym x.2 ∙ by_before p f from (inl (omega arith)))))
        (λ here. absurd (other (here.0 ∙ b))))
        (x.3 q i u (not_before le)))
        (cases_lt q.index from)
      where
        not_before : from ≤ q.index → is_before q f from ≡ false
        not_before le =
            ⊎_elim
            (λ t. ⊎_elim (λ lt. absurd (omega arith)) (λ h. let d = h.1 in absurd (omega arith)) (before_by q f from t))
            (λ e. e)
            (cases_Bool (is_before q f from))

pub nothing_next : (ps : List CachedPage) (f from : ℕ) → next_unsent ps f from ≡ None → next_in_file ps f from ≡ None
nothing_next ps f from e =
    (next_in_file_none ps f from).1
    (λ q i u b. ⊎_elim (λ lt. absurd (omega arith)) (λ h. h.1) (before_by q f from ((next_none ps f from).0 e q i u)))

-- ---- what is found

pub found_is_there : (test : CachedPage → Bool) (ps : List CachedPage) (p : CachedPage) → find test ps ≡ Some p → In p ps
found_is_there test [] p e = absurd (none-some p e)
found_is_there test (x ∷ ps) p e = by (test x) e (found_is_there test ps p)
  where
    by : (t : Bool) → cond t (Some x) (find test ps) ≡ Some p → (find test ps ≡ Some p → In p ps) → In p (x ∷ ps)
    by true d rest = inl (same_Some x p d)
    by false d rest = inr (rest d)
