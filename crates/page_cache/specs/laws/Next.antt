-- The first page that is left to send.
use Rattle.std.specs.Prelude.{◌≡◌, ℕ, zero, suc, ◌<◌, ◌≤◌, ◌==◌, ◌⊎◌, ◌↔◌, nat_le, Bool, true, false, not, ◌&&◌, cond, List, [], ◌∷◌, length, Some, None, count_by, refl}
use Rattle.std.specs.List.{filter, find, slice_get}
use Rattle.std.proofs.Common.{sym, ap, subst, ◌∙◌, inl, inr, ⊎_elim, arith, eqb-true, eq-eqb}
use Rattle.std.proofs.lemmas.Bool.{cases_Bool, cases_lt, false≢true, and_from, and_parts, not_from_false, leb-true, le-leb}
use Rattle.std.proofs.lemmas.Option.{none-some, same_Some, slice_get_past}
use Rattle.std.proofs.lemmas.List.Sums.{length-filter}
use Rattle.blk_base.specs.Members.{In}
use Rattle.page_cache.specs.declared.cached_page.CachedPage.{CachedPage}
use Rattle.page_cache.specs.Pages.{Below, IsRising, is_unsent, is_before, is_dirty, next_unsent, next_in_file, dirty_page}

-- what is found passes the test, and in a list in order each other page that passes stands behind it
first_is : (test : CachedPage → Bool) (ps : List CachedPage) (p : CachedPage) → IsRising ps → find test ps ≡ Some p
    → In p ps × (test p ≡ true) × ((q : CachedPage) → In q ps → test q ≡ true → (p ≡ q) ⊎ Below p q)
first_is test [] p r e = absurd (none-some p e)
first_is test (x ∷ ps) p r e = by (test x) refl e (first_is test ps p r.1)
  where
    by : (t : Bool) → test x ≡ t → cond t (Some x) (find test ps) ≡ Some p
        → (find test ps ≡ Some p → In p ps × (test p ≡ true) × ((q : CachedPage) → In q ps → test q ≡ true → (p ≡ q) ⊎ Below p q))
        → In p (x ∷ ps) × (test p ≡ true) × ((q : CachedPage) → In q (x ∷ ps) → test q ≡ true → (p ≡ q) ⊎ Below p q)
    by true t d rest =
        let same = same_Some x p d in
        (inl same, subst (λ y. test y ≡ true) same t, λ q i h. ⊎_elim (λ s. inl (sym same ∙ s)) (λ j. inr (subst (λ y. Below y q) same (r.0 q j))) i)
    by false t d rest =
        let f = rest d in
        (inr f.0, f.1, λ q i h. ⊎_elim (λ s. absurd (false≢true (sym t ∙ ap test s ∙ h))) (λ j. f.2 q j h) i)

-- nothing is found exactly where no page passes
none_is : (test : CachedPage → Bool) (ps : List CachedPage) → (find test ps ≡ None) ↔ ((q : CachedPage) → In q ps → test q ≡ false)
none_is test [] = (λ e q i. absurd i, λ h. refl)
none_is test (x ∷ ps) = by (test x) refl (none_is test ps)
  where
    by : (t : Bool) → test x ≡ t → ((find test ps ≡ None) ↔ ((q : CachedPage) → In q ps → test q ≡ false))
        → (cond t (Some x) (find test ps) ≡ None) ↔ ((q : CachedPage) → In q (x ∷ ps) → test q ≡ false)
    by true t rest = (λ e. absurd (none-some x (sym e)), λ h. absurd (false≢true (sym (h x (inl refl)) ∙ t)))
    by false t rest = (λ e q i. ⊎_elim (λ s. sym (ap test s) ∙ t) (λ j. rest.0 e q j) i, λ h. rest.1 (λ q i. h q (inr i)))

not_true : (t : Bool) → not t ≡ true → t ≡ false
not_true true h = absurd (false≢true h)
not_true false h = refl

-- the first unsent page from a place on
pub next_is : (ps : List CachedPage) (f from : ℕ) (p : CachedPage) → IsRising ps → next_unsent ps f from ≡ Some p
    → In p ps × (is_unsent p.state ≡ true) × (is_before p f from ≡ false)
    × ((q : CachedPage) → In q ps → is_unsent q.state ≡ true → is_before q f from ≡ false → (p ≡ q) ⊎ Below p q)
next_is ps f from p r e =
    let x = first_is (λ p. is_unsent p.state && not (is_before p f from)) ps p r e in
    let t = and_parts (is_unsent p.state) (not (is_before p f from)) x.1 in
    (x.0, t.0, not_true (is_before p f from) t.1, λ q i u b. x.2 q i (and_from (is_unsent q.state) (not (is_before q f from)) u (not_from_false (is_before q f from) b)))

pub next_none : (ps : List CachedPage) (f from : ℕ) → (next_unsent ps f from ≡ None) ↔ ((q : CachedPage) → In q ps → is_unsent q.state ≡ true → is_before q f from ≡ true)
next_none ps f from =
    let n = none_is (λ p. is_unsent p.state && not (is_before p f from)) ps in
    (λ e q i u. there (is_before q f from) refl u (n.0 e q i), λ h. n.1 (λ q i. gone (is_unsent q.state) refl (h q i)))
  where
    there : {u : Bool} (b : Bool) {c : Bool} → c ≡ b → u ≡ true → (u && not c) ≡ false → c ≡ true
    there true same t h = same
    there false same t h = absurd (false≢true (sym h ∙ and_from _ _ t (not_from_false _ same)))

    gone : {b : Bool} (t : Bool) {u : Bool} → u ≡ t → (u ≡ true → b ≡ true) → (u && not b) ≡ false
    gone true same h = rw (same, h same) refl
    gone false same h = rw same refl

-- the first unsent page of a file
pub next_in_file_is : (ps : List CachedPage) (f from : ℕ) (p : CachedPage) → IsRising ps → next_in_file ps f from ≡ Some p
    → In p ps × (is_unsent p.state ≡ true) × (p.birth ≡ f) × (from ≤ p.index)
    × ((q : CachedPage) → In q ps → is_unsent q.state ≡ true → q.birth ≡ f → from ≤ q.index → p.index ≤ q.index)
next_in_file_is ps f from p r e =
    let x = first_is (λ p. is_unsent p.state && (p.birth == f && nat_le from p.index)) ps p r e in
    let t = and_parts (is_unsent p.state) (p.birth == f && nat_le from p.index) x.1 in
    let k = and_parts (p.birth == f) (nat_le from p.index) t.1 in
    let birth = eqb-true p.birth f k.0 in (
      x.0,
      t.0,
      birth,
      leb-true from p.index k.1,
      λ q i u b from_on.
          ⊎_elim
          (λ same. let n = ap (λ (y : CachedPage). y.index) same in omega arith)
          (⊎_elim (λ lower. absurd (omega arith)) (λ here. let n = here.1 in omega arith))
          (x.2 q i (and_from (is_unsent q.state) (q.birth == f && nat_le from q.index) u (and_from (q.birth == f) (nat_le from q.index) (eq-eqb q.birth f b) (le-leb from q.index from_on)))),
    )

pub next_in_file_none : (ps : List CachedPage) (f from : ℕ) → (next_in_file ps f from ≡ None) ↔ ((q : CachedPage) → In q ps → is_unsent q.state ≡ true → q.birth ≡ f → q.index < from)
next_in_file_none ps f from =
    let n = none_is (λ p. is_unsent p.state && (p.birth == f && nat_le from p.index)) ps in (
      λ e q i u b.
          ⊎_elim
          (λ lt. lt)
          (λ le. absurd (false≢true (sym (n.0 e q i) ∙ and_from (is_unsent q.state) (q.birth == f && nat_le from q.index) u (and_from (q.birth == f) (nat_le from q.index) (eq-eqb q.birth f b) (le-leb from q.index le)))))
          (cases_lt q.index from),
      λ h. n.1 (λ q i.
          ⊎_elim
          (λ t.
          let a = and_parts (is_unsent q.state) (q.birth == f && nat_le from q.index) t in
          let b = and_parts (q.birth == f) (nat_le from q.index) a.1 in
          let low = h q i a.0 (eqb-true q.birth f b.0) in
          let high = leb-true from q.index b.1 in
          absurd (omega arith))
          (λ f'. f')
          (cases_Bool (is_unsent q.state && (q.birth == f && nat_le from q.index)))),
    )

-- there is a Dirty page of this number exactly where there are more
pub dirty_none : (ps : List CachedPage) (pick : ℕ) → (dirty_page ps pick ≡ None) ↔ (count_by (λ p. is_dirty p.state) ps ≤ pick)
dirty_none ps pick =
    let size = length-filter (λ (p : CachedPage). is_dirty p.state) ps in (
      λ e. ⊎_elim
          (λ inside. absurd (some (filter (λ p. is_dirty p.state) ps) pick inside e))
          (λ le. omega (arith, size, le))
          (cases_lt pick (length (filter (λ p. is_dirty p.state) ps))),
      λ most. slice_get_past (filter (λ p. is_dirty p.state) ps) pick (omega (arith, size)),
    )
  where
    some : (xs : List CachedPage) (i : ℕ) → i < length xs → slice_get xs i ≡ None → ⊥
    some [] i low e = omega arith
    some (x ∷ xs) zero low e = none-some x (sym e)
    some (x ∷ xs) (suc i) low e = some xs i (omega arith) e
