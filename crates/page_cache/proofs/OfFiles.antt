-- The first key of one of some files, by going through the files.
use Rattle.std.proofs.Common.{◌≡◌, ℕ, zero, suc, ◌+◌, ◌<◌, ◌≤◌, ◌==◌, ◌||◌, Bool, true, false, cond, if◌then◌else◌, List, [], ◌∷◌, drop, length, get_or, Option, Some, None, refl, sym, ap, subst, ◌∙◌, inl, inr, ⊎_elim, arith, eqb-true, eq-eqb}
use Rattle.std.specs.List.{slice_get}
use Rattle.std.proofs.lemmas.Bool.{cases_Bool, cases_lt, false≢true}
use Rattle.std.proofs.lemmas.List.{drop_more, drop_all}
use Rattle.std.proofs.lemmas.Option.{none-some, same_Some}
use Rattle.blk_base.specs.Members.{In}
use Rattle.number_sets.specs.Sets.{has}
use Rattle.number_sets.specs.Sets as sets
use Rattle.number_sets.specs.laws.Members.{has-In, In-has}
use Rattle.page_cache.specs.code.Keys.{KeyBelow, IsRisingKeys, is_before, place_of, if_in, first_of}
use Rattle.page_cache.proofs.KeyPlaces.{before_by, by_before}

-- ---- one file

-- what stands where the first key of file f would is of another file
abbrev IsOther : Option (ℕ × ℕ) → ℕ → Type 0
IsOther o f = (k : ℕ × ℕ) → o ≡ Some k → k.0 ≡ f → ⊥

lower : (k : ℕ × ℕ) (f : ℕ) → is_before k f 0 ≡ true → k.0 < f
lower k f t = ⊎_elim (λ lt. lt) (λ b. let low = b.1 in absurd (omega arith)) (before_by k f 0 t)

not_lower : (k : ℕ × ℕ) (f : ℕ) → is_before k f 0 ≡ false → f ≤ k.0
not_lower k f e = ⊎_elim (λ lt. absurd (false≢true (sym e ∙ by_before k f 0 (inl lt)))) (λ le. le) (cases_lt k.0 f)

-- then no key is of the file
none_in : (ks : List (ℕ × ℕ)) (f : ℕ) → IsRisingKeys ks → IsOther (slice_get ks (place_of ks f 0)) f → (l : ℕ × ℕ) → In l ks → l.0 ≡ f → ⊥
none_in [] f r other l i e = absurd i
none_in (k ∷ ks) f r other l i e = by (is_before k f 0) refl (none_in ks f r.1) other i
  where
    later : f ≤ k.0 → (k.0 ≡ f → ⊥) → KeyBelow k l → ⊥
    later le apart (inl low) = omega arith
    later le apart (inr same) = let s = same.0 in apart (omega arith)

    by : (t : Bool) → is_before k f 0 ≡ t → (IsOther (slice_get ks (place_of ks f 0)) f → (l : ℕ × ℕ) → In l ks → l.0 ≡ f → ⊥) → IsOther (slice_get (k ∷ ks) (if t then suc (place_of ks f 0) else 0)) f → In l (k ∷ ks) → ⊥
    by true t rest other (inl same) = let low = lower k f t in let s = ap (λ (x : ℕ × ℕ). x.0) same in omega arith
    by true t rest other (inr j) = rest other l j e
    by false t rest other (inl same) = other k refl (ap (λ (x : ℕ × ℕ). x.0) same ∙ e)
    by false t rest other (inr j) = later (not_lower k f t) (other k refl) (r.0 l j)

pub other_file : (o : Option (ℕ × ℕ)) (f : ℕ) → if_in f o ≡ None → IsOther o f
other_file None f e k d same = none-some k d
other_file (Some x) f e k d same =
    ⊎_elim
    (λ t. none-some x (sym (sym (ap (λ b. cond b (Some x) None) t) ∙ e)))
    (λ n. false≢true (sym n ∙ eq-eqb x.0 f (ap (λ (y : ℕ × ℕ). y.0) (same_Some x k d) ∙ same)))
    (cases_Bool (x.0 == f))

pub same_file : (o : Option (ℕ × ℕ)) (f : ℕ) (k : ℕ × ℕ) → if_in f o ≡ Some k → (o ≡ Some k) × (k.0 ≡ f)
same_file None f k e = absurd (none-some k e)
same_file (Some x) f k e = by (x.0 == f) refl e
  where
    by : (t : Bool) → (x.0 == f) ≡ t → cond t (Some x) None ≡ Some k → (Some x ≡ Some k) × (k.0 ≡ f)
    by true t d = (d, sym (ap (λ (y : ℕ × ℕ). y.0) (same_Some x k d)) ∙ eqb-true x.0 f t)
    by false t d = absurd (none-some k d)

-- ---- files one after the other

same_test : (f : ℕ) (fs : List ℕ) (n : ℕ) → (n ≡ f → ⊥) → has (f ∷ fs) n ≡ has fs n
same_test f fs n other =
    ap (λ t. t || has fs n) (⊎_elim (λ t. absurd (other (sym (eqb-true f n t)))) (λ e. e) (cases_Bool (f == n)))

-- where the first file has none, the others are left
first_has_none : (ks : List (ℕ × ℕ)) (f : ℕ) (fs : List ℕ) → ((l : ℕ × ℕ) → In l ks → l.0 ≡ f → ⊥) → first_of (f ∷ fs) ks ≡ first_of fs ks
first_has_none [] f fs none = refl
first_has_none (k ∷ ks) f fs none =
    ap (λ t. cond t (Some k) (first_of (f ∷ fs) ks)) (same_test f fs k.0 (none k (inl refl)))
    ∙ ap (λ o. cond (has fs k.0) (Some k) o) (first_has_none ks f fs (λ l j. none l (inr j)))

-- where it has one, that is the first of all
first_has_one : (ks : List (ℕ × ℕ)) (f : ℕ) (fs : List ℕ) (x : ℕ × ℕ) → sets.IsRising (f ∷ fs) → slice_get ks (place_of ks f 0) ≡ Some x → x.0 ≡ f → first_of (f ∷ fs) ks ≡ Some x
first_has_one [] f fs x s e is = absurd (none-some x e)
first_has_one (k ∷ ks) f fs x s e is = by (is_before k f 0) refl (first_has_one ks f fs x s) e
  where
    nothing : k.0 < f → has (f ∷ fs) k.0 ≡ false
    nothing low =
        ⊎_elim
        (λ t. absurd (among (has-In (f ∷ fs) k.0 t)))
        (λ e. e)
        (cases_Bool (has (f ∷ fs) k.0))
      where
        among : In k.0 (f ∷ fs) → ⊥
        among (inl same) = omega arith
        among (inr j) = let high = s.0 k.0 j in omega arith

    by : (t : Bool) → is_before k f 0 ≡ t → (slice_get ks (place_of ks f 0) ≡ Some x → x.0 ≡ f → first_of (f ∷ fs) ks ≡ Some x) → slice_get (k ∷ ks) (if t then suc (place_of ks f 0) else 0) ≡ Some x
        → cond (has (f ∷ fs) k.0) (Some k) (first_of (f ∷ fs) ks) ≡ Some x
    by true t rest d = ap (λ u. cond u (Some k) (first_of (f ∷ fs) ks)) (nothing (lower k f t)) ∙ rest d is
    by false t rest d =
        let same = same_Some k x d in
        ap (λ u. cond u (Some k) (first_of (f ∷ fs) ks)) (In-has (f ∷ fs) k.0 (inl (sym (ap (λ (y : ℕ × ℕ). y.0) same ∙ is)))) ∙ ap Some same

rising_files : (fs : List ℕ) (at : ℕ) → sets.IsRising fs → sets.IsRising (drop at fs)
rising_files fs zero r = r
rising_files [] (suc at) r = r
rising_files (f ∷ fs) (suc at) r = rising_files fs at r.1

-- the same for the files from a place on
pub files_pass : (ks : List (ℕ × ℕ)) (fs : List ℕ) (at : ℕ) → IsRisingKeys ks → at < length fs → IsOther (slice_get ks (place_of ks (get_or fs at 0) 0)) (get_or fs at 0) → first_of (drop (at + 1) fs) ks ≡ first_of (drop at fs) ks
files_pass ks fs at r inside other =
    let f = get_or fs at 0 in
    sym (ap (λ bs. first_of bs ks) (drop_more fs at 0 inside) ∙ first_has_none ks f (drop (at + 1) fs) (none_in ks f r other))

pub files_hit : (ks : List (ℕ × ℕ)) (fs : List ℕ) (at : ℕ) (x : ℕ × ℕ) → sets.IsRising fs → at < length fs → slice_get ks (place_of ks (get_or fs at 0) 0) ≡ Some x → x.0 ≡ get_or fs at 0 → first_of (drop at fs) ks ≡ Some x
files_hit ks fs at x s inside e is =
    let more = drop_more fs at 0 inside in
    ap (λ bs. first_of bs ks) more ∙ first_has_one ks (get_or fs at 0) (drop (at + 1) fs) x (subst sets.IsRising more (rising_files fs at s)) e is

pub no_file_left : (ks : List (ℕ × ℕ)) (fs : List ℕ) (at : ℕ) → length fs ≤ at → first_of (drop at fs) ks ≡ None
no_file_left ks fs at past = ap (λ bs. first_of bs ks) (drop_all at fs past) ∙ none ks
  where
    none : (ks : List (ℕ × ℕ)) → first_of [] ks ≡ None
    none [] = refl
    none (k ∷ ks) = none ks
