-- A page that is sent is one unsent page less.
use Rattle.std.specs.Prelude.{◌≡◌, ℕ, ◌+◌, ◌==◌, ◌&&◌, Bool, true, false, List, [], ◌∷◌, length, Some, refl, if◌then◌else◌}
use Rattle.std.specs.List.{filter, find}
use Rattle.std.proofs.Common.{sym, ap, subst, inl, inr, arith, eq-eqb, eqb-true}
use Rattle.std.proofs.lemmas.Bool.{and_from, and_parts}
use Rattle.std.proofs.lemmas.Option.{none-some, same_Some}
use Rattle.blk_base.specs.Members.{In}
use Rattle.number_sets.specs.Sets.{has}
use Rattle.page_cache.specs.Pages.{is_unsent, is_page, is_below, IsRising, Below, put_page, marked}
use Rattle.page_cache.specs.declared.cached_page.CachedPage.{CachedPage}
use Rattle.page_cache.specs.declared.cached_page.PageState.TheVariants.{Firm}
use Rattle.page_cache.specs.laws.Order.{below_by, below_below, not_same}

-- an unsent page of one of these files
abbrev pub is_due : List ℕ → CachedPage → Bool
is_due births p = is_unsent p.state && has births p.birth

-- what is found is in the list, and is one that was looked for
found_in : (births : List ℕ) (ps : List CachedPage) (p : CachedPage) → find (is_due births) ps ≡ Some p → In p ps
found_in births [] p e = absurd (none-some p e)
found_in births (x ∷ xs) p e = by (is_due births x) e (λ rest. found_in births xs p rest)
  where
    by : (b : Bool) → (if b then Some x else find (is_due births) xs) ≡ Some p → (find (is_due births) xs ≡ Some p → In p xs) → In p (x ∷ xs)
    by true e rest = inl (same_Some x p e)
    by false e rest = inr (rest e)

-- a page that stands before the one that is put stays
stays_before : (x : CachedPage) (xs : List CachedPage) (q : CachedPage) → Below x q → put_page (x ∷ xs) q ≡ x ∷ put_page xs q
stays_before x xs q below = rw (apart (is_page x q.birth q.index) refl, behind (is_below q.birth q.index x) refl) refl
  where
    apart : (b : Bool) → is_page x q.birth q.index ≡ b → is_page x q.birth q.index ≡ false
    apart false e = e
    apart true e =
        let both = and_parts (x.birth == q.birth) _ e in
        absurd (not_same x q below (eqb-true _ _ both.0, eqb-true _ _ both.1))

    behind : (b : Bool) → is_below q.birth q.index x ≡ b → is_below q.birth q.index x ≡ false
    behind false e = e
    behind true e = absurd (not_same x x (below_below x q x below (below_by q x e)) (refl, refl))

pub fewer_due : (births : List ℕ) (ps : List CachedPage) (p : CachedPage) → IsRising ps → find (is_due births) ps ≡ Some p →
    length (filter (is_due births) (put_page ps (marked p Firm))) + 1 ≡ length (filter (is_due births) ps)
fewer_due births [] p rising e = absurd (none-some p e)
fewer_due births (x ∷ xs) p rising e = by (is_due births x) refl e (λ found. fewer_due births xs p rising.1 found)
  where
    here : is_due births x ≡ true → x ≡ p → length (filter (is_due births) (put_page (x ∷ xs) (marked p Firm))) + 1 ≡ length (filter (is_due births) (x ∷ xs))
    here t same =
        let at : is_page x p.birth p.index ≡ true = and_from (x.birth == p.birth) (x.index == p.index) (eq-eqb x.birth p.birth (ap (λ (p : CachedPage). p.birth) same)) (eq-eqb x.index p.index (ap (λ (p : CachedPage). p.index) same)) in
        rw (at, t) (omega arith)

    later : is_due births x ≡ false → find (is_due births) xs ≡ Some p → length (filter (is_due births) (put_page xs (marked p Firm))) + 1 ≡ length (filter (is_due births) xs) →
        length (filter (is_due births) (put_page (x ∷ xs) (marked p Firm))) + 1 ≡ length (filter (is_due births) (x ∷ xs))
    later t found rest =
        let put = stays_before x xs (marked p Firm) (rising.0 p (found_in births xs p found)) in
        subst (λ ps. length (filter (is_due births) ps) + 1 ≡ length (filter (is_due births) (x ∷ xs))) (sym put) (rw t rest)

    by : (b : Bool) → is_due births x ≡ b → (if b then Some x else find (is_due births) xs) ≡ Some p →
        (find (is_due births) xs ≡ Some p → length (filter (is_due births) (put_page xs (marked p Firm))) + 1 ≡ length (filter (is_due births) xs)) →
        length (filter (is_due births) (put_page (x ∷ xs) (marked p Firm))) + 1 ≡ length (filter (is_due births) (x ∷ xs))
    by true t e rest = here t (same_Some x p e)
    by false t e rest = later t e (rest e)
