-- Spans of equal outcomes, one moment after the other.
use Rattle.std.proofs.Common.{◌≡◌, ℕ, ◌+◌, List, [], ◌∷◌, ◌++◌, map, refl, sym, ap, ◌∙◌, append_assoc}
use Rattle.std.specs.List.{range_with_len}
use Rattle.std.proofs.lemmas.List.FromFn.{map-range_with_len_more}
use Rattle.session_moments.specs.Moments.{Outcome, Span, told_by}

-- the same, so many times and once more
same_more : (o : Outcome) (a n : ℕ) → map (λ (_ : ℕ). o) (range_with_len a (n + 1)) ≡ map (λ (_ : ℕ). o) (range_with_len a n) ++ o ∷ []
same_more o a n = map-range_with_len_more (λ _. o) a n (a + n) refl

pub longer : (xs : List Span) (x : Span) → told_by (xs ++ record x { count = x.count + 1 } ∷ []) ≡ told_by (xs ++ x ∷ []) ++ x.outcome ∷ []
unfolding told_by
longer [] x =
    ap (λ os. os ++ []) (same_more x.outcome x.first x.count)
    ∙ append_assoc (map (λ (_ : ℕ). x.outcome) (range_with_len x.first x.count)) (x.outcome ∷ []) []
    ∙ sym (append_assoc (map (λ (_ : ℕ). x.outcome) (range_with_len x.first x.count)) [] (x.outcome ∷ []))
longer (y ∷ ys) x =
    let here = map (λ (_ : ℕ). y.outcome) (range_with_len y.first y.count) in
    ap (λ os. here ++ os) (longer ys x) ∙ sym (append_assoc here (told_by (ys ++ x ∷ [])) (x.outcome ∷ []))

pub begun : (xs : List Span) (i : ℕ) (o : Outcome) → told_by (xs ++ record { first = i; count = 1; outcome = o } ∷ []) ≡ told_by xs ++ o ∷ []
unfolding told_by
begun [] i o = refl
begun (y ∷ ys) i o =
    let here = map (λ (_ : ℕ). y.outcome) (range_with_len y.first y.count) in
    ap (λ os. here ++ os) (begun ys i o) ∙ sym (append_assoc here (told_by ys) (o ∷ []))
