-- Sums and counts over lists.
use Rattle.std.specs.Prelude.{◌≡◌, ℕ, ◌+◌, Bool, cond, List, [], ◌∷◌, refl}
use Rattle.std.proofs.Common.{sym, ap, ◌∙◌}
use Rattle.std.specs.List.{sum_by, count_by}
use Rattle.std.proofs.lemmas.List.Sums.{sum_by-cons}

pub sum_by_same : {X : Type 0} (f g : X → ℕ) (xs : List X) → ((x : X) → f x ≡ g x) → sum_by f xs ≡ sum_by g xs
sum_by_same f g [] same = refl
sum_by_same f g (x ∷ xs) same =
    sum_by-cons f x xs ∙ (ap (λ n. n + sum_by f xs) (same x) ∙ (ap (λ n. g x + n) (sum_by_same f g xs same) ∙ sym (sum_by-cons g x xs)))

-- tests that say the same of each element count the same
pub count_by_same : {X : Type 0} (p q : X → Bool) (xs : List X) → ((x : X) → p x ≡ q x) → count_by p xs ≡ count_by q xs
count_by_same p q xs same = sum_by_same (λ x. cond (p x) 1 0) (λ x. cond (q x) 1 0) xs (λ x. ap (λ b. cond b 1 0) (same x))
