-- A file with fewer blocks uses no more zones.
use Rattle.std.specs.Prelude.{◌≡◌, ◌≤◌, ℕ, Bool, true, false, cond, List, [], ◌∷◌, length, refl}
use Rattle.std.proofs.Common.{ap, arith}
use Rattle.std.specs.List.{list_any, count_by, range_with_len}
use Rattle.std.proofs.lemmas.List.Sums.{sum_by-cons}
use Rattle.tree_model.specs.Calls.{is_indirect, is_double_indirect, is_in_group, one_if, mapped_groups, file_zones}

one_if_less : (a b : Bool) → (a ≡ true → b ≡ true) → one_if a ≤ one_if b
one_if_less false b h = omega arith
one_if_less true b h = let e : one_if b ≡ 1 = ap one_if (h refl) in omega arith

count_less : (p q : ℕ → Bool) (xs : List ℕ) → ((x : ℕ) → p x ≡ true → q x ≡ true) → count_by p xs ≤ count_by q xs
count_less p q [] h = omega arith
count_less p q (x ∷ xs) h =
    let a = sum_by-cons (λ x. cond (p x) 1 0) x xs in
    let b = sum_by-cons (λ x. cond (q x) 1 0) x xs in
    let c = count_less p q xs h in
    let d = one_if_less (p x) (q x) (h x) in
    omega arith

groups_less : (xs ys : List ℕ) → ((p : ℕ → Bool) → list_any p xs ≡ true → list_any p ys ≡ true) → mapped_groups xs ≤ mapped_groups ys
unfolding mapped_groups
groups_less xs ys any = count_less (λ group. list_any (is_in_group group) xs) (λ group. list_any (is_in_group group) ys) (range_with_len 0 512) (λ group. any (is_in_group group))

pub zones_less : (xs ys : List ℕ) → length xs ≤ length ys → ((p : ℕ → Bool) → list_any p xs ≡ true → list_any p ys ≡ true) → file_zones xs ≤ file_zones ys
unfolding file_zones
zones_less xs ys short any =
    let a = one_if_less (list_any is_indirect xs) (list_any is_indirect ys) (any is_indirect) in
    let b = one_if_less (list_any is_double_indirect xs) (list_any is_double_indirect ys) (any is_double_indirect) in
    let c = groups_less xs ys any in
    omega arith
