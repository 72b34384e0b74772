-- Parts of a list, one after the other.
use Rattle.std.proofs.Common.{◌≡◌, ℕ, zero, suc, ◌-◌, ◌<◌, ◌≤◌, List, [], ◌∷◌, ◌++◌, length, map, take, drop, refl, sym, ap, ◌∙◌, ⊎_elim, arith, append_assoc, append-nil}
use Rattle.std.proofs.lemmas.Bool.{cases_eq}
use Rattle.log_model.specs.Marks.{Logged}
use Rattle.journal_ring.specs.running.Plan.{Writers, chunks_from, chunks, described, all_described}
use Rattle.journal_ring.specs.declared.running.pieces.UnplacedBlock.{UnplacedBlock}

cut_begun : {X : Type 0} (m left : ℕ) (b : X) (begun xs : List X) → chunks_from (suc m) left (b ∷ begun) xs ≡ ((b ∷ begun) ++ take left xs) ∷ chunks (suc m) (drop left xs)
cut_begun m zero b begun [] = ap (λ l. (b ∷ l) ∷ []) (sym (append-nil begun))
cut_begun m (suc left) b begun [] = ap (λ l. (b ∷ l) ∷ []) (sym (append-nil begun))
cut_begun m zero b begun (x ∷ xs) =
    let one : suc m - 1 ≡ m = omega arith in
    ap (λ n. (b ∷ begun) ∷ chunks_from (suc m) n (x ∷ []) xs) one
    ∙ ap (λ l. (b ∷ l) ∷ chunks_from (suc m) m (x ∷ []) xs) (sym (append-nil begun))
cut_begun m (suc left) b begun (x ∷ xs) =
    cut_begun m left b (begun ++ x ∷ []) xs
    ∙ ap (λ l. (b ∷ l) ∷ chunks (suc m) (drop left xs)) (append_assoc begun (x ∷ []) (take left xs))

whole_take : {X : Type 0} (n : ℕ) (xs : List X) → length xs ≤ n → take n xs ≡ take (length xs) xs
whole_take zero [] h = refl
whole_take (suc n) [] h = refl
whole_take zero (x ∷ xs) h = absurd (omega (arith, h))
whole_take (suc n) (x ∷ xs) h = ap (λ l. x ∷ l) (whole_take n xs (omega (arith, h)))

whole_drop : {X : Type 0} (n : ℕ) (xs : List X) → length xs ≤ n → drop n xs ≡ drop (length xs) xs
whole_drop zero [] h = refl
whole_drop (suc n) [] h = refl
whole_drop zero (x ∷ xs) h = absurd (omega (arith, h))
whole_drop (suc n) (x ∷ xs) h = whole_drop n xs (omega (arith, h))

cut_most : {X : Type 0} (m : ℕ) (xs : List X) → 0 < length xs → chunks (suc m) xs ≡ take (suc m) xs ∷ chunks (suc m) (drop (suc m) xs)
cut_most m [] some = absurd (omega (arith, some))
cut_most m (x ∷ xs) some = cut_begun m m x [] xs

-- the first part has as many as fit, or all
cut_first : {X : Type 0} (most n : ℕ) (xs : List X) → 1 ≤ most → 0 < length xs → n ≤ most → n ≤ length xs → (n < most → n ≡ length xs) → chunks most xs ≡ take n xs ∷ chunks most (drop n xs)
cut_first zero n xs room some fits within all = absurd (omega (arith, room))
cut_first (suc m) n xs room some fits within all =
    ⊎_elim
    (λ e. cut_most m xs some ∙ ap (λ k. take k xs ∷ chunks (suc m) (drop k xs)) (sym e))
    (λ ne.
    let same = all (omega (arith, fits, ne)) in
    let few : length xs ≤ suc m = omega (arith, same, fits) in
    cut_most m xs some
    ∙ ap (λ l. l ∷ chunks (suc m) (drop (suc m) xs)) (whole_take (suc m) xs few)
    ∙ ap (λ l. take (length xs) xs ∷ chunks (suc m) l) (whole_drop (suc m) xs few)
    ∙ ap (λ k. take k xs ∷ chunks (suc m) (drop k xs)) (sym same))
    (cases_eq n (suc m))

-- one part more was added
pub part_added : {X : Type 0} (f : List X → UnplacedBlock) (most n : ℕ) (old now new : List UnplacedBlock) (all rest : List X)
    → now ++ map f (chunks most rest) ≡ old ++ map f (chunks most all) → new ≡ now ++ f (take n rest) ∷ []
    → 1 ≤ most → 0 < length rest → n ≤ most → n ≤ length rest → (n < most → n ≡ length rest)
    → new ++ map f (chunks most (drop n rest)) ≡ old ++ map f (chunks most all)
part_added f most n old now new all rest h put room some fits within whole =
    ap (λ l. l ++ map f (chunks most (drop n rest))) put
    ∙ append_assoc now (f (take n rest) ∷ []) (map f (chunks most (drop n rest)))
    ∙ ap (λ l. now ++ map f l) (sym (cut_first most n rest room some fits within whole))
    ∙ h

-- one descriptor more was added, with its bodies
pub described_added : (w : Writers) (k sequence most n : ℕ) (old now new : List UnplacedBlock) (all rest : List Logged)
    → now ++ all_described w k sequence (chunks most rest) ≡ old ++ all_described w k sequence (chunks most all) → new ≡ now ++ described w k sequence (take n rest)
    → 1 ≤ most → 0 < length rest → n ≤ most → n ≤ length rest → (n < most → n ≡ length rest)
    → new ++ all_described w k sequence (chunks most (drop n rest)) ≡ old ++ all_described w k sequence (chunks most all)
described_added w k sequence most n old now new all rest h put room some fits within whole =
    ap (λ l. l ++ all_described w k sequence (chunks most (drop n rest))) put
    ∙ append_assoc now (described w k sequence (take n rest)) (all_described w k sequence (chunks most (drop n rest)))
    ∙ ap (λ l. now ++ all_described w k sequence l) (sym (cut_first most n rest room some fits within whole))
    ∙ h
