-- What is written in chunks: together they are the whole, and each has its size.
use Rattle.std.specs.Prelude.{◌≡◌, ℕ, zero, suc, ◌+◌, ◌-◌, ◌≤◌, List, [], ◌∷◌, ◌++◌, length, refl}
use Rattle.std.proofs.Common.{sym, ap, subst, ◌∙◌, inl, inr, arith, append_assoc, length-append}
use Rattle.blk_base.specs.Members.{In}
use Rattle.blk_base.specs.laws.Members.{In-append_left, In-append_right}
use Rattle.journal_ring.specs.running.Plan.{chunks_from, chunks}

abbrev pub flat : {X : Type 0} → List (List X) → List X
flat [] = []
flat (xs ∷ xss) = xs ++ flat xss

pub chunks_flat : {X : Type 0} (most left : ℕ) (begun xs : List X) → flat (chunks_from most left begun xs) ≡ begun ++ xs
chunks_flat most left [] [] = refl
chunks_flat most left (b ∷ bs) [] = refl
chunks_flat most zero begun (x ∷ xs) = ap (λ ys. begun ++ ys) (chunks_flat most (most - 1) (x ∷ []) xs)
chunks_flat most (suc left) begun (x ∷ xs) = chunks_flat most left (begun ++ x ∷ []) xs ∙ append_assoc begun (x ∷ []) xs

pub chunks_sized : {X : Type 0} (most left : ℕ) (begun xs c : List X) → 1 ≤ most → length begun + left ≡ most → In c (chunks_from most left begun xs) → (1 ≤ length c) × (length c ≤ most)
chunks_sized most left [] [] c pos e i = absurd i
chunks_sized most left (b ∷ bs) [] c pos e (inl q) = subst (λ ys. (1 ≤ length ys) × (length ys ≤ most)) q (omega arith, omega arith)
chunks_sized most left (b ∷ bs) [] c pos e (inr i) = absurd i
chunks_sized most zero begun (x ∷ xs) c pos e (inl q) = subst (λ ys. (1 ≤ length ys) × (length ys ≤ most)) q (omega arith, omega arith)
chunks_sized most zero begun (x ∷ xs) c pos e (inr i) = chunks_sized most (most - 1) (x ∷ []) xs c pos (omega arith) i
chunks_sized most (suc left) begun (x ∷ xs) c pos e i =
    let grown = length-append begun (x ∷ []) in
    chunks_sized most left (begun ++ x ∷ []) xs c pos (omega arith) i

In-flat : {X : Type 0} (xss : List (List X)) (c : List X) (x : X) → In c xss → In x c → In x (flat xss)
In-flat [] c x i j = absurd i
In-flat (xs ∷ xss) c x (inl e) j = In-append_left xs (flat xss) x (subst (λ ys. In x ys) (sym e) j)
In-flat (xs ∷ xss) c x (inr i) j = In-append_right xs (flat xss) x (In-flat xss c x i j)

pub In-chunks : {X : Type 0} (most : ℕ) (xs c : List X) (x : X) → In c (chunks most xs) → In x c → In x xs
In-chunks most xs c x i j = subst (In x) (chunks_flat most most [] xs) (In-flat (chunks most xs) c x i j)
