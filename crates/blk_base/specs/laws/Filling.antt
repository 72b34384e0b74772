-- A list of zeros that is filled from the front, as an image whose blocks are written one after the other.
use Rattle.std.specs.Prelude.{◌≡◌, ℕ, zero, suc, ◌+◌, ◌-◌, ◌<◌, ◌≤◌, List, [], ◌∷◌, ◌++◌, length, take, replicate, slice_get, slice_set, Some}
use Rattle.std.proofs.Common.{sym, ap, ◌∙◌, arith}
use Rattle.std.proofs.lemmas.List.{take_more, set-append_right, append_assoc, append-nil, length-take, length-append, length-replicate}
use Rattle.std.proofs.lemmas.Option.{slice_get_within, get_or_from_slice_get}

-- the first b elements are those of xs, and zs the n - b behind them
abbrev pub filled_to : {X : Type 0} → X → ℕ → List X → ℕ → List X
filled_to z n xs b = take b xs ++ replicate (n - b) z

-- one element more of xs
more : {X : Type 0} (xs : List X) (x : X) (b : ℕ) (rest : List X) → slice_get xs b ≡ Some x → take (b + 1) xs ++ rest ≡ take b xs ++ x ∷ rest
more xs x b rest here =
    let step = take_more xs b x (slice_get_within xs b x here) in
    ap (λ l. l ++ rest) (step ∙ ap (λ y. take b xs ++ y ∷ []) (get_or_from_slice_get xs b x x here)) ∙ append_assoc (take b xs) (x ∷ []) rest

one_less : {X : Type 0} (z : X) (b n : ℕ) → b < n → replicate (n - b) z ≡ z ∷ replicate (n - (b + 1)) z
one_less z b n lt = let less : n - b ≡ suc (n - (b + 1)) = omega arith in ap (λ k. replicate k z) less

-- it is written
pub filled_to-put : {X : Type 0} (z x : X) (n b : ℕ) (xs : List X) → b < n → slice_get xs b ≡ Some x → slice_set (filled_to z n xs b) b x ≡ filled_to z n xs (b + 1)
filled_to-put z x n b xs lt here =
    let within = slice_get_within xs b x here in
    let len : length (take b xs) ≡ b = let l = length-take b xs in omega (arith, l, within) in
    let none : b - b ≡ zero = omega arith in
    ap (λ l. slice_set (take b xs ++ l) b x) (one_less z b n lt)
    ∙ set-append_right (take b xs) (z ∷ replicate (n - (b + 1)) z) b b x len (omega arith)
    ∙ ap (λ k. take b xs ++ slice_set (z ∷ replicate (n - (b + 1)) z) k x) none
    ∙ sym (more xs x b (replicate (n - (b + 1)) z) here)

-- it stands there already
pub filled_to-left : {X : Type 0} (z : X) (n b : ℕ) (xs : List X) → b < n → slice_get xs b ≡ Some z → filled_to z n xs b ≡ filled_to z n xs (b + 1)
filled_to-left z n b xs lt here =
    ap (λ l. take b xs ++ l) (one_less z b n lt) ∙ sym (more xs z b (replicate (n - (b + 1)) z) here)

-- all of it
pub filled_to-all : {X : Type 0} (z : X) (n : ℕ) (xs : List X) → filled_to z n xs n ≡ take n xs
filled_to-all z n xs =
    let none : n - n ≡ zero = omega arith in
    ap (λ k. take n xs ++ replicate k z) none ∙ append-nil (take n xs)

pub length-filled_to : {X : Type 0} (z : X) (n b : ℕ) (xs : List X) → b ≤ n → b ≤ length xs → length (filled_to z n xs b) ≡ n
length-filled_to z n b xs le within =
    let all = length-append (take b xs) (replicate (n - b) z) in
    let front = length-take b xs in
    let rest = length-replicate (n - b) z in
    omega (arith, all, front, rest, le, within)

-- the step of a loop: the next element is written, or stands there already
pub filled_to-next : {X : Type 0} (z x : X) (n b : ℕ) (xs old new : List X) → old ≡ filled_to z n xs b → b < n → slice_get xs b ≡ Some x → new ≡ slice_set old b x → new ≡ filled_to z n xs (b + 1)
filled_to-next z x n b xs old new before lt here put = put ∙ ap (λ l. slice_set l b x) before ∙ filled_to-put z x n b xs lt here

pub filled_to-skip : {X : Type 0} (z : X) (n b : ℕ) (xs old new : List X) → old ≡ filled_to z n xs b → b < n → slice_get xs b ≡ Some z → new ≡ old → new ≡ filled_to z n xs (b + 1)
filled_to-skip z n b xs old new before lt here same = same ∙ before ∙ filled_to-left z n b xs lt here
