-- The words that were drawn, and those that are left.
use Rattle.std.proofs.Common.{◌≡◌, ℕ, zero, suc, ◌+◌, ◌-◌, ◌<◌, ◌≤◌, ◌++◌, List, [], ◌∷◌, append_assoc, append-nil, sym, ap, ◌∙◌, arith}
use Rattle.rand_core.specs.Steps.{first_words}
use Rattle.rand_pcg.specs.Lcg.{Lcg}
use Rattle.rand_pcg.specs.Pcg.{pcg32}

-- one more
pub drawn_one : (words all : List ℕ) (n counter w : ℕ) (g h : Lcg) → counter < n → (w, h) ≡ pcg32 g → words ++ first_words pcg32 (n - counter) g ≡ all
    → (words ++ w ∷ []) ++ first_words pcg32 (n - (counter + 1)) h ≡ all
unfolding first_words
drawn_one words all n counter w g h lt pair left =
    let more : n - counter ≡ suc (n - (counter + 1)) = omega (arith, lt) in
    append_assoc words (w ∷ []) (first_words pcg32 (n - (counter + 1)) h)
    ∙ ap (λ (p : ℕ × Lcg). words ++ p.0 ∷ first_words pcg32 (n - (counter + 1)) p.1) pair
    ∙ ap (λ k. words ++ first_words pcg32 k g) (sym more)
    ∙ left

-- no more
pub drawn_all : (words all : List ℕ) (n counter : ℕ) (g : Lcg) → n ≤ counter → words ++ first_words pcg32 (n - counter) g ≡ all → words ≡ all
unfolding first_words
drawn_all words all n counter g le left =
    let none : n - counter ≡ 0 = omega (arith, le) in
    sym (append-nil words) ∙ ap (λ k. words ++ first_words pcg32 k g) (sym none) ∙ left
