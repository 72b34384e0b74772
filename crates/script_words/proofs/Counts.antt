-- What a line with its count says of the words behind its first, and the other way round.
use Rattle.std.proofs.Common.{◌≡◌, ℕ, ◌-◌, ◌^◌, ◌<◌, Bool, true, false, List, [], ◌∷◌, codes, decimal, Some, None, refl, sym, ap, ap₂, ◌∙◌, subst, inl, inr, lit<, ◌⊎◌, if◌then◌else◌}
use Rattle.std.specs.Str.{bytes_eq}
use Rattle.std.proofs.lemmas.Fmt.{decimal_digit}
use Rattle.std.proofs.lemmas.Option.{same_Some, none-some}
use Rattle.std.proofs.lemmas.Slice.Eq.{bytes_eq-Decides}
use Rattle.script_words.specs.Spelling.{numeral, count_of}
use Rattle.script_words.specs.laws.Counts.{with_count, counted}
use Rattle.script_words.proofs.SaidNumbers.{decimal-numeral}

pub one_text : codes "1" ≡ decimal 1
one_text = sym (decimal_digit 1 (lit< tt))

-- ---- a count that is read

-- the two words that say it
chosen : (P : List ℕ → List ℕ → Type 0) (x w : List ℕ) (n : ℕ) (is : Bool) → bytes_eq x (codes "x") ≡ is → (if is then numeral w else None) ≡ Some n → n < 2 ^ 64 - 1 → P (codes "x") (decimal n) → P x w
chosen P x w n true e h lt holds =
    subst (λ v. P v w) (sym ((bytes_eq-Decides x (codes "x")).0 e)) (subst (P (codes "x")) (sym (decimal-numeral w n h lt)) holds)
chosen P x w n false e h lt holds = absurd (none-some n h)

-- behind one word
pub with_count-one : (v : List ℕ) (ws : List (List ℕ)) (n : ℕ) → count_of ws ≡ Some n → n < 2 ^ 64 - 1 → with_count (v ∷ ws) ≡ counted (v ∷ []) n
with_count-one v [] n h lt = ap (λ w. v ∷ codes "x" ∷ w ∷ []) (one_text ∙ ap decimal (same_Some 1 n h))
with_count-one v (x ∷ []) n h lt = absurd (none-some n h)
with_count-one v (x ∷ w ∷ []) n h lt = chosen (λ y u. v ∷ y ∷ u ∷ [] ≡ v ∷ codes "x" ∷ decimal n ∷ []) x w n (bytes_eq x (codes "x")) refl h lt refl
with_count-one v (x ∷ w ∷ u ∷ ws) n h lt = absurd (none-some n h)

-- behind two
pub with_count-two : (v p : List ℕ) (ws : List (List ℕ)) (n : ℕ) → count_of ws ≡ Some n → n < 2 ^ 64 - 1 → with_count (v ∷ p ∷ ws) ≡ counted (v ∷ p ∷ []) n
with_count-two v p [] n h lt = ap (λ w. v ∷ p ∷ codes "x" ∷ w ∷ []) (one_text ∙ ap decimal (same_Some 1 n h))
with_count-two v p (x ∷ []) n h lt = absurd (none-some n h)
with_count-two v p (x ∷ w ∷ []) n h lt = chosen (λ y u. v ∷ p ∷ y ∷ u ∷ [] ≡ v ∷ p ∷ codes "x" ∷ decimal n ∷ []) x w n (bytes_eq x (codes "x")) refl h lt refl
with_count-two v p (x ∷ w ∷ u ∷ ws) n h lt = absurd (none-some n h)

-- ---- a line that says its count, or leaves it out

pub shape_one : (l : List (List ℕ)) (w n : List ℕ) → with_count l ≡ w ∷ codes "x" ∷ n ∷ [] → (l ≡ w ∷ codes "x" ∷ n ∷ []) ⊎ ((l ≡ w ∷ []) × (n ≡ codes "1"))
shape_one [] w n h = cc
shape_one (a ∷ []) w n h = let same : a ≡ w = cc in let one : codes "1" ≡ n = cc in inr (ap (λ (x : List ℕ). x ∷ []) same, sym one)
shape_one (a ∷ b ∷ []) w n h = cc
shape_one (a ∷ b ∷ c ∷ ws) w n h = inl h

pub shape_two : (l : List (List ℕ)) (w p n : List ℕ) → with_count l ≡ w ∷ p ∷ codes "x" ∷ n ∷ [] → (l ≡ w ∷ p ∷ codes "x" ∷ n ∷ []) ⊎ ((l ≡ w ∷ p ∷ []) × (n ≡ codes "1"))
shape_two [] w p n h = cc
shape_two (a ∷ []) w p n h = cc
shape_two (a ∷ b ∷ []) w p n h =
    let first : a ≡ w = cc in
    let second : b ≡ p = cc in
    let one : codes "1" ≡ n = cc in
    inr (ap₂ (λ (x y : List ℕ). x ∷ y ∷ []) first second, sym one)
shape_two (a ∷ b ∷ c ∷ ws) w p n h = inl h
