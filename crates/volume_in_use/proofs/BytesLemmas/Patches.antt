-- A body that is made of three parts.
use Rattle.std.specs.Prelude.{◌≡◌, ℕ, zero, suc, ◌+◌, ◌-◌, ◌*◌, ◌≤◌, min, List, [], ◌∷◌, ◌++◌, length, take, drop, replicate, refl}
use Rattle.std.proofs.Common.{sym, ap, ◌∙◌, arith}
use Rattle.std.proofs.lemmas.List.{length-take, length-take-le, length-drop, length-append, take_min, drop-replicate}
use Rattle.tree_model.specs.Calls.{patched}

take_front : (xs ys : List ℕ) (n : ℕ) → n ≡ length xs → take n (xs ++ ys) ≡ xs
take_front [] ys zero e = refl
take_front (x ∷ xs) ys (suc n) e = ap (λ (zs : List ℕ). x ∷ zs) (take_front xs ys n (omega arith))
take_front [] ys (suc n) e = absurd (omega arith)
take_front (x ∷ xs) ys zero e = absurd (omega arith)

append_more : (xs ys zs : List ℕ) → xs ++ (ys ++ zs) ≡ (xs ++ ys) ++ zs
append_more [] ys zs = refl
append_more (x ∷ xs) ys zs = ap (λ (ws : List ℕ). x ∷ ws) (append_more xs ys zs)

pub zeros_behind : (n : ℕ) (old : List ℕ) → take n old ++ drop n (replicate 1024 0) ≡ take n old ++ replicate (1024 - n) 0
zeros_behind n old = ap (λ (zs : List ℕ). take n old ++ zs) (drop-replicate n 1024 0)

-- what is copied in front, what is written, and what is copied behind
pub three_parts : (index off : ℕ) (bytes old none one two last : List ℕ) (from skip end : ℕ) → length old ≡ 1024 → from ≡ off - 1024 * index → skip ≡ 1024 * index - off → from ≤ end → end ≤ 1024 →
    end - from ≡ min (1024 - from) (length bytes - skip) → one ≡ take from old ++ drop from none → two ≡ take from one ++ (take (end - from) (drop skip bytes) ++ drop end one) → last ≡ take end two ++ drop end old →
    last ≡ patched index off bytes old
three_parts index off bytes old none one two last from skip end whole f s low high count a b c =
    let left : List ℕ = drop skip bytes in
    let part : List ℕ = take (1024 - from) left in
    let ld : length left ≡ length bytes - skip = length-drop skip bytes in
    let same : take (end - from) left ≡ part = ap (λ k. take k left) (count ∙ ap (min (1024 - from)) (sym ld)) ∙ take_min (1024 - from) left in
    let lp : length part ≡ end - from = length-take (1024 - from) left ∙ (ap (min (1024 - from)) ld ∙ sym count) in
    let lf : length (take from old) ≡ from = length-take-le from old (omega arith) in
    let front : take from one ≡ take from old = ap (take from) a ∙ take_front (take from old) (drop from none) from (sym lf) in
    let made : two ≡ (take from old ++ part) ++ drop end one =
    b ∙ (ap (λ (xs : List ℕ). xs ++ (take (end - from) left ++ drop end one)) front
    ∙ (ap (λ (xs : List ℕ). take from old ++ (xs ++ drop end one)) same ∙ append_more (take from old) part (drop end one))) in
    let both = length-append (take from old) part in
    let all : end ≡ length (take from old ++ part) = omega arith in
    let ends : end ≡ from + length part = omega arith in
    c ∙ (ap (λ (xs : List ℕ). take end xs ++ drop end old) made
    ∙ (ap (λ (xs : List ℕ). xs ++ drop end old) (take_front (take from old ++ part) (drop end one) end all)
    ∙ (sym (append_more (take from old) part (drop end old))
    ∙ (ap (λ k. take from old ++ (part ++ drop k old)) ends
    ∙ (ap (λ k. shape k skip) f ∙ ap (λ k. shape (off - 1024 * index) k) s)))))
  where
    shape : ℕ → ℕ → List ℕ
    shape from skip = take from old ++ (take (1024 - from) (drop skip bytes) ++ drop (from + length (take (1024 - from) (drop skip bytes))) old)
