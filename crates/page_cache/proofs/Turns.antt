-- A ring that is turned, and a list that is kept in one.
use Rattle.std.proofs.Common.{◌≡◌, ℕ, zero, suc, ◌+◌, ◌-◌, ◌<◌, ◌≤◌, ◌⊎◌, List, [], ◌∷◌, ◌++◌, take, drop, length, refl, sym, ap, ◌∙◌, ⊎_elim, arith}
use Rattle.std.specs.List.{remove}
use Rattle.std.proofs.Math.Path.{ap₂}
use Rattle.std.proofs.Math.Seq.{take-append_seam, drop-append_seam}
use Rattle.std.proofs.lemmas.List.{append_assoc, length-append, length-drop, take-append-drop}
use Rattle.page_cache.specs.code.Gap.{turned}

module _ {T : Type 0} where
  take_len : (n : ℕ) (xs : List T) → n ≤ length xs → length (take n xs) ≡ n
  take_len zero xs h = refl
  take_len (suc n) [] h = absurd (omega arith)
  take_len (suc n) (x ∷ xs) h = ap suc (take_len n xs (omega arith))

  -- by the length of a front
  seam : (xs ys : List T) → turned (length xs) (xs ++ ys) ≡ ys ++ xs
  seam xs ys = ap₂ (λ a b. a ++ b) (drop-append_seam xs ys) (take-append_seam xs ys)

  at_seam : (n : ℕ) (ring xs ys : List T) → ring ≡ xs ++ ys → n ≡ length xs → turned n ring ≡ ys ++ xs
  at_seam n ring xs ys e size = ap₂ (λ m r. turned m r) size e ∙ seam xs ys

  -- two turns that do not come round
  pub turned_on : (ring : List T) (i j : ℕ) → i + j ≤ length ring → turned j (turned i ring) ≡ turned (i + j) ring
  turned_on ring i j low =
      let x = take i ring in
      let y = take j (drop i ring) in
      let z = drop j (drop i ring) in
      let lx : length x ≡ i = take_len i ring (omega arith) in
      let rest = length-drop i ring in
      let ly : length y ≡ j = take_len j (drop i ring) (omega arith) in
      let parts : ring ≡ x ++ (y ++ z) = sym (take-append-drop i ring) ∙ ap (λ r. x ++ r) (sym (take-append-drop j (drop i ring))) in
      let once : turned i ring ≡ y ++ (z ++ x) = at_seam i ring x (y ++ z) parts (sym lx) ∙ append_assoc y z x in
      let both : length (x ++ y) ≡ i + j = length-append x y ∙ ap₂ (λ a b. a + b) lx ly in
      at_seam j (turned i ring) y (z ++ x) once (sym ly) ∙ append_assoc z x y
      ∙ sym (at_seam (i + j) ring (x ++ y) z (parts ∙ sym (append_assoc x y z)) (sym both))

  -- two turns that do
  pub turned_round : (ring : List T) (i j k : ℕ) → i ≤ length ring → j ≤ length ring → i + j ≡ k + length ring → turned j (turned i ring) ≡ turned k ring
  turned_round ring i j k low short round =
      let x = take k ring in
      let y = take (i - k) (drop k ring) in
      let z = drop (i - k) (drop k ring) in
      let lx : length x ≡ k = take_len k ring (omega arith) in
      let rest = length-drop k ring in
      let ly : length y ≡ i - k = take_len (i - k) (drop k ring) (omega arith) in
      let lz : length z ≡ length (drop k ring) - (i - k) = length-drop (i - k) (drop k ring) in
      let parts : ring ≡ (x ++ y) ++ z = sym (take-append-drop k ring) ∙ ap (λ r. x ++ r) (sym (take-append-drop (i - k) (drop k ring))) ∙ sym (append_assoc x y z) in
      let long : length (x ++ y) ≡ i = length-append x y ∙ ap₂ (λ a b. a + b) lx ly ∙ omega arith in
      let once : turned i ring ≡ (z ++ x) ++ y = at_seam i ring (x ++ y) z parts (sym long) ∙ sym (append_assoc z x y) in
      let all : length (z ++ x) ≡ j = length-append z x ∙ omega arith in
      at_seam j (turned i ring) (z ++ x) y once (sym all)
      ∙ sym (append_assoc y z x)
      ∙ sym (at_seam k ring x (y ++ z) (parts ∙ append_assoc x y z) (sym lx))

  pub length-turned : (n : ℕ) (ring : List T) → length (turned n ring) ≡ length ring
  length-turned n ring =
      let whole = ap (λ (r : List T). length r) (take-append-drop n ring) in
      let front = length-append (take n ring) (drop n ring) in
      let back = length-append (drop n ring) (take n ring) in
      omega arith

  -- what stands before the gap, and what stands behind it
  before_gap : (n at : ℕ) (ring : List T) → n + at ≡ length ring → length (drop n ring) ≡ at
  before_gap n at ring e = let size = length-drop n ring in omega arith

  drop_past : (xs ys : List T) (m : ℕ) → m ≡ length xs → drop (suc m) (xs ++ ys) ≡ drop 1 ys
  drop_past [] ys zero e = refl
  drop_past [] ys (suc m) e = absurd (omega arith)
  drop_past (x ∷ xs) ys zero e = absurd (omega arith)
  drop_past (x ∷ xs) ys (suc m) e = drop_past xs ys m (omega arith)

  -- the first one behind the gap goes
  pub turned-remove : (n at : ℕ) (ring : List T) → suc n + at ≡ length ring → turned n (drop 1 ring) ≡ remove (turned (suc n) ring) at
  turned-remove n at [] e = absurd (omega arith)
  turned-remove n at (y ∷ ring) e =
      let less : n + at ≡ length ring = omega arith in
      let size = sym (before_gap n at ring less) in
      sym (ap₂ (λ a b. a ++ b)
      (ap (λ m. take m (drop n ring ++ (y ∷ take n ring))) size ∙ take-append_seam (drop n ring) (y ∷ take n ring))
      (drop_past (drop n ring) (y ∷ take n ring) at size))

  -- the gap moves
  pub turned_to : (ring new : List T) (behind at count n : ℕ) → new ≡ turned count ring → behind ≤ length ring → at ≤ length ring → count ≤ length ring → (count ≡ behind + at) ⊎ (count + length ring ≡ behind + at)
      → n + at ≡ length ring → turned n new ≡ turned behind ring
  turned_to ring new behind at count n turn low place short far size =
      ap (turned n) turn
      ∙ ⊎_elim
      (λ e. turned_round ring count n behind short (omega arith) (omega arith))
      (λ e. turned_on ring count n (omega arith) ∙ ap (λ m. turned m ring) (let same : count + n ≡ behind = omega arith in same))
      far

  -- the item behind it goes
  pub turned_gone : (ring last new : List T) (behind at n : ℕ) → new ≡ drop 1 last → n + at ≡ length last → at < length last → turned n last ≡ turned behind ring → turned (n - 1) new ≡ remove (turned behind ring) at
  turned_gone ring last new behind at zero gone size inside same = absurd (omega arith)
  turned_gone ring last new behind at (suc n) gone size inside same =
      ap₂ (λ m r. turned m r) (let less : suc n - 1 ≡ n = omega arith in less) gone ∙ turned-remove n at last size ∙ ap (λ xs. remove xs at) same
