-- How runs are made, a byte at a time.
use Rattle.std.proofs.Common.{◌≡◌, ◌≢◌, ℕ, suc, ◌+◌, ◌<◌, ◌==◌, true, List, [], ◌∷◌, ◌++◌, codes, length, get_or, drop, replicate, add-zero, refl, sym, ap, ◌∙◌, inl, inr, lit<, arith}
use Rattle.std.proofs.lemmas.Bool.{cases_Bool, eqb-true, eqb-false, eq-eqb, ne_eqb, and_parts}
use Rattle.std.proofs.lemmas.List.{append-nil, append_assoc, replicate_more, drop_more}
use Rattle.std.specs.List.{list_all}
use Rattle.byte_text.specs.Runs.{Run, runs_behind, runs_of, bytes_of, AreMaximal, AreMaximalFrom, run_text, more_text, joined, runs_text}

-- a byte that is of the run
behind_same : (len value b : ℕ) (bs : List ℕ) → b ≡ value → runs_behind len value (b ∷ bs) ≡ runs_behind (len + 1) value bs
behind_same len value b bs same = rw (eq-eqb b value same) refl

-- a byte that ends it
behind_other : (len value b : ℕ) (bs : List ℕ) → b ≢ value → runs_behind len value (b ∷ bs) ≡ record { len = len; value = value } ∷ runs_behind 1 b bs
behind_other len value b bs differ = rw (ne_eqb b value differ) refl

-- further runs are a plus and runs
more_text-behind : (len value : ℕ) (bs : List ℕ) → more_text (runs_behind len value bs) ≡ codes "+" ++ joined (runs_behind len value bs)
more_text-behind len value [] = refl
more_text-behind len value (b ∷ bs) =
    elim (cases_Bool (b == value)) [
      | inl is ↦ rw is (more_text-behind (len + 1) value bs)
      | inr not ↦ rw not refl
    ]

pub bytes_of-behind : (len value : ℕ) (bs : List ℕ) → bytes_of (runs_behind len value bs) ≡ replicate len value ++ bs
bytes_of-behind len value [] = refl
bytes_of-behind len value (b ∷ bs) =
    elim (cases_Bool (b == value)) [
      | inl is ↦ rw is (
          bytes_of-behind (len + 1) value bs
          ∙ (ap (λ (xs : List ℕ). xs ++ bs) (sym (replicate_more len value))
          ∙ (append_assoc (replicate len value) (value ∷ []) bs
          ∙ ap (λ (x : ℕ). replicate len value ++ (x ∷ bs)) (sym (eqb-true b value is)))))
      | inr not ↦ rw not (ap (λ (xs : List ℕ). replicate len value ++ xs) (bytes_of-behind 1 b bs))
    ]

from_behind : (r : Run) (len value : ℕ) (bs : List ℕ) → 0 < r.len → r.value ≢ value → 0 < len → AreMaximalFrom r (runs_behind len value bs)
from_behind r len value [] some differ more = (some, differ, more)
from_behind r len value (b ∷ bs) some differ more =
    elim (cases_Bool (b == value)) [
      | inl is ↦ rw is (from_behind r (len + 1) value bs some differ (omega arith))
      | inr not ↦ rw not (some, differ, from_behind (record { len = len; value = value }) 1 b bs more (λ e. eqb-false b value not (sym e)) (lit< tt))
    ]

pub maximal_behind : (len value : ℕ) (bs : List ℕ) → 0 < len → AreMaximal (runs_behind len value bs)
maximal_behind len value [] some = some
maximal_behind len value (b ∷ bs) some =
    elim (cases_Bool (b == value)) [
      | inl is ↦ rw is (maximal_behind (len + 1) value bs (omega arith))
      | inr not ↦ rw not (from_behind (record { len = len; value = value }) 1 b bs some (λ e. eqb-false b value not (sym e)) (lit< tt))
    ]

one_behind : (len value : ℕ) (bs : List ℕ) → list_all (λ b. b == value) bs ≡ true → runs_behind len value bs ≡ record { len = len + length bs; value = value } ∷ []
one_behind len value [] all = ap (λ (n : ℕ). let one : List Run = record { len = n; value = value } ∷ [] in one) (sym (add-zero len))
one_behind len value (b ∷ bs) all =
    let parts = and_parts (b == value) (list_all (λ b. b == value) bs) all in
    let more : (len + 1) + length bs ≡ len + suc (length bs) = omega arith in
    behind_same len value b bs (eqb-true b value parts.0)
    ∙ (one_behind (len + 1) value bs parts.1 ∙ ap (λ (n : ℕ). let one : List Run = record { len = n; value = value } ∷ [] in one) more)

-- bytes that are all the first one are one run
pub one_run : (bytes : List ℕ) (first : ℕ) (rest : List ℕ) → bytes ≡ first ∷ rest → list_all (λ b. b == first) rest ≡ true → runs_text bytes ≡ run_text (record { len = length bytes; value = first })
unfolding runs_text
one_run bytes first rest is all =
    let more : 1 + length rest ≡ suc (length rest) = omega arith in
    ap (λ (bs : List ℕ). joined (runs_of bs)) is
    ∙ (ap joined (one_behind 1 first rest all)
    ∙ (append-nil (run_text (record { len = 1 + length rest; value = first }))
    ∙ (ap (λ (n : ℕ). run_text (record { len = n; value = first })) more
    ∙ ap (λ (bs : List ℕ). run_text (record { len = length bs; value = first })) (sym is))))

-- What was written, and the runs of the bytes that are left, stay the same text: at a byte of the run,
pub same_turn : (out text : List ℕ) (len value i : ℕ) (bytes : List ℕ) → i < length bytes → get_or bytes i 0 ≡ value → out ++ joined (runs_behind len value (drop i bytes)) ≡ text → out ++ joined (runs_behind (len + 1) value (drop (i + 1) bytes)) ≡ text
same_turn out text len value i bytes within same h =
    ap (λ (rs : List Run). out ++ joined rs) (sym (behind_same len value (get_or bytes i 0) (drop (i + 1) bytes) same))
    ∙ (ap (λ (bs : List ℕ). out ++ joined (runs_behind len value bs)) (sym (drop_more bytes i 0 within)) ∙ h)

-- and at another, where the run and a plus are written.
pub other_turn : (out text : List ℕ) (len value i : ℕ) (bytes : List ℕ) → i < length bytes → get_or bytes i 0 ≢ value → out ++ joined (runs_behind len value (drop i bytes)) ≡ text → ((out ++ run_text (record { len = len; value = value })) ++ codes "+") ++ joined (runs_behind 1 (get_or bytes i 0) (drop (i + 1) bytes)) ≡ text
other_turn out text len value i bytes within differ h =
    let run = run_text (record { len = len; value = value }) in
    let b = get_or bytes i 0 in
    let bs = drop (i + 1) bytes in
    append_assoc (out ++ run) (codes "+") (joined (runs_behind 1 b bs))
    ∙ (append_assoc out run (codes "+" ++ joined (runs_behind 1 b bs))
    ∙ (ap (λ (more : List ℕ). out ++ (run ++ more)) (sym (more_text-behind 1 b bs))
    ∙ (ap (λ (rs : List Run). out ++ joined rs) (sym (behind_other len value b bs differ))
    ∙ (ap (λ (left : List ℕ). out ++ joined (runs_behind len value left)) (sym (drop_more bytes i 0 within)) ∙ h))))
