-- The last of several lists.
use Rattle.std.proofs.Common.{◌≡◌, ℕ, zero, suc, ◌+◌, ◌-◌, ◌<◌, List, [], ◌∷◌, ◌++◌, length, get_or, refl, sym, ap, ◌∙◌, arith, Some, slice_get, Result, Ok, Err, OnOk}
use Rattle.std.specs.List.{slice_set}
use Rattle.line_grammar.specs.calls.Programs.{pushed_last, last_length}

pub last_of : {A : Type 0} (ts : List (List A)) (t : List A) (i : ℕ) → i + 1 ≡ length ts → slice_get ts i ≡ Some t → length t ≡ last_length ts
last_of [] t i e h = absurd (omega (arith, e))
last_of (u ∷ []) t zero e h = let same : u ≡ t = cc in ap length (sym same)
last_of (u ∷ []) t (suc i) e h = absurd (omega (arith, e))
last_of (u ∷ v ∷ ts) t zero e h = absurd (omega (arith, e))
last_of (u ∷ v ∷ ts) t (suc i) e h = last_of (v ∷ ts) t i (omega (arith, e)) h

pub set_last : {A : Type 0} (ts : List (List A)) (d : List A) (x : A) (i : ℕ) → i + 1 ≡ length ts → slice_set ts i (get_or ts i d ++ x ∷ []) ≡ pushed_last ts x
set_last [] d x i e = absurd (omega (arith, e))
set_last (t ∷ []) d x zero e = refl
set_last (t ∷ []) d x (suc i) e = absurd (omega (arith, e))
set_last (t ∷ u ∷ ts) d x zero e = absurd (omega (arith, e))
set_last (t ∷ u ∷ ts) d x (suc i) e = ap (λ l. t ∷ l) (set_last (u ∷ ts) d x i (omega (arith, e)))

len_here : {A : Type 0} (ts : List (List A)) (t : List A) → Some t ≡ slice_get ts (length ts - 1) → length t ≡ last_length ts
len_here [] t h = cc
len_here (u ∷ ts) t h = last_of (u ∷ ts) t (length (u ∷ ts) - 1) (omega arith) (sym h)

pub len_said : {A : Type 0} (ts old : List (List A)) (t : List A) → ts ≡ old → Some t ≡ slice_get ts (length ts - 1) → length t ≡ last_length old
len_said ts old t same h = len_here ts t h ∙ ap last_length same

pub push_said : {A E : Type 0} (r : Result Unit E) (ts old : List (List A)) (d thread next : List A) (n : ℕ) (x : A) → ts ≡ old → n ≡ length ts → 0 < length old → thread ≡ get_or ts (n - 1) d
    → OnOk r (next ≡ thread ++ x ∷ []) → OnOk r (slice_set ts (n - 1) next ≡ pushed_last old x)
push_said (Ok u) ts old d thread next n x same counted some here pushed =
    let size : length ts ≡ length old = ap length same in
    ap (slice_set ts (n - 1)) (pushed ∙ ap (λ t. t ++ x ∷ []) here) ∙ set_last ts d x (n - 1) (omega (arith, counted, some, size)) ∙ ap (λ l. pushed_last l x) same
push_said (Err e) ts old d thread next n x same counted some here pushed = tt
