-- Laws of marks by number.
use Rattle.std.specs.Prelude.{◌≡◌, ◌≢◌, ℕ, zero, suc, ◌+◌, ◌<◌, Bool, true, false, List, [], ◌∷◌, length, refl}
use Rattle.std.proofs.Common.{sym, ap, ◌∙◌, arith}
use Rattle.std.proofs.lemmas.Bool.{true≢false}
use Rattle.std.proofs.lemmas.List.{length-set, length-replicate, get_or-set_same, get_or-set_other}
use Rattle.volume_ops.specs.Marks.{no_marks, is_marked, marked, unmet}

pub is_marked_same : (marks : List Bool) (k : ℕ) → k < length marks → is_marked (marked marks k) k ≡ true
is_marked_same marks k within = get_or-set_same marks k true false within

pub is_marked_other : (marks : List Bool) (k j : ℕ) → j ≢ k → is_marked (marked marks k) j ≡ is_marked marks j
is_marked_other marks k j apart = get_or-set_other marks k j true false apart

-- a mark stays
pub is_marked_kept : (marks : List Bool) (k j : ℕ) → is_marked marks j ≡ true → is_marked (marked marks k) j ≡ true
is_marked_kept [] k j h = h
is_marked_kept (b ∷ marks) zero zero h = refl
is_marked_kept (b ∷ marks) zero (suc j) h = h
is_marked_kept (b ∷ marks) (suc k) zero h = h
is_marked_kept (b ∷ marks) (suc k) (suc j) h = is_marked_kept marks k j h

-- a new mark is the one that was set
pub is_marked_new : (marks : List Bool) (k j : ℕ) → is_marked marks j ≡ false → is_marked (marked marks k) j ≡ true → j ≡ k
is_marked_new [] k j f t = absurd (true≢false (sym t ∙ f))
is_marked_new (b ∷ marks) zero zero f t = refl
is_marked_new (b ∷ marks) zero (suc j) f t = absurd (true≢false (sym t ∙ f))
is_marked_new (b ∷ marks) (suc k) zero f t = absurd (true≢false (sym t ∙ f))
is_marked_new (b ∷ marks) (suc k) (suc j) f t = ap suc (is_marked_new marks k j f t)

pub length-marked : (marks : List Bool) (k : ℕ) → length (marked marks k) ≡ length marks
length-marked marks k = length-set marks k true

pub no_mark : (n k : ℕ) → is_marked (no_marks n) k ≡ false
no_mark zero k = refl
no_mark (suc n) zero = refl
no_mark (suc n) (suc k) = no_mark n k

pub length-no_marks : (n : ℕ) → length (no_marks n) ≡ n
length-no_marks n = length-replicate n false

-- ---- how many are left

pub unmet-no_marks : (n : ℕ) → unmet (no_marks n) ≡ n
unmet-no_marks zero = refl
unmet-no_marks (suc n) = let h = unmet-no_marks n in omega arith

pub unmet-marked : (marks : List Bool) (k : ℕ) → k < length marks → is_marked marks k ≡ false → unmet marks ≡ unmet (marked marks k) + 1
unmet-marked [] k within f = absurd (omega arith)
unmet-marked (true ∷ marks) zero within f = absurd (true≢false f)
unmet-marked (false ∷ marks) zero within f = omega arith
unmet-marked (true ∷ marks) (suc k) within f = let h = unmet-marked marks k (omega arith) f in omega arith
unmet-marked (false ∷ marks) (suc k) within f = let h = unmet-marked marks k (omega arith) f in omega arith
