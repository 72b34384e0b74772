-- How many inodes the walk has not met: the numbers from 1 on.
use Rattle.std.proofs.Common.{◌≡◌, ℕ, zero, suc, ◌+◌, ◌<◌, Bool, false, List, [], ◌∷◌, ◌∙◌, length, arith, add-one, zero-add}
use Rattle.volume_ops.specs.Marks.{no_marks, is_marked, marked, unmet}
use Rattle.volume_ops.specs.laws.MarksLaws.{unmet-no_marks, unmet-marked}

abbrev pub to_meet : List Bool → ℕ
to_meet [] = 0
to_meet (b ∷ bs) = unmet bs

pub to_meet-marked : (bs : List Bool) (k : ℕ) → 0 < k → k < length bs → is_marked bs k ≡ false → to_meet bs ≡ suc (to_meet (marked bs k))
to_meet-marked [] k some h e = absurd (omega arith)
to_meet-marked (b ∷ bs) zero some h e = absurd (omega arith)
to_meet-marked (b ∷ bs) (suc k) some h e = unmet-marked bs k (omega arith) e ∙ add-one (unmet (marked bs k))

-- the root is met first
pub to_meet-root : (n : ℕ) → to_meet (marked (no_marks (suc n + 1)) 1) ≡ n
to_meet-root n = rw add-one (zero-add (unmet (no_marks n)) ∙ unmet-no_marks n)
