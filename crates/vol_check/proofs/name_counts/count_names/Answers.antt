use Rattle.std.proofs.Common.{◌≡◌, ◌==◌, ℕ, List, ap, arith}
use Rattle.std.specs.List.{count_by}
use Rattle.std.specs.Map.{values_of}
use Rattle.vol_check.proofs.name_counts.count_names.Goals as goal

pub returns-clause-counts : goal.returns-clause-counts
returns-clause-counts c birth inside =
    let none : count_by (λ b. b == birth) (values_of c.loop-birth.birth-iterator) ≡ 0 = ap (λ (names : List (List ℕ × ℕ)). count_by (λ b. b == birth) (values_of names)) c.in-None.ensures.steps.0 in
    let all = c.loop-birth.invariant.counted birth inside in
    omega (arith, none, all)
