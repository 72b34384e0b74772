-- The zones that are used, up to one more.
use Rattle.std.proofs.Common.{ℕ, ◌<◌, ◌+◌, ◌↔◌, List, [], ◌∷◌, ◌++◌, sym, subst, arith, ⊎_elim}
use Rattle.std.proofs.lemmas.Bool.{cases_eq}
use Rattle.blk_base.specs.Members.{In}
use Rattle.blk_base.specs.laws.Members.{In-push, In-push_left, In-push_cases}

-- those below `n` among the zones are the used ones
abbrev pub AreUsedTo : (ℕ → Type 0) → List ℕ → ℕ → Type 0
AreUsedTo Used zones n = ((z : ℕ) → In z zones → z < n) × ((z : ℕ) → z < n → In z zones ↔ Used z)

pub zone_pushed : (Used : ℕ → Type 0) (zones : List ℕ) (n : ℕ) → Used n → AreUsedTo Used zones n → AreUsedTo Used (zones ++ n ∷ []) (n + 1)
zone_pushed Used zones n used h = (
  (λ z i. ⊎_elim (λ j. let low = h.0 z j in omega arith) (λ e. omega arith) (In-push_cases zones n z i)),
  (λ z less. (
    (λ i. ⊎_elim (λ j. (h.1 z (h.0 z j)).0 j) (λ e. subst Used e used) (In-push_cases zones n z i)),
    (λ u. ⊎_elim (λ e. subst (λ z. In z (zones ++ n ∷ [])) (sym e) (In-push zones n)) (λ apart. In-push_left zones n z ((h.1 z (omega arith)).1 u)) (cases_eq z n)),
  )),
)

pub zone_passed : (Used : ℕ → Type 0) (zones : List ℕ) (n : ℕ) → (Used n → ⊥) → AreUsedTo Used zones n → AreUsedTo Used zones (n + 1)
zone_passed Used zones n out h = (
  (λ z i. let low = h.0 z i in omega arith),
  (λ z less. (
    (λ i. (h.1 z (h.0 z i)).0 i),
    (λ u. ⊎_elim (λ e. absurd (out (subst Used e u))) (λ apart. (h.1 z (omega arith)).1 u) (cases_eq z n)),
  )),
)
