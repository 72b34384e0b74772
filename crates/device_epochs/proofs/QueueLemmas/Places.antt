-- The commands of a ring.
use Rattle.std.proofs.Common.{◌≡◌, ℕ, zero, suc, ◌+◌, ◌<◌, ◌≤◌, ◌⊎◌, not, eqb, ltb, List, [], ◌∷◌, ◌++◌, length, get_or, set, refl, ap, ◌∙◌, subst, arith, inl, inr, get_or-set_same, get_or-set_other}
use Rattle.std.proofs.lemmas.Bool.{lt-ltb, le-ltb, ne_eqb, eq-eqb, cases_lt}
use Rattle.std.proofs.lemmas.List.{length-set}
use Rattle.order_model.specs.declared.command.Command.{Command}
use Rattle.order_model.specs.Single.{blank_command}
use Rattle.device_epochs.specs.queue.code.Places.{wrapped, held_from}

pub length-held : (slots : List Command) (place count : ℕ) → length (held_from slots place count) ≡ count
length-held slots place zero = refl
length-held slots place (suc count) = ap suc (length-held slots (wrapped (place + 1) (length slots)) count)

pub is_full-is : (slots : List Command) (place count told capacity : ℕ) → count ≤ capacity → told ≡ capacity → eqb count told ≡ not (ltb (length (held_from slots place count)) capacity)
is_full-is slots place count told capacity few len =
    let held = length-held slots place count in
    elim (cases_lt count capacity) [
      | inl lt ↦ (let a = lt-ltb count capacity lt in let b = ne_eqb count capacity (λ same. omega arith) in rw (held, len, a, b) refl)
      | inr ge ↦ (let a = le-ltb count capacity ge in let b = eq-eqb count capacity (omega arith) in rw (held, len, a, b) refl)
    ]

-- ---- places

-- the place of n, a number below twice the capacity
abbrev WrapsTo : ℕ → ℕ → ℕ → Type 0
WrapsTo n capacity place = ((n < capacity) × (place ≡ n)) ⊎ ((capacity ≤ n) × (place + capacity ≡ n))

wrapped-is : (n capacity : ℕ) → WrapsTo n capacity (wrapped n capacity)
wrapped-is n capacity =
    elim (cases_lt n capacity) [
      | inl lt ↦ inl (lt, (let is = lt-ltb n capacity lt in rw is refl))
      | inr ge ↦ inr (ge, (let is = le-ltb n capacity ge in rw is (omega arith)))
    ]

pub wrapped-within : (n capacity : ℕ) → n < capacity + capacity → wrapped n capacity < capacity
wrapped-within n capacity lt =
    elim (wrapped-is n capacity) [
      | inl h ↦ omega (arith, h.0, h.1)
      | inr h ↦ omega (arith, h.0, h.1)
    ]

-- the place of the next command, once so many are held from a place on
abbrev IsBehind : ℕ → ℕ → ℕ → ℕ → Type 0
IsBehind capacity place count next = (next ≡ place + count) ⊎ (next + capacity ≡ place + count)

behind-wrapped : (capacity place count : ℕ) → IsBehind capacity place count (wrapped (place + count) capacity)
behind-wrapped capacity place count =
    elim (wrapped-is (place + count) capacity) [
      | inl h ↦ inl h.1
      | inr h ↦ inr h.1
    ]

behind-after : (capacity place count next : ℕ) → place < capacity → next < capacity → IsBehind capacity place (suc count) next → IsBehind capacity (wrapped (place + 1) capacity) count next
behind-after capacity place count next lt within is =
    elim (wrapped-is (place + 1) capacity) [
      | inl h ↦ elim is [
        | inl straight ↦ inl (omega (arith, h.0, h.1))
        | inr round ↦ inr (omega (arith, h.0, h.1))
      ]
      | inr h ↦ elim is [
        | inl straight ↦ absurd (omega (arith, h.0, h.1))
        | inr round ↦ inl (omega (arith, h.0, h.1))
      ]
    ]

-- ---- a command is pushed

held-behind : (slots : List Command) (c : Command) (place count next : ℕ) → place < length slots → next < length slots → count < length slots → IsBehind (length slots) place count next
    → held_from (set slots next c) place (suc count) ≡ held_from slots place count ++ c ∷ []
held-behind slots c place zero next lt within few is =
    let same : next ≡ place = elim is [ inl straight ↦ omega arith | inr round ↦ absurd (omega arith) ] in
    ap (λ d. d ∷ []) (subst (λ p. get_or (set slots next c) p blank_command ≡ c) same (get_or-set_same slots next c blank_command within))
held-behind slots c place (suc count) next lt within few is =
    let after = wrapped (place + 1) (length slots) in
    let other : place ≡ next → ⊥ = λ same. elim is [ inl straight ↦ omega arith | inr round ↦ omega arith ] in
    let here = get_or-set_other slots next place c blank_command other in
    let rest = ap (λ n. held_from (set slots next c) (wrapped (place + 1) n) (suc count)) (length-set slots next c)
    ∙ held-behind slots c after count next (wrapped-within (place + 1) (length slots) (omega arith)) within (omega arith) (behind-after (length slots) place count next lt within is) in
    (λ i. here i ∷ rest i)

pub held-pushed : (slots : List Command) (c : Command) (place count next : ℕ) → place < length slots → count < length slots → next ≡ wrapped (place + count) (length slots)
    → held_from (set slots next c) place (count + 1) ≡ held_from slots place count ++ c ∷ []
held-pushed slots c place count next lt few is =
    let one : count + 1 ≡ suc count = omega arith in
    let within = wrapped-within (place + count) (length slots) (omega arith) in
    rw (is, one) (held-behind slots c place count (wrapped (place + count) (length slots)) lt within few (behind-wrapped (length slots) place count))
