-- Each node of a volume was born before the number that a call on it has.
use Rattle.std.specs.Prelude.{◌≡◌, ℕ, ◌+◌, ◌<◌, ◌≤◌, nat_lt, Bool, true, false, if◌then◌else◌, List, [], ◌∷◌, Some, refl}
use Rattle.std.proofs.Common.{inl, inr, arith}
use Rattle.std.proofs.lemmas.Bool.{cases_Bool}
use Rattle.std.proofs.lemmas.Option.{none-some}
use Rattle.std.specs.BTreeMap.{is_at}
use Rattle.std.specs.Ordering.{nat_cmp}
use Rattle.tree_model.specs.declared.node.Node.{Node}
use Rattle.tree_model.specs.Calls.{Tree, max}
use Rattle.tree_model.specs.Maps.{at_number}
use Rattle.tree_model.specs.laws.MapsLaws.{number_same}
use Rattle.tree_model.specs.Plain.{AreBornBefore}
use Rattle.volume_steps.specs.Numbers.{next_birth, number_in}

max_above : (a b : ℕ) → (a ≤ max a b) × (b ≤ max a b)
max_above a b = by (nat_lt a b) refl
  where
    by : (t : Bool) → nat_lt a b ≡ t → (a ≤ (if t then b else a)) × (b ≤ (if t then b else a))
    by true e = (grind arith, grind arith)
    by false e = (grind arith, grind arith)

born_below : (tree : List (ℕ × Node)) (birth : ℕ) (node : Node) → at_number tree birth ≡ Some node → birth < next_birth tree
unfolding next_birth
born_below [] birth node e = absurd (none-some node e)
born_below (x ∷ xs) birth node e = elim (cases_Bool (is_at (nat_cmp birth) x.0)) [
  | inl t ↦ (let same = number_same birth x.0 t in let le = (max_above (x.0 + 1) (next_birth xs)).0 in omega arith)
  | inr f ↦ (let rest = born_below xs birth node (rw f at e) in let le = (max_above (x.0 + 1) (next_birth xs)).1 in omega arith)
]

pub born_before : (tree : Tree) (n : ℕ) → AreBornBefore (number_in tree n) tree
born_before tree n birth node e = (let low = born_below tree birth node e in let le = (max_above n (next_birth tree)).1 in omega arith)
