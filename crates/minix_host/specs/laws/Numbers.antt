-- Each node was born before the number that a call has, so a call leaves a plain tree plain.
use Rattle.std.specs.Prelude.{◌≡◌, ℕ, ◌+◌, ◌<◌, ◌≤◌, nat_lt, Bool, true, false, if◌then◌else◌, List, [], ◌∷◌, Some, refl}
use Rattle.std.proofs.Common.{inl, inr, arith}
use Rattle.std.proofs.lemmas.Bool.{cases_Bool}
use Rattle.std.proofs.lemmas.Option.{none-some}
use Rattle.std.specs.BTreeMap.{is_at}
use Rattle.std.specs.Ordering.{nat_cmp}
use Rattle.blk_base.specs.Members.{In}
use Rattle.tree_model.specs.declared.call.Call.{Call}
use Rattle.tree_model.specs.declared.call.Room.{Room}
use Rattle.tree_model.specs.declared.node.Node.{Node}
use Rattle.tree_model.specs.Calls.{Tree, max, outcome, tree_from, tree_after}
use Rattle.tree_model.specs.Maps.{at_number}
use Rattle.tree_model.specs.laws.MapsLaws.{number_same}
use Rattle.tree_model.specs.Plain.{IsPlain, AreBornBefore}
use Rattle.tree_model.proofs.PlainTrees.{call_plain}
use Rattle.minix_host.specs.Numbers.{next_birth, number_in}

pub max_left : (a b : ℕ) → a ≤ max a b
max_left a b = by (nat_lt a b) refl
  where
    by : (t : Bool) → nat_lt a b ≡ t → a ≤ (if t then b else a)
    by true e = grind arith
    by false e = grind arith

pub max_right : (a b : ℕ) → b ≤ max a b
max_right a b = by (nat_lt a b) refl
  where
    by : (t : Bool) → nat_lt a b ≡ t → b ≤ (if t then b else a)
    by true e = grind arith
    by false e = grind arith

pub max_of_less : (a b : ℕ) → b ≤ a → max a b ≡ a
max_of_less a b le = by (nat_lt a b) refl
  where
    by : (t : Bool) → nat_lt a b ≡ t → (if t then b else a) ≡ a
    by true e = grind arith
    by false e = refl

pub born_below : (tree : List (ℕ × Node)) (birth : ℕ) (node : Node) → at_number tree birth ≡ Some node → birth < next_birth tree
unfolding next_birth
born_below [] birth node e = absurd (none-some node e)
born_below (x ∷ xs) birth node e = elim (cases_Bool (is_at (nat_cmp birth) x.0)) [
  | inl t ↦ (let same = number_same birth x.0 t in let le = max_left (x.0 + 1) (next_birth xs) in omega arith)
  | inr f ↦ (let rest = born_below xs birth node (rw f at e) in let le = max_right (x.0 + 1) (next_birth xs) in omega arith)
]

-- each node was born before the number that a call has
pub born_before : (tree : Tree) (n : ℕ) → AreBornBefore (number_in tree n) tree
born_before tree n birth node e = (let low = born_below tree birth node e in let le = max_right n (next_birth tree) in omega arith)

pub born_before_next : (tree : Tree) → AreBornBefore (next_birth tree) tree
born_before_next tree birth node e = born_below tree birth node e

-- where each node was born before a number, no less than the least such number is needed
pub next_least : (tree : Tree) (n : ℕ) → ((e : ℕ × Node) → In e tree → e.0 < n) → next_birth tree ≤ n
unfolding next_birth
next_least [] n h = omega arith
next_least (x ∷ xs) n h =
    let here = h x (inl refl) in
    let rest = next_least xs n (λ e i. h e (inr i)) in
    by (nat_lt (x.0 + 1) (next_birth xs)) here rest
  where
    by : (t : Bool) → x.0 < n → next_birth xs ≤ n → (if t then next_birth xs else x.0 + 1) ≤ n
    by true here rest = rest
    by false here rest = omega arith

-- A call leaves a plain tree plain.
pub outcome_plain : (room : Room) (tree : Tree) (n : ℕ) (c : Call) → IsPlain tree → IsPlain (tree_from tree (outcome room tree (number_in tree n) c))
unfolding tree_after
outcome_plain room tree n c plain = call_plain room tree (number_in tree n) c plain (born_before tree n)
