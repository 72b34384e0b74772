-- The names of a node are those in the directories of all births.
use Rattle.std.specs.Prelude.{◌≡◌, ◌≢◌, ℕ, zero, suc, ◌+◌, ◌<◌, ◌≤◌, min, List, [], ◌∷◌, Option, Some, None, unwrap_or, option_map, refl}
use Rattle.std.specs.Ordering.{nat_cmp}
use Rattle.std.proofs.Common.{sym, ap, subst, ◌∙◌, ⊎_elim, arith}
use Rattle.std.proofs.lemmas.Bool.{cases_eq}
use Rattle.std.proofs.lemmas.Cmp.{nat_cmp_total}
use Rattle.std.proofs.lemmas.Option.{none-some}
use Rattle.tree_model.specs.declared.node.Node.{Node}
use Rattle.tree_model.specs.Maps.{at_number, without_number}
use Rattle.tree_model.specs.Plain.{names_in_node, names_to}
use Rattle.tree_model.specs.laws.MapOrder.{InOrder, in_order_without, at_without_here, at_without_apart}
use Rattle.tree_model.specs.laws.MapsLaws.{number_here, number_same}
use Rattle.tree_model.proofs.Plain.{names_to_without}
use Rattle.volume_ops.proofs.TreeUnique.{found_first}
use Rattle.vol_check.specs.code.Names.{names_by, names_below}

abbrev pub AllBelow : ℕ → List (ℕ × Node) → Type 0
AllBelow n tree = (birth : ℕ) (node : Node) → at_number tree birth ≡ Some node → birth < n

same_below : (tree other : List (ℕ × Node)) (n c : ℕ) → ((birth : ℕ) → birth < n → at_number tree birth ≡ at_number other birth) → names_below tree n c ≡ names_below other n c
same_below tree other zero c same = refl
same_below tree other (suc n) c same =
    let rest = same_below tree other n c (λ birth low. same birth (omega (arith, low))) in
    let here : names_by tree n c ≡ names_by other n c = ap (λ o. unwrap_or (option_map (names_in_node c) o) 0) (same n (omega arith)) in
    omega (arith, rest, here)

less_below : (n : ℕ) (tree : List (ℕ × Node)) → InOrder tree → AllBelow (suc n) tree → AllBelow n (without_number tree n)
less_below n tree order all birth node at =
    ⊎_elim
    (λ here. absurd (none-some node (sym (at_without_here tree n order) ∙ (ap (at_number (without_number tree n)) (sym here) ∙ at))))
    (λ apart. let low = all birth node (sym (at_without_apart tree n birth order apart) ∙ at) in omega (arith, low, apart))
    (cases_eq birth n)

none_below : (tree : List (ℕ × Node)) (c : ℕ) → AllBelow 0 tree → names_to tree c ≡ 0
unfolding names_to
none_below [] c all = refl
none_below (e ∷ es) c all = let low = all e.0 e.1 (found_first nat_cmp nat_cmp_total number_here number_same e es) in absurd (omega (arith, low))

pub names_are_below : (n : ℕ) (tree : List (ℕ × Node)) (c : ℕ) → InOrder tree → AllBelow n tree → names_below tree n c ≡ names_to tree c
names_are_below zero tree c order all = sym (none_below tree c all)
names_are_below (suc n) tree c order all =
    let rest = names_are_below n (without_number tree n) c (in_order_without tree n order) (less_below n tree order all) in
    let same = same_below tree (without_number tree n) n c (λ birth low. sym (at_without_apart tree n birth order (λ e. omega (arith, low, e)))) in
    let one = names_to_without tree n c in
    omega (arith, rest, same, one)
