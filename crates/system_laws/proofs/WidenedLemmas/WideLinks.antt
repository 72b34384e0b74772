-- The tree of a widened volume has the links that the tree had.
use Rattle.std.specs.Prelude.{◌≡◌, ℕ, ◌+◌, List, [], ◌∷◌, Option, Some, None, refl}
use Rattle.std.specs.List.{sum_by}
use Rattle.std.specs.Map.{values_of}
use Rattle.std.proofs.Common.{sym, ap, ◌∙◌, arith}
use Rattle.std.proofs.lemmas.List.Sums.{sum_by-cons}
use Rattle.std.proofs.lemmas.Option.{none-some}
use Rattle.tree_model.specs.declared.node.Node.{Node}
use Rattle.tree_model.specs.declared.node.Node.TheVariants as nodes
use Rattle.tree_model.specs.declared.node.Directory.{Directory}
use Rattle.tree_model.specs.Maps.{at_number}
use Rattle.tree_model.specs.Plain.{names_in_node, names_to}
use Rattle.tree_model.specs.laws.Sums.{count_by_same}
use Rattle.tree_model.specs.Trees.{is_directory, directory_links}
use Rattle.vol_check.specs.CleanTrees.{HasOtherNode}
use Rattle.widening.specs.WideTrees.{wide_directory, wide_node, wide_tree}
use Rattle.widening.proofs.WideTreeMaps.{wide_at, narrow_at}

same_kind : (n : Node) → is_directory (Some (wide_node n)) ≡ is_directory (Some n)
same_kind (nodes.Directory d) = refl
same_kind (nodes.File f) = refl
same_kind (nodes.Other mode) = refl

none_wide : (tree : List (ℕ × Node)) (birth : ℕ) → at_number tree birth ≡ None → (o : Option Node) → at_number (wide_tree tree) birth ≡ o → o ≡ None
none_wide tree birth none None is = refl
none_wide tree birth none (Some n) is = (let x = narrow_at tree birth n is in absurd (none-some x.0 (sym none ∙ x.1)))

kind_at : (tree : List (ℕ × Node)) (birth : ℕ) (o : Option Node) → at_number tree birth ≡ o → is_directory (at_number (wide_tree tree) birth) ≡ is_directory (at_number tree birth)
kind_at tree birth (Some n) is = ap is_directory (wide_at tree birth n is) ∙ (same_kind n ∙ ap is_directory (sym is))
kind_at tree birth None is = ap is_directory (none_wide tree birth is (at_number (wide_tree tree) birth) refl) ∙ ap is_directory (sym is)

pub same_links : (tree : List (ℕ × Node)) (d : Directory) → directory_links (wide_tree tree) (wide_directory d) ≡ directory_links tree d
same_links tree d =
    ap (λ n. 2 + n)
    (count_by_same (λ (e : List ℕ × ℕ). is_directory (at_number (wide_tree tree) e.1)) (λ (e : List ℕ × ℕ). is_directory (at_number tree e.1)) d.names
    (λ (e : List ℕ × ℕ). kind_at tree e.1 (at_number tree e.1) refl))

names_in : (birth : ℕ) (n : Node) → names_in_node birth (wide_node n) ≡ names_in_node birth n
names_in birth (nodes.Directory d) = refl
names_in birth (nodes.File f) = refl
names_in birth (nodes.Other mode) = refl

sums : (birth : ℕ) (tree : List (ℕ × Node)) → sum_by (names_in_node birth) (values_of (wide_tree tree)) ≡ sum_by (names_in_node birth) (values_of tree)
sums birth [] = refl
sums birth (e ∷ tree) =
    let one = sum_by-cons (names_in_node birth) (wide_node e.1) (values_of (wide_tree tree)) in
    let two = sum_by-cons (names_in_node birth) e.1 (values_of tree) in
    let rest = sums birth tree in
    let same = names_in birth e.1 in
    omega (arith, one, two, rest, same)

pub same_names : (tree : List (ℕ × Node)) (birth : ℕ) → names_to (wide_tree tree) birth ≡ names_to tree birth
unfolding names_to
same_names tree birth = sums birth tree

from_other : (old : Node) (mode : ℕ) → wide_node old ≡ nodes.Other mode → old ≡ nodes.Other mode
from_other (nodes.Directory d) mode is = absurd (let e : nodes.Directory (wide_directory d) ≡ nodes.Other mode = is in cc)
from_other (nodes.File f) mode is = absurd (let e : nodes.File f ≡ nodes.Other mode = is in cc)
from_other (nodes.Other other) mode is = is

pub narrow_other : (tree : List (ℕ × Node)) (birth mode : ℕ) → at_number (wide_tree tree) birth ≡ Some (nodes.Other mode) → at_number tree birth ≡ Some (nodes.Other mode)
narrow_other tree birth mode at = let x = narrow_at tree birth (nodes.Other mode) at in x.1 ∙ ap Some (from_other x.0 mode x.2)

pub wide_other : (tree : List (ℕ × Node)) → HasOtherNode tree → HasOtherNode (wide_tree tree)
wide_other tree other = (other.0, other.1, wide_at tree other.0 (nodes.Other other.1) other.2)
