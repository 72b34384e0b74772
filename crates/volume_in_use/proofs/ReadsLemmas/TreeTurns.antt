-- The tree of a volume, a body or a node more.
use Rattle.std.proofs.Common.{◌≡◌, ◌<◌, ℕ, zero, suc, ◌+◌, List, [], ◌∷◌, ◌++◌, length, drop, get_or, refl, sym, ap, subst, ◌∙◌, arith, add-one}
use Rattle.std.specs.List.Sorted.{IsStrictlySortedBy}
use Rattle.std.specs.Map.{keys_of}
use Rattle.std.specs.Ordering.{nat_cmp}
use Rattle.std.proofs.lemmas.Cmp.{nat_cmp_total}
use Rattle.tree_model.specs.declared.node.Node.{Node}
use Rattle.tree_model.specs.Maps.{put_number}
use Rattle.tree_model.proofs.Entries.{copy_turn}
use Rattle.volume_ops.specs.declared.found.Mapped.{Mapped}
use Rattle.volume_ops.specs.Volume.{disk_of, bodies_of}
use Rattle.volume_model.specs.declared.placed.Placed.{Placed}
use Rattle.volume_model.specs.Trees.{node_now, tree_now}
use Rattle.volume_model.specs.Volume.{IsRising}
use Rattle.volume_model.specs.laws.Indexed.{keys_bodies}
use Rattle.volume_steps.proofs.TreeSteps.{tree_in_order}

drop_first : (xs : List Mapped) (at : ℕ) (d : Mapped) → at < length xs → drop at xs ≡ get_or xs at d ∷ drop (at + 1) xs
drop_first xs at d less = rw add-one (by xs at less)
  where
    by : (xs : List Mapped) (at : ℕ) → at < length xs → drop at xs ≡ get_or xs at d ∷ drop (suc at) xs
    by [] at less = absurd (omega arith)
    by (x ∷ xs) zero less = refl
    by (x ∷ xs) (suc at) less = by xs at (omega arith)

pub body_turn : (blocks : List (List ℕ)) (items zones : List Mapped) → items ≡ zones → IsRising zones → (at : ℕ) (d : Mapped) → at < length items → (bodies now : List (ℕ × List ℕ)) (body : List ℕ) →
    body ≡ disk_of blocks (get_or items at d).zone → bodies ++ bodies_of blocks (drop at zones) ≡ bodies_of blocks zones → now ≡ put_number bodies (get_or items at d).index body →
    now ++ bodies_of blocks (drop (at + 1) zones) ≡ bodies_of blocks zones
body_turn blocks items zones same rising at d less bodies now body body_is so_far put =
    copy_turn nat_cmp_total (bodies_of blocks zones) bodies (bodies_of blocks (drop at zones)) (bodies_of blocks (drop (at + 1) zones)) now (get_or items at d).index (get_or items at d).index body
    (subst (IsStrictlySortedBy nat_cmp) (sym (keys_bodies blocks zones)) rising) so_far next refl put
  where
    next : bodies_of blocks (drop at zones) ≡ ((get_or items at d).index, body) ∷ bodies_of blocks (drop (at + 1) zones)
    next =
        ap (bodies_of blocks) (drop_first zones at d (subst (λ xs. at < length xs) same less))
        ∙ (ap (λ xs. ((get_or xs at d).index, disk_of blocks (get_or xs at d).zone) ∷ bodies_of blocks (drop (at + 1) zones)) (sym same)
        ∙ ap (λ b. ((get_or items at d).index, b) ∷ bodies_of blocks (drop (at + 1) zones)) (sym body_is))

-- ---- nodes

pub tree_first : (blocks : List (List ℕ)) (k : ℕ) (p : Placed) (rest : List (ℕ × Placed)) → tree_now blocks ((k, p) ∷ rest) ≡ (k, node_now blocks p) ∷ tree_now blocks rest
unfolding tree_now
tree_first blocks k p rest = refl

pub tree_none : (blocks : List (List ℕ)) → tree_now blocks [] ≡ []
unfolding tree_now
tree_none blocks = refl

pub node_turn : (blocks : List (List ℕ)) (nodes left rest : List (ℕ × Placed)) (k : ℕ) (p : Placed) (tree now : List (ℕ × Node)) (node : Node) → IsStrictlySortedBy nat_cmp (keys_of nodes) →
    left ≡ (k, p) ∷ rest → node ≡ node_now blocks p → tree ++ tree_now blocks left ≡ tree_now blocks nodes → now ≡ put_number tree k node → now ++ tree_now blocks rest ≡ tree_now blocks nodes
node_turn blocks nodes left rest k p tree now node sorted next node_is so_far put =
    copy_turn nat_cmp_total (tree_now blocks nodes) tree (tree_now blocks left) (tree_now blocks rest) now k k node (tree_in_order blocks nodes sorted) so_far
    (ap (tree_now blocks) next ∙ (tree_first blocks k p rest ∙ ap (λ n. (k, n) ∷ tree_now blocks rest) (sym node_is))) refl put
