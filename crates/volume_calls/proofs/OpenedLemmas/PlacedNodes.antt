-- The nodes that a walk found, with their places, are those of the image.
use Rattle.std.proofs.Common.{◌≡◌, ◌≢◌, ◌<◌, ◌≤◌, ℕ, ◌^◌, ◌⊎◌, List, [], ◌∷◌, Option, Some, None, refl, sym, ap, ◌∙◌, arith, inl, inr, ⊎_elim}
use Rattle.std.specs.List.Sorted.{IsStrictlySortedBy}
use Rattle.std.specs.Ordering.{nat_cmp}
use Rattle.std.proofs.lemmas.Bool.{cases_eq, ne_eqb}
use Rattle.std.proofs.lemmas.Cmp.{nat_cmp_total}
use Rattle.std.proofs.lemmas.Option.{none-some}
use Rattle.blk_base.specs.Members.{In}
use Rattle.minix_layout.specs.declared.division.Geometry.{Geometry}
use Rattle.minix_layout.specs.declared.inode.Inode.{Inode}
use Rattle.tree_model.specs.declared.node.Node.{Node}
use Rattle.tree_model.specs.Maps.{at_number, put_number}
use Rattle.tree_model.specs.laws.MapsLaws.{number_here, number_same}
use Rattle.tree_model.specs.laws.MapOrder.{InOrder, in_order_put, at_put_cases}
use Rattle.volume_ops.specs.declared.found.Found.{Found}
use Rattle.volume_ops.specs.declared.found.Found.TheVariants as found
use Rattle.volume_ops.specs.declared.found.FoundNode.{FoundNode}
use Rattle.volume_ops.specs.Places.{inode_of_birth}
use Rattle.volume_ops.specs.Volume.{node_of, put_nodes, tree_found}
use Rattle.volume_ops.specs.laws.ReadsLaws.{same_Ok}
use Rattle.volume_ops.proofs.TreeUnique.{same_maps}
use Rattle.volume_model.specs.declared.placed.Placed.{Placed}
use Rattle.volume_model.specs.ImageNodes.{part_found, contents_in}
use Rattle.volume_model.specs.Plain.{inode_born}
use Rattle.volume_model.specs.Volume.{IsPart, IsStored}
use Rattle.volume_steps.proofs.TreeSteps.{tree_at}
use Rattle.volume_calls.specs.opened.code.Placing.{placed_found, put_all, HasOrder, IsNodeFound}
use Rattle.volume_calls.specs.opened.code.Read.{IsRead}

-- ---- what is put by births

module _ {X : Type 0} (f : FoundNode → X) where
  -- a node of this birth was put, and the last one stands; or none was
  record IsPut (ns : List FoundNode) (k : ℕ) (o : Option X) : Type 0 where
    node : FoundNode
    among : In node ns
    birth : node.birth ≡ k
    stands : o ≡ Some (f node)

  abbrev NotPut : List FoundNode → ℕ → Type 0
  NotPut ns k = (n : FoundNode) → In n ns → n.birth ≢ k

  at_put : (ns : List FoundNode) (es : List (ℕ × X)) (k : ℕ) → IsPut ns k (at_number (put_all f ns es) k) ⊎ (NotPut ns k × (at_number (put_all f ns es) k ≡ at_number es k))
  at_put [] es k = inr ((λ n i. absurd i), refl)
  at_put (n ∷ ns) es k =
      ⊎_elim
      (λ p. inl (record { node = p.node; among = inr p.among; birth = p.birth; stands = p.stands }))
      (λ q. ⊎_elim
      (λ same. inl (record {
        node = n;
        among = inl refl;
        birth = sym same;
        stands = q.1 ∙ at_put_cases (λ o. o ≡ Some (f n)) es n.birth (f n) k (λ e. refl) (λ apart. absurd (apart same));
      }))
      (λ apart. inr (
        (λ m i. elim i [ inl e ↦ (λ d. apart (sym d ∙ sym (ap (λ (n : FoundNode). n.birth) e))) | inr j ↦ q.0 m j ]),
        q.1 ∙ at_put_cases (λ o. o ≡ at_number es k) es n.birth (f n) k (λ e. absurd (apart e)) (λ a. refl),
      ))
      (cases_eq k n.birth))
      (at_put ns (put_number es n.birth (f n)) k)

  put_in_order : (ns : List FoundNode) (es : List (ℕ × X)) → InOrder es → InOrder (put_all f ns es)
  put_in_order [] es order = order
  put_in_order (n ∷ ns) es order = put_in_order ns (put_number es n.birth (f n)) (in_order_put es n.birth (f n) order)

tree_put : (blocks : List (List ℕ)) (ns : List FoundNode) (es : List (ℕ × Node)) → put_nodes blocks ns es ≡ put_all (λ n. node_of blocks n.found) ns es
tree_put blocks [] es = refl
tree_put blocks (n ∷ ns) es = tree_put blocks ns (put_number es n.birth (node_of blocks n.found))

none_in_order : (X : Type 0) → InOrder {X = X} []
unfolding IsStrictlySortedBy
none_in_order X = tt

-- ---- the nodes of a plain image

module _ (g : Geometry) (blocks : List (List ℕ)) (tree : List (ℕ × Node)) (r : IsRead g blocks tree) where
  abbrev Placed_nodes : List (ℕ × Placed)
  Placed_nodes = put_all (placed_found g blocks) r.found.nodes []

  abbrev Contents_nodes : List (ℕ × Placed)
  Contents_nodes = (contents_in g blocks tree).nodes

  tree_same : put_all (λ n. node_of blocks n.found) r.found.nodes [] ≡ tree
  tree_same = sym (tree_put blocks r.found.nodes []) ∙ same_Ok (put_nodes blocks r.found.nodes []) tree (sym (ap (tree_found blocks) r.is) ∙ r.tree_is)

  none_there : (k : ℕ) → at_number tree k ≡ None → at_number Contents_nodes k ≡ None
  none_there k none = by (at_number Contents_nodes k) refl
    where
      by : (o : Option Placed) → at_number Contents_nodes k ≡ o → o ≡ None
      by None e = refl
      by (Some p) e = absurd (none-some _ (sym none ∙ (ap (λ t. at_number t k) (sym r.stands_for) ∙ tree_at blocks Contents_nodes k p e)))

  same_at : (k : ℕ) → at_number Placed_nodes k ≡ at_number Contents_nodes k
  same_at k =
      ⊎_elim
      (λ p. p.stands ∙ sym (ap (at_number Contents_nodes) (sym p.birth) ∙ r.nodes p.node p.among))
      (λ q.
      let none : at_number tree k ≡ None = ap (λ t. at_number t k) (sym tree_same) ∙
      ⊎_elim (λ p. absurd (q.0 p.node p.among p.birth)) (λ s. s.1) (at_put (λ n. node_of blocks n.found) r.found.nodes [] k) in
      q.1 ∙ sym (none_there k none))
      (at_put (placed_found g blocks) r.found.nodes [] k)

  pub placed_are : put_all (placed_found g blocks) r.found.nodes [] ≡ (contents_in g blocks tree).nodes
  placed_are = same_maps nat_cmp nat_cmp_total number_here number_same Placed_nodes Contents_nodes (put_in_order (placed_found g blocks) r.found.nodes [] (none_in_order Placed)) r.stands.volume.0.in_order same_at

  -- ---- what is asked of them

  small_birth : (birth : ℕ) → inode_of_birth birth ≤ g.inodes → birth < 2 ^ 16
  small_birth birth within = elim (cases_eq birth 0) [
    | inl e ↦ omega arith
    | inr apart ↦ (let low = rw (ne_eqb birth 0 apart) at within in let few = r.sound.fits.inodes in omega arith)
  ]

  file_order : (i : Inode) (f : Found) → IsPart g blocks i (part_found g blocks i f) → HasOrder f
  file_order i (found.File f) part = part.rising
  file_order i (found.Directory d) part = tt
  file_order i (found.Other mode) part = tt

  pub found_fit : (n : FoundNode) → In n r.found.nodes → IsNodeFound n
  unfolding contents_in
  found_fit n i =
      let stored : IsStored g blocks (placed_found g blocks n) = r.stands.volume.0.each n.birth (placed_found g blocks n) (r.nodes n i) in
      record { fits = small_birth n.birth stored.within; order = file_order (inode_born g blocks n.birth) n.found stored.part }
