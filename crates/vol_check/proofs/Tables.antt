-- A table of places gives the nodes of a volume by their births.
use Rattle.std.specs.Prelude.{◌≡◌, ◌≢◌, ℕ, zero, suc, ◌+◌, ◌-◌, ◌<◌, ◌≤◌, ◌==◌, if◌then◌else◌, List, [], ◌∷◌, length, replicate, drop, get_or, slice_index_or, slice_set, is_ok, IsOk, IfOk, Option, Some, None, option_map, Result, Ok, Err, refl}
use Rattle.std.specs.List.{slice_get}
use Rattle.std.proofs.Common.{drop-cons, sym, ap, subst, ◌∙◌, inl, inr, ⊎_elim, arith}
use Rattle.std.proofs.lemmas.Bool.{false≢true, cases_eq, cases_lt, eq-eqb, ne_eqb}
use Rattle.std.proofs.lemmas.List.{length-replicate, get_or-set_same, get_or-set_other}
use Rattle.std.proofs.lemmas.Option.{none-some, slice_get_read}
use Rattle.minix_layout.specs.declared.division.Geometry.{Geometry}
use Rattle.tree_model.specs.declared.node.Node.{Node}
use Rattle.tree_model.specs.Maps.{at_number, put_number}
use Rattle.tree_model.specs.laws.MapsLaws.{at_put_number, at_put_number_apart}
use Rattle.volume_ops.specs.declared.found.FoundNode.{FoundNode}
use Rattle.volume_ops.specs.Volume.{node_of, put_nodes, tree_found, walked}
use Rattle.volume_ops.specs.VolumeTrees.{IsVolumeTree}
use Rattle.volume_ops.specs.Walk.{Walked}
use Rattle.volume_ops.specs.Zones.{Fault}
use Rattle.volume_ops.proofs.TreeUnique.{walked_tree}
use Rattle.vol_check.specs.code.Births.{nodes_in, tree_in, at_place, found_at, last_at, HasPlaces, AreBirths}
use Rattle.vol_check.proofs.Reached.{birth_within}

-- the tree has at each birth the last node of it
pub last_stands : (blocks : List (List ℕ)) (ns : List FoundNode) (tree : List (ℕ × Node)) (birth : ℕ) (old : Option FoundNode) →
    option_map (λ n. node_of blocks n.found) old ≡ at_number tree birth →
    option_map (λ n. node_of blocks n.found) (last_at ns birth old) ≡ at_number (put_nodes blocks ns tree) birth
last_stands blocks [] tree birth old same = same
last_stands blocks (n ∷ ns) tree birth old same =
    last_stands blocks ns (put_number tree n.birth (node_of blocks n.found)) birth (if n.birth == birth then Some n else old)
    (⊎_elim
    (λ here. rw (eq-eqb n.birth birth here) (sym (subst (λ b. at_number (put_number tree n.birth (node_of blocks n.found)) b ≡ Some (node_of blocks n.found)) here (at_put_number tree n.birth (node_of blocks n.found)))))
    (λ apart. rw (ne_eqb n.birth birth apart) (same ∙ sym (at_put_number_apart tree n.birth (node_of blocks n.found) birth (λ e. apart (sym e)))))
    (cases_eq n.birth birth))

-- ---- the places of the nodes

at_next : (ns : List FoundNode) (k : ℕ) → at_place ns (k + 1) ≡ slice_get ns k
at_next ns k = rw (ne_eqb (k + 1) 0 (λ e. omega (arith, e))) (ap (slice_get ns) (omega arith))

-- a node's place is noted
pub note_more : (ns : List FoundNode) (now : List ℕ) (k : ℕ) (n : FoundNode) → k < length ns → n ≡ get_or ns k n → (birth : ℕ) → birth < length now →
    last_at (drop (k + 1) ns) birth (found_at ns (slice_set now n.birth (k + 1)) birth) ≡ last_at (drop k ns) birth (found_at ns now birth)
note_more ns now k n low is birth inside =
    ap (last_at (drop (k + 1) ns) birth) here ∙ sym (ap (λ xs. last_at xs birth (found_at ns now birth)) split)
  where
    split : drop k ns ≡ n ∷ drop (k + 1) ns
    split =
        let next : suc k ≡ k + 1 = omega arith in
        drop-cons ns k n low ∙ (ap (λ x. x ∷ drop (suc k) ns) (sym is) ∙ ap (λ j. n ∷ drop j ns) next)

    here : found_at ns (slice_set now n.birth (k + 1)) birth ≡ (if n.birth == birth then Some n else found_at ns now birth)
    here =
        ⊎_elim
        (λ same.
        let noted : get_or (slice_set now n.birth (k + 1)) birth 0 ≡ k + 1 =
        ap (λ b. get_or (slice_set now n.birth (k + 1)) b 0) (sym same) ∙ get_or-set_same now n.birth (k + 1) 0 (subst (λ b. b < length now) (sym same) inside) in
        rw (eq-eqb n.birth birth same) (ap (at_place ns) noted ∙ (at_next ns k ∙ slice_get_read ns (length ns) k n refl low is)))
        (λ apart. rw (ne_eqb n.birth birth apart) (ap (at_place ns) (get_or-set_other now n.birth birth (k + 1) 0 (λ e. apart (sym e)))))
        (cases_eq n.birth birth)

none_found : (ns : List FoundNode) (n birth : ℕ) → found_at ns (replicate n 0) birth ≡ None
none_found ns zero birth = refl
none_found ns (suc n) zero = refl
none_found ns (suc n) (suc birth) = none_found ns n birth

past_found : (ns : List FoundNode) (places : List ℕ) (birth : ℕ) → length places ≤ birth → found_at ns places birth ≡ None
past_found ns [] birth past = refl
past_found ns (p ∷ ps) zero past = absurd (omega (arith, past))
past_found ns (p ∷ ps) (suc birth) past = past_found ns ps birth (omega (arith, past))

module _ (g : Geometry) (blocks : List (List ℕ)) (all : Walked) (w : walked g blocks ≡ Ok all) (some : 0 < g.inodes) where
  tree_is : tree_in g blocks ≡ put_nodes blocks all.nodes []
  tree_is = ap (λ r. put_nodes blocks (nodes_in r) []) w

  tree_stands : IsVolumeTree g blocks (tree_in g blocks)
  tree_stands = walked_tree g blocks (tree_in g blocks) some (ap (tree_found blocks) w ∙ ap Ok (sym tree_is))

  none_past : (birth : ℕ) (o : Option Node) → at_number (tree_in g blocks) birth ≡ o → g.inodes < birth → o ≡ None
  none_past birth None at past = refl
  none_past birth (Some node) at past = let low = birth_within g blocks (tree_in g blocks) tree_stands some birth node at in absurd (omega (arith, low, past))

  pub births_made : (places : List ℕ) → length places ≡ g.inodes + 1 → HasPlaces all.nodes (replicate (g.inodes + 1) 0) places → AreBirths g blocks places
  births_made places size noted = record {
    some_inode = some;
    stands = tree_stands;
    finds = λ birth. subst (λ ns. option_map (λ n. node_of blocks n.found) (found_at ns places birth) ≡ at_number (tree_in g blocks) birth) (sym (ap nodes_in w)) (finds birth);
  }
    where
      finds : (birth : ℕ) → option_map (λ n. node_of blocks n.found) (found_at all.nodes places birth) ≡ at_number (tree_in g blocks) birth
      finds birth =
          ⊎_elim
          (λ low.
          let here = noted birth (subst (λ n. birth < n) (sym (length-replicate (g.inodes + 1) 0)) low) ∙ ap (last_at all.nodes birth) (none_found all.nodes (g.inodes + 1) birth) in
          ap (option_map (λ n. node_of blocks n.found)) here ∙ (last_stands blocks all.nodes [] birth None refl ∙ ap (λ t. at_number t birth) (sym tree_is)))
          (λ past.
          let none = past_found all.nodes places birth (omega (arith, size, past)) in
          ap (option_map (λ n. node_of blocks n.found)) none ∙ sym (none_past birth (at_number (tree_in g blocks) birth) refl (omega (arith, past))))
          (cases_lt birth (g.inodes + 1))

-- so by what a volume hands out
module _ (g : Geometry) (blocks : List (List ℕ)) (some : 0 < g.inodes) (nodes : List FoundNode) (places : List ℕ)
    (size : length places ≡ g.inodes + 1) (noted : HasPlaces nodes (replicate (g.inodes + 1) 0) places) where
  births_by : (r : Result Walked Fault) → walked g blocks ≡ r → IsOk r → IfOk r (λ w. nodes ≡ w.nodes) → AreBirths g blocks places
  births_by (Ok all) w ok same = births_made g blocks all w some places size (subst (λ ns. HasPlaces ns (replicate (g.inodes + 1) 0) places) same noted)
  births_by (Err fault) w ok same = absurd (false≢true ok)

  pub births_of : IsOk (walked g blocks) → IfOk (walked g blocks) (λ w. nodes ≡ w.nodes) → AreBirths g blocks places
  births_of ok same = births_by (walked g blocks) refl ok same
