-- Two volumes in which the walk finds the same have trees that are alike.
use Rattle.std.specs.Prelude.{◌≡◌, ℕ, ◌+◌, List, [], Option, Some, None, Ok, IsOk, refl}
use Rattle.std.proofs.Common.{sym, ap, subst, ◌∙◌, ⊎_elim}
use Rattle.std.proofs.lemmas.Option.{none-some}
use Rattle.blk_base.specs.Members.{In}
use Rattle.minix_layout.specs.declared.division.Geometry.{Geometry}
use Rattle.tree_model.specs.declared.node.Node.{Node}
use Rattle.tree_model.specs.Maps.{at_number}
use Rattle.tree_model.specs.Trees.{node_of_path, is_directory, SameMetadata, SameMetadataAt, SameLinks, AreAlike}
use Rattle.tree_model.specs.laws.Alike.{path_stands}
use Rattle.tree_model.specs.laws.Sums.{count_by_same}
use Rattle.volume_ops.specs.declared.found.Found.{Found}
use Rattle.volume_ops.specs.declared.found.Found.TheVariants as found
use Rattle.volume_ops.specs.declared.found.FoundNode.{FoundNode}
use Rattle.volume_ops.specs.Volume.{walked, put_nodes, node_of, tree_found}
use Rattle.volume_ops.specs.Walk.{Walked}
use Rattle.volume_ops.proofs.AlikeLaws.{same_paths_found}
use Rattle.volume_ops.proofs.RootedLaws.{tree_of-rooted}
use Rattle.volume_ops.proofs.TreeLaws.{was_found, WasFound}
use Rattle.volume_model.proofs.FoundNodes.{walked_stands}
use Rattle.volume_model.specs.laws.Indexed.{keys_bodies}

module _ (g : Geometry) (one other : List (List ℕ)) (all : Walked) (w : walked g one ≡ Ok all) (u : walked g other ≡ Ok all) where
  abbrev tree_in : List (List ℕ) → List (ℕ × Node)
  tree_in blocks = put_nodes blocks all.nodes []

  -- a birth has one found node in both, or none in either
  data IsBoth (b : ℕ) : Type 0 where
    neither : at_number (tree_in one) b ≡ None → at_number (tree_in other) b ≡ None → IsBoth b
    both : (f : Found) → at_number (tree_in one) b ≡ Some (node_of one f) → at_number (tree_in other) b ≡ Some (node_of other f) → IsBoth b

  found_both : (n : FoundNode) → In n all.nodes → (b : ℕ) → n.birth ≡ b → IsBoth b
  found_both n i b is = both n.found (ap (at_number (tree_in one)) (sym is) ∙ walked_stands g one all w n i) (ap (at_number (tree_in other)) (sym is) ∙ walked_stands g other all u n i)

  was_both : (blocks : List (List ℕ)) (b : ℕ) (node : Node) → at_number (tree_in blocks) b ≡ Some node → IsBoth b
  was_both blocks b node at = ⊎_elim (λ none. absurd (none-some node none)) (λ (x : WasFound blocks all.nodes b node). found_both x.one x.within b x.birth_is) (was_found blocks all.nodes [] b node at)

  at_both : (b : ℕ) → IsBoth b
  at_both b = by (at_number (tree_in one) b) (at_number (tree_in other) b) refl refl
    where
      by : (o p : Option Node) → at_number (tree_in one) b ≡ o → at_number (tree_in other) b ≡ p → IsBoth b
      by None None e f = neither e f
      by (Some node) p e f = was_both one b node e
      by None (Some node) e f = was_both other b node f

  same_kind : (b : ℕ) → is_directory (at_number (tree_in one) b) ≡ is_directory (at_number (tree_in other) b)
  same_kind b = by (at_both b)
    where
      kind : (f : Found) → is_directory (Some (node_of one f)) ≡ is_directory (Some (node_of other f))
      kind (found.Directory d) = refl
      kind (found.File f) = refl
      kind (found.Other mode) = refl

      by : IsBoth b → is_directory (at_number (tree_in one) b) ≡ is_directory (at_number (tree_in other) b)
      by (neither e f) = ap is_directory e ∙ sym (ap is_directory f)
      by (both x e f) = ap is_directory e ∙ (kind x ∙ sym (ap is_directory f))

  metadata_same : (f : Found) → SameMetadata (node_of one f) (node_of other f)
  metadata_same (found.Directory d) = refl
  metadata_same (found.File f) = (refl, refl, keys_bodies one f.zones ∙ sym (keys_bodies other f.zones))
  metadata_same (found.Other mode) = refl

  links_same : (f : Found) → SameLinks (tree_in one) (tree_in other) (Some (node_of one f)) (Some (node_of other f))
  links_same (found.Directory d) = ap (λ n. 2 + n) (count_by_same (λ e. is_directory (at_number (tree_in one) e.1)) (λ e. is_directory (at_number (tree_in other) e.1)) d.names (λ e. same_kind e.1))
  links_same (found.File f) = tt
  links_same (found.Other mode) = tt

  by_path : (P : Option Node → Option Node → Type 0) → ((f : Found) → P (Some (node_of one f)) (Some (node_of other f))) → (names : List (List ℕ)) (b : ℕ) → node_of_path (tree_in one) names ≡ Ok b →
      P (at_number (tree_in one) b) (at_number (tree_in other) b)
  by_path P each names b h = by (at_both b)
    where
      stands : (node : Node) × (at_number (tree_in one) b ≡ Some node)
      stands = path_stands (tree_in one) (tree_of-rooted g one (tree_in one) (ap (tree_found one) w)) names b h

      by : IsBoth b → P (at_number (tree_in one) b) (at_number (tree_in other) b)
      by (neither e f) = absurd (none-some stands.0 (sym e ∙ stands.1))
      by (both x e f) = subst (λ o. P o (at_number (tree_in other) b)) (sym e) (subst (P (Some (node_of one x))) (sym f) (each x))

  pub found_alike : AreAlike (tree_in one) (tree_in other)
  found_alike = record {
    to = λ b. b;
    same_paths = λ names b h. same_paths_found one other all.nodes names ∙ h;
    no_more_paths = λ names ok. subst (λ r. IsOk r) (same_paths_found one other all.nodes names) ok;
    same_metadata = by_path SameMetadataAt metadata_same;
    same_links = by_path (SameLinks (tree_in one) (tree_in other)) links_same;
    one_node = λ names more a b h i e. e;
  }
