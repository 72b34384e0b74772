-- What a test of an inode or a zone says of it.
use Rattle.std.specs.Prelude.{◌≡◌, ℕ, ◌<◌, ◌≤◌, ◌==◌, ◌↔◌, Bool, true, false, not, ◌||◌, List, Option, Some, None, is_some, option_map, option_copied, refl}
use Rattle.std.proofs.Common.{Bor, inl, inr, sym, ap, subst, ◌∙◌, arith}
use Rattle.std.proofs.lemmas.Bool.{false≢true, true≢false}
use Rattle.std.proofs.lemmas.Option.{none-some, same_Some}
use Rattle.minix_layout.specs.declared.division.Geometry.{Geometry}
use Rattle.minix_layout.specs.Bits.{zone_bit, has_bit}
use Rattle.tree_model.specs.declared.node.Node.{Node}
use Rattle.tree_model.specs.declared.node.Node.TheVariants as nodes
use Rattle.tree_model.specs.declared.node.Directory.{Directory}
use Rattle.tree_model.specs.Maps.{at_number}
use Rattle.volume_ops.specs.declared.found.Found.{Found}
use Rattle.volume_ops.specs.declared.found.Found.TheVariants as found
use Rattle.volume_ops.specs.Volume.{node_of}
use Rattle.volume_ops.specs.Places.{birth_of, inode_of_birth}
use Rattle.volume_ops.specs.VolumeFields.{inode_at}
use Rattle.volume_ops.specs.VolumeTrees.{IsVolumeTree}
use Rattle.volume_ops.specs.Faultless.{IsReached, IsUsed}
use Rattle.volume_ops.proofs.TreeUnique.{one_tree}
use Rattle.vol_check.specs.Clean.{IsOther, HasOther, HasZoneBit, HasLinks, links_in, HasDots}
use Rattle.vol_check.specs.CleanTrees.{LeadBack}
use Rattle.vol_check.specs.code.Births.{directory_at, is_other}
use Rattle.vol_check.specs.code.Names.{IsWanted}
use Rattle.vol_check.proofs.Reached.{other_is, node_says, node_reached, reached_node, directory_node, parent_is, is_parent, parent_within}

pub some_copied : {X : Type 0} (o : Option (Bor X)) → is_some o ≡ is_some (option_copied o)
some_copied (Some x) = refl
some_copied None = refl

-- ---- bits

pub bit_reached : (bit : Bool) (P : Type 0) → P → (bit ≡ true) ↔ ((bit ≡ true) ↔ P)
bit_reached bit P p = (λ t. ((λ _. p), (λ _. t)), λ both. both.1 p)

pub bit_unreached : (bit : Bool) (P : Type 0) → (P → ⊥) → (not bit ≡ true) ↔ ((bit ≡ true) ↔ P)
bit_unreached true P none = (λ f. absurd (false≢true f), λ both. absurd (none (both.0 refl)))
bit_unreached false P none = (λ _. ((λ t. absurd (false≢true t)), (λ p. absurd (none p))), λ _. refl)

module _ (g : Geometry) (blocks : List (List ℕ)) (zone : ℕ) where
  abbrev bit : Bool
  bit = has_bit blocks (zone_bit g zone)

  pub bit_used : IsUsed g blocks zone → (bit ≡ true) ↔ HasZoneBit g blocks zone
  bit_used used = (λ t. record { used = λ _. t; unused = λ none _. absurd (none used) }, λ h. h.used used)

  bit_unused_by : (IsUsed g blocks zone → ⊥) → (other b : Bool) → (other ≡ true) ↔ HasOther g blocks → bit ≡ b → ((other || not b) ≡ true) ↔ HasZoneBit g blocks zone
  bit_unused_by none true b o is = (λ _. record { used = λ u. absurd (none u); unused = λ _ no. absurd (no (o.0 refl)) }, λ _. refl)
  bit_unused_by none false true o is = (λ f. absurd (false≢true f), λ h. absurd (true≢false (sym is ∙ h.unused none (λ x. false≢true (o.1 x)))))
  bit_unused_by none false false o is = (λ _. record { used = λ u. absurd (none u); unused = λ _ _. is }, λ _. refl)

  pub bit_unused : (IsUsed g blocks zone → ⊥) → (other : Bool) → (other ≡ true) ↔ HasOther g blocks → ((other || not bit) ≡ true) ↔ HasZoneBit g blocks zone
  bit_unused none other o = bit_unused_by none other bit o refl

-- ---- links and dots

module _ (g : Geometry) (blocks : List (List ℕ)) (tree : List (ℕ × Node)) (h : IsVolumeTree g blocks tree) (inode : ℕ) (some : 0 < inode) where
  pub found_reached : {X : Type 0} (f : X → Node) (o : Option X) → option_map f o ≡ at_number tree (birth_of inode) → (is_some o ≡ true) ↔ IsReached g blocks inode
  found_reached f None e = (λ t. absurd (false≢true t), λ led. let node = reached_node g blocks tree h led in absurd (none-some node.0 (e ∙ node.1)))
  found_reached f (Some x) e = (λ _. node_reached g blocks tree h inode (f x) some (sym e), λ _. refl)

  pub found_other : (x : Found) → at_number tree (birth_of inode) ≡ Some (node_of blocks x) → (is_other x ≡ true) ↔ IsOther g blocks inode
  found_other (found.Other mode) at = (λ _. other_is g blocks tree h inode mode some at, λ _. refl)
  found_other (found.Directory d) at = (λ t. absurd (false≢true t), λ other. absurd (other.1 (inl (node_says g blocks tree h inode (nodes.Directory d) some at).kind)))
  found_other (found.File f) at = (λ t. absurd (false≢true t), λ other. absurd (other.1 (inr (node_says g blocks tree h inode (node_of blocks (found.File f)) some at).kind)))

  pub none_other : at_number tree (birth_of inode) ≡ None → (false ≡ true) ↔ IsOther g blocks inode
  none_other at = (λ t. absurd (false≢true t), λ other. let node = reached_node g blocks tree h other.0 in absurd (none-some node.0 (sym at ∙ node.1)))

  pub links_unreached : (IsReached g blocks inode → ⊥) → HasLinks g blocks inode
  links_unreached none other node stands at = absurd (none (node_reached g blocks other stands inode node some at))

  pub links_by : (node : Node) → at_number tree (birth_of inode) ≡ Some node → (inode_at g blocks inode).links ≡ links_in tree (birth_of inode) node → HasLinks g blocks inode
  links_by node at is other more stands there =
      let same : tree ≡ other = one_tree g blocks tree other h stands in
      let here : at_number tree (birth_of inode) ≡ Some more = ap (λ t. at_number t (birth_of inode)) same ∙ there in
      let one : node ≡ more = same_Some node more (sym at ∙ here) in
      is ∙ (ap (links_in tree (birth_of inode)) one ∙ ap (λ t. links_in t (birth_of inode) more) same)

  pub links_reached : (told : ℕ) → IsReached g blocks inode → ((node : Node) → at_number tree (birth_of inode) ≡ Some node → IsWanted (links_in tree (birth_of inode) node) told) →
      (inode_at g blocks inode).links < 256 → ((inode_at g blocks inode).links ≡ told) ↔ HasLinks g blocks inode
  links_reached told led wanted fits =
      let node = reached_node g blocks tree h led in
      let tells = wanted node.0 node.1 (inode_at g blocks inode).links fits in
      (λ e. links_by node.0 node.1 (tells.0 e), λ has. tells.1 (has tree node.0 h node.1))

  directory_there : (o : Option Node) (d : Directory) → directory_at o ≡ Some d → o ≡ Some (nodes.Directory d)
  directory_there (Some (nodes.Directory e)) d is = ap (λ d. Some (nodes.Directory d)) (same_Some e d is)
  directory_there (Some (nodes.File f)) d is = absurd (none-some d is)
  directory_there (Some (nodes.Other mode)) d is = absurd (none-some d is)
  directory_there None d is = absurd (none-some d is)

  pub parent_fits : 0 < g.inodes → (d : Directory) → directory_at (at_number tree (birth_of inode)) ≡ Some d → d.parent ≤ g.inodes
  parent_fits inodes d is = parent_within g blocks tree h inodes (birth_of inode) d (directory_there (at_number tree (birth_of inode)) d is)

  pub dots_of : (d : Directory) → at_number tree (birth_of inode) ≡ Some (nodes.Directory d) → LeadBack g blocks inode (inode_of_birth d.parent) ↔ HasDots g blocks inode
  dots_of d at = (
    (λ lead _ _. record { two = lead.two; here = lead.here; parent = inode_of_birth d.parent; is_parent = is_parent g blocks tree h inode d some at; above = lead.above }),
    λ has.
        let dots = has (node_reached g blocks tree h inode (nodes.Directory d) some at) (node_says g blocks tree h inode (nodes.Directory d) some at).kind in
        subst (LeadBack g blocks inode) (parent_is g blocks tree h d at dots.is_parent) (record { two = dots.two; here = dots.here; above = dots.above }),
  )

  pub dots_some : (d : Directory) → directory_at (at_number tree (birth_of inode)) ≡ Some d → LeadBack g blocks inode (inode_of_birth d.parent) ↔ HasDots g blocks inode
  dots_some d is = dots_of d (directory_there (at_number tree (birth_of inode)) d is)

  pub dots_none : directory_at (at_number tree (birth_of inode)) ≡ None → HasDots g blocks inode
  dots_none is led directory =
      let d = directory_node g blocks tree h inode led directory in
      absurd (none-some d.0 (sym is ∙ ap directory_at d.1))
