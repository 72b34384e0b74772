-- A volume is clean just where it agrees with its tree.
use Rattle.std.specs.Prelude.{◌≡◌, ℕ, ◌<◌, ◌≤◌, ◌↔◌, List, Some, refl}
use Rattle.std.proofs.Common.{sym, ap, subst, ◌∙◌, arith}
use Rattle.minix_layout.specs.declared.division.Geometry.{Geometry}
use Rattle.tree_model.specs.declared.node.Node.{Node}
use Rattle.tree_model.specs.declared.node.Node.TheVariants as nodes
use Rattle.tree_model.specs.declared.node.Directory.{Directory}
use Rattle.tree_model.specs.Maps.{at_number}
use Rattle.tree_model.specs.Plain.{names_to}
use Rattle.volume_ops.specs.Places.{birth_of, inode_of_birth}
use Rattle.volume_ops.specs.VolumeFields.{inode_at}
use Rattle.volume_ops.specs.VolumeTrees.{IsVolumeTree}
use Rattle.volume_ops.specs.Faultless.{IsReached}
use Rattle.volume_ops.proofs.SlotsLaws.{inode_of_birth_of}
use Rattle.volume_ops.proofs.TreeUnique.{one_tree}
use Rattle.vol_check.specs.Clean.{HasLinks, HasDots, links_in, IsClean}
use Rattle.vol_check.specs.CleanTrees.{HasOtherNode, LeadBack, AgreesWith}
use Rattle.vol_check.proofs.Reached.{reached_some, reached_within, node_says, reached_node, node_reached, birth_is, birth_reached, has_other, other_has, directory_node}
use Rattle.vol_check.proofs.Decisions.{links_by, links_unreached, dots_of}

module _ (g : Geometry) (blocks : List (List ℕ)) (tree : List (ℕ × Node)) (inodes : 0 < g.inodes) (h : IsVolumeTree g blocks tree) where
  module _ (clean : IsClean g blocks) where
    some_inode : (birth : ℕ) (node : Node) → at_number tree birth ≡ Some node → 1 ≤ inode_of_birth birth
    some_inode birth node at = reached_some g blocks (birth_reached g blocks tree h birth node at)

    within : (birth : ℕ) (node : Node) → at_number tree birth ≡ Some node → inode_of_birth birth ≤ g.inodes
    within birth node at = reached_within g blocks h.faultless inodes (birth_reached g blocks tree h birth node at)

    at_inode : (birth : ℕ) (node : Node) → at_number tree birth ≡ Some node → at_number tree (birth_of (inode_of_birth birth)) ≡ Some node
    at_inode birth node at = ap (at_number tree) (birth_is g blocks tree h birth node at) ∙ at

    links_are : (birth : ℕ) (node : Node) → at_number tree birth ≡ Some node → (inode_at g blocks (inode_of_birth birth)).links ≡ links_in tree birth node
    links_are birth node at =
        clean.links (inode_of_birth birth) (some_inode birth node at) (within birth node at) tree node h (at_inode birth node at)
        ∙ ap (λ b. links_in tree b node) (birth_is g blocks tree h birth node at)

    clean_agrees : AgreesWith g blocks tree
    clean_agrees = record {
      inode_bits = λ inode low high.
          let bit = clean.inode_bits inode low high in
          (λ t. reached_node g blocks tree h (bit.0 t), λ node. bit.1 (node_reached g blocks tree h inode node.0 low node.1));
      used_zones = λ zone low high. (clean.zone_bits zone low high).used;
      unused_zones = λ zone low high none no. (clean.zone_bits zone low high).unused none (λ other. no (has_other g blocks tree h other));
      directories = λ birth d at. links_are birth (nodes.Directory d) at;
      files = λ birth f at. (h.fields.each birth (nodes.File f) at).links ∙ links_are birth (nodes.File f) at;
      others = λ birth mode at. links_are birth (nodes.Other mode) at;
      dots = λ birth d at.
          let some = some_inode birth (nodes.Directory d) at in
          (dots_of g blocks tree h (inode_of_birth birth) some d (at_inode birth (nodes.Directory d) at)).1
          (clean.dots (inode_of_birth birth) some (within birth (nodes.Directory d) at));
    }

  module _ (agrees : AgreesWith g blocks tree) where
    agreed_links : (inode : ℕ) → 1 ≤ inode → (node : Node) → at_number tree (birth_of inode) ≡ Some node → (inode_at g blocks inode).links ≡ links_in tree (birth_of inode) node
    agreed_links inode some (nodes.Directory d) at = ap (λ k. (inode_at g blocks k).links) (sym (inode_of_birth_of inode some)) ∙ agrees.directories (birth_of inode) d at
    agreed_links inode some (nodes.File f) at = sym (node_says g blocks tree h inode (nodes.File f) some at).links ∙ agrees.files (birth_of inode) f at
    agreed_links inode some (nodes.Other mode) at = ap (λ k. (inode_at g blocks k).links) (sym (inode_of_birth_of inode some)) ∙ agrees.others (birth_of inode) mode at

    agreed_dots : (inode : ℕ) → 1 ≤ inode → HasDots g blocks inode
    agreed_dots inode some led directory =
        let d = directory_node g blocks tree h inode led directory in
        let lead = subst (λ k. LeadBack g blocks k (inode_of_birth d.0.parent)) (inode_of_birth_of inode some) (agrees.dots (birth_of inode) d.0 d.1) in
        (dots_of g blocks tree h inode some d.0 d.1).0 lead led directory

    agrees_clean : IsClean g blocks
    agrees_clean = record {
      inode_bits = λ inode low high.
          let bit = agrees.inode_bits inode low high in
          (λ t. let node = bit.0 t in node_reached g blocks tree h inode node.0 low node.1, λ led. bit.1 (reached_node g blocks tree h led));
      zone_bits = λ zone low high. record {
        used = agrees.used_zones zone low high;
        unused = λ none no. agrees.unused_zones zone low high none (λ other. no (other_has g blocks tree h other));
      };
      links = λ inode low high other node stands at.
          let same : other ≡ tree = one_tree g blocks other tree stands h in
          let here : at_number tree (birth_of inode) ≡ Some node = ap (λ t. at_number t (birth_of inode)) (sym same) ∙ at in
          agreed_links inode low node here ∙ ap (λ t. links_in t (birth_of inode) node) (sym same);
      dots = λ inode low high. agreed_dots inode low;
    }

  pub clean_by_tree : IsClean g blocks ↔ AgreesWith g blocks tree
  clean_by_tree = (clean_agrees, agrees_clean)
