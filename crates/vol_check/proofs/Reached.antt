-- Inodes that names lead to, and the nodes of a volume's tree.
use Rattle.std.specs.Prelude.{◌≡◌, ℕ, ◌+◌, ◌/◌, ◌<◌, ◌≤◌, true, false, List, Some, refl}
use Rattle.std.proofs.Common.{sym, ap, subst, ◌∙◌, inl, inr, ⊎_elim, arith}
use Rattle.std.proofs.lemmas.Bool.{true≢false, cases_eq, eqb-true}
use Rattle.std.proofs.lemmas.Option.{same_Some}
use Rattle.minix_layout.specs.declared.division.Geometry.{Geometry}
use Rattle.minix_layout.specs.declared.inode.Inode.{Inode}
use Rattle.minix_layout.specs.declared.slot.Slot.{Slot}
use Rattle.tree_model.specs.declared.node.Node.{Node}
use Rattle.tree_model.specs.declared.node.Node.TheVariants as nodes
use Rattle.tree_model.specs.declared.node.Directory.{Directory}
use Rattle.tree_model.specs.Maps.{at_number}
use Rattle.tree_model.specs.Rooted.{HasEntry}
use Rattle.volume_ops.specs.Places.{birth_of, inode_of_birth, is_directory, is_file}
use Rattle.volume_ops.specs.VolumeFields.{inode_at, IsNodeOf, IsBelow}
use Rattle.volume_ops.specs.VolumeTrees.{IsVolumeTree}
use Rattle.volume_ops.specs.Faultless.{IsDirectory, HasZones, NamesAt, IsReached, at_root, by_name, IsFaultless}
use Rattle.volume_ops.proofs.BlockPlaces.{named_by, led_reached}
use Rattle.volume_ops.proofs.SlotsLaws.{inode_of_birth_of}
use Rattle.volume_ops.proofs.VisitTests.{slot_used}
use Rattle.vol_check.specs.Clean.{IsParent, of_root, by_name as parent_by, IsOther, HasOther}
use Rattle.vol_check.specs.CleanTrees.{HasOtherNode}

no_directory_file : (mode : ℕ) → is_directory mode ≡ true → is_file mode ≡ true → ⊥
no_directory_file mode d f = let four = eqb-true (mode / 4096) 4 d in let eight = eqb-true (mode / 4096) 8 f in omega arith

module _ (g : Geometry) (blocks : List (List ℕ)) where
  pub reached_some : {inode : ℕ} → IsReached g blocks inode → 0 < inode
  reached_some at_root = omega arith
  reached_some (by_name {inode} {place} {slot} led names) = slot_used g blocks (inode_at g blocks inode) place slot names.entry

  pub reached_within : IsFaultless g blocks → 0 < g.inodes → {inode : ℕ} → IsReached g blocks inode → inode ≤ g.inodes
  reached_within f some at_root = omega (arith, some)
  reached_within f some (by_name {inode} {place} {slot} led names) = f.inode_within inode place slot led names

module _ (g : Geometry) (blocks : List (List ℕ)) (tree : List (ℕ × Node)) (h : IsVolumeTree g blocks tree) where
  -- what a node says of its inode
  pub node_says : (inode : ℕ) (node : Node) → 0 < inode → at_number tree (birth_of inode) ≡ Some node → IsNodeOf g blocks (inode_at g blocks inode) node
  node_says inode node some at = subst (λ k. IsNodeOf g blocks (inode_at g blocks k) node) (inode_of_birth_of inode some) (h.fields.each (birth_of inode) node at)

  named_entry : (inode place : ℕ) (slot : Slot) (node : Node) → 0 < inode → at_number tree (birth_of inode) ≡ Some node → NamesAt g blocks inode place slot →
      HasEntry tree (birth_of inode) slot.name (birth_of slot.inode)
  named_entry inode place slot (nodes.Directory d) some at names =
      let says = node_says inode (nodes.Directory d) some at in
      let name = names.entry in
      record {
        directory = d;
        stands = at;
        named = (says.names slot.name (birth_of slot.inode)).1 (record { place = place; slot = slot; below = name.below; stands = name.stands; name_is = refl; no_dot = name.no_dot; birth_is = refl });
      }
  named_entry inode place slot (nodes.File f) some at names = absurd (no_directory_file (inode_at g blocks inode).mode names.directory (node_says inode (nodes.File f) some at).kind)
  named_entry inode place slot (nodes.Other mode) some at names = absurd (true≢false (sym names.directory ∙ (node_says inode (nodes.Other mode) some at).no_directory))

  pub reached_node : {inode : ℕ} → IsReached g blocks inode → (node : Node) × (at_number tree (birth_of inode) ≡ Some node)
  reached_node at_root = let d = h.fields.root in (nodes.Directory d.0, d.1)
  reached_node (by_name {inode} {place} {slot} led names) =
      let above = reached_node led in
      let y = h.fields.leads (birth_of inode) slot.name (birth_of slot.inode) (named_entry inode place slot above.0 (reached_some g blocks led) above.1 names) in
      (y.0, y.1)

  pub node_reached : (inode : ℕ) (node : Node) → 0 < inode → at_number tree (birth_of inode) ≡ Some node → IsReached g blocks inode
  node_reached inode node some at =
      subst (IsReached g blocks) (inode_of_birth_of inode some) (led_reached g blocks tree h (h.rooted.led_to (birth_of inode) node at)).0

  -- a node's birth is that of its inode
  pub birth_is : (birth : ℕ) (node : Node) → at_number tree birth ≡ Some node → birth_of (inode_of_birth birth) ≡ birth
  birth_is birth node at = (led_reached g blocks tree h (h.rooted.led_to birth node at)).1

  pub birth_reached : (birth : ℕ) (node : Node) → at_number tree birth ≡ Some node → IsReached g blocks (inode_of_birth birth)
  birth_reached birth node at = (led_reached g blocks tree h (h.rooted.led_to birth node at)).0

  pub birth_within : 0 < g.inodes → (birth : ℕ) (node : Node) → at_number tree birth ≡ Some node → birth ≤ g.inodes
  birth_within some birth node at =
      let within = reached_within g blocks h.faultless some (birth_reached birth node at) in grind arith

  -- ---- nodes that are neither directories nor files

  pub other_is : (inode mode : ℕ) → 0 < inode → at_number tree (birth_of inode) ≡ Some (nodes.Other mode) → IsOther g blocks inode
  other_is inode mode some at =
      let says = node_says inode (nodes.Other mode) some at in
      (node_reached inode (nodes.Other mode) some at, λ zones. ⊎_elim (λ d. true≢false (sym d ∙ says.no_directory)) (λ f. true≢false (sym f ∙ says.no_file)) zones)

  pub is_no_other : (inode : ℕ) (node : Node) → 0 < inode → at_number tree (birth_of inode) ≡ Some node → IsOther g blocks inode → (mode : ℕ) × (node ≡ nodes.Other mode)
  is_no_other inode (nodes.Directory d) some at other = absurd (other.1 (inl (node_says inode (nodes.Directory d) some at).kind))
  is_no_other inode (nodes.File f) some at other = absurd (other.1 (inr (node_says inode (nodes.File f) some at).kind))
  is_no_other inode (nodes.Other mode) some at other = (mode, refl)

  pub other_node : (inode : ℕ) → IsOther g blocks inode → (mode : ℕ) × (at_number tree (birth_of inode) ≡ Some (nodes.Other mode))
  other_node inode other =
      let node = reached_node other.0 in
      let is = is_no_other inode node.0 (reached_some g blocks other.0) node.1 other in
      (is.0, node.1 ∙ ap Some is.1)

  pub has_other : HasOther g blocks → HasOtherNode tree
  has_other (inode, other) = let x = other_node inode other in (birth_of inode, x.0, x.1)

  pub other_has : HasOtherNode tree → HasOther g blocks
  other_has (birth, mode, at) =
      let inode = inode_of_birth birth in
      (inode, other_is inode mode (reached_some g blocks (birth_reached birth (nodes.Other mode) at)) (ap (at_number tree) (birth_is birth (nodes.Other mode) at) ∙ at))

  -- ---- directories and their parents

  pub directory_node : (inode : ℕ) → IsReached g blocks inode → IsDirectory g blocks inode → (d : Directory) × (at_number tree (birth_of inode) ≡ Some (nodes.Directory d))
  directory_node inode led directory = by (reached_node led).0 (reached_node led).1
    where
      some : 0 < inode
      some = reached_some g blocks led

      by : (node : Node) → at_number tree (birth_of inode) ≡ Some node → (d : Directory) × (at_number tree (birth_of inode) ≡ Some (nodes.Directory d))
      by (nodes.Directory d) at = (d, at)
      by (nodes.File f) at = absurd (no_directory_file (inode_at g blocks inode).mode directory (node_says inode (nodes.File f) some at).kind)
      by (nodes.Other mode) at = absurd (true≢false (sym directory ∙ (node_says inode (nodes.Other mode) some at).no_directory))

  same_directory : (d e : Directory) → nodes.Directory d ≡ nodes.Directory e → d ≡ e
  same_directory d e same = cc

  pub parent_is : {inode parent : ℕ} (d : Directory) → at_number tree (birth_of inode) ≡ Some (nodes.Directory d) → IsParent g blocks inode parent → parent ≡ inode_of_birth d.parent
  parent_is d at of_root =
      let root = h.fields.root in
      let same = same_directory d root.0 (same_Some (nodes.Directory d) (nodes.Directory root.0) (sym at ∙ root.1)) in
      sym (ap (λ (e : Directory). inode_of_birth e.parent) same ∙ ap inode_of_birth root.2)
  parent_is d at (parent_by {inode} {place} {slot} led names) =
      let above = reached_node led in
      let some = reached_some g blocks led in
      let y = h.fields.leads (birth_of inode) slot.name (birth_of slot.inode) (named_entry inode place slot above.0 some above.1 names) in
      let below = subst (IsBelow (birth_of inode)) (same_Some y.0 (nodes.Directory d) (sym y.1 ∙ at)) y.2 in
      sym (ap inode_of_birth below ∙ inode_of_birth_of inode some)

  pub is_parent : (inode : ℕ) (d : Directory) → 0 < inode → at_number tree (birth_of inode) ≡ Some (nodes.Directory d) → IsParent g blocks inode (inode_of_birth d.parent)
  is_parent inode d some at = ⊎_elim of_the_root by_its_name (cases_eq inode 1)
    where
      of_the_root : inode ≡ 1 → IsParent g blocks inode (inode_of_birth d.parent)
      of_the_root is =
          let root = h.fields.root in
          let here : at_number tree 0 ≡ Some (nodes.Directory d) = ap (λ k. at_number tree (birth_of k)) (sym is) ∙ at in
          let same = same_directory d root.0 (same_Some (nodes.Directory d) (nodes.Directory root.0) (sym here ∙ root.1)) in
          let one : inode_of_birth d.parent ≡ 1 = ap (λ (e : Directory). inode_of_birth e.parent) same ∙ ap inode_of_birth root.2 in
          subst (λ k. IsParent g blocks k (inode_of_birth d.parent)) (sym is) (subst (IsParent g blocks 1) (sym one) of_root)

      by_its_name : (inode ≡ 1 → ⊥) → IsParent g blocks inode (inode_of_birth d.parent)
      by_its_name apart =
          let no_zero : birth_of inode ≡ 0 → ⊥ = λ e. grind (arith, apart, some, e) in
          let x = h.fields.has_name (birth_of inode) (nodes.Directory d) at no_zero in
          let entry = x.2 in
          let y = h.fields.leads x.0 x.1 (birth_of inode) entry in
          let below = subst (IsBelow x.0) (same_Some y.0 (nodes.Directory d) (sym y.1 ∙ at)) y.2 in
          let slot = named_by g blocks tree h x.0 (birth_of inode) x.1 entry in
          let number : slot.1.inode ≡ inode = sym (inode_of_birth_of slot.1.inode (slot_used g blocks (inode_at g blocks (inode_of_birth x.0)) slot.0 slot.1 slot.2.entry)) ∙ (ap inode_of_birth slot.3 ∙ inode_of_birth_of inode some) in
          let led = birth_reached x.0 (nodes.Directory entry.directory) entry.stands in
          let made : IsParent g blocks slot.1.inode (inode_of_birth x.0) = parent_by led slot.2 in
          subst (λ k. IsParent g blocks inode k) (ap inode_of_birth (sym below)) (subst (λ k. IsParent g blocks k (inode_of_birth x.0)) number made)

  pub parent_within : 0 < g.inodes → (birth : ℕ) (d : Directory) → at_number tree birth ≡ Some (nodes.Directory d) → d.parent ≤ g.inodes
  parent_within some birth d at = ⊎_elim of_the_root by_its_name (cases_eq birth 0)
    where
      of_the_root : birth ≡ 0 → d.parent ≤ g.inodes
      of_the_root is =
          let root = h.fields.root in
          let same = same_directory d root.0 (same_Some (nodes.Directory d) (nodes.Directory root.0) (sym (ap (at_number tree) (sym is) ∙ at) ∙ root.1)) in
          let none : d.parent ≡ 0 = ap (λ (e : Directory). e.parent) same ∙ root.2 in
          omega (arith, none)

      by_its_name : (birth ≡ 0 → ⊥) → d.parent ≤ g.inodes
      by_its_name apart =
          let x = h.fields.has_name birth (nodes.Directory d) at apart in
          let entry = x.2 in
          let y = h.fields.leads x.0 x.1 birth entry in
          let below = subst (IsBelow x.0) (same_Some y.0 (nodes.Directory d) (sym y.1 ∙ at)) y.2 in
          subst (λ p. p ≤ g.inodes) (sym below) (birth_within some x.0 (nodes.Directory entry.directory) entry.stands)
