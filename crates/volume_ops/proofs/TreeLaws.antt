-- The tree of a volume, by its fields.
use Rattle.std.specs.Prelude.{◌≡◌, ◌≢◌, ℕ, true, List, [], ◌∷◌, Some, Result, Ok, Err, refl, ◌⊎◌}
use Rattle.std.proofs.Common.{sym, ap, subst, ◌∙◌, inl, inr, ⊎_elim}
use Rattle.std.proofs.lemmas.Bool.{cases_eq}
use Rattle.std.proofs.lemmas.Option.{none-some, same_Some}
use Rattle.blk_base.specs.Members.{In}
use Rattle.minix_layout.specs.declared.division.Geometry.{Geometry}
use Rattle.minix_layout.specs.declared.inode.Inode.{Inode}
use Rattle.tree_model.specs.declared.node.Node.{Node}
use Rattle.tree_model.specs.declared.node.Node.TheVariants as nodes
use Rattle.tree_model.specs.declared.node.Directory.{Directory}
use Rattle.tree_model.specs.Maps.{at_number, at_name, put_number}
use Rattle.volume_ops.specs.declared.found.Found.TheVariants as found
use Rattle.volume_ops.specs.declared.found.FoundNode.{FoundNode}
use Rattle.volume_ops.specs.laws.ReadsLaws.{err-ok, same_Ok}
use Rattle.volume_ops.specs.Places.{is_directory, inode_of_birth}
use Rattle.volume_ops.specs.Marks.{is_marked}
use Rattle.tree_model.specs.laws.MapsLaws.{at_put_number, at_put_number_apart}
use Rattle.volume_ops.specs.Zones.{Fault}
use Rattle.volume_ops.specs.Walk.{Walked}
use Rattle.volume_ops.specs.Volume.{walked, node_of, put_nodes, tree_found, tree_of}
use Rattle.volume_ops.specs.VolumeFields.{inode_at, IsNodeOf, IsBelow, IsTreeOf}
use Rattle.tree_model.specs.Rooted.{HasEntry, IsLedTo, at_root, by_name}
use Rattle.volume_ops.proofs.VisitLaws.{names_in}
use Rattle.volume_ops.proofs.WalkLaws.{NamedIn, IsReachedIn, from_root, from_parent, IsWalked, Ends, walk_volume-ends}

-- ---- from nodes to a tree

module _ (blocks : List (List ℕ)) where
  -- what stands at a birth stays, where each node of this birth is the same
  stays : (ns : List FoundNode) (tree : List (ℕ × Node)) (birth : ℕ) (node : Node) → at_number tree birth ≡ Some node →
      ((m : FoundNode) → In m ns → m.birth ≡ birth → node_of blocks m.found ≡ node) → at_number (put_nodes blocks ns tree) birth ≡ Some node
  stays [] tree birth node h same = h
  stays (m ∷ ms) tree birth node h same =
      stays ms (put_number tree m.birth (node_of blocks m.found)) birth node
      (⊎_elim
      (λ e. subst (λ k. at_number (put_number tree m.birth (node_of blocks m.found)) k ≡ Some node) e
      (at_put_number tree m.birth (node_of blocks m.found) ∙ ap Some (same m (inl refl) e)))
      (λ apart. at_put_number_apart tree m.birth (node_of blocks m.found) birth (λ e. apart (sym e)) ∙ h)
      (cases_eq m.birth birth))
      (λ n i e. same n (inr i) e)

  -- a node that was found stands at its birth
  stands : (ns : List FoundNode) (tree : List (ℕ × Node)) (n : FoundNode) → In n ns →
      ((m : FoundNode) → In m ns → m.birth ≡ n.birth → node_of blocks m.found ≡ node_of blocks n.found) →
      at_number (put_nodes blocks ns tree) n.birth ≡ Some (node_of blocks n.found)
  stands [] tree n i same = absurd i
  stands (m ∷ ms) tree n (inl e) same =
      stays ms (put_number tree m.birth (node_of blocks m.found)) n.birth (node_of blocks n.found)
      (subst (λ n. at_number (put_number tree m.birth (node_of blocks m.found)) n.birth ≡ Some (node_of blocks n.found)) e
      (at_put_number tree m.birth (node_of blocks m.found)))
      (λ k i q. same k (inr i) q)
  stands (m ∷ ms) tree n (inr i) same = stands ms (put_number tree m.birth (node_of blocks m.found)) n i (λ k j q. same k (inr j) q)

  -- what stands in the tree was there or was found
  pub record WasFound (ns : List FoundNode) (birth : ℕ) (node : Node) : Type 0 where
    pub one : FoundNode
    pub within : In one ns
    pub birth_is : one.birth ≡ birth
    pub node_is : node_of blocks one.found ≡ node

  pub was_found : (ns : List FoundNode) (tree : List (ℕ × Node)) (birth : ℕ) (node : Node) → at_number (put_nodes blocks ns tree) birth ≡ Some node →
      (at_number tree birth ≡ Some node) ⊎ WasFound ns birth node
  was_found [] tree birth node h = inl h
  was_found (m ∷ ms) tree birth node h =
      ⊎_elim
      (λ old.
      ⊎_elim
      (λ e. inr (record {
        one = m;
        within = inl refl;
        birth_is = e;
        node_is = same_Some (node_of blocks m.found) node
            (sym (at_put_number tree m.birth (node_of blocks m.found)) ∙ subst (λ k. at_number (put_number tree m.birth (node_of blocks m.found)) k ≡ Some node) (sym e) old);
      }))
      (λ apart. inl (sym (at_put_number_apart tree m.birth (node_of blocks m.found) birth (λ e. apart (sym e))) ∙ old))
      (cases_eq m.birth birth))
      (λ x. inr (record { one = x.one; within = inr x.within; birth_is = x.birth_is; node_is = x.node_is }))
      (was_found ms (put_number tree m.birth (node_of blocks m.found)) birth node h)

-- a node with a name is a directory
directory_of : (node : Node) (name : List ℕ) (birth : ℕ) → at_name (names_in node) name ≡ Some birth →
    (d : Directory) × (node ≡ nodes.Directory d) × (at_name d.names name ≡ Some birth)
directory_of (nodes.Directory d) name birth h = (d, refl, h)
directory_of (nodes.File f) name birth h = absurd (none-some birth h)
directory_of (nodes.Other mode) name birth h = absurd (none-some birth h)

-- a directory that has one parent only
below_one : (g : Geometry) (blocks : List (List ℕ)) (i : Inode) (node : Node) (parent other : ℕ) → IsNodeOf g blocks i node → IsBelow other node →
    (is_directory i.mode ≡ true → other ≡ parent) → IsBelow parent node
below_one g blocks i (nodes.Directory d) parent other says below one = below ∙ one says.kind
below_one g blocks i (nodes.File f) parent other says below one = tt
below_one g blocks i (nodes.Other mode) parent other says below one = tt

module _ (g : Geometry) (blocks : List (List ℕ)) (ends : (ns : List FoundNode) × Ends g blocks ns) where
  abbrev ns : List FoundNode
  ns = ends.1.state.nodes

  abbrev h : IsWalked g blocks [] [] ends.1.state
  h = ends.1.walked

  abbrev tree : List (ℕ × Node)
  tree = put_nodes blocks ns []

  pub in_tree : (n : FoundNode) → In n ns → at_number tree n.birth ≡ Some (node_of blocks n.found)
  in_tree n i = stands blocks ns [] n i (λ m j e. ap (λ n. node_of blocks n.found) (h.one m n j i e))

  of_tree : (birth : ℕ) (node : Node) → at_number tree birth ≡ Some node → WasFound blocks ns birth node
  of_tree birth node e = ⊎_elim (λ none. absurd (none-some node none)) (λ x. x) (was_found blocks ns [] birth node e)

  pub named_of : (parent : ℕ) (name : List ℕ) (birth : ℕ) → HasEntry tree parent name birth → NamedIn blocks ns parent name birth
  named_of parent name birth n =
      let x = of_tree parent (nodes.Directory n.directory) n.stands in
      record {
        namer = x.one;
        within = x.within;
        is = x.birth_is;
        named = subst (λ node. at_name (names_in node) name ≡ Some birth) (sym x.node_is) n.named;
      }

  of_named : (parent : ℕ) (name : List ℕ) (birth : ℕ) → NamedIn blocks ns parent name birth → HasEntry tree parent name birth
  of_named parent name birth n =
      let d = directory_of (node_of blocks n.namer.found) name birth n.named in
      record {
        directory = d.0;
        stands = subst (λ parent. at_number tree parent ≡ Some (nodes.Directory d.0)) n.is (in_tree n.namer n.within ∙ ap Some d.1);
        named = d.2;
      }

  each_says : (birth : ℕ) (node : Node) → at_number tree birth ≡ Some node → IsNodeOf g blocks (inode_at g blocks (inode_of_birth birth)) node
  each_says birth node e =
      let x = of_tree birth node e in
      subst (λ node. IsNodeOf g blocks (inode_at g blocks (inode_of_birth birth)) node) x.node_is
      (subst (λ birth. IsNodeOf g blocks (inode_at g blocks (inode_of_birth birth)) (node_of blocks x.one.found)) x.birth_is (h.each x.one x.within))

  leads_to : (parent : ℕ) (name : List ℕ) (birth : ℕ) → HasEntry tree parent name birth → (node : Node) × (at_number tree birth ≡ Some node) × IsBelow parent node
  leads_to parent name birth names =
      let n = named_of parent name birth names in
      let t : is_marked ends.1.state.inodes (inode_of_birth birth) ≡ true = ⊎_elim (λ t. t) (λ i. absurd i) (h.leads parent name birth n) in
      let x = h.found (inode_of_birth birth) t in
      let same : x.0.birth ≡ birth = x.2 ∙ h.whose parent name birth n in
      let y = h.has_name x.0 x.1 (λ none. h.no_root parent name birth n (sym same ∙ none)) in
      let other : NamedIn blocks ns y.0 y.1 birth = subst (λ birth. NamedIn blocks ns y.0 y.1 birth) same y.2 in
      let stands : at_number tree birth ≡ Some (node_of blocks x.0.found) = subst (λ birth. at_number tree birth ≡ Some (node_of blocks x.0.found)) same (in_tree x.0 x.1) in (
        node_of blocks x.0.found,
        stands,
        below_one g blocks (inode_at g blocks (inode_of_birth birth)) (node_of blocks x.0.found) parent y.0
            (each_says birth (node_of blocks x.0.found) stands) y.3
            (λ d. (h.once y.0 parent y.1 name birth other n d).0),
      )

  has_names : (birth : ℕ) (node : Node) → at_number tree birth ≡ Some node → birth ≢ 0 → (parent : ℕ) × (name : List ℕ) × HasEntry tree parent name birth
  has_names birth node e some =
      let x = of_tree birth node e in
      let y = h.has_name x.one x.within (λ none. some (sym x.birth_is ∙ none)) in
      (y.0, y.1, of_named y.0 y.1 birth (subst (λ birth. NamedIn blocks ns y.0 y.1 birth) x.birth_is y.2))

  one_names : (parent other : ℕ) (name more : List ℕ) (birth : ℕ) (d : Directory) → HasEntry tree parent name birth → HasEntry tree other more birth →
      at_number tree birth ≡ Some (nodes.Directory d) → (parent ≡ other) × (name ≡ more)
  one_names parent other name more birth d m n e =
      h.once parent other name more birth (named_of parent name birth m) (named_of other more birth n) (each_says birth (nodes.Directory d) e).kind

  reached_in : {birth : ℕ} → IsReachedIn blocks ns birth → IsLedTo tree birth
  reached_in from_root = at_root
  reached_in (from_parent {parent} {birth} {name} r n) = by_name (reached_in r) (of_named parent name birth n)

  tree_reached : (birth : ℕ) (node : Node) → at_number tree birth ≡ Some node → IsLedTo tree birth
  tree_reached birth node e =
      let x = of_tree birth node e in
      subst (λ birth. IsLedTo tree birth) x.birth_is (reached_in (h.reached x.one x.within))

  walked_tree : IsTreeOf g blocks tree
  walked_tree = record {
    each = each_says;
    root = (ends.1.root.directory, in_tree (record { birth = 0; found = found.Directory ends.1.root.directory }) ends.1.root.stands, ends.1.root.parent);
    leads = leads_to;
    has_name = has_names;
    one_name = one_names;
  }

-- a walk that found a tree ended well
walk_of : (g : Geometry) (blocks : List (List ℕ)) (tree : List (ℕ × Node)) (r : Result Walked Fault) → walked g blocks ≡ r →
    tree_found blocks r ≡ Ok tree → (ns : List FoundNode) × Ends g blocks ns × (put_nodes blocks ns [] ≡ tree)
unfolding walked
walk_of g blocks tree (Ok all) w r = (all.nodes, walk_volume-ends g blocks all w, same_Ok (put_nodes blocks all.nodes []) tree r)
walk_of g blocks tree (Err fault) w r = absurd (err-ok fault tree r)

-- the tree of a volume has the fields that it should have
pub tree_of-fields : (g : Geometry) (blocks : List (List ℕ)) (tree : List (ℕ × Node)) → tree_of g blocks ≡ Ok tree → IsTreeOf g blocks tree
tree_of-fields g blocks tree r =
    let x = walk_of g blocks tree (walked g blocks) refl r in
    subst (λ tree. IsTreeOf g blocks tree) (ap (λ ns. put_nodes blocks ns []) x.1.nodes ∙ x.2) (walked_tree g blocks (x.0, x.1))

-- each of its nodes is reached from the root
pub tree_of-reached : (g : Geometry) (blocks : List (List ℕ)) (tree : List (ℕ × Node)) → tree_of g blocks ≡ Ok tree →
    (birth : ℕ) (node : Node) → at_number tree birth ≡ Some node → IsLedTo tree birth
tree_of-reached g blocks tree r =
    let x = walk_of g blocks tree (walked g blocks) refl r in
    subst (λ tree. (birth : ℕ) (node : Node) → at_number tree birth ≡ Some node → IsLedTo tree birth)
    (ap (λ ns. put_nodes blocks ns []) x.1.nodes ∙ x.2) (tree_reached g blocks (x.0, x.1))
