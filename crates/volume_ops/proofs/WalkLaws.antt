-- What the walk finds: how the nodes hang together that were found so far, and what is still to be met.
use Rattle.std.specs.Prelude.{◌≡◌, ◌≢◌, ℕ, zero, suc, ◌+◌, ◌/◌, ◌<◌, ◌≤◌, Bool, true, false, if◌then◌else◌, List, [], ◌∷◌, ◌++◌, length, Some, Result, Ok, refl, ◌⊎◌}
use Rattle.std.proofs.Common.{sym, ap, subst, ◌∙◌, inl, inr, ⊎_elim, arith}
use Rattle.std.proofs.lemmas.Bool.{true≢false, cases_Bool, eqb-true, cases_eq}
use Rattle.blk_base.specs.Members.{In}
use Rattle.blk_base.specs.laws.Members.{In-push, In-push_left, In-push_cases, In-append_left, In-append_right, In-append_cases, In-map, map-In}
use Rattle.minix_layout.specs.declared.division.Geometry.{Geometry}
use Rattle.minix_layout.specs.declared.inode.Inode.{Inode}
use Rattle.tree_model.specs.declared.node.Directory.{Directory}
use Rattle.tree_model.specs.Maps.{at_name}
use Rattle.volume_ops.specs.declared.found.Found.{Found}
use Rattle.volume_ops.specs.declared.found.Found.TheVariants as found
use Rattle.volume_ops.specs.declared.found.FoundNode.{FoundNode}
use Rattle.volume_ops.specs.Reads.{Reads, Ret, answer, if_ok}
use Rattle.volume_ops.specs.laws.ReadsLaws.{if_ok-parts, same_Ok}
use Rattle.volume_ops.specs.Places.{is_directory, birth_of, inode_of_birth}
use Rattle.volume_ops.specs.Marks.{no_marks, is_marked, unmet}
use Rattle.volume_ops.specs.laws.MarksLaws.{is_marked_same, is_marked_other, is_marked_kept, is_marked_new, length-marked, no_mark, length-no_marks, unmet-no_marks, unmet-marked}
use Rattle.tree_model.specs.laws.MapsLaws.{at_name-In}
use Rattle.volume_ops.specs.Zones.{Fault}
use Rattle.volume_ops.proofs.SlotsLaws.{inode_of_birth_of, IsDirectoryAt, IsNamed}
use Rattle.volume_ops.specs.Walk.{WalkState, Walked, found_in, Pending, Visit, pending_in, met_node, visit, walk_through, walk, at_start, root as first_pending, walk_volume}
use Rattle.volume_ops.specs.Volume.{disk_of, node_of}
use Rattle.volume_ops.specs.VolumeFields.{inode_at, IsNodeOf, IsBelow}
use Rattle.volume_ops.proofs.VisitLaws.{names_in, IsVisit, visit_is}

-- a node that was found gives this name to this birth
pub record NamedIn (blocks : List (List ℕ)) (ns : List FoundNode) (parent : ℕ) (name : List ℕ) (birth : ℕ) : Type 0 where
  pub namer : FoundNode
  pub within : In namer ns
  pub is : namer.birth ≡ parent
  pub named : at_name (names_in (node_of blocks namer.found)) name ≡ Some birth

named_left : {blocks : List (List ℕ)} {ns : List FoundNode} {parent : ℕ} {name : List ℕ} {birth : ℕ} (n : FoundNode) →
    NamedIn blocks ns parent name birth → NamedIn blocks (ns ++ n ∷ []) parent name birth
named_left {ns} n h = record { namer = h.namer; within = In-push_left ns n h.namer h.within; is = h.is; named = h.named }

named_cases : {blocks : List (List ℕ)} {parent : ℕ} {name : List ℕ} {birth : ℕ} (ns : List FoundNode) (n : FoundNode) →
    NamedIn blocks (ns ++ n ∷ []) parent name birth →
    NamedIn blocks ns parent name birth ⊎ ((n.birth ≡ parent) × (at_name (names_in (node_of blocks n.found)) name ≡ Some birth))
named_cases {blocks} {parent} {name} {birth} ns n h =
    ⊎_elim
    (λ i. inl (record { namer = h.namer; within = i; is = h.is; named = h.named }))
    (λ e. inr (subst (λ m. (m.birth ≡ parent) × (at_name (names_in (node_of blocks m.found)) name ≡ Some birth)) (sym e) (h.is, h.named)))
    (In-push_cases ns n h.namer h.within)

-- the births that names lead to from the root, among the nodes that were found
pub data IsReachedIn (blocks : List (List ℕ)) (ns : List FoundNode) : ℕ → Type 0 where
  from_root : IsReachedIn blocks ns 0
  from_parent : {parent birth : ℕ} {name : List ℕ} → IsReachedIn blocks ns parent → NamedIn blocks ns parent name birth → IsReachedIn blocks ns birth

still_reached : {blocks : List (List ℕ)} {ns : List FoundNode} {birth : ℕ} (n : FoundNode) → IsReachedIn blocks ns birth → IsReachedIn blocks (ns ++ n ∷ []) birth
still_reached n from_root = from_root
still_reached n (from_parent h name) = from_parent (still_reached n h) (named_left n name)

-- The state of the walk, where the inodes `ahead` are to be met and the nodes found so far name the inodes `told`:
-- nodes say what their inodes say, each has its own birth and, but for the root, a name, each name leads to an
-- inode that was met or is ahead, and a directory has one name.
pub record IsWalked (g : Geometry) (blocks : List (List ℕ)) (ahead told : List Pending) (w : WalkState) : Type 0 where
  pub each : (n : FoundNode) → In n w.nodes → IsNodeOf g blocks (inode_at g blocks (inode_of_birth n.birth)) (node_of blocks n.found)
  pub one : (m n : FoundNode) → In m w.nodes → In n w.nodes → m.birth ≡ n.birth → m ≡ n
  pub met : (n : FoundNode) → In n w.nodes → inode_of_birth n.birth ≤ g.inodes → is_marked w.inodes (inode_of_birth n.birth) ≡ true
  pub found : (inode : ℕ) → is_marked w.inodes inode ≡ true → (n : FoundNode) × In n w.nodes × (n.birth ≡ birth_of inode)
  pub some : (parent : ℕ) (name : List ℕ) (birth : ℕ) → NamedIn blocks w.nodes parent name birth → 0 < inode_of_birth birth
  pub whose : (parent : ℕ) (name : List ℕ) (birth : ℕ) → NamedIn blocks w.nodes parent name birth → birth_of (inode_of_birth birth) ≡ birth
  pub within : (parent : ℕ) (name : List ℕ) (birth : ℕ) → NamedIn blocks w.nodes parent name birth → inode_of_birth birth ≤ g.inodes
  pub no_root : (parent : ℕ) (name : List ℕ) (birth : ℕ) → NamedIn blocks w.nodes parent name birth → birth ≢ 0
  pub leads : (parent : ℕ) (name : List ℕ) (birth : ℕ) → NamedIn blocks w.nodes parent name birth →
      (is_marked w.inodes (inode_of_birth birth) ≡ true) ⊎ In (record { inode = inode_of_birth birth; parent = parent }) ahead
  pub named : (e : Pending) → In e told → (name : List ℕ) × (birth : ℕ) × (inode_of_birth birth ≡ e.inode) × NamedIn blocks w.nodes e.parent name birth
  pub has_name : (n : FoundNode) → In n w.nodes → n.birth ≢ 0 →
      (parent : ℕ) × (name : List ℕ) × NamedIn blocks w.nodes parent name n.birth × IsBelow parent (node_of blocks n.found)
  pub reached : (n : FoundNode) → In n w.nodes → IsReachedIn blocks w.nodes n.birth
  pub once : (parent other : ℕ) (name more : List ℕ) (birth : ℕ) → NamedIn blocks w.nodes parent name birth → NamedIn blocks w.nodes other more birth →
      IsDirectoryAt (disk_of blocks) g (inode_of_birth birth) → (parent ≡ other) × (name ≡ more)
  pub noted : (parent : ℕ) (name : List ℕ) (birth : ℕ) → NamedIn blocks w.nodes parent name birth →
      IsDirectoryAt (disk_of blocks) g (inode_of_birth birth) → is_marked w.named (inode_of_birth birth) ≡ true
  pub root_named : 1 ≤ g.inodes → is_marked w.named 1 ≡ true
  pub no_zero : is_marked w.inodes 0 ≡ false
  pub inodes_size : length w.inodes ≡ g.inodes + 1
  pub named_size : length w.named ≡ g.inodes + 1

no_node : {blocks : List (List ℕ)} {parent : ℕ} {name : List ℕ} {birth : ℕ} → NamedIn blocks [] parent name birth → ⊥
no_node h = h.within

-- where the walk begins
starts : (g : Geometry) (blocks : List (List ℕ)) (ahead : List Pending) → IsWalked g blocks ahead [] (at_start g)
starts g blocks ahead = record {
  each = λ n i. absurd i;
  one = λ m n i. absurd i;
  met = λ n i. absurd i;
  found = λ inode t. absurd (true≢false (sym t ∙ no_mark (g.inodes + 1) inode));
  some = λ parent name birth h. absurd (no_node h);
  whose = λ parent name birth h. absurd (no_node h);
  within = λ parent name birth h. absurd (no_node h);
  no_root = λ parent name birth h. absurd (no_node h);
  leads = λ parent name birth h. absurd (no_node h);
  named = λ e i. absurd i;
  has_name = λ n i. absurd i;
  reached = λ n i. absurd i;
  once = λ parent other name more birth h. absurd (no_node h);
  noted = λ parent name birth h. absurd (no_node h);
  root_named = λ some. is_marked_same (no_marks (g.inodes + 1)) 1 (omega (arith, length-no_marks (g.inodes + 1)));
  no_zero = no_mark (g.inodes + 1) 0;
  inodes_size = length-no_marks (g.inodes + 1);
  named_size = length-marked (no_marks (g.inodes + 1)) 1 ∙ length-no_marks (g.inodes + 1);
}

-- the same state, with other inodes ahead and told of
retold : (g : Geometry) (blocks : List (List ℕ)) (ahead told ahead_now told_now : List Pending) (w : WalkState) → IsWalked g blocks ahead told w →
    ((parent birth : ℕ) → In (record { inode = inode_of_birth birth; parent = parent }) ahead →
    (is_marked w.inodes (inode_of_birth birth) ≡ true) ⊎ In (record { inode = inode_of_birth birth; parent = parent }) ahead_now) →
    ((e : Pending) → In e told_now → In e told) → IsWalked g blocks ahead_now told_now w
retold g blocks ahead told ahead_now told_now w h on from = record {
  each = h.each;
  one = h.one;
  met = h.met;
  found = h.found;
  some = h.some;
  whose = h.whose;
  within = h.within;
  no_root = h.no_root;
  leads = λ parent name birth n. ⊎_elim inl (on parent birth) (h.leads parent name birth n);
  named = λ e i. h.named e (from e i);
  has_name = h.has_name;
  reached = h.reached;
  once = h.once;
  noted = h.noted;
  root_named = h.root_named;
  no_zero = h.no_zero;
  inodes_size = h.inodes_size;
  named_size = h.named_size;
}

-- an inode that was met is passed over
passed : (g : Geometry) (blocks : List (List ℕ)) (e : Pending) (rest : List Pending) (w : WalkState) →
    IsWalked g blocks (e ∷ rest) (e ∷ rest) w → is_marked w.inodes e.inode ≡ true → IsWalked g blocks rest rest w
passed g blocks e rest w h t =
    retold g blocks (e ∷ rest) (e ∷ rest) rest rest w h
    (λ parent birth i. ⊎_elim (λ q. inl (subst (λ k. is_marked w.inodes k ≡ true) (ap (λ e. e.inode) q) t)) inr i)
    (λ x i. inr i)

-- the next inode is no longer told of
forgotten : (g : Geometry) (blocks : List (List ℕ)) (e : Pending) (rest : List Pending) (w : WalkState) →
    IsWalked g blocks (e ∷ rest) (e ∷ rest) w → IsWalked g blocks (e ∷ rest) rest w
forgotten g blocks e rest w h = retold g blocks (e ∷ rest) (e ∷ rest) (e ∷ rest) rest w h (λ parent birth i. inr i) (λ x i. inr i)

-- ---- one visit

module _ (g : Geometry) (blocks : List (List ℕ)) (root_is : IsDirectoryAt (disk_of blocks) g 1) where
  -- the inode of e was not met, is that of a birth, and but for the root has a name
  pub record IsNext (e : Pending) (w : WalkState) : Type 0 where
    pub some : 0 < e.inode
    pub unmet : is_marked w.inodes e.inode ≡ false
    pub apart : (m : FoundNode) → In m w.nodes → m.birth ≢ birth_of e.inode
    pub has_name : birth_of e.inode ≢ 0 → (name : List ℕ) × NamedIn blocks w.nodes e.parent name (birth_of e.inode)

  -- a node that is found more
  module _ (e : Pending) (ahead told : List Pending) (w : WalkState) (zones named : List Bool) (met : Found)
      (h : IsWalked g blocks (e ∷ ahead) told w) (next : IsNext e w)
      (says : IsNodeOf g blocks (inode_at g blocks e.inode) (node_of blocks met))
      (below : IsBelow e.parent (node_of blocks met))
      (names : IsNamed (disk_of blocks) g w.named (record { named = named; names = names_in (node_of blocks met) })) where
    abbrev new : FoundNode
    new = record { birth = birth_of e.inode; found = met }

    abbrev new_names : List (List ℕ × ℕ)
    new_names = names_in (node_of blocks met)

    abbrev named_new : List Pending
    named_new = pending_in (birth_of e.inode) new_names

    abbrev after : WalkState
    after = met_node w e.inode zones named met

    number : inode_of_birth (birth_of e.inode) ≡ e.inode
    number = inode_of_birth_of e.inode next.some

    -- each node, the ones before and the new one
    node_cases : (P : FoundNode → Type 0) → ((n : FoundNode) → In n w.nodes → P n) → P new → (n : FoundNode) → In n after.nodes → P n
    node_cases P old here n i = ⊎_elim (old n) (λ q. subst P q here) (In-push_cases w.nodes new n i)

    -- each name, those before and the new ones
    name_cases : (P : ℕ → List ℕ → ℕ → Type 0) →
        ((parent : ℕ) (name : List ℕ) (birth : ℕ) → NamedIn blocks w.nodes parent name birth → P parent name birth) →
        ((name : List ℕ) (birth : ℕ) → at_name new_names name ≡ Some birth → P (birth_of e.inode) name birth) →
        (parent : ℕ) (name : List ℕ) (birth : ℕ) → NamedIn blocks after.nodes parent name birth → P parent name birth
    name_cases P old here parent name birth n =
        ⊎_elim (old parent name birth) (λ x. subst (λ parent. P parent name birth) x.0 (here name birth x.1)) (named_cases w.nodes new n)

    each_more : (n : FoundNode) → In n after.nodes → IsNodeOf g blocks (inode_at g blocks (inode_of_birth n.birth)) (node_of blocks n.found)
    each_more = node_cases (λ n. IsNodeOf g blocks (inode_at g blocks (inode_of_birth n.birth)) (node_of blocks n.found)) h.each
        (subst (λ inode. IsNodeOf g blocks (inode_at g blocks inode) (node_of blocks met)) (sym number) says)

    one_more : (m n : FoundNode) → In m after.nodes → In n after.nodes → m.birth ≡ n.birth → m ≡ n
    one_more m n i j e =
        ⊎_elim
        (λ i.
        ⊎_elim
        (λ j. h.one m n i j e)
        (λ q. absurd (next.apart m i (e ∙ sym (ap (λ n. n.birth) q))))
        (In-push_cases w.nodes new n j))
        (λ p.
        ⊎_elim
        (λ j. absurd (next.apart n j (sym e ∙ sym (ap (λ n. n.birth) p))))
        (λ q. sym p ∙ q)
        (In-push_cases w.nodes new n j))
        (In-push_cases w.nodes new m i)

    marked_here : e.inode ≤ g.inodes → is_marked after.inodes e.inode ≡ true
    marked_here low = is_marked_same w.inodes e.inode (omega (arith, h.inodes_size))

    met_all : (n : FoundNode) → In n after.nodes → inode_of_birth n.birth ≤ g.inodes → is_marked after.inodes (inode_of_birth n.birth) ≡ true
    met_all = node_cases (λ n. inode_of_birth n.birth ≤ g.inodes → is_marked after.inodes (inode_of_birth n.birth) ≡ true)
        (λ n i low. is_marked_kept w.inodes e.inode (inode_of_birth n.birth) (h.met n i low))
        (subst (λ inode. inode ≤ g.inodes → is_marked after.inodes inode ≡ true) (sym number) marked_here)

    found_more : (inode : ℕ) → is_marked after.inodes inode ≡ true → (n : FoundNode) × In n after.nodes × (n.birth ≡ birth_of inode)
    found_more inode t =
        ⊎_elim
        (λ was. let x = h.found inode was in (x.0, In-push_left w.nodes new x.0 x.1, x.2))
        (λ f. (new, In-push w.nodes new, ap birth_of (sym (is_marked_new w.inodes e.inode inode f t))))
        (cases_Bool (is_marked w.inodes inode))

    no_root_more : (parent : ℕ) (name : List ℕ) (birth : ℕ) → NamedIn blocks after.nodes parent name birth → birth ≢ 0
    no_root_more = name_cases (λ parent name birth. birth ≢ 0) h.no_root
        (λ name birth p none.
        let one : inode_of_birth birth ≡ 1 = ap inode_of_birth none in
        let low : 1 ≤ g.inodes = subst (λ k. k ≤ g.inodes) one (names.within name birth p) in
        let free : is_marked w.named 1 ≡ false = subst (λ k. IsDirectoryAt (disk_of blocks) g k → is_marked w.named k ≡ false) one (names.fresh name birth p) root_is in
        true≢false (sym (h.root_named low) ∙ free))

    leads_more : (parent : ℕ) (name : List ℕ) (birth : ℕ) → NamedIn blocks after.nodes parent name birth →
        (is_marked after.inodes (inode_of_birth birth) ≡ true) ⊎ In (record { inode = inode_of_birth birth; parent = parent }) (named_new ++ ahead)
    leads_more = name_cases (λ parent name birth. (is_marked after.inodes (inode_of_birth birth) ≡ true) ⊎ In (record { inode = inode_of_birth birth; parent = parent }) (named_new ++ ahead))
        (λ parent name birth n.
        ⊎_elim
        (λ t. inl (is_marked_kept w.inodes e.inode (inode_of_birth birth) t))
        (λ i.
        ⊎_elim
        (λ q.
        let same : e.inode ≡ inode_of_birth birth = ap (λ e. e.inode) q in
        inl (subst (λ k. is_marked after.inodes k ≡ true) same (marked_here (subst (λ k. k ≤ g.inodes) (sym same) (h.within parent name birth n)))))
        (λ i. inr (In-append_right named_new ahead (record { inode = inode_of_birth birth; parent = parent }) i))
        i)
        (h.leads parent name birth n))
        (λ name birth p.
        inr (In-append_left named_new ahead (record { inode = inode_of_birth birth; parent = birth_of e.inode })
        (map-In (λ (x : List ℕ × ℕ). record { inode = inode_of_birth x.1; parent = birth_of e.inode }) new_names (name, birth) (at_name-In new_names name birth p))))

    named_here : (name : List ℕ) (birth : ℕ) → at_name new_names name ≡ Some birth → NamedIn blocks after.nodes (birth_of e.inode) name birth
    named_here name birth p = record { namer = new; within = In-push w.nodes new; is = refl; named = p }

    named_more : (x : Pending) → In x (named_new ++ told) →
        (name : List ℕ) × (birth : ℕ) × (inode_of_birth birth ≡ x.inode) × NamedIn blocks after.nodes x.parent name birth
    named_more x i =
        ⊎_elim
        (λ i.
        let y = In-map (λ (x : List ℕ × ℕ). record { inode = inode_of_birth x.1; parent = birth_of e.inode }) new_names x i in
        let n : NamedIn blocks after.nodes (birth_of e.inode) y.0.0 y.0.1 = named_here y.0.0 y.0.1 (names.told y.0 y.1) in
        (y.0.0, y.0.1, ap (λ e. e.inode) y.2, subst (λ parent. NamedIn blocks after.nodes parent y.0.0 y.0.1) (ap (λ e. e.parent) y.2) n))
        (λ i. let y = h.named x i in (y.0, y.1, y.2, named_left new y.3))
        (In-append_cases named_new told x i)

    has_name_more : (n : FoundNode) → In n after.nodes → n.birth ≢ 0 →
        (parent : ℕ) × (name : List ℕ) × NamedIn blocks after.nodes parent name n.birth × IsBelow parent (node_of blocks n.found)
    has_name_more = node_cases
        (λ n. n.birth ≢ 0 → (parent : ℕ) × (name : List ℕ) × NamedIn blocks after.nodes parent name n.birth × IsBelow parent (node_of blocks n.found))
        (λ n i some. let y = h.has_name n i some in (y.0, y.1, named_left new y.2, y.3))
        (λ some. let y = next.has_name some in (e.parent, y.0, named_left new y.1, below))

    reached_here : IsReachedIn blocks w.nodes (birth_of e.inode)
    reached_here =
        ⊎_elim
        (λ none. subst (λ birth. IsReachedIn blocks w.nodes birth) (sym none) from_root)
        (λ some.
        let y = next.has_name some in
        from_parent (subst (λ parent. IsReachedIn blocks w.nodes parent) y.1.is (h.reached y.1.namer y.1.within)) y.1)
        (cases_eq (birth_of e.inode) 0)

    reached_more : (n : FoundNode) → In n after.nodes → IsReachedIn blocks after.nodes n.birth
    reached_more = node_cases (λ n. IsReachedIn blocks after.nodes n.birth) (λ n i. still_reached new (h.reached n i)) (still_reached new reached_here)

    -- a directory that was named before is no new name
    no_more : (parent : ℕ) (name more : List ℕ) (birth : ℕ) → NamedIn blocks w.nodes parent name birth → at_name new_names more ≡ Some birth →
        IsDirectoryAt (disk_of blocks) g (inode_of_birth birth) → ⊥
    no_more parent name more birth n p d = true≢false (sym (h.noted parent name birth n d) ∙ names.fresh more birth p d)

    once_more : (parent other : ℕ) (name more : List ℕ) (birth : ℕ) → NamedIn blocks after.nodes parent name birth → NamedIn blocks after.nodes other more birth →
        IsDirectoryAt (disk_of blocks) g (inode_of_birth birth) → (parent ≡ other) × (name ≡ more)
    once_more parent other name more birth m n d =
        ⊎_elim
        (λ m.
        ⊎_elim
        (λ n. h.once parent other name more birth m n d)
        (λ x. absurd (no_more parent name more birth m x.1 d))
        (named_cases w.nodes new n))
        (λ x.
        ⊎_elim
        (λ n. absurd (no_more other more name birth n x.1 d))
        (λ y. (sym x.0 ∙ y.0, names.once name more birth x.1 y.1 d))
        (named_cases w.nodes new n))
        (named_cases w.nodes new m)

    noted_more : (parent : ℕ) (name : List ℕ) (birth : ℕ) → NamedIn blocks after.nodes parent name birth →
        IsDirectoryAt (disk_of blocks) g (inode_of_birth birth) → is_marked named (inode_of_birth birth) ≡ true
    noted_more = name_cases (λ parent name birth. IsDirectoryAt (disk_of blocks) g (inode_of_birth birth) → is_marked named (inode_of_birth birth) ≡ true)
        (λ parent name birth n d. names.kept (inode_of_birth birth) (h.noted parent name birth n d))
        names.noted

    pub met_more : IsWalked g blocks (pending_in (birth_of e.inode) (names_in (node_of blocks met)) ++ ahead)
        (pending_in (birth_of e.inode) (names_in (node_of blocks met)) ++ told) (met_node w e.inode zones named met)
    met_more = record {
      each = each_more;
      one = one_more;
      met = met_all;
      found = found_more;
      some = name_cases (λ parent name birth. 0 < inode_of_birth birth) h.some names.some;
      whose = name_cases (λ parent name birth. birth_of (inode_of_birth birth) ≡ birth) h.whose names.whose;
      within = name_cases (λ parent name birth. inode_of_birth birth ≤ g.inodes) h.within names.within;
      no_root = no_root_more;
      leads = leads_more;
      named = named_more;
      has_name = has_name_more;
      reached = reached_more;
      once = once_more;
      noted = noted_more;
      root_named = λ some. names.kept 1 (h.root_named some);
      no_zero = is_marked_other w.inodes e.inode 0 (λ z. let some = next.some in omega arith) ∙ h.no_zero;
      inodes_size = length-marked w.inodes e.inode ∙ h.inodes_size;
      named_size = names.size;
    }

-- ---- the walk

-- the root was found: a directory, its own parent
pub record HasRoot (ns : List FoundNode) : Type 0 where
  pub directory : Directory
  pub stands : In (record { birth = 0; found = found.Directory directory }) ns
  pub parent : directory.parent ≡ 0

-- where the walk ends with these nodes
pub record Ends (g : Geometry) (blocks : List (List ℕ)) (ns : List FoundNode) : Type 0 where
  pub state : WalkState
  pub walked : IsWalked g blocks [] [] state
  pub root : HasRoot state.nodes
  pub nodes : state.nodes ≡ ns

root_stays : (ns : List FoundNode) (n : FoundNode) → HasRoot ns → HasRoot (ns ++ n ∷ [])
root_stays ns n h = record { directory = h.directory; stands = In-push_left ns n (record { birth = 0; found = found.Directory h.directory }) h.stands; parent = h.parent }

module _ (g : Geometry) (blocks : List (List ℕ)) (root_is : IsDirectoryAt (disk_of blocks) g 1) where
  -- a pending inode that was not met is the next
  next_is : (e : Pending) (rest : List Pending) (w : WalkState) → IsWalked g blocks (e ∷ rest) (e ∷ rest) w → is_marked w.inodes e.inode ≡ false → IsNext g blocks root_is e w
  next_is e rest w h f =
      let x = h.named e (inl refl) in
      let low : e.inode ≤ g.inodes = subst (λ k. k ≤ g.inodes) x.2 (h.within e.parent x.0 x.1 x.3) in
      let some : 0 < e.inode = subst (λ k. 0 < k) x.2 (h.some e.parent x.0 x.1 x.3) in
      let birth : x.1 ≡ birth_of e.inode = sym (h.whose e.parent x.0 x.1 x.3) ∙ ap birth_of x.2 in
      record {
        some = some;
        unmet = f;
        apart = λ m i q.
            let same : inode_of_birth m.birth ≡ e.inode = ap inode_of_birth q ∙ inode_of_birth_of e.inode some in
            true≢false (sym (subst (λ k. k ≤ g.inodes → is_marked w.inodes k ≡ true) same (h.met m i) low) ∙ f);
        has_name = λ _. (x.0, subst (λ birth. NamedIn blocks w.nodes e.parent x.0 birth) birth x.3);
      }

  -- a pending inode is one of the volume
  pending_low : (e : Pending) (rest : List Pending) (w : WalkState) → IsWalked g blocks (e ∷ rest) (e ∷ rest) w → e.inode ≤ g.inodes
  pending_low e rest w h = let x = h.named e (inl refl) in subst (λ k. k ≤ g.inodes) x.2 (h.within e.parent x.0 x.1 x.3)

  -- a visit in the walk: what holds after it, and one inode less is to be met
  after_visit : (e : Pending) (ahead told : List Pending) (w : WalkState) (v : Visit) → IsWalked g blocks (e ∷ ahead) told w → IsNext g blocks root_is e w →
      IsVisit g blocks w e (inode_at g blocks e.inode) v → IsWalked g blocks (v.names ++ ahead) (v.names ++ told) v.state
  after_visit e ahead told w v h next x =
      subst (λ v. IsWalked g blocks (v.names ++ ahead) (v.names ++ told) v.state) x.is
      (met_more g blocks root_is e ahead told w x.zones x.named x.met h next x.says x.below x.names)

  fewer : (e : Pending) (w : WalkState) (v : Visit) (i : Inode) → IsVisit g blocks w e i v → e.inode < length w.inodes → is_marked w.inodes e.inode ≡ false →
      unmet w.inodes ≡ unmet v.state.inodes + 1
  fewer e w v i x low f = subst (λ v. unmet w.inodes ≡ unmet v.state.inodes + 1) x.is (unmet-marked w.inodes e.inode low f)

  module _ (all : Walked) (n : ℕ) (again : WalkState → List Pending → Reads (Result Walked Fault))
      (goes : (w : WalkState) (rest : List Pending) → answer (disk_of blocks) (again w rest) ≡ Ok all → IsWalked g blocks rest rest w → HasRoot w.nodes → unmet w.inodes ≤ n → Ends g blocks all.nodes) where
    through_by : (w : WalkState) (e : Pending) (rest : List Pending) (was : Bool) → is_marked w.inodes e.inode ≡ was →
        (IsWalked g blocks rest rest w → answer (disk_of blocks) (walk_through g again w rest) ≡ Ok all → Ends g blocks all.nodes) →
        answer (disk_of blocks) (if was then walk_through g again w rest else if_ok (visit g w e) (λ v. again v.state (v.names ++ rest))) ≡ Ok all →
        IsWalked g blocks (e ∷ rest) (e ∷ rest) w → HasRoot w.nodes → unmet w.inodes ≤ n + 1 → Ends g blocks all.nodes
    through_by w e rest true was past r h root budget = past (passed g blocks e rest w h was) r
    through_by w e rest false was past r h root budget =
        let parts = if_ok-parts (disk_of blocks) (visit g w e) (λ v. again v.state (v.names ++ rest)) all r in
        let v : Visit = parts.0 in
        let x = visit_is g blocks w e v h.named_size parts.1 in
        let low = pending_low e rest w h in
        let less = fewer e w v (inode_at g blocks e.inode) x (omega (arith, h.inodes_size)) was in
        goes v.state (v.names ++ rest) parts.2 (after_visit e rest rest w v (forgotten g blocks e rest w h) (next_is e rest w h was) x)
        (subst (λ v. HasRoot v.state.nodes) x.is (root_stays w.nodes (record { birth = birth_of e.inode; found = x.met }) root))
        (omega arith)

    through : (w : WalkState) (pending : List Pending) → answer (disk_of blocks) (walk_through g again w pending) ≡ Ok all →
        IsWalked g blocks pending pending w → HasRoot w.nodes → unmet w.inodes ≤ n + 1 → Ends g blocks all.nodes
    through w [] r h root budget = record { state = w; walked = h; root = root; nodes = ap (λ (w : Walked). w.nodes) (same_Ok (found_in w) all r) }
    through w (e ∷ rest) r h root budget =
        through_by w e rest (is_marked w.inodes e.inode) refl (λ h r. through w rest r h root budget) r h root budget

  walk_ends : (n : ℕ) (all : Walked) (w : WalkState) (pending : List Pending) → answer (disk_of blocks) (walk n g w pending) ≡ Ok all →
      IsWalked g blocks pending pending w → HasRoot w.nodes → unmet w.inodes ≤ n + 1 → Ends g blocks all.nodes
  walk_ends zero all w pending r h root budget =
      through all 0 (λ w rest. Ret (Ok (found_in w)))
      (λ w rest r h root none. let some = unmet-marked w.inodes 0 (omega (arith, h.inodes_size)) h.no_zero in absurd (omega arith))
      w pending r h root budget
  walk_ends (suc n) all w pending r h root budget =
      through all (n + 1) (walk n g) (λ w rest r h root left. walk_ends n all w rest r h root left) w pending r h root (omega arith)

-- ---- from the root on

-- the root's node is a directory, its own parent
root_node : (g : Geometry) (blocks : List (List ℕ)) (i : Inode) (met : Found) → is_directory i.mode ≡ true → IsNodeOf g blocks i (node_of blocks met) → IsBelow 0 (node_of blocks met) →
    (d : Directory) × (met ≡ found.Directory d) × (d.parent ≡ 0)
root_node g blocks i (found.Directory d) kind says below = (d, refl, below)
root_node g blocks i (found.File f) kind says below = absurd (let four = eqb-true (i.mode / 4096) 4 kind in let eight = eqb-true (i.mode / 4096) 8 says.kind in omega arith)
root_node g blocks i (found.Other mode) kind says below = absurd (true≢false (sym kind ∙ says.no_directory))

module _ (g : Geometry) (blocks : List (List ℕ)) (v : Visit) (x : IsVisit g blocks (at_start g) first_pending (inode_at g blocks 1) v) where
  root_kind : IsDirectoryAt (disk_of blocks) g 1
  root_kind = x.root refl

  after_root : IsWalked g blocks (v.names ++ []) (v.names ++ []) v.state
  after_root =
      after_visit g blocks root_kind first_pending [] [] (at_start g) v (starts g blocks (first_pending ∷ []))
      (record {
        some = omega arith;
        unmet = no_mark (g.inodes + 1) 1;
        apart = λ m i. absurd i;
        has_name = λ some. absurd (some refl);
      })
      x

  root_found : HasRoot v.state.nodes
  root_found =
      let y = root_node g blocks (inode_at g blocks 1) x.met (x.root refl) x.says x.below in
      let here : HasRoot (record { birth = 0; found = x.met } ∷ []) =
      record { directory = y.0; stands = inl (ap (λ found. record { birth = 0; found = found }) y.1); parent = y.2 } in
      subst (λ v. HasRoot v.state.nodes) x.is here

no_pending : (pending : List Pending) → ((e : Pending) → In e pending → ⊥) → pending ≡ []
no_pending [] none = refl
no_pending (e ∷ rest) none = absurd (none e (inl refl))

walk_from : (g : Geometry) (blocks : List (List ℕ)) (all : Walked) (n : ℕ) → g.inodes ≡ n →
    answer (disk_of blocks) (walk n g (at_start g) (first_pending ∷ [])) ≡ Ok all → Ends g blocks all.nodes
walk_from g blocks all zero size r =
    let parts = if_ok-parts (disk_of blocks) (visit g (at_start g) first_pending) (λ v. Ret (Ok (found_in v.state))) all (rw (no_mark (g.inodes + 1) 1) at r) in
    let v : Visit = parts.0 in
    let x = visit_is g blocks (at_start g) first_pending v (starts g blocks []).named_size parts.1 in
    let h = after_root g blocks v x in
    let none : v.names ++ [] ≡ [] =
    no_pending (v.names ++ [])
    (λ e i. let y = h.named e i in let low = h.within e.parent y.0 y.1 y.3 in let some = h.some e.parent y.0 y.1 y.3 in omega arith) in
    record {
      state = v.state;
      walked = subst (λ pending. IsWalked g blocks pending pending v.state) none h;
      root = root_found g blocks v x;
      nodes = ap (λ (w : Walked). w.nodes) (same_Ok (found_in v.state) all parts.2);
    }
walk_from g blocks all (suc n) size r =
    let parts = if_ok-parts (disk_of blocks) (visit g (at_start g) first_pending) (λ v. walk n g v.state (v.names ++ [])) all (rw (no_mark (g.inodes + 1) 1) at r) in
    let v : Visit = parts.0 in
    let x = visit_is g blocks (at_start g) first_pending v (starts g blocks []).named_size parts.1 in
    let less = fewer g blocks (root_kind g blocks v x) first_pending (at_start g) v (inode_at g blocks 1) x (omega (arith, length-no_marks (g.inodes + 1))) (no_mark (g.inodes + 1) 1) in
    walk_ends g blocks (root_kind g blocks v x) n all v.state (v.names ++ []) parts.2 (after_root g blocks v x) (root_found g blocks v x)
    (omega (arith, unmet-no_marks (g.inodes + 1)))

-- what a walk through a volume found hangs together
pub walk_volume-ends : (g : Geometry) (blocks : List (List ℕ)) (all : Walked) → answer (disk_of blocks) (walk_volume g) ≡ Ok all → Ends g blocks all.nodes
unfolding walk_volume
walk_volume-ends g blocks all r = walk_from g blocks all g.inodes refl r
