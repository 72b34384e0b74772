-- What steps make of the tree that a volume stands for, and of the zones that this uses.
use Rattle.std.specs.Prelude.{◌≡◌, ◌+◌, ◌*◌, nat_lt, if◌then◌else◌, ℕ, Bool, List, [], ◌∷◌, length, map, Some, None, refl, unwrap_or, option_map}
use Rattle.std.specs.Int.{div_ceil}
use Rattle.std.specs.List.{sum_by}
use Rattle.std.specs.List.Sorted.{IsStrictlySortedBy}
use Rattle.std.specs.Map.{keys_of, remove_entry}
use Rattle.std.specs.BTreeMap.{is_at}
use Rattle.std.specs.Ordering.{nat_cmp}
use Rattle.std.proofs.Common.{sym, ap, subst, inl, inr, ◌∙◌, arith}
use Rattle.std.proofs.lemmas.Bool.{cases_Bool}
use Rattle.std.proofs.lemmas.Cmp.{nat_cmp_total}
use Rattle.std.proofs.lemmas.Map.Entries.{sum_by-insert_entry, sum_by-remove_entry}
use Rattle.std.proofs.lemmas.Option.{same_Some, none-some}
use Rattle.blk_base.specs.Members.{In}
use Rattle.minix_layout.specs.declared.division.Geometry.{Geometry}
use Rattle.minix_layout.specs.declared.inode.Inode.{Inode}
use Rattle.minix_layout.specs.Widths.{slot_size, slots_a_block}
use Rattle.minix_layout.specs.laws.Places.{IsForm, narrow, wide, form_is}
use Rattle.tree_model.specs.declared.node.Node.{Node}
use Rattle.tree_model.specs.declared.node.Node.TheVariants as nodes
use Rattle.tree_model.specs.Maps.{at_number, put_number, without_number}
use Rattle.tree_model.specs.laws.MapOrder.{InOrder}
use Rattle.tree_model.specs.Calls.{Tree, new_directory, node_zones, used_zones}
use Rattle.volume_ops.specs.declared.found.Mapped.{Mapped}
use Rattle.volume_ops.specs.Volume.{disk_of, bodies_of}
use Rattle.volume_model.specs.declared.placed.Placed.{Placed}
use Rattle.volume_model.specs.declared.placed.Part.{Part}
use Rattle.volume_model.specs.declared.placed.Part.TheVariants as parts
use Rattle.volume_model.specs.Volume.{IsPart, IsFilePart, IsVolumeOf}
use Rattle.volume_model.specs.Touched.{Contents, Page, HasPage}
use Rattle.volume_model.specs.Trees.{node_from, node_now, tree_now, in_order}
use Rattle.volume_model.specs.laws.Trees.{seen_by, seen_put, seen_at, seen_same, In-at}
use Rattle.volume_steps.proofs.Grows.{GrowsTo, page_kept, meta_no_page}

-- a new directory has one zone
pub new_zones : (width parent : ℕ) → node_zones (new_directory width parent) ≡ 1
new_zones width parent = by (slot_size width) (slots_a_block width) (form_is width)
  where
    by : (size per : ℕ) → IsForm size per → div_ceil 2 per + (if nat_lt (7 * per) 2 then 1 else 0) ≡ 1
    by size per narrow = refl
    by size per wide = refl

-- ---- maps whose values are seen by f

pub seen_without : {X Y : Type 0} (f : X → Y) (test : ℕ → Bool) (es : List (ℕ × X)) → seen_by f (remove_entry test es) ≡ remove_entry test (seen_by f es)
seen_without f test [] = refl
seen_without f test (e ∷ es) = elim (cases_Bool (test e.0)) [
  | inl t ↦ rw t refl
  | inr u ↦ rw u (ap (λ more. (e.0, f e.1) ∷ more) (seen_without f test es))
]

pub keys_seen : {X Y : Type 0} (f : X → Y) (es : List (ℕ × X)) → keys_of (seen_by f es) ≡ keys_of es
keys_seen f [] = refl
keys_seen f (e ∷ es) = ap (λ more. e.0 ∷ more) (keys_seen f es)

-- what is seen is there
pub seen_back : {X Y : Type 0} (f : X → Y) (es : List (ℕ × X)) (k : ℕ) (y : Y) → at_number (seen_by f es) k ≡ Some y → (x : X) × (at_number es k ≡ Some x) × (f x ≡ y)
seen_back f [] k y h = absurd (cc)
seen_back f (e ∷ es) k y h = elim (cases_Bool (is_at (nat_cmp k) e.0)) [
  | inl t ↦ (e.1, (let found : at_number (e ∷ es) k ≡ Some e.1 = rw t refl in found), same_Some (f e.1) y (rw t at h))
  | inr u ↦ (let rest = seen_back f es k y (rw u at h) in (rest.0, (let found : at_number (e ∷ es) k ≡ Some rest.0 = rw u rest.1 in found), rest.2))
]

pub seen_none : {X Y : Type 0} (f : X → Y) (es : List (ℕ × X)) (k : ℕ) → at_number es k ≡ None → at_number (seen_by f es) k ≡ None
seen_none f [] k h = refl
seen_none f (e ∷ es) k h = elim (cases_Bool (is_at (nat_cmp k) e.0)) [
  | inl t ↦ absurd (none-some e.1 (sym (rw t at h)))
  | inr u ↦ rw u (seen_none f es k (rw u at h))
]

length_seen : {X Y : Type 0} (f : X → Y) (es : List (ℕ × X)) → length (seen_by f es) ≡ length es
length_seen f [] = refl
length_seen f (e ∷ es) = let rest = length_seen f es in omega arith

-- ---- trees of nodes

pub tree_length : (blocks : List (List ℕ)) (nodes : List (ℕ × Placed)) → length (tree_now blocks nodes) ≡ length nodes
unfolding tree_now
tree_length blocks nodes = length_seen (node_now blocks) nodes

pub tree_in_order : (blocks : List (List ℕ)) (nodes : List (ℕ × Placed)) → IsStrictlySortedBy nat_cmp (keys_of nodes) → InOrder (tree_now blocks nodes)
unfolding tree_now
tree_in_order blocks nodes sorted = subst (IsStrictlySortedBy nat_cmp) (sym (keys_seen (node_now blocks) nodes)) sorted

pub tree_at : (blocks : List (List ℕ)) (nodes : List (ℕ × Placed)) (n : ℕ) (p : Placed) → at_number nodes n ≡ Some p → at_number (tree_now blocks nodes) n ≡ Some (node_now blocks p)
unfolding tree_now
tree_at blocks nodes n p at = seen_at (node_now blocks) nodes n p at

pub tree_none : (blocks : List (List ℕ)) (nodes : List (ℕ × Placed)) (n : ℕ) → at_number nodes n ≡ None → at_number (tree_now blocks nodes) n ≡ None
unfolding tree_now
tree_none blocks nodes n none = seen_none (node_now blocks) nodes n none

pub tree_back : (blocks : List (List ℕ)) (nodes : List (ℕ × Placed)) (n : ℕ) (node : Node) → at_number (tree_now blocks nodes) n ≡ Some node →
    (p : Placed) × (at_number nodes n ≡ Some p) × (node_now blocks p ≡ node)
unfolding tree_now
tree_back blocks nodes n node at = seen_back (node_now blocks) nodes n node at

bodies_same : (blocks after : List (List ℕ)) (zones : List Mapped) → ((m : Mapped) → In m zones → disk_of after m.zone ≡ disk_of blocks m.zone) → bodies_of after zones ≡ bodies_of blocks zones
bodies_same blocks after [] same = refl
bodies_same blocks after (m ∷ zones) same =
    ap (λ body. (m.index, body) ∷ bodies_of after zones) (same m (inl refl))
    ∙ ap (λ more. (m.index, disk_of blocks m.zone) ∷ more) (bodies_same blocks after zones (λ x i. same x (inr i)))

pub node_same : (blocks after : List (List ℕ)) (i : Inode) (part : Part) → ((zones : List Mapped) → part ≡ parts.File zones → (m : Mapped) → In m zones → disk_of after m.zone ≡ disk_of blocks m.zone) →
    node_from after i part ≡ node_from blocks i part
node_same blocks after i (parts.Directory d) same = refl
node_same blocks after i (parts.File zones) same = ap (λ bodies. node_of_bodies bodies) (bodies_same blocks after zones (same zones refl))
  where
    node_of_bodies : List (ℕ × List ℕ) → Node
    node_of_bodies bodies = nodes.File (record { size = i.size; links = i.links; blocks = in_order bodies })

put_seen : (blocks : List (List ℕ)) (nodes : List (ℕ × Placed)) (n : ℕ) (q : Placed) → tree_now blocks (put_number nodes n q) ≡ put_number (tree_now blocks nodes) n (node_now blocks q)
unfolding tree_now
put_seen blocks nodes n q = seen_put (node_now blocks) nodes n q

removed_seen : (blocks : List (List ℕ)) (nodes : List (ℕ × Placed)) (n : ℕ) → tree_now blocks (remove_entry (is_at (nat_cmp n)) nodes) ≡ without_number (tree_now blocks nodes) n
unfolding tree_now
removed_seen blocks nodes n = seen_without (node_now blocks) (is_at (nat_cmp n)) nodes

-- pages keep their bytes
abbrev pub KeepsPages : List (List ℕ) → List (List ℕ) → List (ℕ × Placed) → Type 0
KeepsPages blocks after placed = (a : ℕ) (r : Placed) (zones : List Mapped) → at_number placed a ≡ Some r → r.part ≡ parts.File zones → (m : Mapped) → In m zones → disk_of after m.zone ≡ disk_of blocks m.zone

module _ (blocks after : List (List ℕ)) (placed : List (ℕ × Placed)) (sorted : IsStrictlySortedBy nat_cmp (keys_of placed)) (same : KeepsPages blocks after placed) where
  pub tree_same : tree_now after placed ≡ tree_now blocks placed
  unfolding tree_now
  tree_same = seen_same (node_now after) (node_now blocks) placed
      (λ e i. node_same blocks after e.1.inode e.1.part (λ zones is m j. same e.0 e.1 zones (In-at placed e.0 e.1 sorted i) is m j))

  pub tree_put : (n : ℕ) (q : Placed) → tree_now after (put_number placed n q) ≡ put_number (tree_now blocks placed) n (node_now after q)
  tree_put n q = put_seen after placed n q ∙ ap (λ tree. put_number tree n (node_now after q)) tree_same

  pub tree_without : (n : ℕ) → tree_now after (remove_entry (is_at (nat_cmp n)) placed) ≡ without_number (tree_now blocks placed) n
  tree_without n = removed_seen after placed n ∙ ap (λ tree. without_number tree n) tree_same

-- where a step touches metadata alone, they do
pub grown_pages : (g : Geometry) (v w : Contents) (blocks new nodes : List ℕ) → GrowsTo g v w blocks new → IsVolumeOf g v.blocks v.nodes → IsVolumeOf g w.blocks w.nodes → KeepsPages v.blocks w.blocks v.nodes
grown_pages g v w blocks new nodes h was stands a r zones at is m i =
    let part : IsFilePart v.blocks r.inode zones = subst (IsPart g v.blocks r.inode) is (was.each a r at).part in
    let told = part.listed m i in
    let x : Page = record { birth = a; index = m.index; zone = m.zone } in
    let page : HasPage v x = record { placed = r; zones = zones; stands = at; is_file = is; zone = told.0; some = told.1 } in
    h.bytes m.zone (λ j. meta_no_page g w x stands (h.meta m.zone j).0 (page_kept g v w blocks new nodes h stands x page))

-- ---- zones that a tree uses

pub used_put_more : (tree : Tree) (p : ℕ) (old node : Node) → InOrder tree → at_number tree p ≡ Some old → used_zones (put_number tree p node) + node_zones old ≡ used_zones tree + node_zones node
unfolding used_zones
used_put_more tree p old node order at =
    subst (λ o. sum_by node_zones (map (λ e. e.1) (put_number tree p node)) + unwrap_or (option_map node_zones o) 0 ≡ sum_by node_zones (map (λ e. e.1) tree) + node_zones node) at
    (sum_by-insert_entry node_zones nat_cmp_total tree p node order)

pub used_put_new : (tree : Tree) (p : ℕ) (node : Node) → InOrder tree → at_number tree p ≡ None → used_zones (put_number tree p node) ≡ used_zones tree + node_zones node
unfolding used_zones
used_put_new tree p node order at =
    let all = subst (λ o. sum_by node_zones (map (λ e. e.1) (put_number tree p node)) + unwrap_or (option_map node_zones o) 0 ≡ sum_by node_zones (map (λ e. e.1) tree) + node_zones node) at
    (sum_by-insert_entry node_zones nat_cmp_total tree p node order) in
    omega arith

pub used_without_one : (tree : Tree) (p : ℕ) (old : Node) → at_number tree p ≡ Some old → used_zones (without_number tree p) + node_zones old ≡ used_zones tree
unfolding used_zones
used_without_one tree p old at =
    subst (λ o. sum_by node_zones (map (λ e. e.1) (without_number tree p)) + unwrap_or (option_map node_zones o) 0 ≡ sum_by node_zones (map (λ e. e.1) tree)) at
    (sum_by-remove_entry node_zones (is_at (nat_cmp p)) tree)

pub used_put_same : (tree : Tree) (p : ℕ) (old node : Node) → InOrder tree → at_number tree p ≡ Some old → node_zones node ≡ node_zones old → used_zones (put_number tree p node) ≡ used_zones tree
used_put_same tree p old node order at same = let all = used_put_more tree p old node order at in omega arith
