-- A volume has one tree, the one that its walk gives.
use Rattle.std.specs.Prelude.{◌≡◌, ℕ, ◌+◌, ◌/◌, ◌<◌, true, false, List, [], ◌∷◌, Option, Some, None, Result, Ok, Err, refl}
use Rattle.std.proofs.Common.{Less, Equal, Greater, sym, ap, subst, ◌∙◌, ⊎_elim, arith}
use Rattle.std.specs.declared.cmp.Ordering.{Ordering}
use Rattle.std.specs.Ordering.{nat_cmp, is_eq, ordering_reverse}
use Rattle.std.specs.Cmp.{IsTotalOrder, nat_cmp_is}
use Rattle.std.specs.List.{AllByRecursion}
use Rattle.std.specs.List.Sorted.{IsStrictlySortedBy}
use Rattle.std.specs.BTreeMap.{is_at}
use Rattle.std.specs.Map.{keys_of, lookup}
use Rattle.std.proofs.lemmas.Bool.{true≢false, cases_Bool, eqb-true}
use Rattle.std.proofs.lemmas.Cmp.{nat_cmp_total, nat_list_cmp_total}
use Rattle.std.proofs.lemmas.Option.{none-some, same_Some}
use Rattle.std.proofs.lemmas.Map.{lookup-none}
use Rattle.std.proofs.lemmas.Map.Entries.{none_below_head, lookup_head, lookup_tail}
use Rattle.std.proofs.lemmas.Map.Keys.{sorted_head, sorted_tail}
use Rattle.minix_layout.specs.declared.division.Geometry.{Geometry}
use Rattle.minix_layout.specs.declared.inode.Inode.{Inode}
use Rattle.tree_model.specs.declared.node.Node.{Node}
use Rattle.tree_model.specs.declared.node.Node.TheVariants as nodes
use Rattle.tree_model.specs.declared.node.File.{File}
use Rattle.tree_model.specs.Maps.{at_number, at_name, name_cmp}
use Rattle.tree_model.specs.laws.MapsLaws.{same_pair, number_here, number_same, name_here, name_same}
use Rattle.tree_model.specs.Rooted.{HasEntry, IsLedTo, at_root, by_name}
use Rattle.volume_ops.specs.declared.found.Mapped.{Mapped}
use Rattle.volume_ops.specs.declared.found.Found.{Found}
use Rattle.volume_ops.specs.declared.found.Found.TheVariants as found
use Rattle.volume_ops.specs.declared.found.FoundNode.{FoundNode}
use Rattle.volume_ops.specs.laws.ReadsLaws.{err-ok, same_Ok}
use Rattle.volume_ops.specs.Places.{is_directory, is_file, inode_of_birth}
use Rattle.volume_ops.specs.Volume.{walked, bodies_of, node_of, put_nodes, tree_found, tree_of}
use Rattle.volume_ops.specs.VolumeFields.{inode_at, IsNodeOf, IsBelow}
use Rattle.volume_ops.specs.Zones.{Fault}
use Rattle.volume_ops.specs.Walk.{Walked}
use Rattle.volume_ops.specs.laws.Rising.{RiseWithin, HasRising}
use Rattle.volume_ops.proofs.RisingLaws.{walked_rises}
use Rattle.volume_ops.proofs.TreeLaws.{was_found, tree_of-fields}
use Rattle.volume_ops.proofs.RootedLaws.{tree_of-rooted}
use Rattle.blk_base.specs.laws.Members.{All-In}
use Rattle.volume_ops.specs.VolumeTrees.{IsVolumeTree}
use Rattle.volume_ops.proofs.WalkTests.{walked_faultless, faultless_walked}

-- ---- maps in order that give the same are the same

module _ {K X : Type 0} (cmp : K → K → Ordering) (order : IsTotalOrder cmp) (here : (k : K) → is_eq (cmp k k) ≡ true) (same : (j k : K) → is_eq (cmp j k) ≡ true → j ≡ k) where
  abbrev Sorted : List (K × X) → Type 0
  Sorted es = IsStrictlySortedBy cmp (keys_of es)

  pub found_first : (e : K × X) (es : List (K × X)) → lookup (is_at (cmp e.0)) (e ∷ es) ≡ Some e.1
  found_first e es = lookup_head (is_at (cmp e.0)) e es (here e.0)

  none_in : (q : K) (e : K × X) (es : List (K × X)) → Sorted (e ∷ es) → cmp q e.0 ≡ Less → lookup (is_at (cmp q)) (e ∷ es) ≡ None
  none_in q e es s less = lookup-none (is_at (cmp q)) (e ∷ es) (none_below_head order q e es s less)

  -- a key does not stand again behind its entry
  gone : (e : K × X) (es : List (K × X)) → Sorted (e ∷ es) → lookup (is_at (cmp e.0)) es ≡ None
  gone e [] s = refl
  gone e (x ∷ xs) s = none_in e.0 x xs (sorted_tail cmp e.0 (keys_of (x ∷ xs)) s) (sorted_head cmp e.0 (keys_of (x ∷ xs)) s).0

  -- what stands behind the first entry is found
  pub found_later : (e : K × X) (es : List (K × X)) (q : K) (v : X) → Sorted (e ∷ es) → lookup (is_at (cmp q)) es ≡ Some v → lookup (is_at (cmp q)) (e ∷ es) ≡ Some v
  found_later e es q v s h =
      ⊎_elim
      (λ at.
      let none : lookup (is_at (cmp q)) es ≡ None = subst (λ k. lookup (is_at (cmp k)) es ≡ None) (sym (same q e.0 at)) (gone e es s) in
      absurd (none-some v (sym none ∙ h)))
      (λ apart. lookup_tail (is_at (cmp q)) e es apart ∙ h)
      (cases_Bool (is_eq (cmp q e.0)))

  pub same_maps : (es fs : List (K × X)) → Sorted es → Sorted fs → ((k : K) → lookup (is_at (cmp k)) es ≡ lookup (is_at (cmp k)) fs) → es ≡ fs
  same_maps [] [] s t h = refl
  same_maps [] (f ∷ fs) s t h = absurd (none-some f.1 (h f.0 ∙ found_first f fs))
  same_maps (e ∷ es) [] s t h = absurd (none-some e.1 (sym (h e.0) ∙ found_first e es))
  same_maps (e ∷ es) (f ∷ fs) s t h = by (same_maps es fs (sorted_tail cmp e.0 (keys_of es) s) (sorted_tail cmp f.0 (keys_of fs) t)) (cmp e.0 f.0) refl
    where
      rest_same : e.0 ≡ f.0 → (k : K) → lookup (is_at (cmp k)) es ≡ lookup (is_at (cmp k)) fs
      rest_same keys k =
          ⊎_elim
          (λ at.
          let k_is : k ≡ e.0 = same k e.0 at in
          let left : lookup (is_at (cmp k)) es ≡ None = subst (λ k. lookup (is_at (cmp k)) es ≡ None) (sym k_is) (gone e es s) in
          let right : lookup (is_at (cmp k)) fs ≡ None = subst (λ k. lookup (is_at (cmp k)) fs ≡ None) (sym (k_is ∙ keys)) (gone f fs t) in
          left ∙ sym right)
          (λ apart.
          let other : is_eq (cmp k f.0) ≡ false = subst (λ j. is_eq (cmp k j) ≡ false) keys apart in
          sym (lookup_tail (is_at (cmp k)) e es apart) ∙ (h k ∙ lookup_tail (is_at (cmp k)) f fs other))
          (cases_Bool (is_eq (cmp k e.0)))

      by : (((k : K) → lookup (is_at (cmp k)) es ≡ lookup (is_at (cmp k)) fs) → es ≡ fs) → (o : Ordering) → cmp e.0 f.0 ≡ o → e ∷ es ≡ f ∷ fs
      by more Less o = absurd (none-some e.1 (sym (none_in e.0 f fs t o) ∙ (sym (h e.0) ∙ found_first e es)))
      by more Greater o =
          let less : cmp f.0 e.0 ≡ Less = order.antisymm f.0 e.0 ∙ ap ordering_reverse o in
          absurd (none-some f.1 (sym (none_in f.0 e es s less) ∙ (h f.0 ∙ found_first f fs)))
      by more Equal o =
          let keys : e.0 ≡ f.0 = same e.0 f.0 (ap is_eq o) in
          let values : e.1 ≡ f.1 = same_Some e.1 f.1 (sym (found_first e es) ∙ (h e.0 ∙ lookup_head (is_at (cmp e.0)) f fs (ap is_eq o))) in
          ap (λ x. x ∷ es) (same_pair e.0 f.0 e.1 f.1 keys values)
          ∙ ap (λ xs. f ∷ xs) (more (rest_same keys))

pub same_options : {X : Type 0} (a b : Option X) → ((x : X) → a ≡ Some x → b ≡ Some x) → ((x : X) → b ≡ Some x → a ≡ Some x) → a ≡ b
same_options None None f h = refl
same_options None (Some y) f h = absurd (none-some y (h y refl))
same_options (Some x) b f h = sym (f x refl)

-- ---- an inode gives one node

abbrev NamesSorted : Node → Type 0
NamesSorted (nodes.Directory d) = IsStrictlySortedBy name_cmp (keys_of d.names)
NamesSorted (nodes.File f) = IsStrictlySortedBy nat_cmp (keys_of f.blocks)
NamesSorted (nodes.Other mode) = Unit {0}

no_directory_file : (i : Inode) → is_directory i.mode ≡ true → is_file i.mode ≡ true → ⊥
no_directory_file i d f = let four = eqb-true (i.mode / 4096) 4 d in let eight = eqb-true (i.mode / 4096) 8 f in omega arith

same_node : (g : Geometry) (blocks : List (List ℕ)) (i : Inode) (parent : ℕ) (m n : Node) → IsNodeOf g blocks i m → IsNodeOf g blocks i n → IsBelow parent m → IsBelow parent n →
    NamesSorted m → NamesSorted n → m ≡ n
same_node g blocks i parent (nodes.Directory c) (nodes.Directory d) a b below other s t =
    let names : c.names ≡ d.names =
    same_maps name_cmp nat_list_cmp_total name_here name_same c.names d.names s t
    (λ name. same_options (at_name c.names name) (at_name d.names name)
    (λ birth q. (b.names name birth).1 ((a.names name birth).0 q)) (λ birth q. (a.names name birth).1 ((b.names name birth).0 q))) in
    let slots : c.slots ≡ d.slots = a.slots ∙ sym b.slots in
    let up : c.parent ≡ d.parent = below ∙ sym other in
    let width : c.width ≡ d.width = a.width ∙ sym b.width in
    ap nodes.Directory (rw (up, width, slots, names) refl)
same_node g blocks i parent (nodes.File c) (nodes.File d) a b below other s t =
    let bodies : c.blocks ≡ d.blocks = same_maps nat_cmp nat_cmp_total number_here number_same c.blocks d.blocks s t (λ index. a.bodies index ∙ sym (b.bodies index)) in
    let size : c.size ≡ d.size = a.size ∙ sym b.size in
    let links : c.links ≡ d.links = a.links ∙ sym b.links in
    ap nodes.File (rw (size, links, bodies) refl)
same_node g blocks i parent (nodes.Other p) (nodes.Other q) a b below other s t = ap nodes.Other (a.mode_is ∙ sym b.mode_is)
same_node g blocks i parent (nodes.Directory c) (nodes.File d) a b below other s t = absurd (no_directory_file i a.kind b.kind)
same_node g blocks i parent (nodes.Directory c) (nodes.Other q) a b below other s t = absurd (true≢false (sym a.kind ∙ b.no_directory))
same_node g blocks i parent (nodes.File c) (nodes.Directory d) a b below other s t = absurd (no_directory_file i b.kind a.kind)
same_node g blocks i parent (nodes.File c) (nodes.Other q) a b below other s t = absurd (true≢false (sym a.kind ∙ b.no_file))
same_node g blocks i parent (nodes.Other p) (nodes.Directory d) a b below other s t = absurd (true≢false (sym b.kind ∙ a.no_directory))
same_node g blocks i parent (nodes.Other p) (nodes.File d) a b below other s t = absurd (true≢false (sym b.kind ∙ a.no_file))

-- ---- a volume has one tree

module _ (g : Geometry) (blocks : List (List ℕ)) where
  sorted_at : (t : List (ℕ × Node)) → IsVolumeTree g blocks t → (birth : ℕ) (n : Node) → at_number t birth ≡ Some n → NamesSorted n
  sorted_at t h birth (nodes.Directory d) e = h.rooted.names_in_order birth d e
  sorted_at t h birth (nodes.File f) e = h.blocks_in_order birth f e
  sorted_at t h birth (nodes.Other mode) e = tt

  same_at : (t u : List (ℕ × Node)) → IsVolumeTree g blocks t → IsVolumeTree g blocks u → (parent birth : ℕ) (m n : Node) →
      at_number t birth ≡ Some m → at_number u birth ≡ Some n → IsBelow parent m → IsBelow parent n → m ≡ n
  same_at t u h k parent birth m n e f below other =
      same_node g blocks (inode_at g blocks (inode_of_birth birth)) parent m n (h.fields.each birth m e) (k.fields.each birth n f) below other (sorted_at t h birth m e) (sorted_at u k birth n f)

  led_same : (t u : List (ℕ × Node)) → IsVolumeTree g blocks t → IsVolumeTree g blocks u → {birth : ℕ} → IsLedTo t birth → (n : Node) → at_number t birth ≡ Some n → at_number u birth ≡ Some n
  led_same t u h k at_root n e =
      let d = h.fields.root in
      let c = k.fields.root in
      let first : nodes.Directory d.0 ≡ n = same_Some (nodes.Directory d.0) n (sym d.1 ∙ e) in
      let same = same_at t u h k 0 0 (nodes.Directory d.0) (nodes.Directory c.0) d.1 c.1 d.2 c.2 in
      c.1 ∙ ap Some (sym same ∙ first)
  led_same t u h k (by_name {parent} {birth} {name} led gives) n e =
      let above : at_number u parent ≡ Some (nodes.Directory gives.directory) = led_same t u h k led (nodes.Directory gives.directory) gives.stands in
      let there : HasEntry u parent name birth = record { directory = gives.directory; stands = above; named = gives.named } in
      let x = h.fields.leads parent name birth gives in
      let y = k.fields.leads parent name birth there in
      let first : x.0 ≡ n = same_Some x.0 n (sym x.1 ∙ e) in
      y.1 ∙ ap Some (sym (same_at t u h k parent birth x.0 y.0 x.1 y.1 x.2 y.2) ∙ first)

  pub one_tree : (t u : List (ℕ × Node)) → IsVolumeTree g blocks t → IsVolumeTree g blocks u → t ≡ u
  one_tree t u h k =
      same_maps nat_cmp nat_cmp_total number_here number_same t u h.rooted.in_order k.rooted.in_order
      (λ birth. same_options (at_number t birth) (at_number u birth)
      (λ n e. led_same t u h k (h.rooted.led_to birth n e) n e) (λ n e. led_same u t k h (k.rooted.led_to birth n e) n e))

  -- ---- the walk's tree

  bodies_above : (k low high : ℕ) (ms : List Mapped) → k < low → RiseWithin low ms high → AllByRecursion (λ y. nat_cmp k y ≡ Less) (keys_of (bodies_of blocks ms))
  bodies_above k low high [] less r = tt
  bodies_above k low high (m ∷ ms) less r =
      let first = r.0 in (sym (nat_cmp_is k m.index Less (omega arith)), bodies_above k (m.index + 1) high ms (omega arith) r.1)

  bodies_sorted : (low high : ℕ) (ms : List Mapped) → RiseWithin low ms high → IsStrictlySortedBy nat_cmp (keys_of (bodies_of blocks ms))
  unfolding IsStrictlySortedBy
  bodies_sorted low high [] r = tt
  bodies_sorted low high (m ∷ ms) r = (bodies_above m.index (m.index + 1) high ms (omega arith) r.1, bodies_sorted (m.index + 1) high ms r.1)

  file_by : (x : Found) (f : File) → node_of blocks x ≡ nodes.File f → HasRising x → IsStrictlySortedBy nat_cmp (keys_of f.blocks)
  file_by (found.Directory d) f is h = absurd (let e : node_of blocks (found.Directory d) ≡ nodes.File f = is in cc)
  file_by (found.Other mode) f is h = absurd (let e : node_of blocks (found.Other mode) ≡ nodes.File f = is in cc)
  file_by (found.File x) f is h =
      let e : bodies_of blocks x.zones ≡ f.blocks = ap blocks_in is in
      subst (λ (bs : List (ℕ × List ℕ)). IsStrictlySortedBy nat_cmp (keys_of bs)) e (bodies_sorted 0 262663 x.zones h)
    where
      blocks_in : Node → List (ℕ × List ℕ)
      blocks_in (nodes.File f) = f.blocks
      blocks_in (nodes.Directory d) = []
      blocks_in (nodes.Other mode) = []

  walked_of : (r : Result Walked Fault) → walked g blocks ≡ r → (t : List (ℕ × Node)) → tree_found blocks r ≡ Ok t →
      (all : Walked) × (walked g blocks ≡ Ok all) × (put_nodes blocks all.nodes [] ≡ t)
  walked_of (Ok all) w t r = (all, w, same_Ok (put_nodes blocks all.nodes []) t r)
  walked_of (Err fault) w t r = absurd (err-ok fault t r)

  -- what the walk gives is the tree of a volume without a fault
  pub walked_tree : (t : List (ℕ × Node)) → 0 < g.inodes → tree_of g blocks ≡ Ok t → IsVolumeTree g blocks t
  walked_tree t some r =
      let x = walked_of (walked g blocks) refl t r in
      record {
        faultless = walked_faultless g blocks x.0 some x.1;
        fields = tree_of-fields g blocks t r;
        rooted = tree_of-rooted g blocks t r;
        blocks_in_order = λ birth f e.
            ⊎_elim
            (λ none. absurd (none-some (nodes.File f) none))
            (λ y. file_by y.one.found f y.node_is (All-In (λ (n : FoundNode). HasRising n.found) x.0.nodes y.one (walked_rises g blocks x.0 x.1) y.within))
            (was_found blocks x.0.nodes [] birth (nodes.File f) (subst (λ t. at_number t birth ≡ Some (nodes.File f)) (sym x.2) e));
      }

  -- and the walk gives it, where there is one
  pub tree_walked : (t : List (ℕ × Node)) → 0 < g.inodes → IsVolumeTree g blocks t → tree_of g blocks ≡ Ok t
  tree_walked t some h =
      let x = faultless_walked g blocks some h.faultless in
      let is : tree_of g blocks ≡ Ok (put_nodes blocks x.0.nodes []) = ap (tree_found blocks) x.1 in
      is ∙ ap Ok (one_tree (put_nodes blocks x.0.nodes []) t (walked_tree (put_nodes blocks x.0.nodes []) some is) h)
