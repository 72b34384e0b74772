-- A file in a volume: its blocks in order, what the tree has of it, and how many zones it uses.
use Rattle.std.specs.Prelude.{◌≡◌, ◌≢◌, ℕ, ◌<◌, nat_lt, List, [], ◌∷◌, Option, Some, None, refl}
use Rattle.std.specs.List.{AllByRecursion}
use Rattle.std.specs.List.Sorted.{IsStrictlySortedBy}
use Rattle.std.specs.Map.{keys_of}
use Rattle.std.specs.Ordering.{nat_cmp}
use Rattle.std.proofs.Common.{Less, Equal, Greater, sym, ap, subst, ◌∙◌, inl, inr, arith}
use Rattle.std.proofs.lemmas.Bool.{cases_Bool, cases_eq, ne_eqb}
use Rattle.std.proofs.lemmas.Cmp.{nat_cmp_total}
use Rattle.blk_base.specs.Members.{In}
use Rattle.tree_model.specs.declared.node.File.{File}
use Rattle.tree_model.specs.declared.node.Node.TheVariants as nodes
use Rattle.tree_model.specs.Maps.{at_number, put_number}
use Rattle.tree_model.specs.laws.MapOrder.{InOrder, in_order_put}
use Rattle.tree_model.specs.laws.MapsLaws.{number_here, number_same, at_put_number, at_put_number_apart}
use Rattle.tree_model.specs.Calls.{file_zones, mapped_groups, node_zones}
use Rattle.volume_ops.specs.declared.found.Mapped.{Mapped}
use Rattle.volume_ops.specs.Volume.{disk_of, bodies_of}
use Rattle.volume_ops.proofs.TreeUnique.{same_maps}
use Rattle.volume_model.specs.declared.placed.Placed.{Placed}
use Rattle.volume_model.specs.declared.placed.Part.TheVariants as parts
use Rattle.volume_model.specs.Counts.{indices_of, zones_of_file}
use Rattle.volume_model.specs.Moves.{with_mapped}
use Rattle.volume_model.specs.Trees.{in_order, node_from, node_now, tree_now}
use Rattle.volume_model.specs.Volume.{IsRising}
use Rattle.volume_model.specs.laws.Counts.{zones_sum}
use Rattle.volume_model.specs.laws.Indexed.{keys_bodies}
use Rattle.volume_steps.proofs.TreeSteps.{tree_in_order, tree_at, tree_none}

-- ---- maps

pub maps_same : {X : Type 0} (es fs : List (ℕ × X)) → InOrder es → InOrder fs → ((k : ℕ) → at_number es k ≡ at_number fs k) → es ≡ fs
maps_same es fs s t h = same_maps nat_cmp nat_cmp_total number_here number_same es fs s t h

pub put_twice : {X : Type 0} (es : List (ℕ × X)) (k : ℕ) (x y : X) → InOrder es → put_number (put_number es k x) k y ≡ put_number es k y
put_twice es k x y order = maps_same (put_number (put_number es k x) k y) (put_number es k y) (in_order_put (put_number es k x) k y (in_order_put es k x order)) (in_order_put es k y order) by
  where
    by : (j : ℕ) → at_number (put_number (put_number es k x) k y) j ≡ at_number (put_number es k y) j
    by j = elim (cases_eq j k) [
      | inl e ↦ ap (at_number (put_number (put_number es k x) k y)) e ∙ (at_put_number (put_number es k x) k y ∙ sym (ap (at_number (put_number es k y)) e ∙ at_put_number es k y))
      | inr a ↦ at_put_number_apart (put_number es k x) k y j a ∙ (at_put_number_apart es k x j a ∙ sym (at_put_number_apart es k y j a))
    ]

pub put_itself : {X : Type 0} (es : List (ℕ × X)) (k : ℕ) (x : X) → InOrder es → at_number es k ≡ Some x → put_number es k x ≡ es
put_itself es k x order at = maps_same (put_number es k x) es (in_order_put es k x order) order by
  where
    by : (j : ℕ) → at_number (put_number es k x) j ≡ at_number es j
    by j = elim (cases_eq j k) [
      | inl e ↦ ap (at_number (put_number es k x)) e ∙ (at_put_number es k x ∙ (sym at ∙ ap (at_number es) (sym e)))
      | inr a ↦ at_put_number_apart es k x j a
    ]

is_less : (a b : ℕ) → nat_cmp a b ≡ Less → a < b
is_less a b is = grind arith

greater_is : (a b : ℕ) → b < a → nat_cmp a b ≡ Greater
greater_is a b low = grind arith

equal_is : (a b : ℕ) → a ≡ b → nat_cmp a b ≡ Equal
equal_is a b e = grind arith

-- ---- blocks in order

-- entries in order stay as they are
pub in_order_same : {X : Type 0} (es : List (ℕ × X)) → InOrder es → in_order es ≡ es
unfolding IsStrictlySortedBy
in_order_same [] h = refl
in_order_same (e ∷ es) h = ap (λ fs. put_number fs e.0 e.1) (in_order_same es h.1) ∙ first es h.0
  where
    first : (es : List (ℕ × _)) → AllByRecursion (λ y. nat_cmp e.0 y ≡ Less) (keys_of es) → put_number es e.0 e.1 ≡ e ∷ es
    first [] above = refl
    first (f ∷ fs) above = rw above.0 refl

pub bodies_in_order : (blocks : List (List ℕ)) (zones : List Mapped) → IsRising zones → InOrder (bodies_of blocks zones)
bodies_in_order blocks zones rising = subst (IsStrictlySortedBy nat_cmp) (sym (keys_bodies blocks zones)) rising

-- what the tree has of a file
abbrev pub file_now : List (List ℕ) → Placed → List Mapped → File
file_now blocks p zones = record { size = p.inode.size; links = p.inode.links; blocks = bodies_of blocks zones }

pub node_is_file : (blocks : List (List ℕ)) (p : Placed) (zones : List Mapped) → p.part ≡ parts.File zones → IsRising zones → node_now blocks p ≡ nodes.File (file_now blocks p zones)
node_is_file blocks p zones is rising =
    ap (node_from blocks p.inode) is
    ∙ ap (λ bodies. nodes.File (record { size = p.inode.size; links = p.inode.links; blocks = bodies })) (in_order_same (bodies_of blocks zones) (bodies_in_order blocks zones rising))

-- ---- bodies of blocks after a step

module _ (before after : List (List ℕ)) where
  pub bodies_kept : (zones : List Mapped) → ((m : Mapped) → In m zones → disk_of after m.zone ≡ disk_of before m.zone) → bodies_of after zones ≡ bodies_of before zones
  bodies_kept [] same = refl
  bodies_kept (m ∷ zones) same =
      ap (λ body. (m.index, body) ∷ bodies_of after zones) (same m (inl refl))
      ∙ ap (λ (es : List (ℕ × List ℕ)). (m.index, disk_of before m.zone) ∷ es) (bodies_kept zones (λ m i. same m (inr i)))

  -- a block more
  pub bodies_mapped : (zones : List Mapped) (index zone : ℕ) (content : List ℕ) → disk_of after zone ≡ content → ((m : Mapped) → In m zones → m.index ≢ index) →
      ((m : Mapped) → In m zones → disk_of after m.zone ≡ disk_of before m.zone) → bodies_of after (with_mapped zones index zone) ≡ put_number (bodies_of before zones) index content
  bodies_mapped [] index zone content new apart same = ap (λ body. (index, body) ∷ []) new
  bodies_mapped (m ∷ zones) index zone content new apart same = elim (cases_Bool (nat_lt index m.index)) [
    | inl t ↦ rw t
        (ap (λ body. (index, body) ∷ bodies_of after (m ∷ zones)) new ∙ ap (λ (es : List (ℕ × List ℕ)). (index, content) ∷ es) (bodies_kept (m ∷ zones) same))
    | inr f ↦
        let other = apart m (inl refl) in
        rw (f, ne_eqb index m.index (λ e. other (sym e)))
        (ap (λ body. (m.index, body) ∷ bodies_of after (with_mapped zones index zone)) (same m (inl refl))
        ∙ ap (λ (es : List (ℕ × List ℕ)). (m.index, disk_of before m.zone) ∷ es) (bodies_mapped zones index zone content new (λ m i. apart m (inr i)) (λ m i. same m (inr i))))
  ]

  -- a block with other bytes
  pub bodies_put : (zones : List Mapped) (x : Mapped) (content : List ℕ) → IsRising zones → In x zones → disk_of after x.zone ≡ content →
      ((m : Mapped) → In m zones → m.index ≢ x.index → disk_of after m.zone ≡ disk_of before m.zone) → bodies_of after zones ≡ put_number (bodies_of before zones) x.index content
  unfolding IsStrictlySortedBy
  bodies_put [] x content rising i new same = absurd i
  bodies_put (m ∷ zones) x content rising (inl e) new same =
      let here : x.index ≡ m.index = ap (λ (m : Mapped). m.index) (sym e) in
      let body : disk_of after m.zone ≡ content = ap (λ (m : Mapped). disk_of after m.zone) e ∙ new in
      rw (equal_is x.index m.index here)
      (ap (λ body. (m.index, body) ∷ bodies_of after zones) body
      ∙ ap (λ (es : List (ℕ × List ℕ)). (m.index, content) ∷ es) (bodies_kept zones (λ y i. same y (inr i) (λ f. above_apart m.index zones rising.0 y i (f ∙ here)))))
    where
      above_apart : (low : ℕ) (zones : List Mapped) → AllByRecursion (λ y. nat_cmp low y ≡ Less) (indices_of zones) → (y : Mapped) → In y zones → y.index ≢ low
      above_apart low [] h y i same = absurd i
      above_apart low (z ∷ zones) h y (inl e) same = (let next = is_less low z.index h.0 in let f : z.index ≡ y.index = ap (λ (m : Mapped). m.index) e in omega arith)
      above_apart low (z ∷ zones) h y (inr i) same = above_apart low zones h.1 y i same
  bodies_put (m ∷ zones) x content rising (inr i) new same =
      let next = above_less m.index zones rising.0 x i in
      rw (greater_is x.index m.index next)
      (ap (λ body. (m.index, body) ∷ bodies_of after zones) (same m (inl refl) (λ e. (omega arith)))
      ∙ ap (λ (es : List (ℕ × List ℕ)). (m.index, disk_of before m.zone) ∷ es) (bodies_put zones x content rising.1 i new (λ y j. same y (inr j))))
    where
      above_less : (low : ℕ) (zones : List Mapped) → AllByRecursion (λ y. nat_cmp low y ≡ Less) (indices_of zones) → (y : Mapped) → In y zones → low < y.index
      above_less low [] h y i = absurd i
      above_less low (z ∷ zones) h y (inl e) = (let next = is_less low z.index h.0 in let f : z.index ≡ y.index = ap (λ (m : Mapped). m.index) e in omega arith)
      above_less low (z ∷ zones) h y (inr i) = above_less low zones h.1 y i

-- ---- zones that a file uses

pub file_zones_are : (indices : List ℕ) → file_zones indices ≡ zones_of_file indices
unfolding file_zones mapped_groups
file_zones_are indices = sym (zones_sum indices)

pub node_zones_are : (blocks : List (List ℕ)) (p : Placed) (zones : List Mapped) → p.part ≡ parts.File zones → IsRising zones → node_zones (node_now blocks p) ≡ zones_of_file (indices_of zones)
node_zones_are blocks p zones is rising = ap node_zones (node_is_file blocks p zones is rising) ∙ (ap file_zones (keys_bodies blocks zones) ∙ file_zones_are (indices_of zones))

-- ---- the tree after one node changed

pub tree_changed : (blocks after : List (List ℕ)) (placed : List (ℕ × Placed)) (n : ℕ) (q : Placed) → IsStrictlySortedBy nat_cmp (keys_of placed) →
    ((a : ℕ) (r : Placed) → at_number placed a ≡ Some r → a ≢ n → node_now after r ≡ node_now blocks r) →
    tree_now after (put_number placed n q) ≡ put_number (tree_now blocks placed) n (node_now after q)
tree_changed blocks after placed n q sorted same =
    maps_same (tree_now after (put_number placed n q)) (put_number (tree_now blocks placed) n (node_now after q))
    (tree_in_order after (put_number placed n q) (in_order_put placed n q sorted)) (in_order_put (tree_now blocks placed) n (node_now after q) (tree_in_order blocks placed sorted)) by
  where
    others : (a : ℕ) → a ≢ n → (o : Option Placed) → at_number placed a ≡ o → at_number (tree_now after (put_number placed n q)) a ≡ at_number (tree_now blocks placed) a
    others a apart None none = tree_none after (put_number placed n q) a (at_put_number_apart placed n q a apart ∙ none) ∙ sym (tree_none blocks placed a none)
    others a apart (Some r) at = tree_at after (put_number placed n q) a r (at_put_number_apart placed n q a apart ∙ at) ∙ (ap Some (same a r at apart) ∙ sym (tree_at blocks placed a r at))

    by : (a : ℕ) → at_number (tree_now after (put_number placed n q)) a ≡ at_number (put_number (tree_now blocks placed) n (node_now after q)) a
    by a = elim (cases_eq a n) [
      | inl e ↦ ap (at_number (tree_now after (put_number placed n q))) e ∙ (tree_at after (put_number placed n q) n q (at_put_number placed n q)
          ∙ sym (ap (at_number (put_number (tree_now blocks placed) n (node_now after q))) e ∙ at_put_number (tree_now blocks placed) n (node_now after q)))
      | inr apart ↦ others a apart (at_number placed a) refl ∙ sym (at_put_number_apart (tree_now blocks placed) n (node_now after q) a apart)
    ]

-- so where the node stays and its bytes change
pub tree_rewritten : (blocks after : List (List ℕ)) (placed : List (ℕ × Placed)) (n : ℕ) (p : Placed) → IsStrictlySortedBy nat_cmp (keys_of placed) → at_number placed n ≡ Some p →
    ((a : ℕ) (r : Placed) → at_number placed a ≡ Some r → a ≢ n → node_now after r ≡ node_now blocks r) →
    tree_now after placed ≡ put_number (tree_now blocks placed) n (node_now after p)
tree_rewritten blocks after placed n p sorted at same =
    ap (tree_now after) (sym (put_itself placed n p sorted at)) ∙ tree_changed blocks after placed n p sorted same
