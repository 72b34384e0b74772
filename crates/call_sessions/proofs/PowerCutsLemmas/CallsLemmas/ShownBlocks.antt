-- The tree of a walk has each block of a file with the bytes of the zone at which the walk met it.
use Rattle.std.specs.Prelude.{◌≡◌, ℕ, true, List, [], ◌∷◌, Option, Some, None, Result, Ok, Err, is_some, refl}
use Rattle.std.specs.BTreeMap.{is_at}
use Rattle.std.specs.List.{list_any}
use Rattle.std.specs.Ordering.{nat_cmp}
use Rattle.std.proofs.Common.{sym, ap, subst, ◌∙◌, inl, inr, ⊎_elim}
use Rattle.std.proofs.lemmas.Bool.{cases_eq, eq-eqb, ne_eqb, false≢true, false_from_ne_true}
use Rattle.std.proofs.lemmas.Map.Made.{is_some-lookup}
use Rattle.std.proofs.lemmas.Option.{none-some, same_Some}
use Rattle.minix_layout.specs.declared.division.Geometry.{Geometry}
use Rattle.tree_model.specs.declared.node.Node.{Node}
use Rattle.tree_model.specs.declared.node.Node.TheVariants as nodes
use Rattle.tree_model.specs.Calls.{Tree}
use Rattle.tree_model.specs.Histories.{block_in, block_at, maps_block}
use Rattle.tree_model.specs.Maps.{at_number}
use Rattle.tree_model.specs.Trees.{Refusal, node_of_path, SameMetadataAt, AreAlike}
use Rattle.tree_model.specs.Rooted.{IsRooted}
use Rattle.tree_model.specs.laws.MapsLaws.{number_here, number_same}
use Rattle.volume_ops.specs.declared.found.Found.{Found}
use Rattle.volume_ops.specs.declared.found.Found.TheVariants as found
use Rattle.volume_ops.specs.declared.found.FoundNode.{FoundNode}
use Rattle.volume_ops.specs.declared.found.Mapped.{Mapped}
use Rattle.volume_ops.specs.Volume.{disk_of, walked, bodies_of, node_of, put_nodes, tree_found, tree_of}
use Rattle.volume_ops.specs.Walk.{Walked}
use Rattle.volume_ops.specs.laws.ReadsLaws.{err-ok, same_Ok}
use Rattle.volume_ops.proofs.TreeLaws.{WasFound, was_found, in_tree}
use Rattle.volume_ops.proofs.WalkLaws.{Ends, walk_volume-ends}
use Rattle.crash_laws.specs.TreeHistory.{zone_of_index, zone_in, zone_in_walk}
use Rattle.crash_laws.specs.Volumes.{WalkEnd}
use Rattle.minix_host.specs.Paths.{place_in}
use Rattle.minix_host.proofs.FoundPaths.{path_found, places_on_paths}

-- ---- among what was found

module _ (blocks : List (List ℕ)) (i : ℕ) where
  -- the mapped blocks of a file
  listed : (ms : List Mapped) (body : List ℕ) → at_number (bodies_of blocks ms) i ≡ Some body → body ≡ disk_of blocks (zone_of_index ms i)
  listed [] body e = absurd (none-some body e)
  listed (m ∷ ms) body e = elim (cases_eq m.index i) [
    | inl here ↦ rw (eq-eqb m.index i here) (sym (same_Some (disk_of blocks m.zone) body (rw (subst (λ k. is_at (nat_cmp i) k ≡ true) (sym here) (number_here i)) at e)))
    | inr apart ↦ rw (ne_eqb m.index i apart) (listed ms body (rw (false_from_ne_true (is_at (nat_cmp i) m.index) (λ t. apart (sym (number_same i m.index t)))) at e))
  ]

  module _ (b : ℕ) where
    first_zone : (m : FoundNode) (ms : List FoundNode) → m.birth ≡ b → (x : Found) → m.found ≡ x → (body : List ℕ) → block_in (Some (node_of blocks x)) i ≡ Some body → body ≡ disk_of blocks (zone_in (m ∷ ms) b i)
    first_zone m ms is (found.Directory d) e body at = absurd (none-some body at)
    first_zone m ms is (found.Other mode) e body at = absurd (none-some body at)
    first_zone m ms is (found.File f) e body at = listed f.zones body at ∙ ap (disk_of blocks) (sym zone)
      where
        zone : zone_in (m ∷ ms) b i ≡ zone_of_index f.zones i
        zone = ap (λ x. zone_in (record { birth = m.birth; found = x } ∷ ms) b i) e ∙ rw (eq-eqb m.birth b is) refl

    one_more : (m : FoundNode) (ms : List FoundNode) (node : Node) → WasFound blocks ms b node → WasFound blocks (m ∷ ms) b node
    one_more m ms node x = record { one = x.one; within = inr x.within; birth_is = x.birth_is; node_is = x.node_is }

    -- the first of this birth, where all of it are one node
    scanned : (node : Node) (body : List ℕ) → block_in (Some node) i ≡ Some body → (ns : List FoundNode) → ((n : Node) → WasFound blocks ns b n → n ≡ node) → WasFound blocks ns b node → body ≡ disk_of blocks (zone_in ns b i)
    scanned node body at [] each x = absurd x.within
    scanned node body at (m ∷ ms) each x = elim (cases_eq m.birth b) [
      | inl e ↦
          first_zone m ms e m.found refl body
          (ap (λ n. block_in (Some n) i) (each (node_of blocks m.found) (record { one = m; within = inl refl; birth_is = e; node_is = refl })) ∙ at)
      | inr apart ↦
          rw (ne_eqb m.birth b apart)
          (⊎_elim (λ here. absurd (apart (ap (λ (n : FoundNode). n.birth) here ∙ x.birth_is)))
          (λ later. scanned node body at ms (λ n y. each n (one_more m ms n y)) (record { one = x.one; within = later; birth_is = x.birth_is; node_is = x.node_is }))
          x.within)
    ]

  -- ---- in the tree of the walk

  module _ (g : Geometry) (all : Walked) (w : walked g blocks ≡ Ok all) where
    abbrev tree : Tree
    tree = put_nodes blocks all.nodes []

    stands : (b : ℕ) (node : Node) → WasFound blocks all.nodes b node → at_number tree b ≡ Some node
    unfolding walked
    stands =
        let ends : Ends g blocks all.nodes = walk_volume-ends g blocks all w in
        subst (λ ns. (b : ℕ) (node : Node) → WasFound blocks ns b node → at_number (put_nodes blocks ns []) b ≡ Some node) ends.nodes
        (λ b node x. subst (λ b. at_number (put_nodes blocks ends.state.nodes []) b ≡ Some node) x.birth_is (in_tree g blocks (all.nodes, ends) x.one x.within ∙ ap Some x.node_is))

    of_node : (b : ℕ) (node : Node) → at_number tree b ≡ Some node → (body : List ℕ) → block_in (Some node) i ≡ Some body → body ≡ disk_of blocks (zone_in all.nodes b i)
    of_node b node at body has =
        ⊎_elim
        (λ none. absurd (none-some node none))
        (λ x. scanned b node body has all.nodes (λ n y. same_Some n node (sym (stands b n y) ∙ at)) x)
        (was_found blocks all.nodes [] b node at)

    zone_shown : (b : ℕ) (body : List ℕ) → block_at tree b i ≡ Some body → body ≡ disk_of blocks (zone_in all.nodes b i)
    zone_shown b body = by (at_number tree b) refl
      where
        by : (o : Option Node) → at_number tree b ≡ o → block_in o i ≡ Some body → body ≡ disk_of blocks (zone_in all.nodes b i)
        by None e has = absurd (none-some body has)
        by (Some node) e has = of_node b node e body has

-- ---- a tree with the same metadata maps the same blocks

some_body : (o : Option (List ℕ)) → is_some o ≡ true → (body : List ℕ) × (o ≡ Some body)
some_body None t = absurd (false≢true t)
some_body (Some body) t = (body, refl)

same_mapped : (i : ℕ) (n m : Option Node) → SameMetadataAt n m → is_some (block_in n i) ≡ true → is_some (block_in m i) ≡ true
same_mapped i None m same t = absurd (false≢true t)
same_mapped i (Some n) None same t = absurd same
same_mapped i (Some (nodes.Directory d)) (Some m) same t = absurd (false≢true t)
same_mapped i (Some (nodes.Other mode)) (Some m) same t = absurd (false≢true t)
same_mapped i (Some (nodes.File f)) (Some (nodes.Directory d)) same t = absurd same
same_mapped i (Some (nodes.File f)) (Some (nodes.Other mode)) same t = absurd same
same_mapped i (Some (nodes.File f)) (Some (nodes.File h)) same t =
    is_some-lookup (is_at (nat_cmp i)) h.blocks
    ∙ (ap (list_any (is_at (nat_cmp i))) (sym same.2)
    ∙ (sym (is_some-lookup (is_at (nat_cmp i)) f.blocks) ∙ t))

-- ---- the place of a block of a file

module _ (g : Geometry) (blocks : List (List ℕ)) (kept tree : Tree) (rooted : IsRooted kept) (is : tree_of g blocks ≡ Ok tree) (alike : AreAlike kept tree) where
  on_path : (f i : ℕ) (names : List (List ℕ)) (body : List ℕ) → node_of_path tree names ≡ Ok (alike.to f) → block_at tree (alike.to f) i ≡ Some body
      → (r : WalkEnd) → walked g blocks ≡ r → tree_found blocks r ≡ Ok tree → body ≡ disk_of blocks (zone_in_walk blocks r names i)
  on_path f i names body path at (Err fault) w e = absurd (err-ok fault tree e)
  on_path f i names body path at (Ok all) w e =
      let same : put_nodes blocks all.nodes [] ≡ tree = same_Ok (put_nodes blocks all.nodes []) tree e in
      zone_shown blocks i g all w (alike.to f) body (ap (λ t. block_at t (alike.to f) i) same ∙ at)
      ∙ ap (λ (r : Result ℕ Refusal). disk_of blocks (elim r as (λ _. ℕ) [ Err refusal ↦ 0 | Ok b ↦ zone_in all.nodes b i ]))
      (sym (ap (λ t. node_of_path t names) same ∙ path))

  of_file : (f i : ℕ) (node : Node) → at_number kept f ≡ Some node → maps_block kept f i ≡ true → block_at tree (alike.to f) i ≡ Some (disk_of blocks (place_in (walked g blocks) kept f i))
  of_file f i node at mapped =
      let path = path_found kept rooted f node at in
      let has = some_body (block_at tree (alike.to f) i) (same_mapped i (at_number kept f) (at_number tree (alike.to f)) (alike.same_metadata path.0 f path.2) mapped) in
      has.1 ∙ ap Some (on_path f i path.0 has.0 (alike.same_paths path.0 f path.2) has.1 (walked g blocks) refl is
      ∙ ap (disk_of blocks) (sym (places_on_paths kept rooted g blocks tree path.0 f i is alike path.2)))

  -- A block that is mapped there is shown with the bytes of its place.
  pub page_shown : (f i : ℕ) → maps_block kept f i ≡ true → block_at tree (alike.to f) i ≡ Some (disk_of blocks (place_in (walked g blocks) kept f i))
  page_shown f i mapped = by (at_number kept f) refl
    where
      by : (o : Option Node) → at_number kept f ≡ o → block_at tree (alike.to f) i ≡ Some (disk_of blocks (place_in (walked g blocks) kept f i))
      by None e = absurd (false≢true (sym (ap (λ o. is_some (block_in o i)) e) ∙ mapped))
      by (Some node) e = of_file f i node e mapped
