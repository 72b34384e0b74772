-- Two volumes that agree in the metadata of the one have trees that are alike.
use Rattle.std.specs.Prelude.{◌≡◌, ℕ, ◌+◌, nat_lt, if◌then◌else◌, Bool, true, false, List, [], ◌∷◌, length, Option, Some, None, Result, Ok, Err, IsOk, refl, ◌⊎◌}
use Rattle.std.proofs.Common.{sym, ap, subst, ◌∙◌, inl, inr, ⊎_elim}
use Rattle.std.proofs.lemmas.Bool.{cases_eq}
use Rattle.std.proofs.lemmas.Option.{none-some}
use Rattle.std.specs.List.{count_by}
use Rattle.std.specs.Map.{keys_of}
use Rattle.minix_layout.specs.declared.division.Geometry.{Geometry}
use Rattle.tree_model.specs.declared.node.Node.{Node}
use Rattle.tree_model.specs.declared.node.Node.TheVariants as nodes
use Rattle.tree_model.specs.declared.node.Directory.{Directory}
use Rattle.tree_model.specs.Maps.{at_number, at_name, put_number}
use Rattle.tree_model.specs.Trees.{Refusal, not_found, name_too_long, step_at, led_to, node_of_path, SameMetadataAt, SameLinks, AreAlike, is_directory}
use Rattle.volume_ops.specs.declared.found.Mapped.{Mapped}
use Rattle.volume_ops.specs.declared.found.Found.{Found}
use Rattle.volume_ops.specs.declared.found.Found.TheVariants as found
use Rattle.volume_ops.specs.declared.found.FoundNode.{FoundNode}
use Rattle.volume_ops.specs.Reads.{AgreeOn}
use Rattle.volume_ops.specs.laws.ReadsLaws.{answer-agrees, err-ok, same_Ok}
use Rattle.tree_model.specs.laws.MapsLaws.{at_put_number, at_put_number_apart}
use Rattle.volume_ops.specs.Zones.{Fault}
use Rattle.volume_ops.specs.Walk.{Walked, walk_volume}
use Rattle.volume_ops.specs.Volume.{disk_of, walked, metadata, bodies_of, node_of, put_nodes, tree_found, tree_of}
use Rattle.tree_model.specs.Rooted.{HasEntry}
use Rattle.tree_model.specs.laws.Sums.{count_by_same}
use Rattle.volume_ops.specs.VolumeFields.{IsTreeOf}
use Rattle.volume_ops.proofs.TreeLaws.{tree_of-fields}
use Rattle.volume_ops.specs.laws.Alike.{SameMetadataAtOrNone}

-- ---- names lead to nodes of the tree

-- what a name leads to in a directory is what it names
named_by : (d : Directory) (name : List ℕ) (birth : ℕ) (long : Bool) (o : Option ℕ) → at_name d.names name ≡ o →
    ◌≡◌ {A = Result ℕ Refusal}
    (if long then Err name_too_long else elim o as (λ _. Result ℕ Refusal) [ None ↦ Err not_found | Some birth ↦ Ok birth ])
    (Ok birth) →
    at_name d.names name ≡ Some birth
named_by d name birth true o e h = absurd (err-ok name_too_long birth h)
named_by d name birth false None e h = absurd (err-ok not_found birth h)
named_by d name birth false (Some next) e h = e ∙ ap Some (same_Ok next birth h)

-- a step that is not refused is by a name of the tree
step_names : (tree : List (ℕ × Node)) (parent : ℕ) (name : List ℕ) (birth : ℕ) (o : Option Node) → at_number tree parent ≡ o →
    step_at o name ≡ Ok birth → HasEntry tree parent name birth
step_names tree parent name birth None e h = absurd (err-ok _ birth h)
step_names tree parent name birth (Some (nodes.Directory d)) e h =
    record { directory = d; stands = e; named = named_by d name birth (nat_lt d.width (length name)) (at_name d.names name) refl h }
step_names tree parent name birth (Some (nodes.File f)) e h = absurd (err-ok _ birth h)
step_names tree parent name birth (Some (nodes.Other mode)) e h = absurd (err-ok _ birth h)

-- a node stands at this birth
abbrev Stands : List (ℕ × Node) → ℕ → Type 0
Stands tree birth = (node : Node) × (at_number tree birth ≡ Some node)

-- how the way goes on after a step
abbrev led_on : List (ℕ × Node) → List (List ℕ) → Result ℕ Refusal → Result ℕ Refusal
led_on tree names r = elim r as (λ _. Result ℕ Refusal) [ Err refusal ↦ Err refusal | Ok next ↦ led_to tree next names ]

module _ (g : Geometry) (blocks : List (List ℕ)) (tree : List (ℕ × Node)) (fields : IsTreeOf g blocks tree) where
  step_stands : (parent : ℕ) (name : List ℕ) (birth : ℕ) → step_at (at_number tree parent) name ≡ Ok birth → Stands tree birth
  step_stands parent name birth h =
      let x = fields.leads parent name birth (step_names tree parent name birth (at_number tree parent) refl h) in
      (x.0, x.1)

  led_on_stands : (name : List ℕ) (names : List (List ℕ)) (parent birth : ℕ) (r : Result ℕ Refusal) → step_at (at_number tree parent) name ≡ r →
      ((next : ℕ) → Stands tree next → led_to tree next names ≡ Ok birth → Stands tree birth) → led_on tree names r ≡ Ok birth → Stands tree birth
  led_on_stands name names parent birth (Err refusal) e rest h = absurd (err-ok refusal birth h)
  led_on_stands name names parent birth (Ok next) e rest h = rest next (step_stands parent name next e) h

  led_stands : (names : List (List ℕ)) (parent birth : ℕ) → Stands tree parent → led_to tree parent names ≡ Ok birth → Stands tree birth
  led_stands [] parent birth stands h = subst (λ birth. Stands tree birth) (same_Ok parent birth h) stands
  led_stands (name ∷ names) parent birth stands h =
      led_on_stands name names parent birth (step_at (at_number tree parent) name) refl (λ next s e. led_stands names next birth s e) h

  path_stands : (names : List (List ℕ)) (birth : ℕ) → node_of_path tree names ≡ Ok birth → Stands tree birth
  path_stands names birth h = led_stands names 0 birth (nodes.Directory fields.root.0, fields.root.1) h

-- ---- the bodies of two volumes for what was found once

module _ (blocks other : List (List ℕ)) where
  same_keys : (zones : List Mapped) → keys_of (bodies_of blocks zones) ≡ keys_of (bodies_of other zones)
  same_keys [] = refl
  same_keys (zone ∷ zones) = ap (λ keys. zone.index ∷ keys) (same_keys zones)

  -- what stands in the two trees at a birth: none in both, or a node of the same found
  abbrev IsOneFound : Option Node → Option Node → Type 0
  IsOneFound n m = ((n ≡ None) × (m ≡ None)) ⊎ ((f : Found) × (n ≡ Some (node_of blocks f)) × (m ≡ Some (node_of other f)))

  abbrev AreOneFound : List (ℕ × Node) → List (ℕ × Node) → Type 0
  AreOneFound tree changed = (birth : ℕ) → IsOneFound (at_number tree birth) (at_number changed birth)

  put_one_found : (tree changed : List (ℕ × Node)) (birth : ℕ) (f : Found) → AreOneFound tree changed →
      AreOneFound (put_number tree birth (node_of blocks f)) (put_number changed birth (node_of other f))
  put_one_found tree changed birth f each at =
      ⊎_elim
      (λ e. inr (
        f,
        subst (λ at. at_number (put_number tree birth (node_of blocks f)) at ≡ Some (node_of blocks f)) e (at_put_number tree birth (node_of blocks f)),
        subst (λ at. at_number (put_number changed birth (node_of other f)) at ≡ Some (node_of other f)) e (at_put_number changed birth (node_of other f)),
      ))
      (λ apart.
      subst (λ n. IsOneFound n (at_number (put_number changed birth (node_of other f)) at))
      (sym (at_put_number_apart tree birth (node_of blocks f) at (λ e. apart (sym e))))
      (subst (λ m. IsOneFound (at_number tree at) m)
      (sym (at_put_number_apart changed birth (node_of other f) at (λ e. apart (sym e))))
      (each at)))
      (cases_eq birth at)

  puts_one_found : (ns : List FoundNode) (tree changed : List (ℕ × Node)) → AreOneFound tree changed → AreOneFound (put_nodes blocks ns tree) (put_nodes other ns changed)
  puts_one_found [] tree changed each = each
  puts_one_found (n ∷ ns) tree changed each =
      puts_one_found ns (put_number tree n.birth (node_of blocks n.found)) (put_number changed n.birth (node_of other n.found))
      (put_one_found tree changed n.birth n.found each)

  -- the same metadata
  found_metadata : (f : Found) → SameMetadataAt (Some (node_of blocks f)) (Some (node_of other f))
  found_metadata (found.Directory d) = refl
  found_metadata (found.File f) = (refl, refl, same_keys f.zones)
  found_metadata (found.Other mode) = refl

  same_or_none : (n m : Option Node) → IsOneFound n m → SameMetadataAtOrNone n m
  same_or_none n m (inl none) = rw (none.0, none.1) tt
  same_or_none n m (inr one) = rw (one.1, one.2) (found_metadata one.0)

  same_some : (n m : Option Node) (node : Node) → IsOneFound n m → n ≡ Some node → SameMetadataAt n m
  same_some n m node (inl none) e = absurd (none-some node (sym none.0 ∙ e))
  same_some n m node (inr one) e = rw (one.1, one.2) (found_metadata one.0)

  -- the same steps
  found_step : (f : Found) (name : List ℕ) → step_at (Some (node_of other f)) name ≡ step_at (Some (node_of blocks f)) name
  found_step (found.Directory d) name = refl
  found_step (found.File f) name = refl
  found_step (found.Other mode) name = refl

  -- the same kind
  found_kind : (f : Found) → is_directory (Some (node_of blocks f)) ≡ is_directory (Some (node_of other f))
  found_kind (found.Directory d) = refl
  found_kind (found.File f) = refl
  found_kind (found.Other mode) = refl

  same_kind : (n m : Option Node) → IsOneFound n m → is_directory n ≡ is_directory m
  same_kind n m (inl none) = rw (none.0, none.1) refl
  same_kind n m (inr one) = rw (one.1, one.2) (found_kind one.0)

  same_step : (n m : Option Node) (name : List ℕ) → IsOneFound n m → step_at m name ≡ step_at n name
  same_step n m name (inl none) = ap (λ o. step_at o name) (none.1 ∙ sym none.0)
  same_step n m name (inr one) = ap (λ o. step_at o name) one.2 ∙ (found_step one.0 name ∙ sym (ap (λ o. step_at o name) one.1))

  module _ (tree changed : List (ℕ × Node)) (each : AreOneFound tree changed) where
    same_on : (names : List (List ℕ)) (r : Result ℕ Refusal) → ((birth : ℕ) → led_to changed birth names ≡ led_to tree birth names) → led_on changed names r ≡ led_on tree names r
    same_on names (Err refusal) same = refl
    same_on names (Ok next) same = same next

    same_way : (names : List (List ℕ)) (birth : ℕ) → led_to changed birth names ≡ led_to tree birth names
    same_way [] birth = refl
    same_way (name ∷ names) birth =
        ap (λ r. led_on changed names r) (same_step (at_number tree birth) (at_number changed birth) name (each birth))
        ∙ same_on names (step_at (at_number tree birth) name) (same_way names)

    -- the same links
    same_count : (names : List (List ℕ × ℕ)) → count_by (λ e. is_directory (at_number tree e.1)) names ≡ count_by (λ e. is_directory (at_number changed e.1)) names
    same_count names = count_by_same (λ e. is_directory (at_number tree e.1)) (λ e. is_directory (at_number changed e.1)) names (λ e. same_kind (at_number tree e.1) (at_number changed e.1) (each e.1))

    found_links : (f : Found) → SameLinks tree changed (Some (node_of blocks f)) (Some (node_of other f))
    found_links (found.Directory d) = ap (λ n. 2 + n) (same_count d.names)
    found_links (found.File f) = tt
    found_links (found.Other mode) = tt

    links_same : (n m : Option Node) → IsOneFound n m → SameLinks tree changed n m
    links_same n m (inl none) = rw none.0 tt
    links_same n m (inr one) = rw (one.1, one.2) (found_links one.0)

    alike : (g : Geometry) → IsTreeOf g blocks tree → AreAlike tree changed
    alike g fields = record {
      to = λ birth. birth;
      same_paths = λ names birth h. same_way names 0 ∙ h;
      no_more_paths = λ names h. subst (λ r. IsOk r) (same_way names 0) h;
      same_metadata = λ names birth h.
          let x = path_stands g blocks tree fields names birth h in
          same_some (at_number tree birth) (at_number changed birth) x.0 (each birth) x.1;
      same_links = λ names birth h. links_same (at_number tree birth) (at_number changed birth) (each birth);
      one_node = λ names more a b h i e. e;
    }

-- ---- the two trees

-- the tree of the other volume, which puts what was found once
changed_by : (g : Geometry) (blocks other : List (List ℕ)) (tree : List (ℕ × Node)) (r : Result Walked Fault) → walked g other ≡ r →
    tree_found blocks r ≡ Ok tree → (changed : List (ℕ × Node)) × (tree_of g other ≡ Ok changed) × AreOneFound blocks other tree changed
changed_by g blocks other tree (Ok all) w r = (
  put_nodes other all.nodes [],
  ap (tree_found other) w,
  subst (λ tree. AreOneFound blocks other tree (put_nodes other all.nodes [])) (same_Ok (put_nodes blocks all.nodes []) tree r)
      (puts_one_found blocks other all.nodes [] [] (λ birth. inl (refl, refl))),
)
changed_by g blocks other tree (Err fault) w r = absurd (err-ok fault tree r)

changed_of : (g : Geometry) (blocks other : List (List ℕ)) (tree : List (ℕ × Node)) → AgreeOn (metadata g blocks) (disk_of blocks) (disk_of other) →
    tree_of g blocks ≡ Ok tree → (changed : List (ℕ × Node)) × (tree_of g other ≡ Ok changed) × AreOneFound blocks other tree changed
unfolding walked
changed_of g blocks other tree agree r =
    changed_by g blocks other tree (walked g blocks) (answer-agrees (disk_of blocks) (disk_of other) (walk_volume g) agree) r

-- it is alike
pub changed_alike : (g : Geometry) (blocks other : List (List ℕ)) (tree : List (ℕ × Node)) → AgreeOn (metadata g blocks) (disk_of blocks) (disk_of other) →
    tree_of g blocks ≡ Ok tree → (changed : List (ℕ × Node)) × (tree_of g other ≡ Ok changed) × AreAlike tree changed
changed_alike g blocks other tree agree r =
    let x = changed_of g blocks other tree agree r in
    (x.0, x.1, alike blocks other tree x.0 x.2 g (tree_of-fields g blocks tree r))

-- births stay
pub changed_births : (g : Geometry) (blocks other : List (List ℕ)) (tree : List (ℕ × Node)) → AgreeOn (metadata g blocks) (disk_of blocks) (disk_of other) →
    tree_of g blocks ≡ Ok tree → (changed : List (ℕ × Node)) × (tree_of g other ≡ Ok changed) × ((birth : ℕ) → SameMetadataAtOrNone (at_number tree birth) (at_number changed birth))
changed_births g blocks other tree agree r =
    let x = changed_of g blocks other tree agree r in
    (x.0, x.1, λ birth. same_or_none blocks other (at_number tree birth) (at_number x.0 birth) (x.2 birth))

-- both of one tree
pub changed_all : (g : Geometry) (blocks other : List (List ℕ)) (tree : List (ℕ × Node)) → AgreeOn (metadata g blocks) (disk_of blocks) (disk_of other) →
    tree_of g blocks ≡ Ok tree → (changed : List (ℕ × Node)) × (tree_of g other ≡ Ok changed) × AreAlike tree changed × ((birth : ℕ) → SameMetadataAtOrNone (at_number tree birth) (at_number changed birth))
changed_all g blocks other tree agree r =
    let x = changed_of g blocks other tree agree r in
    (x.0, x.1, alike blocks other tree x.0 x.2 g (tree_of-fields g blocks tree r), λ birth. same_or_none blocks other (at_number tree birth) (at_number x.0 birth) (x.2 birth))

-- paths lead to the same nodes whatever bytes the files have
pub same_paths_found : (blocks other : List (List ℕ)) (ns : List FoundNode) (names : List (List ℕ)) → node_of_path (put_nodes other ns []) names ≡ node_of_path (put_nodes blocks ns []) names
same_paths_found blocks other ns names =
    same_way blocks other (put_nodes blocks ns []) (put_nodes other ns []) (puts_one_found blocks other ns [] [] (λ birth. inl (refl, refl))) names 0
