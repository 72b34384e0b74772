-- What `stat` and `list` answer.
use Rattle.std.specs.Prelude.{◌≡◌, ℕ, ◌+◌, ◌*◌, ◌↔◌, Bool, true, false, cond, List, [], ◌∷◌, ◌++◌, length, filter, Some, Result, Ok, Err, IsOk, refl}
use Rattle.std.proofs.Common.{sym, ap, subst, ◌∙◌}
use Rattle.std.specs.List.{AllByRecursion}
use Rattle.std.specs.List.Sorted.{IsStrictlySortedBy}
use Rattle.std.specs.Map.{keys_of}
use Rattle.std.proofs.lemmas.Bool.{false≢true}
use Rattle.std.specs.declared.cmp.Ordering.TheVariants.{Less}
use Rattle.std.proofs.lemmas.List.{length-map}
use Rattle.std.proofs.lemmas.List.Sums.{length-filter}
use Rattle.blk_base.specs.Members.{In}
use Rattle.blk_base.specs.laws.Members.{In-map, map-In, In-filter, filter-In}
use Rattle.minix_layout.specs.Widths.{slot_size}
use Rattle.tree_model.specs.declared.call.Call.TheVariants as calls
use Rattle.tree_model.specs.declared.call.Reply.{Reply}
use Rattle.tree_model.specs.declared.call.Reply.TheVariants as replies
use Rattle.tree_model.specs.declared.call.Room.{Room}
use Rattle.tree_model.specs.declared.node.Node.{Node}
use Rattle.tree_model.specs.declared.node.Node.TheVariants as nodes
use Rattle.tree_model.specs.declared.node.Directory.{Directory}
use Rattle.tree_model.specs.declared.node.File.{File}
use Rattle.tree_model.specs.Maps.{at_number, at_name, name_cmp}
use Rattle.tree_model.specs.Trees.{Refusal, node_of_path, is_directory, directory_links}
use Rattle.tree_model.specs.Calls.{Tree, Found, and_then, a_directory, answers, stat_of, row, reply_of}
use Rattle.tree_model.specs.CallWords.{StandsAt}
use Rattle.tree_model.specs.Plain.{IsPlain}
use Rattle.tree_model.specs.laws.Listing.{names_of}
use Rattle.tree_model.specs.laws.MapsLaws.{at_name-In}
use Rattle.tree_model.proofs.FileChanges.{walk_from, Asked, asked_reply}
use Rattle.tree_model.proofs.Lookups.{In-at_name}
use Rattle.tree_model.proofs.Plain.{edge_of}
use Rattle.tree_model.proofs.Ways.{led_way, way_led, way_last, way_push, way_one}

-- ---- replies

stat_row : (tree : Tree) (n : ℕ) (path : List ℕ) (birth : ℕ) (node : Node) (reply : Reply) → StandsAt tree path birth node → stat_of tree node ≡ Ok reply → row tree n (calls.Stat path) ≡ Ok (Asked tree reply)
unfolding row
stat_row tree n path birth node reply s h =
    ap (λ (r : Result Found Reply). and_then r (λ found. and_then (stat_of tree found.node) (answers tree))) (walk_from tree path birth node s)
    ∙ ap (λ r. and_then r (answers tree)) h

pub stat_file : (room : Room) (tree : Tree) (n : ℕ) (path : List ℕ) (birth : ℕ) (f : File) → StandsAt tree path birth (nodes.File f) → reply_of room tree n (calls.Stat path) ≡ replies.Stat false f.size f.links
stat_file room tree n path birth f s =
    asked_reply room tree n (calls.Stat path) (replies.Stat false f.size f.links) (stat_row tree n path birth (nodes.File f) (replies.Stat false f.size f.links) s refl)

list_row : (tree : Tree) (n : ℕ) (path : List ℕ) (birth : ℕ) (e : Directory) → StandsAt tree path birth (nodes.Directory e) → row tree n (calls.List path) ≡ Ok (Asked tree (replies.Names (keys_of e.names)))
unfolding row
list_row tree n path birth e s =
    ap (λ (r : Result Found Reply). and_then r (λ found. and_then (a_directory found.node) (λ d. answers tree (replies.Names (keys_of d.names))))) (walk_from tree path birth (nodes.Directory e) s)

-- ---- names in a directory

all_filtered : {X : Type 0} (P : List ℕ → Type 0) (test : List ℕ × X → Bool) (es : List (List ℕ × X)) → AllByRecursion P (keys_of es) → AllByRecursion P (keys_of (filter test es))
all_filtered P test [] h = tt
all_filtered P test (e ∷ es) h = by (test e) (all_filtered P test es h.1)
  where
    by : (b : Bool) → AllByRecursion P (keys_of (filter test es)) → AllByRecursion P (keys_of (cond b (e ∷ filter test es) (filter test es)))
    by true more = (h.0, more)
    by false more = more

sorted_filtered : {X : Type 0} (test : List ℕ × X → Bool) (es : List (List ℕ × X)) → IsStrictlySortedBy name_cmp (keys_of es) → IsStrictlySortedBy name_cmp (keys_of (filter test es))
unfolding IsStrictlySortedBy
sorted_filtered test [] h = tt
sorted_filtered test (e ∷ es) h = by (test e) (sorted_filtered test es h.1)
  where
    by : (b : Bool) → IsStrictlySortedBy name_cmp (keys_of (filter test es)) → IsStrictlySortedBy name_cmp (keys_of (cond b (e ∷ filter test es) (filter test es)))
    by true more = (all_filtered (λ y. name_cmp e.0 y ≡ Less) test es h.0, more)
    by false more = more

module _ (room : Room) (tree : Tree) (plain : IsPlain tree) (n : ℕ) (path : List ℕ) (birth : ℕ) (e : Directory) (s : StandsAt tree path birth (nodes.Directory e)) where
  its_names : (name : List ℕ) (child : ℕ) → at_name e.names name ≡ Some child → node_of_path tree (s.names ++ name ∷ []) ≡ Ok child
  its_names name child h =
      way_led tree plain.rooted 0 child (s.names ++ name ∷ [])
      (way_push (edge_of tree) 0 birth child s.names name (led_way tree 0 birth s.names s.leads.path) (ap (λ o. at_name (names_of o) name) s.leads.stands ∙ h))

  named_here : (name : List ℕ) (child : ℕ) → node_of_path tree (s.names ++ name ∷ []) ≡ Ok child → at_name e.names name ≡ Some child
  named_here name child h =
      let x = way_last (edge_of tree) 0 child s.names name (led_way tree 0 child (s.names ++ name ∷ []) h) in
      let same = way_one (edge_of tree) 0 x.0 birth s.names x.1 (led_way tree 0 birth s.names s.leads.path) in
      sym (ap (λ p. edge_of tree p name) same ∙ ap (λ o. at_name (names_of o) name) s.leads.stands) ∙ x.2

  sorted : IsStrictlySortedBy name_cmp (keys_of e.names)
  sorted = plain.rooted.names_in_order birth e s.leads.stands

  Within : List (List ℕ × ℕ)
  Within = filter (λ x. is_directory (at_number tree x.1)) e.names

  pub stat_directory : (links : ℕ) × (reply_of room tree n (calls.Stat path) ≡ replies.Stat true (slot_size e.width * e.slots) links) × (within : List (List ℕ)) × (links ≡ 2 + length within) × IsStrictlySortedBy name_cmp within ×
      ((name : List ℕ) → In name within ↔ ((child : ℕ) × (node_of_path tree (s.names ++ name ∷ []) ≡ Ok child) × (is_directory (at_number tree child) ≡ true)))
  unfolding Within
  stat_directory = (
    directory_links tree e,
    asked_reply room tree n (calls.Stat path) (replies.Stat true (slot_size e.width * e.slots) (directory_links tree e)) (stat_row tree n path birth (nodes.Directory e) (replies.Stat true (slot_size e.width * e.slots) (directory_links tree e)) s refl),
    keys_of Within,
    ap (λ k. 2 + k) (sym (length-map Within (λ x. x.0) ∙ length-filter (λ (x : List ℕ × ℕ). is_directory (at_number tree x.1)) e.names)),
    sorted_filtered (λ x. is_directory (at_number tree x.1)) e.names sorted,
    (λ name. (
      (λ i.
          let x = In-map (λ (x : List ℕ × ℕ). x.0) Within name i in
          let y = In-filter (λ (x : List ℕ × ℕ). is_directory (at_number tree x.1)) e.names x.0 x.1 in
          (x.0.1, ap (λ k. node_of_path tree (s.names ++ k ∷ [])) (sym x.2) ∙ its_names x.0.0 x.0.1 (In-at_name e.names x.0.0 x.0.1 sorted y.0), y.1)),
      (λ x. map-In (λ (x : List ℕ × ℕ). x.0) Within (name, x.0) (filter-In (λ (x : List ℕ × ℕ). is_directory (at_number tree x.1)) e.names (name, x.0) (at_name-In e.names name x.0 (named_here name x.0 x.1)) x.2)),
    )),
  )

  ok_in : (name : List ℕ) (r : Result ℕ Refusal) → node_of_path tree (s.names ++ name ∷ []) ≡ r → IsOk r → In name (keys_of e.names)
  ok_in name (Ok child) h t = map-In (λ (x : List ℕ × ℕ). x.0) e.names (name, child) (at_name-In e.names name child (named_here name child h))
  ok_in name (Err refusal) h t = absurd (false≢true t)

  pub list_names : (names : List (List ℕ)) × (reply_of room tree n (calls.List path) ≡ replies.Names names) × IsStrictlySortedBy name_cmp names × ((name : List ℕ) → In name names ↔ IsOk (node_of_path tree (s.names ++ name ∷ [])))
  list_names = (
    keys_of e.names,
    asked_reply room tree n (calls.List path) (replies.Names (keys_of e.names)) (list_row tree n path birth e s),
    sorted,
    (λ name. (
      (λ i.
          let x = In-map (λ (x : List ℕ × ℕ). x.0) e.names name i in
          subst (λ r. IsOk r) (sym (ap (λ k. node_of_path tree (s.names ++ k ∷ [])) (sym x.2) ∙ its_names x.0.0 x.0.1 (In-at_name e.names x.0.0 x.0.1 sorted x.1))) refl),
      (λ t. ok_in name (node_of_path tree (s.names ++ name ∷ [])) refl t),
    )),
  )
