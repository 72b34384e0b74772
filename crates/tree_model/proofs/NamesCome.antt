-- The paths that come and go with a name.
use Rattle.std.specs.Prelude.{◌≡◌, ◌≢◌, ◌⊎◌, ◌↔◌, ℕ, ◌+◌, ◌-◌, Bool, true, false, if◌then◌else◌, nat_le, List, [], Some, None, Ok, refl}
use Rattle.std.proofs.Common.{sym, ap, subst, ◌∙◌, inl, inr, ⊎_elim}
use Rattle.std.proofs.lemmas.Option.{none-some, same_Some}
use Rattle.tree_model.specs.declared.call.Call.{Call}
use Rattle.tree_model.specs.declared.call.Call.TheVariants as calls
use Rattle.tree_model.specs.declared.call.Room.{Room}
use Rattle.tree_model.specs.declared.node.Node.{Node}
use Rattle.tree_model.specs.declared.node.Node.TheVariants as nodes
use Rattle.tree_model.specs.declared.node.File.{File}
use Rattle.tree_model.specs.Maps.{at_number, at_name, put_number, without_number}
use Rattle.tree_model.specs.Paths.{path_of}
use Rattle.tree_model.specs.Rooted.{IsRooted}
use Rattle.tree_model.specs.Trees.{node_of_path}
use Rattle.tree_model.specs.Calls.{Tree, Done, Place, give_name, take_name, put_file, with_links, lose_link, row, outcome}
use Rattle.tree_model.specs.Plain.{IsPlain, AreBornBefore}
use Rattle.tree_model.specs.laws.Alike.{same_ok, path_stands}
use Rattle.tree_model.specs.laws.Listing.{names_of}
use Rattle.tree_model.specs.laws.MapsLaws.{at_put_number_apart}
use Rattle.tree_model.specs.laws.MapOrder.{InOrder, in_order_put}
use Rattle.tree_model.proofs.Rows.{place_names, IsPlace, IsFound}
use Rattle.tree_model.proofs.Changes.{IsMade, IsRemoved, IsUnlinked, IsLinked, mkdir_made, create_made, rmdir_made, unlink_made, link_made, outcome_row, outcome_change}
use Rattle.tree_model.proofs.Edits.{edge_put_same, edge_without, give_here, give_split, take_split, take_kept}
use Rattle.tree_model.proofs.Plain.{edge_of, seen_of, IsWhole, plain_whole, whole_plain}
use Rattle.tree_model.proofs.PlainCalls.{IsNewNode, directory_is_new, file_is_new, place_sorted, first_stands, first_edge, at_new, made_kept, no_name}
use Rattle.tree_model.proofs.PlainNames.{directory_not_file, start_stands, start_edge, linked_kept, linked_at, link_stands, no_entries, linked_whole, unlinked_whole, removed_whole}
use Rattle.tree_model.proofs.PlainTrees.{not_born, change_whole}
use Rattle.tree_model.proofs.Ways.{Names, Way, led_way, way_led, has_names, place_spot, IsMore, more_ways, less_ways}

-- ---- from ways to paths

abbrev pub MorePaths : Tree → Tree → Names → ℕ → Type 0
MorePaths tree after names leaf = (path : Names) (birth : ℕ) → (node_of_path after path ≡ Ok birth) ↔ ((node_of_path tree path ≡ Ok birth) ⊎ ((path ≡ names) × (birth ≡ leaf)))

abbrev pub LessPaths : Tree → Tree → Names → Type 0
LessPaths tree after names = (path : Names) (birth : ℕ) → (node_of_path after path ≡ Ok birth) ↔ ((node_of_path tree path ≡ Ok birth) × (path ≢ names))

module _ (tree after : Tree) (rooted : IsRooted tree) (later : IsRooted after) where
  more_paths : (names : Names) (leaf : ℕ) → ((path : Names) (birth : ℕ) → Way (edge_of after) 0 path birth ↔ (Way (edge_of tree) 0 path birth ⊎ ((path ≡ names) × (birth ≡ leaf)))) → MorePaths tree after names leaf
  more_paths names leaf h path birth =
      let x = h path birth in (
        (λ e. ⊎_elim (λ w. inl (way_led tree rooted 0 birth path w)) inr (x.0 (led_way after 0 birth path e))),
        (λ e. way_led after later 0 birth path (x.1 (⊎_elim (λ l. inl (led_way tree 0 birth path l)) inr e))),
      )

  less_paths : (names : Names) → ((path : Names) (birth : ℕ) → Way (edge_of after) 0 path birth ↔ (Way (edge_of tree) 0 path birth × (path ≢ names))) → LessPaths tree after names
  less_paths names h path birth =
      let x = h path birth in (
        (λ e. let y = x.0 (led_way after 0 birth path e) in (way_led tree rooted 0 birth path y.0, y.1)),
        (λ e. way_led after later 0 birth path (x.1 (led_way tree 0 birth path e.0, e.1))),
      )

leaf_names : (tree : Tree) (b : ℕ) → names_of (at_number tree b) ≡ [] → (m : List ℕ) (x : ℕ) → edge_of tree b m ≡ Some x → ⊥
leaf_names tree b none m x e = none-some x (sym (ap (λ ns. at_name ns m) none) ∙ e)

-- ---- a new node

module _ (tree : Tree) (w : IsWhole tree) (n : ℕ) (node : Node) (d : Done) (m : IsMade tree n node d) (born : at_number tree n ≡ None) (new : IsNewNode m.place.directory.width m.place.parent node) (later : IsWhole d.tree) where
  made_paths : MorePaths tree d.tree m.names n
  made_paths =
      more_paths tree d.tree (whole_plain tree w).rooted (whole_plain d.tree later).rooted m.names n
      (more_ways (edge_of tree) (seen_of tree) w.joined (has_names tree) m.place.parent m.place.name m.names (place_spot tree m.names m.place m.is_place) n (edge_of d.tree)
      (subst (λ t. IsMore (edge_of tree) (seen_of tree) w.joined (has_names tree) m.place.parent m.place.name m.names (place_spot tree m.names m.place m.is_place) n (edge_of t)) (sym m.tree_is) (record {
        split = λ q k c e.
            ⊎_elim
            (λ x. inl ((x.0, x.1), x.2))
            (λ x. inr (sym (first_edge tree w n node d m born new q k) ∙ x.0))
            (give_split (put_number tree n node) m.place (first_stands tree w n node d m born new) n q k c e);
        kept = made_kept tree w n node d m born new;
        here = give_here (put_number tree n node) m.place (first_stands tree w n node d m born new) n;
        empty = leaf_names (give_name (put_number tree n node) m.place n) n (ap names_of (at_new tree w n node d m born new) ∙ new.empty);
      })))

-- ---- a file with one name more

module _ (tree : Tree) (w : IsWhole tree) (d : Done) (r : IsLinked tree d) (later : IsWhole d.tree) where
  linked_paths : MorePaths tree d.tree r.more r.found.birth
  linked_paths =
      more_paths tree d.tree (whole_plain tree w).rooted (whole_plain d.tree later).rooted r.more r.found.birth
      (more_ways (edge_of tree) (seen_of tree) w.joined (has_names tree) r.place.parent r.place.name r.more (place_spot tree r.more r.place r.is_place) r.found.birth (edge_of d.tree)
      (subst (λ t. IsMore (edge_of tree) (seen_of tree) w.joined (has_names tree) r.place.parent r.place.name r.more (place_spot tree r.more r.place r.is_place) r.found.birth (edge_of t)) (sym r.tree_is) (record {
        split = λ q k c e.
            ⊎_elim
            (λ x. inl ((x.0, x.1), x.2))
            (λ x. inr (sym (start_edge tree w d r q k) ∙ x.0))
            (give_split (put_file tree r.found.birth (with_links r.file (r.file.links + 1))) r.place (start_stands tree w d r) r.found.birth q k c e);
        kept = linked_kept tree w d r;
        here = give_here (put_file tree r.found.birth (with_links r.file (r.file.links + 1))) r.place (start_stands tree w d r) r.found.birth;
        empty = leaf_names (give_name (put_file tree r.found.birth (with_links r.file (r.file.links + 1))) r.place r.found.birth) r.found.birth (ap names_of (linked_at tree w d r));
      })))

-- ---- a name that goes

module _ (tree : Tree) (w : IsWhole tree) (names : Names) (p : Place) (place : IsPlace tree names p) (b : ℕ) (named : at_name p.directory.names p.name ≡ Some b) (leaf : names_of (at_number tree b) ≡ []) where
  -- where all other names are kept
  gone_paths : (after : Tree) → IsRooted after → ((q : ℕ) (k : List ℕ) → edge_of after q k ≡ edge_of (take_name tree p) q k) → LessPaths tree after names
  gone_paths after later same =
      let sorted = place_sorted tree w names p place in
      less_paths tree after (whole_plain tree w).rooted later names
      (less_ways (edge_of tree) (seen_of tree) w.joined (has_names tree) p.parent p.name names (place_spot tree names p place) b (edge_of after) (record {
        was = λ q k c e. take_split tree p place.stands sorted q k c (sym (same q k) ∙ e);
        kept = λ q k c e apart. same q k ∙ take_kept tree p place.stands sorted q k c e apart;
        here = ap (λ o. at_name (names_of o) p.name) place.stands ∙ named;
        empty = leaf_names tree b leaf;
      }))

lost_edge : (t : Tree) (b : ℕ) (f : File) → InOrder t → at_number t b ≡ Some (nodes.File f) → (q : ℕ) (k : List ℕ) → edge_of (lose_link t b f) q k ≡ edge_of t q k
lost_edge t b f order stands q k = by (nat_le f.links 1)
  where
    by : (few : Bool) → edge_of (if few then without_number t b else put_file t b (with_links f (f.links - 1))) q k ≡ edge_of t q k
    by true = edge_without t b order (ap names_of stands) q k
    by false = edge_put_same t b (nodes.File (with_links f (f.links - 1))) (sym (ap names_of stands)) q k

module _ (tree : Tree) (w : IsWhole tree) (d : Done) (r : IsUnlinked tree d) (later : IsWhole d.tree) where
  unlink_file : at_number tree r.found.birth ≡ Some (nodes.File r.file)
  unlink_file = r.is_found.stands ∙ ap Some r.node_is

  pub unlink_taken : at_number (take_name tree r.place) r.found.birth ≡ Some (nodes.File r.file)
  unlink_taken =
      at_put_number_apart tree r.place.parent _ r.found.birth (λ e. directory_not_file tree r.place.parent r.found.birth r.place.directory r.file r.is_place.stands unlink_file (sym e))
      ∙ unlink_file

  unlinked_paths : LessPaths tree d.tree r.names
  unlinked_paths =
      gone_paths tree w r.names r.place r.is_place r.found.birth (place_names tree r.names r.place r.found r.is_place r.is_found) (ap names_of unlink_file) d.tree (whole_plain d.tree later).rooted
      (λ q k.
      ap (λ t. edge_of t q k) r.tree_is
      ∙ lost_edge (take_name tree r.place) r.found.birth r.file (in_order_put tree r.place.parent _ w.in_order) unlink_taken q k)

module _ (tree : Tree) (w : IsWhole tree) (d : Done) (r : IsRemoved tree d) (later : IsWhole d.tree) where
  remove_directory : names_of (at_number tree r.found.birth) ≡ []
  remove_directory = ap names_of (r.is_found.stands ∙ ap Some r.node_is) ∙ no_entries r.directory.names r.empty

  remove_named : at_name r.place.directory.names r.place.name ≡ Some r.found.birth
  remove_named = place_names tree r.names r.place r.found r.is_place r.is_found

  pub remove_apart : r.found.birth ≢ r.place.parent
  remove_apart e =
      none-some r.found.birth
      (sym (ap (λ ns. at_name ns r.place.name) remove_directory) ∙ (ap (λ j. edge_of tree j r.place.name) e ∙ (ap (λ o. at_name (names_of o) r.place.name) r.is_place.stands ∙ remove_named)))

  removed_paths : LessPaths tree d.tree r.names
  removed_paths =
      gone_paths tree w r.names r.place r.is_place r.found.birth remove_named remove_directory d.tree (whole_plain d.tree later).rooted
      (λ q k.
      ap (λ t. edge_of t q k) r.tree_is
      ∙ edge_without (take_name tree r.place) r.found.birth (in_order_put tree r.place.parent _ w.in_order)
      (ap names_of (at_put_number_apart tree r.place.parent _ r.found.birth remove_apart) ∙ remove_directory) q k)

-- ---- calls

module _ (room : Room) (tree : Tree) (plain : IsPlain tree) (n : ℕ) where
  W : IsWhole tree
  W = plain_whole tree plain

  link_paths : (path other : List ℕ) (names more : Names) (d : Done) → path_of path ≡ Some names → path_of other ≡ Some more → outcome room tree n (calls.Link path other) ≡ Ok d →
      (birth : ℕ) × (f : File) × (node_of_path tree names ≡ Ok birth) × (at_number tree birth ≡ Some (nodes.File f)) × MorePaths tree d.tree more birth
  unfolding row
  link_paths path other names more d named second e =
      let x = link_made tree path other d (outcome_row room tree n (calls.Link path other) d e) in
      let first : names ≡ x.0.names = same_Some names x.0.names (sym named ∙ x.1) in
      let last : more ≡ x.0.more = same_Some more x.0.more (sym second ∙ x.2) in (
        x.0.found.birth,
        x.0.file,
        ap (node_of_path tree) first ∙ x.0.is_found.path,
        link_stands tree W d x.0,
        subst (λ ns. MorePaths tree d.tree ns x.0.found.birth) (sym last) (linked_paths tree W d x.0 (linked_whole tree W d x.0)),
      )

  pub link_leads_paths : (path other : List ℕ) (names more : Names) (d : Done) → path_of path ≡ Some names → path_of other ≡ Some more → outcome room tree n (calls.Link path other) ≡ Ok d →
      (ns : Names) (birth : ℕ) → (node_of_path d.tree ns ≡ Ok birth) ↔ ((node_of_path tree ns ≡ Ok birth) ⊎ ((ns ≡ more) × (node_of_path tree names ≡ Ok birth)))
  link_leads_paths path other names more d named second e ns birth =
      let x = link_paths path other names more d named second e in
      let y = x.4 ns birth in (
        (λ h. ⊎_elim inl (λ z. inr (z.0, x.2 ∙ ap Ok (sym z.1))) (y.0 h)),
        (λ h. y.1 (⊎_elim inl (λ z. inr (z.0, same_ok birth x.0 (sym z.1 ∙ x.2))) h)),
      )

  -- the new path led nowhere
  pub link_free : (path other : List ℕ) (more : Names) (d : Done) → path_of other ≡ Some more → outcome room tree n (calls.Link path other) ≡ Ok d → (birth : ℕ) → node_of_path tree more ≡ Ok birth → ⊥
  unfolding row
  link_free path other more d second e birth led =
      let x = link_made tree path other d (outcome_row room tree n (calls.Link path other) d e) in
      let last : more ≡ x.0.more = same_Some more x.0.more (sym second ∙ x.2) in
      let there : IsFound tree x.0.more (record { birth = birth; node = there_at birth led }) = record { path = sym (ap (node_of_path tree) last) ∙ led; stands = stands_at birth led } in
      no_name x.0.place x.0.free birth (place_names tree x.0.more x.0.place (record { birth = birth; node = there_at birth led }) x.0.is_place there)
    where
      there_at : (birth : ℕ) → node_of_path tree more ≡ Ok birth → Node
      there_at birth led = (path_stands tree plain.rooted more birth led).0

      stands_at : (birth : ℕ) (led : node_of_path tree more ≡ Ok birth) → at_number tree birth ≡ Some (there_at birth led)
      stands_at birth led = (path_stands tree plain.rooted more birth led).1

  pub unlink_paths : (path : List ℕ) (names : Names) (d : Done) → path_of path ≡ Some names → outcome room tree n (calls.Unlink path) ≡ Ok d → LessPaths tree d.tree names
  unfolding row
  unlink_paths path names d named e =
      let x = unlink_made tree path d (outcome_row room tree n (calls.Unlink path) d e) in
      let same : names ≡ x.0.names = same_Some names x.0.names (sym named ∙ x.1) in
      subst (λ ns. LessPaths tree d.tree ns) (sym same) (unlinked_paths tree W d x.0 (unlinked_whole tree W d x.0))

  pub rmdir_paths : (path : List ℕ) (names : Names) (d : Done) → path_of path ≡ Some names → outcome room tree n (calls.Rmdir path) ≡ Ok d → LessPaths tree d.tree names
  unfolding row
  rmdir_paths path names d named e =
      let x = rmdir_made tree path d (outcome_row room tree n (calls.Rmdir path) d e) in
      let same : names ≡ x.0.names = same_Some names x.0.names (sym named ∙ x.1) in
      subst (λ ns. LessPaths tree d.tree ns) (sym same) (removed_paths tree W d x.0 (removed_whole tree W d x.0))

  module _ (born : AreBornBefore n tree) where
    later : (c : Call) (d : Done) → outcome room tree n c ≡ Ok d → IsWhole d.tree
    later c d e = change_whole tree n c d W born (outcome_change room tree n c d e)

    fresh : at_number tree n ≡ None
    fresh = not_born tree n born (at_number tree n) refl

    pub mkdir_paths : (path : List ℕ) (names : Names) (d : Done) → path_of path ≡ Some names → outcome room tree n (calls.Mkdir path) ≡ Ok d → MorePaths tree d.tree names n
    unfolding row
    mkdir_paths path names d named e =
        let x = mkdir_made tree n path d (outcome_row room tree n (calls.Mkdir path) d e) in
        let same : names ≡ x.made.names = same_Some names x.made.names (sym named ∙ (ap path_of (sym x.path_is) ∙ x.made.named)) in
        subst (λ ns. MorePaths tree d.tree ns n) (sym same)
        (made_paths tree W n _ d x.made fresh (directory_is_new x.width x.parent x.made.place.directory.width x.made.place.parent x.parent_is.0 x.parent_is.1) (later (calls.Mkdir path) d e))

    pub create_paths : (path : List ℕ) (names : Names) (d : Done) → path_of path ≡ Some names → outcome room tree n (calls.Create path) ≡ Ok d → MorePaths tree d.tree names n
    unfolding row
    create_paths path names d named e =
        let x = create_made tree n path d (outcome_row room tree n (calls.Create path) d e) in
        let same : names ≡ x.0.names = same_Some names x.0.names (sym named ∙ (ap path_of (sym x.1) ∙ x.0.named)) in
        subst (λ ns. MorePaths tree d.tree ns n) (sym same)
        (made_paths tree W n _ d x.0 fresh (file_is_new x.0.place.directory.width x.0.place.parent) (later (calls.Create path) d e))
