-- A rename: what stands where the node goes, and the names and zones of that directory.
use Rattle.std.specs.Prelude.{◌≡◌, ◌≢◌, ℕ, suc, ◌-◌, ◌≤◌, ◌==◌, Bool, true, false, not, ◌&&◌, if◌then◌else◌, List, [], ◌∷◌, ◌++◌, length, Option, Some, None, Result, Ok, Err, is_some, is_none, refl}
use Rattle.std.proofs.Common.{sym, ap, subst, ◌∙◌, ⊎_elim, arith}
use Rattle.std.specs.List.{list_any}
use Rattle.std.specs.BTreeMap.{is_at}
use Rattle.std.proofs.lemmas.Bool.{true≢false, false≢true, and_parts, and_from, or_cases, or_left, or_right, eqb-true, eq-eqb, eqb-false, not-true, false_from_ne_true}
use Rattle.std.proofs.lemmas.Option.{none-some, same_Some}
use Rattle.tree_model.specs.declared.node.Node.{Node}
use Rattle.tree_model.specs.declared.node.Node.TheVariants as nodes
use Rattle.tree_model.specs.declared.node.Directory.{Directory}
use Rattle.tree_model.specs.declared.node.File.{File}
use Rattle.tree_model.specs.Maps.{at_number, at_name, put_number, name_cmp}
use Rattle.tree_model.specs.Paths.{path_of}
use Rattle.tree_model.specs.Plain.{IsPlain}
use Rattle.tree_model.specs.Trees.{Refusal, step_at, led_to, node_of_path, is_directory}
use Rattle.tree_model.specs.Calls.{Tree, Found, Place, Move, above, is_file, is_full, without_name, with_name, give_name, take_name, lose_link, target_at, meets_directory, meets_file, stays, place_after, without_target, moved_node, tree_moved, directory_zones, node_zones, used_zones, a_file}
use Rattle.tree_model.specs.CallWords.{StandsAt}
use Rattle.tree_model.specs.laws.Alike.{same_ok, led_on, led_parts, led_push, step_given}
use Rattle.tree_model.specs.laws.MapOrder.{at_name_without_apart, at_name_without_found}
use Rattle.tree_model.proofs.Rows.{IsFound, IsPlace, place_names}
use Rattle.tree_model.proofs.Entries.{length-without}
use Rattle.tree_model.proofs.NamedNodes.{slots_kept}
use Rattle.call_refusals.specs.Conditions.{HasParent, IsMovedTo, GoesThrough, name_zones, names_without_one}
use Rattle.call_refusals.proofs.Words.{one_node, only_parent, is_node, is_parent}
use Rattle.call_refusals.proofs.Rooms.{is_full_with, zones_at, zones_of, HasZones, put_same, named_zones, itself, lost}

-- ---- directories on the way

record IsAbove (tree : Tree) (start birth : ℕ) (names : List (List ℕ)) : Type 0 where
  front : List (List ℕ)
  name : List ℕ
  rest : List (List ℕ)
  names_are : front ++ name ∷ rest ≡ names
  led : led_to tree start front ≡ Ok birth

module _ (tree : Tree) where
  above_leads : (start birth : ℕ) (names : List (List ℕ)) → list_any (λ b. b == birth) (above tree start names) ≡ true → IsAbove tree start birth names
  above_leads start birth [] h = absurd (false≢true h)
  above_leads start birth (name ∷ names) h =
      ⊎_elim
      (λ here. record { front = []; name = name; rest = names; names_are = refl; led = ap Ok (eqb-true start birth here) })
      (λ later. by (step_at (at_number tree start) name) refl later (λ next l. above_leads next birth names l))
      (or_cases (start == birth) _ h)
    where
      by : (r : Result ℕ Refusal) → step_at (at_number tree start) name ≡ r → list_any (λ b. b == birth) (elim r as (λ _. List ℕ) [ Err refusal ↦ [] | Ok next ↦ above tree next names ]) ≡ true →
          ((next : ℕ) → list_any (λ b. b == birth) (above tree next names) ≡ true → IsAbove tree next birth names) → IsAbove tree start birth (name ∷ names)
      by (Err refusal) e l more = absurd (false≢true l)
      by (Ok next) e l more =
          let x = more next l in
          record {
            front = name ∷ x.front;
            name = x.name;
            rest = x.rest;
            names_are = ap (λ ns. name ∷ ns) x.names_are;
            led = ap (λ (r : Result ℕ Refusal). led_on tree r x.front) e ∙ x.led;
          }

  leads_above : (front : List (List ℕ)) (name : List ℕ) (rest : List (List ℕ)) (start birth : ℕ) → led_to tree start front ≡ Ok birth → list_any (λ b. b == birth) (above tree start (front ++ name ∷ rest)) ≡ true
  leads_above [] name rest start birth led = or_left (start == birth) _ (eq-eqb start birth (same_ok start birth led))
  leads_above (n ∷ ns) name rest start birth led =
      let x = led_parts tree (step_at (at_number tree start) n) ns birth led in
      or_right (start == birth) _
      (ap (λ (r : Result ℕ Refusal). list_any (λ b. b == birth) (elim r as (λ _. List ℕ) [ Err refusal ↦ [] | Ok next ↦ above tree next (ns ++ name ∷ rest) ])) x.1
      ∙ leads_above ns name rest x.0 birth x.2)

pub directory_is : (node : Node) → is_directory (Some node) ≡ true → (d : Directory) × (node ≡ nodes.Directory d)
directory_is (nodes.Directory d) h = (d, refl)
directory_is (nodes.File f) h = absurd (false≢true h)
directory_is (nodes.Other mode) h = absurd (false≢true h)

pub file_is : (node : Node) → is_file (Some node) ≡ true → (f : File) × (node ≡ nodes.File f)
file_is (nodes.File f) h = (f, refl)
file_is (nodes.Directory d) h = absurd (false≢true h)
file_is (nodes.Other mode) h = absurd (false≢true h)

moved_zones : (parent : ℕ) (node : Node) → node_zones node ≡ node_zones (moved_node parent node)
moved_zones parent (nodes.Directory d) = refl
moved_zones parent (nodes.File f) = refl
moved_zones parent (nodes.Other mode) = refl

pub is_none_of : {A : Type 0} (o : Option A) → is_none o ≡ true → o ≡ None
is_none_of None h = refl
is_none_of (Some a) h = absurd (false≢true h)

none_is : (o : Option ℕ) → ((b : ℕ) → o ≡ Some b → ⊥) → o ≡ None
none_is None h = refl
none_is (Some b) h = absurd (h b refl)

none_some_false : (o : Option ℕ) → o ≡ None → is_some o ≡ false
none_some_false o e = ap is_some e

one_less : (a b : ℕ) → a ≡ suc b → b ≡ a - 1
one_less a b e = omega arith

none_more : (a b : ℕ) → a ≤ b → a - b ≡ 0
none_more a b le = omega arith

same_less : (a : ℕ) → a ≤ a
same_less a = omega arith

module _ (tree : Tree) (plain : IsPlain tree) (path other : List ℕ) (names more : List (List ℕ)) (named : path_of path ≡ Some names) (goal_named : path_of other ≡ Some more)
    (found : Found) (from to : Place) (f : IsFound tree names found) (is_from : IsPlace tree names from) (is_to : IsPlace tree more to) where
  abbrev pub the_move : Move
  the_move = record { moved = found; from = from; to = to; target = target_at tree to }

  pub moved : StandsAt tree path found.birth found.node
  moved = is_node tree path names found named f

  pub origin : HasParent tree path from.parent from.directory from.name
  origin = is_parent tree path names from named is_from

  pub goal : HasParent tree other to.parent to.directory to.name
  goal = is_parent tree other more to goal_named is_to

  pub movement : IsMovedTo tree path other from.parent to.parent to.directory to.name
  movement = record { directory = from.directory; old = from.name; origin = origin; goal = goal }

  -- what is true of the places of a rename is true of those that were found
  pub at_goal : (P : ℕ → ℕ → Directory → List ℕ → Type 0) (p q : ℕ) (d : Directory) (name : List ℕ) → IsMovedTo tree path other p q d name → P p q d name → P from.parent to.parent to.directory to.name
  at_goal P p q d name x h =
      only_parent tree path (λ a e other. P a to.parent to.directory to.name) from.parent p from.directory x.directory from.name x.old origin x.origin
      (only_parent tree other (λ a e other. P p a e other) to.parent q to.directory d to.name name goal x.goal h)

  -- ---- what stands there

  node_by : (birth : ℕ) (o : Option Node) → at_number tree birth ≡ o → (t : Found) → ◌≡◌ {A = Option Found} (elim o as (λ _. Option Found) [ None ↦ None | Some node ↦ Some (record { birth = birth; node = node }) ]) (Some t) →
      (◌≡◌ {A = Option ℕ} (Some birth) (Some t.birth)) × (at_number tree t.birth ≡ Some t.node)
  node_by birth None at t e = absurd (none-some t e)
  node_by birth (Some node) at t e =
      let same : record { birth = birth; node = node } ≡ t = same_Some (record { birth = birth; node = node }) t e in
      (ap (λ (x : Found). Some x.birth) same, subst (λ (x : Found). at_number tree x.birth ≡ Some x.node) same at)

  target_by : (o : Option ℕ) (t : Found) →
      ◌≡◌ {A = Option Found}
      (elim o as (λ _. Option Found) [ None ↦ None | Some birth ↦ elim (at_number tree birth) as (λ _. Option Found) [ None ↦ None | Some node ↦ Some (record { birth = birth; node = node }) ] ])
      (Some t) → (o ≡ Some t.birth) × (at_number tree t.birth ≡ Some t.node)
  target_by None t e = absurd (none-some t e)
  target_by (Some birth) t e = node_by birth (at_number tree birth) refl t e

  target_parts : (t : Found) → target_at tree to ≡ Some t → (at_name to.directory.names to.name ≡ Some t.birth) × (at_number tree t.birth ≡ Some t.node)
  target_parts t e = target_by (at_name to.directory.names to.name) t e

  pub meets : (t : Found) → target_at tree to ≡ Some t → StandsAt tree other t.birth t.node
  meets t e =
      let parts = target_parts t e in
      let step = step_given tree plain.rooted to.parent to.name t.birth (record { directory = to.directory; stands = is_to.stands; named = parts.0 }) in
      let ends : goal.front ++ to.name ∷ [] ≡ more = same_Some _ more (sym goal.named ∙ goal_named) in
      record {
        names = more;
        named = goal_named;
        leads = record { path = subst (λ ns. node_of_path tree ns ≡ Ok t.birth) ends (led_push tree goal.front 0 to.parent t.birth to.name goal.leads.path step); stands = parts.1 };
      }

  pub met : (b : ℕ) (node : Node) → StandsAt tree other b node → target_at tree to ≡ Some (record { birth = b; node = node })
  met b node s =
      let same : s.names ≡ more = same_Some s.names more (sym s.named ∙ goal_named) in
      let at : at_name to.directory.names to.name ≡ Some b =
      place_names tree more to (record { birth = b; node = node }) is_to (record { path = subst (λ ns. node_of_path tree ns ≡ Ok b) same s.leads.path; stands = s.leads.stands })
      in
      ap
      (λ o. elim o as (λ _. Option Found) [ None ↦ None | Some birth ↦ elim (at_number tree birth) as (λ _. Option Found) [ None ↦ None | Some node ↦ Some (record { birth = birth; node = node }) ] ])
      at
      ∙ ap (λ o. elim o as (λ _. Option Found) [ None ↦ None | Some node ↦ Some (record { birth = b; node = node }) ]) s.leads.stands

  pub none_met : at_name to.directory.names to.name ≡ None → target_at tree to ≡ None
  none_met e =
      ap
      (λ o. elim o as (λ _. Option Found) [ None ↦ None | Some birth ↦ elim (at_number tree birth) as (λ _. Option Found) [ None ↦ None | Some node ↦ Some (record { birth = birth; node = node }) ] ])
      e

  pub no_name : target_at tree to ≡ None → at_name to.directory.names to.name ≡ None
  no_name e = none_is (at_name to.directory.names to.name) (λ b at. none-some _ (sym e ∙ stands b at))
    where
      stands : (b : ℕ) (at : at_name to.directory.names to.name ≡ Some b) → target_at tree to ≡ Some (record { birth = b; node = (plain.rooted.leads to.parent to.name b (record { directory = to.directory; stands = is_to.stands; named = at })).0 })
      stands b at =
          ap
          (λ o. elim o as (λ _. Option Found) [ None ↦ None | Some birth ↦ elim (at_number tree birth) as (λ _. Option Found) [ None ↦ None | Some node ↦ Some (record { birth = birth; node = node }) ] ])
          at
          ∙ ap (λ o. elim o as (λ _. Option Found) [ None ↦ None | Some node ↦ Some (record { birth = b; node = node }) ])
          (plain.rooted.leads to.parent to.name b (record { directory = to.directory; stands = is_to.stands; named = at })).1

  -- ---- a directory below itself

  pub goes_through : (is_directory (Some found.node) && list_any (λ birth. birth == found.birth) (above tree 0 more)) ≡ true → GoesThrough tree path other
  goes_through t =
      let parts = and_parts (is_directory (Some found.node)) _ t in
      let d = directory_is found.node parts.0 in
      let x = above_leads tree 0 found.birth more parts.1 in
      record {
        birth = found.birth;
        directory = d.0;
        stands = subst (StandsAt tree path found.birth) d.1 moved;
        front = x.front;
        name = x.name;
        rest = x.rest;
        named = goal_named ∙ ap Some (sym x.names_are);
        led = x.led;
      }

  pub through_goes : GoesThrough tree path other → (is_directory (Some found.node) && list_any (λ birth. birth == found.birth) (above tree 0 more)) ≡ true
  through_goes x =
      let one = one_node tree path found.birth x.birth found.node (nodes.Directory x.directory) moved x.stands in
      let ends : x.front ++ x.name ∷ x.rest ≡ more = same_Some _ more (sym x.named ∙ goal_named) in
      and_from (is_directory (Some found.node)) _ (ap (λ n. is_directory (Some n)) one.1)
      (subst (λ ns. list_any (λ birth. birth == found.birth) (above tree 0 ns) ≡ true) ends (leads_above tree x.front x.name x.rest 0 found.birth (x.led ∙ ap Ok (sym one.0))))

  -- ---- kinds

  pub meets_says : meets_directory the_move ≡ true → (t : Found) × (e : Directory) × (target_at tree to ≡ Some t) × (t.node ≡ nodes.Directory e) × (t.birth ≢ found.birth)
  meets_says h = by (target_at tree to) refl h
    where
      by : (o : Option Found) → target_at tree to ≡ o → (elim o as (λ _. Bool) [ None ↦ false | Some t ↦ is_directory (Some t.node) && not (t.birth == found.birth) ]) ≡ true →
          (t : Found) × (e : Directory) × (target_at tree to ≡ Some t) × (t.node ≡ nodes.Directory e) × (t.birth ≢ found.birth)
      by None e h = absurd (false≢true h)
      by (Some t) e h =
          let parts = and_parts (is_directory (Some t.node)) (not (t.birth == found.birth)) h in
          let d = directory_is t.node parts.0 in
          (t, d.0, e, d.1, eqb-false t.birth found.birth (not-true (t.birth == found.birth) parts.1))

  pub says_meets : (b : ℕ) (e : Directory) → StandsAt tree other b (nodes.Directory e) → b ≢ found.birth → meets_directory the_move ≡ true
  says_meets b e s apart =
      ap (λ o. elim o as (λ _. Bool) [ None ↦ false | Some t ↦ is_directory (Some t.node) && not (t.birth == found.birth) ]) (met b (nodes.Directory e) s)
      ∙ ap not (false_from_ne_true (b == found.birth) (λ t. apart (eqb-true b found.birth t)))

  pub meets_file_says : meets_file the_move ≡ true → (t : Found) × (g : File) × (target_at tree to ≡ Some t) × (t.node ≡ nodes.File g)
  meets_file_says h = by (target_at tree to) refl h
    where
      by : (o : Option Found) → target_at tree to ≡ o → (elim o as (λ _. Bool) [ None ↦ false | Some t ↦ is_file (Some t.node) ]) ≡ true → (t : Found) × (g : File) × (target_at tree to ≡ Some t) × (t.node ≡ nodes.File g)
      by None e h = absurd (false≢true h)
      by (Some t) e h = let d = file_is t.node h in (t, d.0, e, d.1)

  pub says_meets_file : (b : ℕ) (g : File) → StandsAt tree other b (nodes.File g) → meets_file the_move ≡ true
  says_meets_file b g s = ap (λ o. elim o as (λ _. Bool) [ None ↦ false | Some t ↦ is_file (Some t.node) ]) (met b (nodes.File g) s)

  -- ---- the directory after the old name was taken out

  abbrev After : Bool → Directory
  After same = if not same then to.directory else without_name to.directory from.name

  same_place : (to.parent == from.parent) ≡ true → at_name to.directory.names from.name ≡ Some found.birth
  same_place e =
      let parent : to.parent ≡ from.parent = eqb-true to.parent from.parent e in
      let one : nodes.Directory from.directory ≡ nodes.Directory to.directory = same_Some _ _ (sym is_from.stands ∙ (ap (at_number tree) (sym parent) ∙ is_to.stands)) in
      let directory : from.directory ≡ to.directory = cc in
      subst (λ (d : Directory). at_name d.names from.name ≡ Some found.birth) directory (place_names tree names from found is_from f)

  names_after : (same : Bool) → (to.parent == from.parent) ≡ same → length (After same).names ≡ (if same then length to.directory.names - 1 else length to.directory.names)
  names_after true e = one_less _ _ (length-without (is_at (name_cmp from.name)) to.directory.names found.birth (same_place e))
  names_after false e = refl

  pub full_after : is_full (place_after the_move).directory ≡ is_full_with to.directory (names_without_one from.parent to.parent to.directory)
  full_after = by (to.parent == from.parent) refl
    where
      by : (same : Bool) → (to.parent == from.parent) ≡ same → is_full (After same) ≡ is_full_with to.directory (if same then length to.directory.names - 1 else length to.directory.names)
      by true e = ap (is_full_with to.directory) (names_after true e)
      by false e = refl

  zones_after : name_zones (place_after the_move).directory (length (place_after the_move).directory.names) ≡ name_zones to.directory (names_without_one from.parent to.parent to.directory)
  zones_after = by (to.parent == from.parent) refl
    where
      by : (same : Bool) → (to.parent == from.parent) ≡ same → name_zones (After same) (length (After same).names) ≡ name_zones to.directory (if same then length to.directory.names - 1 else length to.directory.names)
      by true e = ap (name_zones to.directory) (names_after true e)
      by false e = refl

  was_after : zones_at tree to.parent ≡ directory_zones (place_after the_move).directory.width (place_after the_move).directory.slots
  was_after = by (to.parent == from.parent)
    where
      by : (same : Bool) → zones_at tree to.parent ≡ directory_zones (After same).width (After same).slots
      by true = zones_of tree to.parent (nodes.Directory to.directory) is_to.stands
      by false = zones_of tree to.parent (nodes.Directory to.directory) is_to.stands

  free_after : at_name to.directory.names to.name ≡ None → is_some (at_name (place_after the_move).directory.names to.name) ≡ false
  free_after none = by (to.parent == from.parent)
    where
      by : (same : Bool) → is_some (at_name (After same).names to.name) ≡ false
      by false = none_some_false (at_name to.directory.names to.name) none
      by true =
          none_some_false (at_name (without_name to.directory from.name).names to.name)
          (none_is (at_name (without_name to.directory from.name).names to.name)
          (λ b e. none-some b (sym none ∙ (at_name_without_found to.directory.names from.name to.name b (plain.rooted.names_in_order to.parent to.directory is_to.stands) e).1)))

  there_after : (t : Found) → target_at tree to ≡ Some t → t.birth ≢ found.birth → is_some (at_name (place_after the_move).directory.names to.name) ≡ true
  there_after t e apart = by (to.parent == from.parent) refl
    where
      by : (same : Bool) → (to.parent == from.parent) ≡ same → is_some (at_name (After same).names to.name) ≡ true
      by false e2 = ap is_some (target_parts t e).0
      by true e2 =
          ap is_some
          (at_name_without_apart to.directory.names from.name to.name (plain.rooted.names_in_order to.parent to.directory is_to.stands)
          (λ k. apart (same_Some t.birth found.birth (sym (target_parts t e).0 ∙ (ap (at_name to.directory.names) (sym k) ∙ same_place e2))))
          ∙ (target_parts t e).0)

  -- ---- zones

  taken : HasZones tree (take_name tree from) (λ q. ⊥) × (used_zones (take_name tree from) ≡ used_zones tree)
  taken =
      put_same tree tree (λ q. ⊥) (itself tree (λ q. ⊥) plain.rooted.in_order) from.parent (nodes.Directory (without_name from.directory from.name)) (λ e. e)
      (zones_of tree from.parent (nodes.Directory from.directory) is_from.stands)

  moved_has : zones_at tree found.birth ≡ node_zones (moved_node to.parent found.node)
  moved_has = zones_of tree found.birth found.node f.stands ∙ moved_zones to.parent found.node

  -- where nothing stands there, the name takes zones
  pub moved_needs : target_at tree to ≡ None → used_zones (if stays the_move then tree else tree_moved tree the_move) - used_zones tree ≡ name_zones to.directory (names_without_one from.parent to.parent to.directory)
  moved_needs none =
      let put = put_same tree (take_name tree from) (λ q. ⊥) taken.0 found.birth (moved_node to.parent found.node) (λ e. e) moved_has in
      ap (λ (o : Option Found). used_zones (left o) - used_zones tree) none
      ∙ (named_zones tree (put_number (take_name tree from) found.birth (moved_node to.parent found.node)) put.0 (put.1 ∙ taken.1) (place_after the_move) found.birth was_after (free_after (no_name none))
      ∙ zones_after)
    where
      left : Option Found → Tree
      left o =
          if (elim o as (λ _. Bool) [ None ↦ false | Some t ↦ t.birth == found.birth ]) then tree
          else give_name (put_number (without_target (take_name tree from) o) found.birth (moved_node to.parent found.node)) (place_after the_move) found.birth

  -- a node that goes in place of a file needs none
  module _ (t : Found) (e : target_at tree to ≡ Some t) (apart : t.birth ≢ found.birth) (g : File) (kind : t.node ≡ nodes.File g) where
    file_stands : at_number tree t.birth ≡ Some (nodes.File g)
    file_stands = (target_parts t e).1 ∙ ap Some kind

    -- the file stands in no directory's place
    not_goal : to.parent ≡ t.birth → ⊥
    not_goal k = let two : nodes.Directory to.directory ≡ nodes.File g = same_Some _ _ (sym is_to.stands ∙ (ap (at_number tree) k ∙ file_stands)) in cc

    slots_same : zones_at tree to.parent ≡ node_zones (nodes.Directory (with_name (place_after the_move).directory to.name found.birth))
    slots_same =
        was_after ∙ ap (directory_zones (place_after the_move).directory.width) (sym (slots_kept (place_after the_move).directory to.name (there_after t e apart)))

    pub replaced_zones : used_zones (give_name (put_number (lose_link (take_name tree from) t.birth g) found.birth (moved_node to.parent found.node)) (place_after the_move) found.birth) ≤ used_zones tree
    replaced_zones =
        let gone = lost tree (take_name tree from) taken.0 t.birth g file_stands in
        let put = put_same tree (lose_link (take_name tree from) t.birth g) (λ q. q ≡ t.birth) gone found.birth (moved_node to.parent found.node) (λ k. apart (sym k)) moved_has in
        (put_same tree (put_number (lose_link (take_name tree from) t.birth g) found.birth (moved_node to.parent found.node)) (λ q. q ≡ t.birth) put.0 to.parent
        (nodes.Directory (with_name (place_after the_move).directory to.name found.birth)) not_goal slots_same).0.used

  abbrev moved_tree : Option Found → Bool → Tree
  moved_tree o same = if same then tree else give_name (put_number (without_target (take_name tree from) o) found.birth (moved_node to.parent found.node)) (place_after the_move) found.birth

  abbrev stays_at : Option Found → Bool
  stays_at o = elim o as (λ _. Bool) [ None ↦ false | Some t ↦ t.birth == found.birth ]

  -- where a node stands there, no zone is needed
  pub replaced_needs : (t : Found) → target_at tree to ≡ Some t → meets_directory the_move ≡ false → used_zones (if stays the_move then tree else tree_moved tree the_move) - used_zones tree ≡ 0
  replaced_needs t e clear = ap (λ (o : Option Found). used_zones (moved_tree o (stays_at o)) - used_zones tree) e ∙ none_more _ (used_zones tree) (by (t.birth == found.birth) refl)
    where
      kinds : t.birth ≢ found.birth → (node : Node) → t.node ≡ node →
          used_zones (give_name (put_number (elim (a_file node) as (λ _. Tree) [ Err reply ↦ take_name tree from | Ok g ↦ lose_link (take_name tree from) t.birth g ]) found.birth (moved_node to.parent found.node)) (place_after the_move) found.birth) ≤ used_zones tree
      kinds apart (nodes.File g) kind = replaced_zones t e apart g kind
      kinds apart (nodes.Directory d) kind = absurd (true≢false (sym (says_meets t.birth d (subst (StandsAt tree other t.birth) kind (meets t e)) apart) ∙ clear))
      kinds apart (nodes.Other mode) kind = absurd (plain.no_other t.birth mode ((target_parts t e).1 ∙ ap Some kind))

      by : (same : Bool) → (t.birth == found.birth) ≡ same → used_zones (moved_tree (Some t) same) ≤ used_zones tree
      by true k = same_less (used_zones tree)
      by false k = kinds (eqb-false t.birth found.birth k) t.node refl
