-- What a rename does to nodes: the one that moves, the file that it replaces, the two directories, and all others.
use Rattle.std.specs.Prelude.{◌≡◌, ◌≢◌, ℕ, suc, ◌+◌, ◌==◌, Bool, true, false, cond, not, if◌then◌else◌, List, [], ◌∷◌, ◌++◌, length, Option, Some, None, Ok, is_some, refl}
use Rattle.std.proofs.Common.{sym, ap, subst, ◌∙◌, ⊎_elim, arith}
use Rattle.std.specs.BTreeMap.{is_at}
use Rattle.std.proofs.lemmas.Bool.{cases_eq, cases_lt, true≢false, false≢true, eq-eqb, eqb-true, ne_eqb}
use Rattle.std.proofs.lemmas.Option.{none-some, same_Some}
use Rattle.tree_model.specs.declared.call.Call.TheVariants as calls
use Rattle.tree_model.specs.declared.call.Room.{Room}
use Rattle.tree_model.specs.declared.node.Node.{Node}
use Rattle.tree_model.specs.declared.node.Node.TheVariants as nodes
use Rattle.tree_model.specs.declared.node.Directory.{Directory}
use Rattle.tree_model.specs.declared.node.File.{File}
use Rattle.tree_model.specs.Maps.{at_number, at_name, name_cmp}
use Rattle.tree_model.specs.Paths.{path_of}
use Rattle.tree_model.specs.Trees.{node_of_path, is_directory, directory_links}
use Rattle.tree_model.specs.Calls.{Tree, Done, Move, with_name, without_name, place_after, moved_node, outcome}
use Rattle.tree_model.specs.Causes.{LeadsTo, IsInDirectory}
use Rattle.tree_model.specs.CallWords.{IsParentOf, HasNameMore, HasNameLess, HasNameMoved, HasLinkLess, link_of}
use Rattle.tree_model.specs.Plain.{IsPlain}
use Rattle.tree_model.specs.laws.Alike.{same_ok}
use Rattle.tree_model.specs.laws.Listing.{names_of}
use Rattle.tree_model.specs.laws.MapOrder.{NamesInOrder, names_in_order_without, without_name_in, at_name_without_apart}
use Rattle.tree_model.proofs.NamedNodes.{same_end, weigh, weighs, links_same, links_put, links_take, slots_free, slots_full, slots_kept, place_parent, parent_apart, in_place, GivenIn, TakenIn}
use Rattle.tree_model.proofs.NamesMove.{moved}
use Rattle.tree_model.proofs.Plain.{edge_of, is_other, IsWhole, plain_whole, whole_plain}
use Rattle.tree_model.proofs.PlainCalls.{place_sorted}
use Rattle.tree_model.proofs.PlainMoves.{IsWell, directory_moved}
use Rattle.tree_model.proofs.Rows.{IsFound, IsPlace, place_names}
use Rattle.tree_model.proofs.Ways.{Names, way_led, way_push, place_spot}
use Rattle.tree_model.proofs.Entries.{length-without}

module _ (tree : Tree) (w : IsWhole tree) (names more : Names) (m : Move) (from : IsPlace tree names m.from) (to : IsPlace tree more m.to) (after : Tree) (h : IsWell tree m after) (found : IsFound tree names m.moved) where
  -- where the new path led, so did its name
  to_edge : (c : ℕ) (node : Node) → LeadsTo tree more c node → edge_of tree m.to.parent m.to.name ≡ Some c
  to_edge c node l = ap (λ o. at_name (names_of o) m.to.name) to.stands ∙ place_names tree more m.to (record { birth = c; node = node }) to (record { path = l.path; stands = l.stands })

  to_path : (c : ℕ) → edge_of tree m.to.parent m.to.name ≡ Some c → node_of_path tree more ≡ Ok c
  to_path c e =
      let s = place_spot tree more m.to to in
      subst (λ ns. node_of_path tree ns ≡ Ok c) s.names_are
      (way_led tree (whole_plain tree w).rooted 0 c (s.front ++ m.to.name ∷ []) (way_push (edge_of tree) 0 m.to.parent c s.front m.to.name s.way e))

  -- ---- kinds

  gone_kind : (c : ℕ) (f : File) → HasLinkLess after c f → is_directory (at_number after c) ≡ false
  gone_kind c f l =
      ⊎_elim
      (λ lt. ap is_directory (l.gone (omega arith)))
      (λ ge. let x = l.less (omega arith) in ap is_directory x.1)
      (cases_lt f.links 2)

  met_kind : (c : ℕ) (o : Option Node) → at_number tree c ≡ o → edge_of tree m.to.parent m.to.name ≡ Some c → is_directory (at_number after c) ≡ is_directory (at_number tree c)
  met_kind c (Some (nodes.File f)) stands e = gone_kind c f (h.less c f e stands) ∙ sym (ap is_directory stands)
  met_kind c (Some (nodes.Directory d)) stands e = absurd (true≢false (sym (ap is_directory stands) ∙ h.met c e))
  met_kind c (Some (nodes.Other mode)) stands e = absurd (true≢false (sym (ap is_other stands) ∙ w.known c))
  met_kind c None stands e = absurd (false≢true (sym (ap is_some stands) ∙ w.joined.leads m.to.parent m.to.name c e))

  rest_kind : (c : ℕ) → c ≢ m.moved.birth → c ≢ m.from.parent → c ≢ m.to.parent → (o : Option ℕ) → edge_of tree m.to.parent m.to.name ≡ o → is_directory (at_number after c) ≡ is_directory (at_number tree c)
  rest_kind c apart away off None e = ap is_directory (h.rest c apart away off (λ t. none-some c (sym e ∙ t)))
  rest_kind c apart away off (Some x) e =
      ⊎_elim
      (λ is. met_kind c (at_number tree c) refl (e ∙ ap Some (sym is)))
      (λ other. ap is_directory (h.rest c apart away off (λ t. other (same_Some c x (sym t ∙ e)))))
      (cases_eq c x)

  -- no node changes its kind
  kinds : (c : ℕ) → is_directory (at_number after c) ≡ is_directory (at_number tree c)
  kinds c =
      ⊎_elim
      (λ e. ap (λ j. is_directory (at_number after j)) e ∙ (ap is_directory h.node ∙ (directory_moved m.to.parent m.moved.node ∙ sym (ap (λ j. is_directory (at_number tree j)) e ∙ ap is_directory found.stands))))
      (λ apart.
      ⊎_elim
      (λ e. ap (λ j. is_directory (at_number after j)) e ∙ (ap is_directory h.left_to ∙ sym (ap (λ j. is_directory (at_number tree j)) e ∙ ap is_directory to.stands)))
      (λ off.
      ⊎_elim
      (λ e. ap (λ j. is_directory (at_number after j)) e ∙ (ap is_directory (h.left_from (λ s. off (e ∙ s))) ∙ sym (ap (λ j. is_directory (at_number tree j)) e ∙ ap is_directory from.stands)))
      (λ away. rest_kind c apart away off (edge_of tree m.to.parent m.to.name) refl)
      (cases_eq c m.from.parent))
      (cases_eq c m.to.parent))
      (cases_eq c m.moved.birth)

  links_stay : (d : Directory) → directory_links after d ≡ directory_links tree d
  links_stay d = links_same tree after d (λ e i. kinds e.1)

  its_weight : weigh tree m.moved.birth ≡ link_of m.moved.node
  its_weight = weighs tree m.moved.birth (is_directory (Some m.moved.node)) (ap is_directory found.stands) ∙ by m.moved.node
    where
      by : (node : Node) → cond (is_directory (Some node)) 1 0 ≡ link_of node
      by (nodes.Directory d) = refl
      by (nodes.File f) = refl
      by (nodes.Other mode) = refl

  from_named : at_name m.from.directory.names m.from.name ≡ Some m.moved.birth
  from_named = place_names tree names m.from m.moved from found

  taken_links : directory_links after (without_name m.from.directory m.from.name) + link_of m.moved.node ≡ directory_links tree m.from.directory
  taken_links =
      let take = links_take tree m.from.directory m.from.name m.moved.birth from_named in
      let stay = links_stay (without_name m.from.directory m.from.name) in
      let one = its_weight in
      omega arith

  to_sorted : NamesInOrder m.to.directory.names
  to_sorted = place_sorted tree w more m.to to

  -- ---- the old directory, and another new one

  old_in : (before : Directory) (name : List ℕ) (i : IsInDirectory tree names before name) → (IsParentOf tree more i.birth → ⊥) → TakenIn tree after i.birth (link_of m.moved.node) before
  old_in before name i apart =
      let x = in_place tree names m.from from before name i in
      let away : (m.from.parent ≢ m.to.parent) = λ e. apart (subst (IsParentOf tree more) (sym (x.0 ∙ e)) (place_parent tree more m.to to)) in (
        without_name m.from.directory m.from.name,
        ap (at_number after) x.0 ∙ h.left_from away,
        subst (λ (b : Directory). HasNameLess tree after b (without_name m.from.directory m.from.name) (link_of m.moved.node)) (sym x.1) (record { parent = refl; slots = refl; links = taken_links }),
      )

  away_directory : m.from.parent ≢ m.to.parent → (place_after m).directory ≡ m.to.directory
  away_directory away = ap (λ b. if not b then m.to.directory else without_name m.to.directory m.from.name) (ne_eqb m.to.parent m.from.parent (λ e. away (sym e)))

  new_in : (before : Directory) (name : List ℕ) (i : IsInDirectory tree more before name) → (IsParentOf tree names i.birth → ⊥) → ((c : ℕ) → node_of_path tree more ≡ Ok c → ⊥) → GivenIn tree after i.birth (link_of m.moved.node) before
  new_in before name i apart free =
      let x = in_place tree more m.to to before name i in
      let away : (m.from.parent ≢ m.to.parent) = λ e. apart (subst (IsParentOf tree names) (sym (x.0 ∙ sym e)) (place_parent tree names m.from from)) in
      let none : is_some (at_name m.to.directory.names m.to.name) ≡ false = free_name free in
      let same = away_directory away in (
        with_name m.to.directory m.to.name m.moved.birth,
        ap (at_number after) x.0 ∙ (h.left_to ∙ ap (λ (d : Directory). Some (nodes.Directory (with_name d m.to.name m.moved.birth))) same),
        subst (λ (b : Directory). HasNameMore tree after b (with_name m.to.directory m.to.name m.moved.birth) (link_of m.moved.node)) (sym x.1)
            (record {
              parent = refl;
              free = slots_free m.to.directory m.to.name none;
              full = slots_full m.to.directory m.to.name none;
              links =
                  (let put = links_put tree m.to.directory m.to.name m.moved.birth to_sorted none in
                  let stay = links_stay (with_name m.to.directory m.to.name m.moved.birth) in
                  let one = its_weight in
                  omega arith);
            }),
      )
    where
      none_by : (o : Option ℕ) → at_name m.to.directory.names m.to.name ≡ o → ((c : ℕ) → node_of_path tree more ≡ Ok c → ⊥) → is_some o ≡ false
      none_by None e free = refl
      none_by (Some c) e free = absurd (free c (to_path c (ap (λ o. at_name (names_of o) m.to.name) to.stands ∙ e)))

      free_name : ((c : ℕ) → node_of_path tree more ≡ Ok c → ⊥) → is_some (at_name m.to.directory.names m.to.name) ≡ false
      free_name free = none_by (at_name m.to.directory.names m.to.name) refl free

  -- ---- one directory

  moved_in : (before : Directory) (name : List ℕ) (i : IsInDirectory tree names before name) → IsParentOf tree more i.birth → ((c : ℕ) → node_of_path tree more ≡ Ok c → ⊥) →
      (later : Directory) × (at_number after i.birth ≡ Some (nodes.Directory later)) × HasNameMoved tree after before later
  moved_in before name i in_one free =
      let x = in_place tree names m.from from before name i in
      let one : m.from.parent ≡ m.to.parent = sym x.0 ∙ their_parent in_one in
      let node : nodes.Directory m.from.directory ≡ nodes.Directory m.to.directory = same_Some _ _ (sym from.stands ∙ (ap (at_number tree) one ∙ to.stands)) in
      let directory : m.to.directory ≡ m.from.directory = cc in
      let same : (place_after m).directory ≡ without_name m.from.directory m.from.name =
      ap (λ b. if not b then m.to.directory else without_name m.to.directory m.from.name) (eq-eqb m.to.parent m.from.parent (sym one))
      ∙ ap (λ (d : Directory). without_name d m.from.name) directory
      in
      let sorted = place_sorted tree w names m.from from in
      let none : is_some (at_name (without_name_in m.from.directory.names m.from.name) m.to.name) ≡ false =
      ap is_some (at_name_without_apart m.from.directory.names m.from.name m.to.name sorted (λ s. h.apart (sym one, sym s)))
      ∙ (ap (λ (d : Directory). is_some (at_name d.names m.to.name)) (sym directory) ∙ free_name free)
      in
      let less : length m.from.directory.names ≡ suc (length (without_name_in m.from.directory.names m.from.name)) = length-without (is_at (name_cmp m.from.name)) m.from.directory.names m.moved.birth from_named in (
        with_name (without_name m.from.directory m.from.name) m.to.name m.moved.birth,
        ap (at_number after) (x.0 ∙ one) ∙ (h.left_to ∙ ap (λ (d : Directory). Some (nodes.Directory (with_name d m.to.name m.moved.birth))) same),
        subst (λ (b : Directory). HasNameMoved tree after b (with_name (without_name m.from.directory m.from.name) m.to.name m.moved.birth)) (sym x.1)
            (record {
              parent = refl;
              free = λ lt. slots_free (without_name m.from.directory m.from.name) m.to.name none (omega arith);
              full = λ le. slots_full (without_name m.from.directory m.from.name) m.to.name none (omega arith);
              links =
                  (let put = links_put tree (without_name m.from.directory m.from.name) m.to.name m.moved.birth (names_in_order_without m.from.directory.names m.from.name sorted) none in
                  let take = links_take tree m.from.directory m.from.name m.moved.birth from_named in
                  let stay = links_stay (with_name (without_name m.from.directory m.from.name) m.to.name m.moved.birth) in
                  omega arith);
            }),
      )
    where
      none_by : (o : Option ℕ) → at_name m.to.directory.names m.to.name ≡ o → ((c : ℕ) → node_of_path tree more ≡ Ok c → ⊥) → is_some o ≡ false
      none_by None e free = refl
      none_by (Some c) e free = absurd (free c (to_path c (ap (λ o. at_name (names_of o) m.to.name) to.stands ∙ e)))

      free_name : ((c : ℕ) → node_of_path tree more ≡ Ok c → ⊥) → is_some (at_name m.to.directory.names m.to.name) ≡ false
      free_name free = none_by (at_name m.to.directory.names m.to.name) refl free

      their_parent : IsParentOf tree more i.birth → i.birth ≡ m.to.parent
      their_parent p =
          let q = place_parent tree more m.to to in
          let ends = same_end p.0 q.0 p.1 q.1 (p.2 ∙ sym q.2) in
          same_ok i.birth m.to.parent (sym p.3 ∙ (ap (node_of_path tree) ends.0 ∙ q.3))

  -- ---- where a file is replaced

  after_names : (c : ℕ) → at_name m.to.directory.names m.to.name ≡ Some c → (b : Bool) → (m.to.parent == m.from.parent) ≡ b →
      (at_name (if not b then m.to.directory else without_name m.to.directory m.from.name).names m.to.name ≡ Some c) × ((if not b then m.to.directory else without_name m.to.directory m.from.name).slots ≡ m.to.directory.slots)
  after_names c e true same = (at_name_without_apart m.to.directory.names m.from.name m.to.name to_sorted (λ s. h.apart (eqb-true m.to.parent m.from.parent same, sym s)) ∙ e, refl)
  after_names c e false same = (e, refl)

  kept_in : (c : ℕ) (node : Node) → LeadsTo tree more c node → (before : Directory) (name : List ℕ) (i : IsInDirectory tree more before name) →
      (later : Directory) × (at_number after i.birth ≡ Some (nodes.Directory later)) × (later.slots ≡ before.slots)
  kept_in c node l before name i =
      let x = in_place tree more m.to to before name i in
      let there = place_names tree more m.to (record { birth = c; node = node }) to (record { path = l.path; stands = l.stands }) in
      let both = after_names c there (m.to.parent == m.from.parent) refl in (
        with_name (place_after m).directory m.to.name m.moved.birth,
        ap (at_number after) x.0 ∙ h.left_to,
        slots_kept (place_after m).directory m.to.name (ap is_some both.0) ∙ (both.1 ∙ ap (λ (d : Directory). d.slots) (sym x.1)),
      )

  -- ---- nodes

  one_moved : (birth : ℕ) (node : Node) → LeadsTo tree names birth node → (birth ≡ m.moved.birth) × (node ≡ m.moved.node)
  one_moved birth node l =
      let is = same_ok birth m.moved.birth (sym l.path ∙ found.path) in
      (is, same_Some node m.moved.node (sym l.stands ∙ (ap (at_number tree) is ∙ found.stands)))

  moved_file : (birth : ℕ) (f : File) → LeadsTo tree names birth (nodes.File f) → at_number after birth ≡ Some (nodes.File f)
  moved_file birth f l =
      let x = one_moved birth (nodes.File f) l in
      ap (at_number after) x.0 ∙ (h.node ∙ ap (λ n. Some (moved_node m.to.parent n)) (sym x.1))

  moved_directory : (birth : ℕ) (e : Directory) → LeadsTo tree names birth (nodes.Directory e) → (before : Directory) (name : List ℕ) (i : IsInDirectory tree more before name) →
      at_number after birth ≡ Some (nodes.Directory (record { parent = i.birth; width = e.width; slots = e.slots; names = e.names }))
  moved_directory birth e l before name i =
      let x = one_moved birth (nodes.Directory e) l in
      let p = in_place tree more m.to to before name i in
      ap (at_number after) x.0 ∙ (h.node ∙ (ap (λ n. Some (moved_node m.to.parent n)) (sym x.1) ∙ ap (λ p. Some (nodes.Directory (record { parent = p; width = e.width; slots = e.slots; names = e.names }))) (sym p.0)))

  replaced_file : (c : ℕ) (f : File) → LeadsTo tree more c (nodes.File f) → HasLinkLess after c f
  replaced_file c f l = h.less c f (to_edge c (nodes.File f) l) l.stands

  others_stay : (c : ℕ) → (node_of_path tree names ≡ Ok c → ⊥) → (node_of_path tree more ≡ Ok c → ⊥) → (IsParentOf tree names c → ⊥) → (IsParentOf tree more c → ⊥) → at_number after c ≡ at_number tree c
  others_stay c first last old new =
      h.rest c (λ e. first (found.path ∙ ap Ok (sym e))) (parent_apart tree names m.from from c old) (parent_apart tree more m.to to c new) (λ e. last (to_path c e))

-- ---- calls

module _ (room : Room) (tree : Tree) (plain : IsPlain tree) (n : ℕ) (path other : List ℕ) (names more : Names) (d : Done) (named : path_of path ≡ Some names) (second : path_of other ≡ Some more) (done : outcome room tree n (calls.Rename path other) ≡ Ok d)
    (apart : (birth : ℕ) → node_of_path tree names ≡ Ok birth → node_of_path tree more ≡ Ok birth → ⊥) where
  W : IsWhole tree
  W = plain_whole tree plain

  pub rename_file : (birth : ℕ) (f : File) → LeadsTo tree names birth (nodes.File f) → at_number d.tree birth ≡ Some (nodes.File f)
  rename_file = let x = moved room tree plain n path other names more d named second done apart in moved_file tree W names more x.0 x.1 x.2 d.tree x.3 x.4

  pub rename_directory : (birth : ℕ) (e : Directory) → LeadsTo tree names birth (nodes.Directory e) → (before : Directory) (name : List ℕ) (i : IsInDirectory tree more before name) →
      at_number d.tree birth ≡ Some (nodes.Directory (record { parent = i.birth; width = e.width; slots = e.slots; names = e.names }))
  rename_directory = let x = moved room tree plain n path other names more d named second done apart in moved_directory tree W names more x.0 x.1 x.2 d.tree x.3 x.4

  pub rename_replaced : (c : ℕ) (f : File) → LeadsTo tree more c (nodes.File f) → HasLinkLess d.tree c f
  rename_replaced = let x = moved room tree plain n path other names more d named second done apart in replaced_file tree W names more x.0 x.1 x.2 d.tree x.3 x.4

  pub rename_rest : (c : ℕ) → (node_of_path tree names ≡ Ok c → ⊥) → (node_of_path tree more ≡ Ok c → ⊥) → (IsParentOf tree names c → ⊥) → (IsParentOf tree more c → ⊥) → at_number d.tree c ≡ at_number tree c
  rename_rest = let x = moved room tree plain n path other names more d named second done apart in others_stay tree W names more x.0 x.1 x.2 d.tree x.3 x.4

  pub rename_old : (birth : ℕ) (node : Node) → LeadsTo tree names birth node → (before : Directory) (name : List ℕ) (i : IsInDirectory tree names before name) → (IsParentOf tree more i.birth → ⊥) → TakenIn tree d.tree i.birth (link_of node) before
  rename_old birth node l =
      let x = moved room tree plain n path other names more d named second done apart in
      let one = one_moved tree W names more x.0 x.1 x.2 d.tree x.3 x.4 birth node l in
      subst (λ node. (before : Directory) (name : List ℕ) (i : IsInDirectory tree names before name) → (IsParentOf tree more i.birth → ⊥) → TakenIn tree d.tree i.birth (link_of node) before) (sym one.1)
      (old_in tree W names more x.0 x.1 x.2 d.tree x.3 x.4)

  pub rename_new : (birth : ℕ) (node : Node) → LeadsTo tree names birth node → ((c : ℕ) → node_of_path tree more ≡ Ok c → ⊥) → (before : Directory) (name : List ℕ) (i : IsInDirectory tree more before name) → (IsParentOf tree names i.birth → ⊥) →
      GivenIn tree d.tree i.birth (link_of node) before
  rename_new birth node l free before name i away =
      let x = moved room tree plain n path other names more d named second done apart in
      let one = one_moved tree W names more x.0 x.1 x.2 d.tree x.3 x.4 birth node l in
      subst (λ node. GivenIn tree d.tree i.birth (link_of node) before) (sym one.1)
      (new_in tree W names more x.0 x.1 x.2 d.tree x.3 x.4 before name i away free)

  pub rename_within : ((c : ℕ) → node_of_path tree more ≡ Ok c → ⊥) → (before : Directory) (name : List ℕ) (i : IsInDirectory tree names before name) → IsParentOf tree more i.birth →
      (later : Directory) × (at_number d.tree i.birth ≡ Some (nodes.Directory later)) × HasNameMoved tree d.tree before later
  rename_within free before name i in_one =
      let x = moved room tree plain n path other names more d named second done apart in
      moved_in tree W names more x.0 x.1 x.2 d.tree x.3 x.4 before name i in_one free

  pub rename_kept : (c : ℕ) (node : Node) → LeadsTo tree more c node → (before : Directory) (name : List ℕ) (i : IsInDirectory tree more before name) →
      (later : Directory) × (at_number d.tree i.birth ≡ Some (nodes.Directory later)) × (later.slots ≡ before.slots)
  rename_kept = let x = moved room tree plain n path other names more d named second done apart in kept_in tree W names more x.0 x.1 x.2 d.tree x.3 x.4
