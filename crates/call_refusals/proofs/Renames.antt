-- The rows of `rename`.
use Rattle.std.specs.Prelude.{◌≡◌, ◌≢◌, ℕ, ◌<◌, ◌==◌, Bool, true, false, not, ◌&&◌, ◌||◌, if◌then◌else◌, List, [], ◌∷◌, ◌++◌, Option, Some, None, is_none, refl}
use Rattle.std.proofs.Common.{sym, ap, subst, ◌∙◌, inl, inr}
use Rattle.std.specs.List.{list_any}
use Rattle.std.proofs.lemmas.Bool.{true≢false, and_parts, and_from, eqb-true, eq-eqb, eqb-false, not-true, false_from_ne_true}
use Rattle.std.proofs.lemmas.Option.{none-some, same_Some}
use Rattle.tree_model.specs.declared.call.Call.TheVariants as calls
use Rattle.tree_model.specs.declared.call.Reply.TheVariants as replies
use Rattle.tree_model.specs.declared.call.Room.{Room}
use Rattle.tree_model.specs.declared.node.Node.{Node}
use Rattle.tree_model.specs.declared.node.Node.TheVariants as nodes
use Rattle.tree_model.specs.declared.node.Directory.{Directory}
use Rattle.tree_model.specs.Maps.{at_number, at_name}
use Rattle.tree_model.specs.Paths.{path_of}
use Rattle.tree_model.specs.Plain.{IsPlain}
use Rattle.tree_model.specs.Trees.{is_directory, directory_links}
use Rattle.tree_model.specs.Calls.{Tree, Row, Found, Place, Move, refuse_if, and_then, leaves, names_in, is_root, walk, parent_of, above, most_links, is_full, target_at, moves_directory, meets_directory, meets_file, stays, changes_parent, place_after, tree_moved, rename_to, rename, if_room}
use Rattle.tree_model.specs.CallWords.{StandsAt}
use Rattle.tree_model.proofs.Rows.{walk_ok, IsFound, parent_ok, IsPlace}
use Rattle.call_refusals.specs.Conditions.{IsFull, Holds, zones_left, name_zones, names_without_one}
use Rattle.call_refusals.specs.Conditions.Condition.{bad_path, root, below_itself, directory_there, directory_met, file_met, goal_linked, goal_full, no_space_at_goal}
use Rattle.call_refusals.specs.Tables.{TableRow, when, by_walk, by_parent, table}
use Rattle.call_refusals.proofs.Told.{Told, told_behind, next_then, next_if}
use Rattle.call_refusals.proofs.Words.{one_node}
use Rattle.call_refusals.proofs.Walks.{names_told, named_so, walk_told, parent_told, parent_goes, not_root}
use Rattle.call_refusals.proofs.Rooms.{full_holds, full_is, space_told, no_zone_needed}
use Rattle.call_refusals.proofs.Names.{last}
use Rattle.call_refusals.proofs.Moves.{directory_is, is_none_of, the_move, moved, movement, at_goal, meets, none_met, no_name, goes_through, through_goes, meets_says, says_meets, meets_file_says, says_meets_file, full_after, moved_needs, replaced_needs}

-- the rows from a condition on
abbrev zones_row : List ℕ → List ℕ → List TableRow
zones_row path other = when (no_space_at_goal path other) replies.NoSpace ∷ []

abbrev full_rows : List ℕ → List ℕ → List TableRow
full_rows path other = when (goal_full path other) replies.TooBig ∷ zones_row path other

abbrev links_rows : List ℕ → List ℕ → List TableRow
links_rows path other = when (goal_linked path other) replies.TooManyLinks ∷ full_rows path other

abbrev file_rows : List ℕ → List ℕ → List TableRow
file_rows path other = when (file_met path other) replies.NotDir ∷ links_rows path other

abbrev kind_rows : List ℕ → List ℕ → List TableRow
kind_rows path other = when (directory_there path other) replies.Exists ∷ when (directory_met path other) replies.IsDir ∷ file_rows path other

abbrev below_rows : List ℕ → List ℕ → List TableRow
below_rows path other = when (below_itself path other) replies.Invalid ∷ kind_rows path other

abbrev walk_rows : List ℕ → List ℕ → List TableRow
walk_rows path other = by_walk path ++ by_parent other ++ below_rows path other

abbrev root_rows : List ℕ → List ℕ → List TableRow
root_rows path other = when (root path) replies.Invalid ∷ when (root other) replies.Invalid ∷ walk_rows path other

module _ (room : Room) (tree : Tree) (plain : IsPlain tree) (path other : List ℕ) where
  module _ (names more : List (List ℕ)) (named : path_of path ≡ Some names) (goal_named : path_of other ≡ Some more)
      (found : Found) (from to : Place) (f : IsFound tree names found) (is_from : IsPlace tree names from) (is_to : IsPlace tree more to) where
    abbrev m : Move
    m = the_move tree plain path other names more named goal_named found from to f is_from is_to

    s : StandsAt tree path found.birth found.node
    s = moved tree plain path other names more named goal_named found from to f is_from is_to

    -- the node that moves is the one that was found
    kind_of : (a : ℕ) (node : Node) → StandsAt tree path a node → (a ≡ found.birth) × (node ≡ found.node)
    kind_of a node x = one_node tree path a found.birth node found.node x s

    moves : (a : ℕ) (d : Directory) → StandsAt tree path a (nodes.Directory d) → moves_directory m ≡ true
    moves a d x = ap (λ node. is_directory (Some node)) (sym (kind_of a (nodes.Directory d) x).1)

    directory_moves : moves_directory m ≡ true → (d : Directory) × StandsAt tree path found.birth (nodes.Directory d)
    directory_moves t = let d = directory_is found.node t in (d.0, subst (StandsAt tree path found.birth) d.1 s)

    -- ---- a directory stands there

    there_holds : moves_directory m ≡ true → meets_directory m ≡ true → Holds room tree (directory_there path other)
    there_holds t u =
        let d = directory_moves t in
        let x = meets_says tree plain path other names more named goal_named found from to f is_from is_to u in
        let there = meets tree plain path other names more named goal_named found from to f is_from is_to x.0 x.2 in
        (found.birth, x.0.birth, d.0, x.1, d.1, subst (StandsAt tree other x.0.birth) x.3 there, (λ e. x.4 (sym e)))

    met_holds : moves_directory m ≡ false → meets_directory m ≡ true → Holds room tree (directory_met path other)
    met_holds t u =
        let x = meets_says tree plain path other names more named goal_named found from to f is_from is_to u in
        let there = meets tree plain path other names more named goal_named found from to f is_from is_to x.0 x.2 in
        (found.birth, x.0.birth, found.node, x.1, s, subst (StandsAt tree other x.0.birth) x.3 there, t)

    there_meets : Holds room tree (directory_there path other) → (moves_directory m ≡ true) × (meets_directory m ≡ true)
    there_meets held = (
      moves held.0 held.2 held.4,
      says_meets tree plain path other names more named goal_named found from to f is_from is_to held.1 held.3 held.5 (λ e. held.6 ((kind_of held.0 (nodes.Directory held.2) held.4).0 ∙ sym e)),
    )

    met_meets : Holds room tree (directory_met path other) → (moves_directory m ≡ false) × (meets_directory m ≡ true)
    met_meets held =
        let kind : is_directory (Some found.node) ≡ false = ap (λ node. is_directory (Some node)) (sym (kind_of held.0 held.2 held.4).1) ∙ held.6 in (
          kind,
          says_meets tree plain path other names more named goal_named found from to f is_from is_to held.1 held.3 held.5 (λ e.
              let same : nodes.Directory held.3 ≡ found.node = same_Some (nodes.Directory held.3) found.node (sym held.5.leads.stands ∙ (ap (at_number tree) e ∙ f.stands)) in
              true≢false (ap (λ node. is_directory (Some node)) same ∙ kind)),
        )

    kinds_told : (x : Row) → (meets_directory m ≡ false → Told room tree (file_rows path other) (and_then x (if_room room tree))) →
        Told room tree (kind_rows path other) (and_then (refuse_if (meets_directory m) (if moves_directory m then replies.Exists else replies.IsDir) x) (if_room room tree))
    kinds_told x go = by (moves_directory m) refl (meets_directory m) refl go
      where
        by : (b : Bool) → moves_directory m ≡ b → (t : Bool) → meets_directory m ≡ t → (t ≡ false → Told room tree (file_rows path other) (and_then x (if_room room tree))) →
            Told room tree (kind_rows path other) (and_then (refuse_if t (if b then replies.Exists else replies.IsDir) x) (if_room room tree))
        by true e true u go = inl (there_holds e u, refl)
        by false e true u go = inr ((λ held. true≢false (sym (there_meets held).0 ∙ e)), inl (met_holds e u, refl))
        by b e false u go =
            told_behind room tree (when (directory_there path other) replies.Exists ∷ when (directory_met path other) replies.IsDir ∷ []) (file_rows path other) (and_then x (if_room room tree))
            ((λ held. true≢false (sym (there_meets held).1 ∙ u)), ((λ held. true≢false (sym (met_meets held).1 ∙ u)), tt)) (go refl)

    -- ---- a file stands there

    file_told : (x : Row) → Told room tree (links_rows path other) (and_then x (if_room room tree)) →
        Told room tree (file_rows path other) (and_then (refuse_if (meets_file m && moves_directory m) replies.NotDir x) (if_room room tree))
    file_told x h =
        next_if room tree (last room tree) (when (file_met path other) replies.NotDir) (links_rows path other) (meets_file m && moves_directory m) x
        (λ t.
        let parts = and_parts (meets_file m) (moves_directory m) t in
        let y = meets_file_says tree plain path other names more named goal_named found from to f is_from is_to parts.0 in
        let d = directory_moves parts.1 in
        (found.birth, y.0.birth, d.0, y.1, d.1, subst (StandsAt tree other y.0.birth) y.3 (meets tree plain path other names more named goal_named found from to f is_from is_to y.0 y.2)))
        (λ t held.
        true≢false
        (sym
        (and_from (meets_file m) (moves_directory m) (says_meets_file tree plain path other names more named goal_named found from to f is_from is_to held.1 held.3 held.5) (moves held.0 held.2 held.4))
        ∙ t))
        (λ t. h)

    -- ---- links

    abbrev Linked : ℕ → ℕ → Directory → List ℕ → Type 0
    Linked p q d name = (q ≢ p) × (directory_links tree d ≡ 250)

    links_told : (x : Row) → Told room tree (full_rows path other) (and_then x (if_room room tree)) →
        Told room tree (links_rows path other) (and_then (refuse_if (moves_directory m && (changes_parent m && (directory_links tree to.directory == most_links))) replies.TooManyLinks x) (if_room room tree))
    links_told x h =
        next_if room tree (last room tree) (when (goal_linked path other) replies.TooManyLinks) (full_rows path other) (moves_directory m && (changes_parent m && (directory_links tree to.directory == most_links))) x
        (λ t.
        let parts = and_parts (moves_directory m) _ t in
        let links = and_parts (changes_parent m) _ parts.1 in
        let d = directory_moves parts.0 in (
          found.birth,
          d.0,
          d.1,
          from.parent,
          to.parent,
          to.directory,
          to.name,
          movement tree plain path other names more named goal_named found from to f is_from is_to,
          eqb-false to.parent from.parent (not-true (to.parent == from.parent) links.0),
          eqb-true (directory_links tree to.directory) most_links links.1,
        ))
        (λ t held.
        let here = at_goal tree plain path other names more named goal_named found from to f is_from is_to Linked held.3 held.4 held.5 held.6 held.7 (held.8, held.9) in
        true≢false
        (sym
        (and_from (moves_directory m) _ (moves held.0 held.1 held.2)
        (and_from (changes_parent m) _ (ap not (false_from_ne_true (to.parent == from.parent) (λ e. here.0 (eqb-true to.parent from.parent e)))) (eq-eqb (directory_links tree to.directory) most_links here.1)))
        ∙ t))
        (λ t. h)

    -- ---- slots

    abbrev Full : ℕ → ℕ → Directory → List ℕ → Type 0
    Full p q d name = (at_name d.names name ≡ None) × IsFull d (names_without_one p q d)

    full_told : (x : Row) → Told room tree (zones_row path other) (and_then x (if_room room tree)) →
        Told room tree (full_rows path other) (and_then (refuse_if (is_none m.target && is_full (place_after m).directory) replies.TooBig x) (if_room room tree))
    full_told x h =
        let full = full_after tree plain path other names more named goal_named found from to f is_from is_to in
        next_if room tree (last room tree) (when (goal_full path other) replies.TooBig) (zones_row path other) (is_none m.target && is_full (place_after m).directory) x
        (λ t.
        let parts = and_parts (is_none m.target) _ t in (
          from.parent,
          to.parent,
          to.directory,
          to.name,
          movement tree plain path other names more named goal_named found from to f is_from is_to,
          no_name tree plain path other names more named goal_named found from to f is_from is_to (is_none_of m.target parts.0),
          full_holds to.directory (names_without_one from.parent to.parent to.directory) (sym full ∙ parts.1),
        ))
        (λ t held.
        let here = at_goal tree plain path other names more named goal_named found from to f is_from is_to Full held.0 held.1 held.2 held.3 held.4 (held.5, held.6) in
        true≢false
        (sym
        (and_from (is_none m.target) _ (ap is_none (none_met tree plain path other names more named goal_named found from to f is_from is_to here.0))
        (full ∙ full_is to.directory (names_without_one from.parent to.parent to.directory) here.1))
        ∙ t))
        (λ t. h)

    -- ---- zones

    abbrev Lacks : ℕ → ℕ → Directory → List ℕ → Type 0
    Lacks p q d name = (at_name d.names name ≡ None) × (zones_left room tree < name_zones d (names_without_one p q d))

    lacks : Holds room tree (no_space_at_goal path other) → Lacks from.parent to.parent to.directory to.name
    lacks held = at_goal tree plain path other names more named goal_named found from to f is_from is_to Lacks held.0 held.1 held.2 held.3 held.4 (held.5, held.6)

    zones_told : meets_directory m ≡ false → Told room tree (zones_row path other) (and_then (leaves (if stays m then tree else tree_moved tree m)) (if_room room tree))
    zones_told clear = by m.target refl
      where
        by : (o : Option Found) → target_at tree to ≡ o → Told room tree (zones_row path other) (and_then (leaves (if stays m then tree else tree_moved tree m)) (if_room room tree))
        by None e =
            space_told room tree (no_space_at_goal path other) (record { tree = if stays m then tree else tree_moved tree m; takes_inode = false; reply = replies.Ok }) (name_zones to.directory (names_without_one from.parent to.parent to.directory))
            (moved_needs tree plain path other names more named goal_named found from to f is_from is_to e)
            (λ lt. (
              from.parent,
              to.parent,
              to.directory,
              to.name,
              movement tree plain path other names more named goal_named found from to f is_from is_to,
              no_name tree plain path other names more named goal_named found from to f is_from is_to e,
              lt,
            ))
            (λ held. (lacks held).1)
        by (Some t) e =
            told_behind room tree (zones_row path other) [] _
            ((λ held. none-some t (sym (none_met tree plain path other names more named goal_named found from to f is_from is_to (lacks held).0) ∙ e)), tt)
            (no_zone_needed room tree (record { tree = if stays m then tree else tree_moved tree m; takes_inode = false; reply = replies.Ok })
            (replaced_needs tree plain path other names more named goal_named found from to f is_from is_to t e clear))

    -- ---- from the directory below itself on

    move_told : Told room tree (below_rows path other)
        (and_then (refuse_if (is_directory (Some found.node) && list_any (λ birth. birth == found.birth) (above tree 0 more)) replies.Invalid (rename_to tree m)) (if_room room tree))
    move_told =
        next_if room tree (last room tree) (when (below_itself path other) replies.Invalid) (kind_rows path other) (is_directory (Some found.node) && list_any (λ birth. birth == found.birth) (above tree 0 more)) (rename_to tree m)
        (goes_through tree plain path other names more named goal_named found from to f is_from is_to)
        (λ t held. true≢false (sym (through_goes tree plain path other names more named goal_named found from to f is_from is_to held) ∙ t))
        (λ t. kinds_told _ (λ clear. file_told _ (links_told _ (full_told _ (zones_told clear)))))

  -- ---- all rows

  abbrev renamed : List (List ℕ) → List (List ℕ) → Row
  renamed names more =
      refuse_if (is_root names || is_root more) replies.Invalid
      (and_then (walk tree names) (λ found.
      and_then (parent_of replies.Invalid tree names) (λ from.
      and_then (parent_of replies.Invalid tree more) (λ to.
      refuse_if (is_directory (Some found.node) && list_any (λ birth. birth == found.birth) (above tree 0 more)) replies.Invalid
      (rename_to tree (record { moved = found; from = from; to = to; target = target_at tree to }))))))

  roots_told : (names more : List (List ℕ)) → path_of path ≡ Some names → path_of other ≡ Some more → Told room tree (root_rows path other) (and_then (renamed names more) (if_room room tree))
  roots_told [] more named goal_named = inl (named, refl)
  roots_told (first ∷ names) [] named goal_named = inr (not_root room tree plain.rooted path first names named, inl (goal_named, refl))
  roots_told (first ∷ names) (next ∷ more) named goal_named =
      told_behind room tree (when (root path) replies.Invalid ∷ when (root other) replies.Invalid ∷ []) (walk_rows path other) (and_then (renamed (first ∷ names) (next ∷ more)) (if_room room tree))
      (not_root room tree plain.rooted path first names named, (not_root room tree plain.rooted other next more goal_named, tt))
      (next_then room tree (last room tree) (by_walk path) (by_parent other ++ below_rows path other) (walk tree (first ∷ names)) _ (walk_told room tree plain.rooted path (first ∷ names) named) (λ found a.
      parent_goes room tree plain.rooted path first names named (last room tree) replies.Invalid (by_parent other ++ below_rows path other) _ found a (λ from b.
      next_then room tree (last room tree) (by_parent other) (below_rows path other) (parent_of replies.Invalid tree (next ∷ more)) _ (parent_told room tree plain.rooted other next more goal_named replies.Invalid) (λ to e.
      move_told (first ∷ names) (next ∷ more) named goal_named found from to (walk_ok tree (first ∷ names) found a) (parent_ok replies.Invalid tree (first ∷ names) from b) (parent_ok replies.Invalid tree (next ∷ more) to e)))))

  pub rename_told : Told room tree (table (calls.Rename path other)) (and_then (rename tree path other) (if_room room tree))
  rename_told =
      next_then room tree (last room tree) (when (bad_path path) replies.BadPath ∷ []) (when (bad_path other) replies.BadPath ∷ root_rows path other) (names_in path) _ (names_told room tree plain.rooted path) (λ names a.
      next_then room tree (last room tree) (when (bad_path other) replies.BadPath ∷ []) (root_rows path other) (names_in other) _ (names_told room tree plain.rooted other) (λ more b.
      roots_told names more (named_so room tree plain.rooted path names a) (named_so room tree plain.rooted other more b)))
