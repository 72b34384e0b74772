-- The rows of calls that make and remove names.
use Rattle.std.specs.Prelude.{◌≡◌, ◌≢◌, ⊤, ℕ, ◌+◌, ◌-◌, ◌<◌, ◌≤◌, ◌==◌, true, false, not, nat_lt, nat_le, List, [], ◌∷◌, ◌++◌, length, Some, Ok, is_some, refl}
use Rattle.std.proofs.Common.{sym, ap, subst, ◌∙◌, inl, arith}
use Rattle.std.proofs.lemmas.Bool.{true≢false, eqb-true, eq-eqb, leb-true, le-leb, not-true, not-false}
use Rattle.tree_model.specs.declared.call.Call.TheVariants as calls
use Rattle.tree_model.specs.declared.call.Reply.TheVariants as replies
use Rattle.tree_model.specs.declared.call.Room.{Room}
use Rattle.tree_model.specs.declared.node.Node.{Node}
use Rattle.tree_model.specs.declared.node.Node.TheVariants as nodes
use Rattle.tree_model.specs.declared.node.Directory.{Directory}
use Rattle.tree_model.specs.declared.node.File.{File}
use Rattle.tree_model.specs.Maps.{at_name, without_number}
use Rattle.tree_model.specs.Paths.{path_of}
use Rattle.tree_model.specs.Trees.{is_directory, directory_links}
use Rattle.tree_model.specs.Plain.{IsPlain, AreBornBefore}
use Rattle.tree_model.specs.Calls.{Tree, Done, Row, Found, Place, refuse_if, and_then, leaves, names_in, walk, a_directory, a_file, parent_of, is_named, most_links, is_full, take_name, put_file, with_links, lose_link, without_name, new_directory, new_file, mkdir, create, rmdir, unlink, link, file_zones, mapped_groups, node_zones, used_zones, if_room}
use Rattle.tree_model.specs.CallWords.{StandsAt}
use Rattle.tree_model.proofs.Rows.{directory_ok, file_ok, walk_ok, parent_ok}
use Rattle.tree_model.proofs.PlainNames.{no_entries}
use Rattle.call_refusals.specs.Conditions.{Condition, HasParent, Holds, zones_left, IsFull, name_zones}
use Rattle.call_refusals.specs.Conditions.Condition.{bad_path, root, there, no_directory, no_file, not_empty, parent_linked, file_linked, full, no_inode, no_space}
use Rattle.call_refusals.specs.Tables.{TableRow, when, by_walk, by_parent, table}
use Rattle.call_refusals.proofs.Told.{Told, told_behind, told_if, next_then, next_if}
use Rattle.call_refusals.proofs.Words.{only_node, only_parent, is_node, is_parent}
use Rattle.call_refusals.proofs.Walks.{names_told, named_so, walk_told, directory_told, file_told, whole_told, not_root, place_told}
use Rattle.call_refusals.proofs.Rooms.{full_holds, full_is, zones_of, put_same, space_told, no_zone_needed, made_zones, named_zones, new_zone, itself, lost, fewer_without}

-- a file with all its links, and a directory with names, whatever the birth
abbrev HasLinks : ℕ → Node → Type 0
HasLinks b (nodes.File g) = g.links ≡ 250
HasLinks b other = ⊤

abbrev HasNames : ℕ → Node → Type 0
HasNames b (nodes.Directory e) = e.names ≢ []
HasNames b other = ⊤

none_more : (a b : ℕ) → a ≤ b → a - b ≡ 0
none_more a b le = omega arith

zero_more : (a b : ℕ) → a ≡ b → a ≡ 0 + b
zero_more a b e = omega arith

-- a new file has no zones
no_zone : node_zones new_file ≡ 0
unfolding file_zones mapped_groups
no_zone = refl

-- the last rows of calls that give a name
abbrev zones_row : ℕ → List ℕ → List TableRow
zones_row zones path = when (no_space zones path) replies.NoSpace ∷ []

abbrev inode_rows : ℕ → List ℕ → List TableRow
inode_rows zones path = when no_inode replies.NoInode ∷ zones_row zones path

abbrev full_rows : ℕ → List ℕ → List TableRow
full_rows zones path = when (full path) replies.TooBig ∷ inode_rows zones path

abbrev links_rows : List ℕ → List TableRow
links_rows path = when (parent_linked path) replies.TooManyLinks ∷ full_rows 1 path

abbrev link_rows : List ℕ → List ℕ → List TableRow
link_rows path other = when (file_linked path) replies.TooManyLinks ∷ when (full other) replies.TooBig ∷ zones_row 0 other

abbrev goal_rows : List ℕ → List ℕ → List TableRow
goal_rows path other = when (root other) replies.Exists ∷ by_parent other ++ when (there other) replies.Exists ∷ link_rows path other

abbrev walk_rows : List ℕ → List ℕ → List TableRow
walk_rows path other = by_walk path ++ when (no_file path) replies.IsDir ∷ goal_rows path other

abbrev rmdir_rows : List ℕ → List TableRow
rmdir_rows path = when (root path) replies.Invalid ∷ by_walk path ++ when (no_directory path) replies.NotDir ∷ when (not_empty path) replies.NotEmpty ∷ []

abbrev unlink_rows : List ℕ → List TableRow
unlink_rows path = when (root path) replies.Invalid ∷ by_walk path ++ when (no_file path) replies.IsDir ∷ []

module _ (room : Room) (tree : Tree) where
  abbrev pub last : Done → Row
  last = if_room room tree

  -- ---- a name and its directory

  module _ (path : List ℕ) (p : Place) (h : HasParent tree path p.parent p.directory p.name) where
    back : (P : ℕ → Directory → List ℕ → Type 0) (q : ℕ) (e : Directory) (other : List ℕ) → HasParent tree path q e other → P q e other → P p.parent p.directory p.name
    back P q e other k x = only_parent tree path P p.parent q p.directory e p.name other h k x

    pub there_told : (rows : List TableRow) (x : Row) → (is_named p ≡ false → Told room tree rows (and_then x last)) →
        Told room tree (when (there path) replies.Exists ∷ rows) (and_then (refuse_if (is_named p) replies.Exists x) last)
    there_told rows x go =
        next_if room tree last (when (there path) replies.Exists) rows (is_named p) x (λ t. (p.parent, p.directory, p.name, h, t))
        (λ t held. true≢false (sym (back (λ q e name. is_some (at_name e.names name) ≡ true) held.0 held.1 held.2 held.3 held.4) ∙ t)) go

    pub links_told : (rows : List TableRow) (x : Row) → ((directory_links tree p.directory == most_links) ≡ false → Told room tree rows (and_then x last)) →
        Told room tree (when (parent_linked path) replies.TooManyLinks ∷ rows) (and_then (refuse_if (directory_links tree p.directory == most_links) replies.TooManyLinks x) last)
    links_told rows x go =
        next_if room tree last (when (parent_linked path) replies.TooManyLinks) rows (directory_links tree p.directory == most_links) x
        (λ t. (p.parent, p.directory, p.name, h, eqb-true (directory_links tree p.directory) most_links t))
        (λ t held. true≢false (sym (eq-eqb (directory_links tree p.directory) most_links (back (λ q e name. directory_links tree e ≡ 250) held.0 held.1 held.2 held.3 held.4)) ∙ t)) go

    pub full_told : (rows : List TableRow) (x : Row) → (is_full p.directory ≡ false → Told room tree rows (and_then x last)) →
        Told room tree (when (full path) replies.TooBig ∷ rows) (and_then (refuse_if (is_full p.directory) replies.TooBig x) last)
    full_told rows x go =
        next_if room tree last (when (full path) replies.TooBig) rows (is_full p.directory) x (λ t. (p.parent, p.directory, p.name, h, full_holds p.directory (length p.directory.names) t))
        (λ t held. true≢false (sym (full_is p.directory (length p.directory.names) (back (λ q e name. IsFull e (length e.names)) held.0 held.1 held.2 held.3 held.4)) ∙ t)) go

    pub name_space_told : (zones : ℕ) (d : Done) → used_zones d.tree - used_zones tree ≡ zones + name_zones p.directory (length p.directory.names) →
        Told room tree (when (no_space zones path) replies.NoSpace ∷ []) (refuse_if {A = Done} (nat_lt (room.capacity - used_zones tree) (used_zones d.tree - used_zones tree)) replies.NoSpace (Ok d))
    name_space_told zones d e =
        space_told room tree (no_space zones path) d (zones + name_zones p.directory (length p.directory.names)) e (λ lt. (p.parent, p.directory, p.name, h, lt))
        (λ held. back (λ q e name. zones_left room tree < zones + name_zones e (length e.names)) held.0 held.1 held.2 held.3 held.4)

  -- ---- the kind of a node

  pub no_file_at : (path : List ℕ) (birth : ℕ) (node : Node) → StandsAt tree path birth node → (f : File) → node ≡ nodes.File f → Holds room tree (no_file path) → ⊥
  no_file_at path birth node s f kind held =
      only_node tree path (λ b other. (g : File) → other ≢ nodes.File g) birth held.0 node held.1 s held.2 held.3 f kind

  pub no_directory_at : (path : List ℕ) (birth : ℕ) (node : Node) → StandsAt tree path birth node → is_directory (Some node) ≡ true → Holds room tree (no_directory path) → ⊥
  no_directory_at path birth node s kind held =
      true≢false (sym kind ∙ only_node tree path (λ b other. is_directory (Some other) ≡ false) birth held.0 node held.1 s held.2 held.3)

module _ (room : Room) (tree : Tree) (plain : IsPlain tree) (n : ℕ) (born : AreBornBefore n tree) where
  -- ---- calls that make a node

  inodes_told : (rows : List TableRow) (x : Row) → Told room tree rows x → Told room tree (when no_inode replies.NoInode ∷ rows) (refuse_if (nat_le room.inodes (length tree)) replies.NoInode x)
  inodes_told rows x h =
      told_if room tree (when no_inode replies.NoInode) rows (nat_le room.inodes (length tree)) x (leb-true room.inodes (length tree)) (λ t held. true≢false (sym (le-leb room.inodes (length tree) held) ∙ t)) (λ t. h)

  pub mkdir_told : (path : List ℕ) → Told room tree (table (calls.Mkdir path)) (and_then (mkdir tree n path) (if_room room tree))
  mkdir_told path =
      next_then room tree (last room tree) (when (bad_path path) replies.BadPath ∷ []) (when (root path) replies.Exists ∷ by_parent path ++ when (there path) replies.Exists ∷ links_rows path) (names_in path) _
      (names_told room tree plain.rooted path) (λ names a.
      let named = named_so room tree plain.rooted path names a in
      next_then room tree (last room tree) (when (root path) replies.Exists ∷ by_parent path) (when (there path) replies.Exists ∷ links_rows path) (parent_of replies.Exists tree names) _
      (place_told room tree plain.rooted path names named replies.Exists) (λ p b.
      let place = parent_ok replies.Exists tree names p b in
      let h = is_parent tree path names p named place in
      there_told room tree path p h (links_rows path) _ (λ free.
      links_told room tree path p h (full_rows 1 path) _ (λ few.
      full_told room tree path p h (inode_rows 1 path) _ (λ more.
      inodes_told (zones_row 1 path) _
      (name_space_told room tree path p h 1 _
      (made_zones tree plain.rooted.in_order n born (new_directory p.directory.width p.parent) p place.stands free
      ∙ ap (λ k. k + name_zones p.directory (length p.directory.names)) (new_zone p.directory.width p.parent))))))))

  pub create_told : (path : List ℕ) → Told room tree (table (calls.Create path)) (and_then (create tree n path) (if_room room tree))
  create_told path =
      next_then room tree (last room tree) (when (bad_path path) replies.BadPath ∷ []) (when (root path) replies.Exists ∷ by_parent path ++ when (there path) replies.Exists ∷ full_rows 0 path) (names_in path) _
      (names_told room tree plain.rooted path) (λ names a.
      let named = named_so room tree plain.rooted path names a in
      next_then room tree (last room tree) (when (root path) replies.Exists ∷ by_parent path) (when (there path) replies.Exists ∷ full_rows 0 path) (parent_of replies.Exists tree names) _
      (place_told room tree plain.rooted path names named replies.Exists) (λ p b.
      let place = parent_ok replies.Exists tree names p b in
      let h = is_parent tree path names p named place in
      there_told room tree path p h (full_rows 0 path) _ (λ free.
      full_told room tree path p h (inode_rows 0 path) _ (λ more.
      inodes_told (zones_row 0 path) _
      (name_space_told room tree path p h 0 _
      (made_zones tree plain.rooted.in_order n born new_file p place.stands free ∙ ap (λ k. k + name_zones p.directory (length p.directory.names)) no_zone))))))

  -- ---- a file with one name more

  module _ (path : List ℕ) (found : Found) (f : File) (s : StandsAt tree path found.birth (nodes.File f)) where
    file_links_told : (rows : List TableRow) (x : Row) → Told room tree rows (and_then x (if_room room tree)) →
        Told room tree (when (file_linked path) replies.TooManyLinks ∷ rows) (and_then (refuse_if (f.links == most_links) replies.TooManyLinks x) (if_room room tree))
    file_links_told rows x h =
        next_if room tree (last room tree) (when (file_linked path) replies.TooManyLinks) rows (f.links == most_links) x
        (λ t. (found.birth, f, s, eqb-true f.links most_links t))
        (λ t held. true≢false (sym (eq-eqb f.links most_links (only_node tree path HasLinks found.birth held.0 (nodes.File f) (nodes.File held.1) s held.2 held.3)) ∙ t)) (λ t. h)

  pub link_told : (path other : List ℕ) → Told room tree (table (calls.Link path other)) (and_then (link tree path other) (if_room room tree))
  link_told path other =
      next_then room tree (last room tree) (when (bad_path path) replies.BadPath ∷ []) (when (bad_path other) replies.BadPath ∷ walk_rows path other) (names_in path) _ (names_told room tree plain.rooted path) (λ names a.
      let named = named_so room tree plain.rooted path names a in
      next_then room tree (last room tree) (when (bad_path other) replies.BadPath ∷ []) (walk_rows path other) (names_in other) _ (names_told room tree plain.rooted other) (λ more b.
      let there = named_so room tree plain.rooted other more b in
      next_then room tree (last room tree) (by_walk path) (when (no_file path) replies.IsDir ∷ goal_rows path other) (walk tree names) _ (walk_told room tree plain.rooted path names named) (λ found e.
      let w = walk_ok tree names found e in
      let s = is_node tree path names found named w in
      next_then room tree (last room tree) (when (no_file path) replies.IsDir ∷ []) (goal_rows path other) (a_file found.node) _
      (file_told room tree plain.rooted (no_file path) found.node (λ none. (found.birth, found.node, s, none)) (λ f kind. no_file_at room tree path found.birth found.node s f kind)) (λ f g.
      let kind = file_ok found.node f g in
      let t : StandsAt tree path found.birth (nodes.File f) = subst (StandsAt tree path found.birth) kind s in
      next_then room tree (last room tree) (when (root other) replies.Exists ∷ by_parent other) (when (Condition.there other) replies.Exists ∷ link_rows path other) (parent_of replies.Exists tree more) _
      (place_told room tree plain.rooted other more there replies.Exists) (λ p i.
      let place = parent_ok replies.Exists tree more p i in
      let h = is_parent tree other more p there place in
      there_told room tree other p h (link_rows path other) _ (λ free.
      file_links_told path found f t (when (full other) replies.TooBig ∷ zones_row 0 other) _ (
      full_told room tree other p h (zones_row 0 other) _ (λ j.
      let same = put_same tree tree (λ q. ⊥) (itself tree (λ q. ⊥) plain.rooted.in_order) found.birth (nodes.File (with_links f (f.links + 1))) (λ k. k) (zones_of tree found.birth (nodes.File f) (w.stands ∙ ap Some kind)) in
      name_space_told room tree other p h 0 _
      (zero_more _ _
      (named_zones tree (put_file tree found.birth (with_links f (f.links + 1))) same.0 same.1 p found.birth (zones_of tree p.parent (nodes.Directory p.directory) place.stands) free))))))))))

  -- ---- names that go

  no_length : (names : List (List ℕ × ℕ)) → not (length names == 0) ≡ true → names ≢ []
  no_length names h e = true≢false (sym (ap (λ (ns : List (List ℕ × ℕ)). length ns == 0) e) ∙ not-true (length names == 0) h)

  some_names : (names : List (List ℕ × ℕ)) → not (length names == 0) ≡ false → names ≡ []
  some_names names h = no_entries names (not-false (length names == 0) h)

  pub rmdir_told : (path : List ℕ) → Told room tree (table (calls.Rmdir path)) (and_then (rmdir tree path) (if_room room tree))
  rmdir_told path =
      next_then room tree (last room tree) (when (bad_path path) replies.BadPath ∷ []) (rmdir_rows path) (names_in path) _ (names_told room tree plain.rooted path) (λ names a. by names (named_so room tree plain.rooted path names a))
    where
      by : (names : List (List ℕ)) → path_of path ≡ Some names →
          Told room tree (rmdir_rows path)
          (and_then (and_then (parent_of replies.Invalid tree names) (λ place. and_then (walk tree names) (λ found. and_then (a_directory found.node) (λ d. refuse_if (not (length d.names == 0)) replies.NotEmpty
          (leaves (without_number (take_name tree place) found.birth)))))) (if_room room tree))
      by [] named = inl (named, refl)
      by (first ∷ names) named =
          told_behind room tree (when (root path) replies.Invalid ∷ []) (by_walk path ++ when (no_directory path) replies.NotDir ∷ when (not_empty path) replies.NotEmpty ∷ []) _ (not_root room tree plain.rooted path first names named, tt)
          (whole_told room tree plain.rooted path first names named (last room tree) replies.Invalid (when (no_directory path) replies.NotDir ∷ when (not_empty path) replies.NotEmpty ∷ []) _ (λ place b found e.
          let w = walk_ok tree (first ∷ names) found e in
          let s = is_node tree path (first ∷ names) found named w in
          next_then room tree (last room tree) (when (no_directory path) replies.NotDir ∷ []) (when (not_empty path) replies.NotEmpty ∷ []) (a_directory found.node) _
          (directory_told room tree plain.rooted (no_directory path) found.node (λ kind. (found.birth, found.node, s, kind)) (no_directory_at room tree path found.birth found.node s)) (λ d g.
          let kind = directory_ok found.node d g in
          let t : StandsAt tree path found.birth (nodes.Directory d) = subst (StandsAt tree path found.birth) kind s in
          next_if room tree (last room tree) (when (not_empty path) replies.NotEmpty) [] (not (length d.names == 0)) _
          (λ h. (found.birth, d, t, no_length d.names h))
          (λ h held. only_node tree path HasNames found.birth held.0 (nodes.Directory d) (nodes.Directory held.1) t held.2 held.3 (some_names d.names h))
          (λ h.
          let p = parent_ok replies.Invalid tree (first ∷ names) place b in
          let taken = (put_same tree tree (λ q. ⊥) (itself tree (λ q. ⊥) plain.rooted.in_order) place.parent (nodes.Directory (without_name place.directory place.name)) (λ k. k) (zones_of tree place.parent (nodes.Directory place.directory) p.stands)).0 in
          let fewer = fewer_without tree (take_name tree place) (λ q. ⊥) taken found.birth in
          no_zone_needed room tree _ (none_more (used_zones (without_number (take_name tree place) found.birth)) (used_zones tree) fewer)))))

  pub unlink_told : (path : List ℕ) → Told room tree (table (calls.Unlink path)) (and_then (unlink tree path) (if_room room tree))
  unlink_told path =
      next_then room tree (last room tree) (when (bad_path path) replies.BadPath ∷ []) (unlink_rows path) (names_in path) _ (names_told room tree plain.rooted path) (λ names a. by names (named_so room tree plain.rooted path names a))
    where
      by : (names : List (List ℕ)) → path_of path ≡ Some names →
          Told room tree (unlink_rows path)
          (and_then (and_then (parent_of replies.Invalid tree names) (λ place. and_then (walk tree names) (λ found. and_then (a_file found.node) (λ f. leaves (lose_link (take_name tree place) found.birth f))))) (if_room room tree))
      by [] named = inl (named, refl)
      by (first ∷ names) named =
          told_behind room tree (when (root path) replies.Invalid ∷ []) (by_walk path ++ when (no_file path) replies.IsDir ∷ []) _ (not_root room tree plain.rooted path first names named, tt)
          (whole_told room tree plain.rooted path first names named (last room tree) replies.Invalid (when (no_file path) replies.IsDir ∷ []) _ (λ place b found e.
          let w = walk_ok tree (first ∷ names) found e in
          let s = is_node tree path (first ∷ names) found named w in
          next_then room tree (last room tree) (when (no_file path) replies.IsDir ∷ []) [] (a_file found.node) _
          (file_told room tree plain.rooted (no_file path) found.node (λ none. (found.birth, found.node, s, none)) (λ f kind. no_file_at room tree path found.birth found.node s f kind)) (λ f g.
          let p = parent_ok replies.Invalid tree (first ∷ names) place b in
          let taken = (put_same tree tree (λ q. ⊥) (itself tree (λ q. ⊥) plain.rooted.in_order) place.parent (nodes.Directory (without_name place.directory place.name)) (λ k. k) (zones_of tree place.parent (nodes.Directory place.directory) p.stands)).0 in
          let fewer = (lost tree (take_name tree place) taken found.birth f (w.stands ∙ ap Some (file_ok found.node f g))).used in
          no_zone_needed room tree _ (none_more (used_zones (lose_link (take_name tree place) found.birth f)) (used_zones tree) fewer))))
