-- Each refusal has its cause.
use Rattle.std.specs.Prelude.{◌≡◌, ◌≢◌, ⊤, ℕ, ◌+◌, ◌-◌, ◌<◌, ◌≤◌, ◌==◌, Bool, true, false, not, ◌&&◌, ◌||◌, if◌then◌else◌, nat_lt, nat_le, List, [], ◌∷◌, ◌++◌, length, replicate, Option, Some, None, Result, Ok, Err, is_some, is_none, refl}
use Rattle.std.proofs.Common.{sym, ap, subst, ◌∙◌, inl, inr, ⊎_elim}
use Rattle.std.specs.List.{list_any}
use Rattle.std.proofs.lemmas.Bool.{true≢false, false≢true, and_parts, or_cases, eqb-true, eqb-false, ltb-true, leb-true, not-true}
use Rattle.std.proofs.lemmas.List.{append-nil, length-replicate}
use Rattle.std.proofs.lemmas.Option.{none-some, same_Some}
use Rattle.blk_base.specs.Members.{In}
use Rattle.tree_model.specs.declared.call.Call.{Call}
use Rattle.tree_model.specs.declared.call.Call.TheVariants as calls
use Rattle.tree_model.specs.declared.call.Reply.{Reply}
use Rattle.tree_model.specs.declared.call.Reply.TheVariants as replies
use Rattle.tree_model.specs.declared.call.Room.{Room}
use Rattle.tree_model.specs.declared.node.Node.{Node}
use Rattle.tree_model.specs.declared.node.Node.TheVariants as nodes
use Rattle.tree_model.specs.declared.node.Directory.{Directory}
use Rattle.tree_model.specs.declared.node.File.{File}
use Rattle.tree_model.specs.Maps.{at_number, at_name}
use Rattle.tree_model.specs.Paths.{path_of}
use Rattle.tree_model.specs.Rooted.{IsRooted}
use Rattle.tree_model.specs.Trees.{Refusal, not_directory, name_too_long, not_found, step_at, led_to, node_of_path, is_directory, directory_links}
use Rattle.tree_model.specs.Calls.{Tree, Row, Found, Place, Move, refuse_if, and_then, if_some, names_in, is_root, refused_walk, birth_at, found_at, walk, walk_path, a_directory, a_file, all_but_last, last_name, parent_of, above, is_named, is_file, most_links, most_slots, needs_slot, is_full, mkdir, create, rmdir, unlink, link, target_at, moves_directory, meets_directory, meets_file, changes_parent, without_name, place_after, rename_to, rename, largest_size, write, truncate, read, list, stat_of, stat, barrier, row, used_zones, if_room, outcome}
use Rattle.tree_model.specs.Causes.{paths_of, NamesOf, IsFront, LeadsTo, IsInDirectory, IsMoved, IsMet, end_of, root_reply, IsCause}
use Rattle.tree_model.specs.laws.Alike.{path_stands, led_on}
use Rattle.tree_model.proofs.Rows.{ok_ok, some_ok, directory_ok, file_ok, IsFound, walk_ok, walk_path_ok, IsPlace, parent_ok}
use Rattle.tree_model.specs.Histories.{is_ok}
use Rattle.tree_model.proofs.Blocks.{target_stands}

-- ---- refusals, one after the other

-- what is refused is refused for a cause
abbrev pub Refuses : {A : Type 0} → (Reply → Type 0) → Result A Reply → Type 0
Refuses P (Ok a) = ⊤
Refuses P (Err reply) = P reply

then_refuses : {A B : Type 0} (P : Reply → Type 0) (x : Result A Reply) (next : A → Result B Reply) → Refuses P x → ((a : A) → x ≡ Ok a → Refuses P (next a)) → Refuses P (and_then x next)
then_refuses P (Ok a) next h more = more a refl
then_refuses P (Err reply) next h more = h

if_refuses : {A : Type 0} (P : Reply → Type 0) (test : Bool) (reply : Reply) (x : Result A Reply) → (test ≡ true → P reply) → (test ≡ false → Refuses P x) → Refuses P (refuse_if test reply x)
if_refuses P true reply x h more = h refl
if_refuses P false reply x h more = more refl

some_refuses : {A : Type 0} (P : Reply → Type 0) (o : Option A) (reply : Reply) → (o ≡ None → P reply) → Refuses P (if_some o reply)
some_refuses P (Some a) reply h = tt
some_refuses P None reply h = h refl

directory_refuses : (P : Reply → Type 0) (node : Node) → (is_directory (Some node) ≡ false → P replies.NotDir) → Refuses P (a_directory node)
directory_refuses P (nodes.Directory d) h = tt
directory_refuses P (nodes.File f) h = h refl
directory_refuses P (nodes.Other mode) h = h refl

no_file_directory : (d : Directory) (f : File) → nodes.Directory d ≢ nodes.File f
no_file_directory d f h = cc

no_file_other : (mode : ℕ) (f : File) → nodes.Other mode ≢ nodes.File f
no_file_other mode f h = cc

file_refuses : (P : Reply → Type 0) (node : Node) → (((f : File) → node ≢ nodes.File f) → P replies.IsDir) → Refuses P (a_file node)
file_refuses P (nodes.File f) h = tt
file_refuses P (nodes.Directory d) h = h (no_file_directory d)
file_refuses P (nodes.Other mode) h = h (no_file_other mode)

-- ---- paths

pub front_last : (name : List ℕ) (names : List (List ℕ)) → all_but_last name names ++ last_name name names ∷ [] ≡ name ∷ names
front_last name [] = refl
front_last name (next ∷ names) = ap (λ ns. name ∷ ns) (front_last next names)

-- a directory among those above a path is led to by names with which the path begins
record IsAbove (tree : Tree) (start birth : ℕ) (names : List (List ℕ)) : Type 0 where
  front : List (List ℕ)
  name : List ℕ
  rest : List (List ℕ)
  names_are : front ++ name ∷ rest ≡ names
  led : led_to tree start front ≡ Ok birth

above_leads : (tree : Tree) (start birth : ℕ) (names : List (List ℕ)) → list_any (λ b. b == birth) (above tree start names) ≡ true → IsAbove tree start birth names
above_leads tree start birth [] h = absurd (false≢true h)
above_leads tree start birth (name ∷ names) h =
    ⊎_elim
    (λ here. record { front = []; name = name; rest = names; names_are = refl; led = ap Ok (eqb-true start birth here) })
    (λ later. by (step_at (at_number tree start) name) refl later (λ next l. above_leads tree next birth names l))
    (or_cases (start == birth) _ h)
  where
    by : (r : Result ℕ Refusal) → step_at (at_number tree start) name ≡ r → list_any (λ b. b == birth) (elim r as (λ _. List ℕ) [ Err refusal ↦ [] | Ok next ↦ above tree next names ]) ≡ true →
        ((next : ℕ) → list_any (λ b. b == birth) (above tree next names) ≡ true → IsAbove tree next birth names) → IsAbove tree start birth (name ∷ names)
    by (Err refusal) e l more = absurd (false≢true l)
    by (Ok next) e l more =
        let x = more next l in
        record {
          front = name ∷ x.front;
          name = x.name;
          rest = x.rest;
          names_are = ap (λ ns. name ∷ ns) x.names_are;
          led = ap (λ (r : Result ℕ Refusal). led_on tree r x.front) e ∙ x.led;
        }

-- ---- one call

module _ (room : Room) (tree : Tree) (rooted : IsRooted tree) (n : ℕ) (c : Call) where
  abbrev Cause : Reply → Type 0
  Cause reply = IsCause room tree n c reply

  names_refuse : (path : List ℕ) → In path (paths_of c) → Refuses Cause (names_in path)
  names_refuse path i = some_refuses Cause (path_of path) replies.BadPath (λ none. IsCause.no_path path i none)

  names_of : (path : List ℕ) (names : List (List ℕ)) → In path (paths_of c) → names_in path ≡ Ok names → NamesOf c names
  names_of path names i h = record { path = path; is_path = i; named = some_ok (path_of path) replies.BadPath names h }

  birth_refuses : (names front : List (List ℕ)) → NamesOf c names → IsFront front names → (r : Result ℕ Refusal) → node_of_path tree front ≡ r →
      Refuses Cause (elim r as (λ _. Result ℕ Reply) [ Err refusal ↦ Err (refused_walk refusal) | Ok birth ↦ Ok birth ])
  birth_refuses names front named f (Ok birth) e = tt
  birth_refuses names front named f (Err refusal) e = IsCause.walk names front named f refusal e

  found_refuses : (front : List (List ℕ)) (birth : ℕ) (r : Result ℕ Refusal) → node_of_path tree front ≡ r →
      ◌≡◌ {A = Result ℕ Reply} (elim r as (λ _. Result ℕ Reply) [ Err refusal ↦ Err (refused_walk refusal) | Ok birth ↦ Ok birth ]) (Ok birth) → (node : Option Node) → at_number tree birth ≡ node → Refuses Cause (found_at birth node)
  found_refuses front birth r e h (Some node) stands = tt
  found_refuses front birth (Ok b) e h None stands =
      let led : node_of_path tree front ≡ Ok birth = e ∙ ap Ok (ok_ok b birth h) in
      let x = path_stands tree rooted front birth led in
      absurd (none-some x.0 (sym stands ∙ x.1))
  found_refuses front birth (Err refusal) e h None stands = absurd (let k : ◌≡◌ {A = Result ℕ Reply} (Err (refused_walk refusal)) (Ok birth) = h in cc)

  walk_refuses : (names front : List (List ℕ)) → NamesOf c names → IsFront front names → Refuses Cause (walk tree front)
  walk_refuses names front named f =
      then_refuses Cause (birth_at tree front) _ (birth_refuses names front named f (node_of_path tree front) refl)
      (λ birth h. found_refuses front birth (node_of_path tree front) refl h (at_number tree birth) refl)

  leads : (names : List (List ℕ)) (found : Found) → IsFound tree names found → LeadsTo tree names found.birth found.node
  leads names found f = record { path = f.path; stands = f.stands }

  whole : (names : List (List ℕ)) → IsFront names names
  whole names = ([], append-nil names)

  path_refuses : (path : List ℕ) → In path (paths_of c) → Refuses Cause (walk_path tree path)
  path_refuses path i = then_refuses Cause (names_in path) (walk tree) (names_refuse path i) (λ names h. walk_refuses names names (names_of path names i h) (whole names))

  parent_refuses : (reply : Reply) (names : List (List ℕ)) → root_reply c ≡ Some reply → NamesOf c names → Refuses Cause (parent_of reply tree names)
  parent_refuses reply [] r named = IsCause.root named reply r
  parent_refuses reply (name ∷ names) r named =
      let front : IsFront (all_but_last name names) (name ∷ names) = (last_name name names ∷ [], front_last name names) in
      then_refuses Cause (walk tree (all_but_last name names)) _ (walk_refuses (name ∷ names) (all_but_last name names) named front)
      (λ found h.
      let f = walk_ok tree (all_but_last name names) found h in
      then_refuses Cause (a_directory found.node) _
      (directory_refuses Cause found.node (λ other. IsCause.no_directory (name ∷ names) (all_but_last name names) named front found.birth found.node (leads (all_but_last name names) found f) other))
      (λ d e. if_refuses Cause (nat_lt d.width (length (last_name name names))) replies.NameTooLong _
      (λ t. IsCause.long_name (name ∷ names) d (last_name name names) named (record {
        front = all_but_last name names;
        names_are = front_last name names;
        birth = found.birth;
        leads = record { path = f.path; stands = f.stands ∙ ap Some (directory_ok found.node d e) };
      }) (ltb-true d.width (length (last_name name names)) t))
      (λ t. tt)))

  -- a place is a name in a directory
  in_directory : (names : List (List ℕ)) (p : Place) → IsPlace tree names p → IsInDirectory tree names p.directory p.name
  in_directory names p h = record {
    front = all_but_last h.first h.rest;
    names_are = ap (λ name. all_but_last h.first h.rest ++ name ∷ []) (sym h.name_is) ∙ (front_last h.first h.rest ∙ sym h.names_are);
    birth = p.parent;
    leads = record { path = h.path; stands = h.stands };
  }

  some_is : {A : Type 0} (o : Option A) → is_some o ≡ true → (a : A) × (o ≡ Some a)
  some_is (Some a) h = (a, refl)
  some_is None h = absurd (false≢true h)

  named_refuses : (names : List (List ℕ)) (p : Place) → NamesOf c names → IsPlace tree names p → is_named p ≡ true → Cause replies.Exists
  named_refuses names p named h t = let x = some_is (at_name p.directory.names p.name) t in IsCause.named names p.directory p.name named (in_directory names p h) x.0 x.1

  full_refuses : (names : List (List ℕ)) (p : Place) → NamesOf c names → IsPlace tree names p → is_full p.directory ≡ true → Cause replies.TooBig
  full_refuses names p named h t =
      IsCause.full names p.directory p.name named (in_directory names p h) (leb-true (most_slots p.directory.width) p.directory.slots (and_parts (needs_slot p.directory) _ t).1)

  links_refuse : (names : List (List ℕ)) (p : Place) → NamesOf c names → IsPlace tree names p → (directory_links tree p.directory == most_links) ≡ true → Cause replies.TooManyLinks
  links_refuse names p named h t = IsCause.directory_linked names p.directory p.name named (in_directory names p h) (eqb-true (directory_links tree p.directory) most_links t)

  file_refused : (names : List (List ℕ)) (found : Found) → NamesOf c names → IsFound tree names found → Refuses Cause (a_file found.node)
  file_refused names found named f = file_refuses Cause found.node (λ none. IsCause.no_file names named found.birth found.node (leads names found f) none)

  directory_refused : (names : List (List ℕ)) (found : Found) → NamesOf c names → IsFound tree names found → Refuses Cause (a_directory found.node)
  directory_refused names found named f = directory_refuses Cause found.node (λ none. IsCause.no_directory names names named (whole names) found.birth found.node (leads names found f) none)

-- ---- row by row

module _ (room : Room) (tree : Tree) (rooted : IsRooted tree) (n : ℕ) where
  mkdir_refuses : (path : List ℕ) → Refuses (IsCause room tree n (calls.Mkdir path)) (mkdir tree n path)
  mkdir_refuses path =
      let c : Call = calls.Mkdir path in
      then_refuses _ (names_in path) _ (names_refuse room tree rooted n c path (inl refl)) (λ names a.
      let named = names_of room tree rooted n c path names (inl refl) a in
      then_refuses _ (parent_of replies.Exists tree names) _ (parent_refuses room tree rooted n c replies.Exists names refl named) (λ p b.
      let place = parent_ok replies.Exists tree names p b in
      if_refuses _ (is_named p) replies.Exists _ (named_refuses room tree rooted n c names p named place) (λ e.
      if_refuses _ (directory_links tree p.directory == most_links) replies.TooManyLinks _ (links_refuse room tree rooted n c names p named place) (λ f.
      if_refuses _ (is_full p.directory) replies.TooBig _ (full_refuses room tree rooted n c names p named place) (λ g. tt)))))

  create_refuses : (path : List ℕ) → Refuses (IsCause room tree n (calls.Create path)) (create tree n path)
  create_refuses path =
      let c : Call = calls.Create path in
      then_refuses _ (names_in path) _ (names_refuse room tree rooted n c path (inl refl)) (λ names a.
      let named = names_of room tree rooted n c path names (inl refl) a in
      then_refuses _ (parent_of replies.Exists tree names) _ (parent_refuses room tree rooted n c replies.Exists names refl named) (λ p b.
      let place = parent_ok replies.Exists tree names p b in
      if_refuses _ (is_named p) replies.Exists _ (named_refuses room tree rooted n c names p named place) (λ e.
      if_refuses _ (is_full p.directory) replies.TooBig _ (full_refuses room tree rooted n c names p named place) (λ g. tt))))

  no_length : (names : List (List ℕ × ℕ)) → not (length names == 0) ≡ true → names ≢ []
  no_length names h e = true≢false (sym (ap (λ (ns : List (List ℕ × ℕ)). length ns == 0) e) ∙ not-true (length names == 0) h)

  rmdir_refuses : (path : List ℕ) → Refuses (IsCause room tree n (calls.Rmdir path)) (rmdir tree path)
  rmdir_refuses path =
      let c : Call = calls.Rmdir path in
      then_refuses _ (names_in path) _ (names_refuse room tree rooted n c path (inl refl)) (λ names a.
      let named = names_of room tree rooted n c path names (inl refl) a in
      then_refuses _ (parent_of replies.Invalid tree names) _ (parent_refuses room tree rooted n c replies.Invalid names refl named) (λ p b.
      then_refuses _ (walk tree names) _ (walk_refuses room tree rooted n c names names named (whole room tree rooted n c names)) (λ found e.
      let f = walk_ok tree names found e in
      then_refuses _ (a_directory found.node) _ (directory_refused room tree rooted n c names found named f) (λ d g.
      if_refuses _ (not (length d.names == 0)) replies.NotEmpty _
      (λ t. IsCause.names_left names named found.birth d (record { path = f.path; stands = f.stands ∙ ap Some (directory_ok found.node d g) }) (no_length d.names t))
      (λ h. tt)))))

  unlink_refuses : (path : List ℕ) → Refuses (IsCause room tree n (calls.Unlink path)) (unlink tree path)
  unlink_refuses path =
      let c : Call = calls.Unlink path in
      then_refuses _ (names_in path) _ (names_refuse room tree rooted n c path (inl refl)) (λ names a.
      let named = names_of room tree rooted n c path names (inl refl) a in
      then_refuses _ (parent_of replies.Invalid tree names) _ (parent_refuses room tree rooted n c replies.Invalid names refl named) (λ p b.
      then_refuses _ (walk tree names) _ (walk_refuses room tree rooted n c names names named (whole room tree rooted n c names)) (λ found e.
      then_refuses _ (a_file found.node) _ (file_refused room tree rooted n c names found named (walk_ok tree names found e)) (λ f g. tt))))

  link_refuses : (path other : List ℕ) → Refuses (IsCause room tree n (calls.Link path other)) (link tree path other)
  link_refuses path other =
      let c : Call = calls.Link path other in
      then_refuses _ (names_in path) _ (names_refuse room tree rooted n c path (inl refl)) (λ names a.
      then_refuses _ (names_in other) _ (names_refuse room tree rooted n c other (inr (inl refl))) (λ more b.
      let first = names_of room tree rooted n c path names (inl refl) a in
      let second = names_of room tree rooted n c other more (inr (inl refl)) b in
      then_refuses _ (walk tree names) _ (walk_refuses room tree rooted n c names names first (whole room tree rooted n c names)) (λ found e.
      let w = walk_ok tree names found e in
      then_refuses _ (a_file found.node) _ (file_refused room tree rooted n c names found first w) (λ f g.
      then_refuses _ (parent_of replies.Exists tree more) _ (parent_refuses room tree rooted n c replies.Exists more refl second) (λ p h.
      let place = parent_ok replies.Exists tree more p h in
      if_refuses _ (is_named p) replies.Exists _ (named_refuses room tree rooted n c more p second place) (λ i.
      if_refuses _ (f.links == most_links) replies.TooManyLinks _
      (λ t. IsCause.file_linked names first found.birth f (record { path = w.path; stands = w.stands ∙ ap Some (file_ok found.node f g) }) (eqb-true f.links most_links t)) (λ j.
      if_refuses _ (is_full p.directory) replies.TooBig _ (full_refuses room tree rooted n c more p second place) (λ k. tt))))))))

  write_refuses : (c : Call) (path : List ℕ) (off : ℕ) (bytes : List ℕ) → In path (paths_of c) → off + length bytes ≡ end_of c → Refuses (IsCause room tree n c) (write tree path off bytes)
  write_refuses c path off bytes i end =
      then_refuses _ (walk_path tree path) _ (path_refuses room tree rooted n c path i) (λ found a.
      let w = walk_path_ok tree path found a in
      then_refuses _ (a_file found.node) _ (file_refused room tree rooted n c w.0 found (record { path = path; is_path = i; named = w.1 }) w.2) (λ f b.
      if_refuses _ (nat_lt largest_size (off + length bytes)) replies.TooBig _
      (λ t. IsCause.too_large (subst (λ e. largest_size < e) end (ltb-true largest_size (off + length bytes) t))) (λ e. tt)))

  truncate_refuses : (path : List ℕ) (size : ℕ) → Refuses (IsCause room tree n (calls.Truncate path size)) (truncate tree path size)
  truncate_refuses path size =
      let c : Call = calls.Truncate path size in
      then_refuses _ (walk_path tree path) _ (path_refuses room tree rooted n c path (inl refl)) (λ found a.
      let w = walk_path_ok tree path found a in
      then_refuses _ (a_file found.node) _ (file_refused room tree rooted n c w.0 found (record { path = path; is_path = inl refl; named = w.1 }) w.2) (λ f b.
      if_refuses _ (nat_lt largest_size size) replies.TooBig _ (λ t. IsCause.too_large (ltb-true largest_size size t)) (λ e. tt)))

  read_refuses : (path : List ℕ) (off len : ℕ) → Refuses (IsCause room tree n (calls.Read path off len)) (read tree path off len)
  read_refuses path off len =
      let c : Call = calls.Read path off len in
      then_refuses _ (walk_path tree path) _ (path_refuses room tree rooted n c path (inl refl)) (λ found a.
      let w = walk_path_ok tree path found a in
      then_refuses _ (a_file found.node) _ (file_refused room tree rooted n c w.0 found (record { path = path; is_path = inl refl; named = w.1 }) w.2) (λ f b. tt))

  list_refuses : (path : List ℕ) → Refuses (IsCause room tree n (calls.List path)) (list tree path)
  list_refuses path =
      let c : Call = calls.List path in
      then_refuses _ (walk_path tree path) _ (path_refuses room tree rooted n c path (inl refl)) (λ found a.
      let w = walk_path_ok tree path found a in
      then_refuses _ (a_directory found.node) _ (directory_refused room tree rooted n c w.0 found (record { path = path; is_path = inl refl; named = w.1 }) w.2) (λ d b. tt))

  barrier_refuses : (c : Call) (path : List ℕ) → In path (paths_of c) → Refuses (IsCause room tree n c) (barrier tree path)
  barrier_refuses c path i = then_refuses _ (walk_path tree path) _ (path_refuses room tree rooted n c path i) (λ found a. tt)

  stat_node_refuses : (c : Call) (names : List (List ℕ)) → NamesOf c names → (birth : ℕ) (node : Node) → LeadsTo tree names birth node → Refuses (IsCause room tree n c) (stat_of tree node)
  stat_node_refuses c names named birth (nodes.Directory d) l = tt
  stat_node_refuses c names named birth (nodes.File f) l = tt
  stat_node_refuses c names named birth (nodes.Other mode) l = IsCause.other_kind names named birth mode l

  stat_refuses : (path : List ℕ) → Refuses (IsCause room tree n (calls.Stat path)) (stat tree path)
  stat_refuses path =
      let c : Call = calls.Stat path in
      then_refuses _ (walk_path tree path) _ (path_refuses room tree rooted n c path (inl refl)) (λ found a.
      let w = walk_path_ok tree path found a in
      then_refuses _ (stat_of tree found.node) _
      (stat_node_refuses c w.0 (record { path = path; is_path = inl refl; named = w.1 }) found.birth found.node (record { path = w.2.path; stands = w.2.stands })) (λ reply b. tt))

  -- ---- the row of `rename`

  root_refuses : (path other : List ℕ) (names more : List (List ℕ)) → NamesOf (calls.Rename path other) names → NamesOf (calls.Rename path other) more → (is_root names || is_root more) ≡ true →
      IsCause room tree n (calls.Rename path other) replies.Invalid
  root_refuses path other [] more first second t = IsCause.root first replies.Invalid refl
  root_refuses path other (name ∷ names) [] first second t = IsCause.root second replies.Invalid refl
  root_refuses path other (name ∷ names) (next ∷ more) first second t = absurd (false≢true t)

  directory_is : (node : Node) → is_directory (Some node) ≡ true → (d : Directory) × (node ≡ nodes.Directory d)
  directory_is (nodes.Directory d) h = (d, refl)
  directory_is (nodes.File f) h = absurd (false≢true h)
  directory_is (nodes.Other mode) h = absurd (false≢true h)

  file_is : (node : Node) → is_file (Some node) ≡ true → (f : File) × (node ≡ nodes.File f)
  file_is (nodes.File f) h = (f, refl)
  file_is (nodes.Directory d) h = absurd (false≢true h)
  file_is (nodes.Other mode) h = absurd (false≢true h)

  -- what stands at a place is named there
  target_named : (p : Place) (t : Found) → target_at tree p ≡ Some t → at_name p.directory.names p.name ≡ Some t.birth
  target_named p t h = by (at_name p.directory.names p.name) h
    where
      inner : (birth : ℕ) (node : Option Node) → ◌≡◌ {A = Option Found} (elim node as (λ _. Option Found) [ None ↦ None | Some x ↦ Some (record { birth = birth; node = x }) ]) (Some t) → birth ≡ t.birth
      inner birth None h = absurd (none-some t h)
      inner birth (Some node) h = ap (λ (t : Found). t.birth) (same_Some (record { birth = birth; node = node }) t h)

      by : (o : Option ℕ) →
          ◌≡◌ {A = Option Found}
          (elim o as (λ _. Option Found) [ None ↦ None | Some birth ↦ elim (at_number tree birth) as (λ _. Option Found) [ None ↦ None | Some x ↦ Some (record { birth = birth; node = x }) ] ])
          (Some t) → o ≡ Some t.birth
      by None h = absurd (none-some t h)
      by (Some birth) h = ap Some (inner birth (at_number tree birth) h)

  -- what is known of a move where it is tested
  record IsMove (path other : List ℕ) (m : Move) : Type 0 where
    names : List (List ℕ)
    more : List (List ℕ)
    first : NamesOf (calls.Rename path other) names
    second : NamesOf (calls.Rename path other) more
    named : path_of path ≡ Some names
    other_named : path_of other ≡ Some more
    found : IsFound tree names m.moved
    to : IsPlace tree more m.to
    target : m.target ≡ target_at tree m.to

  module _ (path other : List ℕ) (m : Move) (h : IsMove path other m) where
    abbrev Why : Reply → Type 0
    Why reply = IsCause room tree n (calls.Rename path other) reply

    is_moved : (node : Node) → m.moved.node ≡ node → IsMoved tree path m.moved.birth node
    is_moved node e = record { names = h.names; named = h.named; leads = record { path = h.found.path; stands = h.found.stands ∙ ap Some e } }

    is_met : (t : Found) → m.target ≡ Some t → (node : Node) → t.node ≡ node → IsMet tree other t.birth node
    is_met t e node same =
        let at : target_at tree m.to ≡ Some t = sym h.target ∙ e in
        record {
          names = h.more;
          named = h.other_named;
          directory = m.to.directory;
          name = m.to.name;
          within = in_directory room tree rooted n (calls.Rename path other) h.more m.to h.to;
          has = target_named m.to t at;
          stands = target_stands tree m.to t at ∙ ap Some same;
        }

    meets_directory_by : (target : Option Found) → m.target ≡ target → (b : Bool) → moves_directory m ≡ b →
        (elim target as (λ _. Bool) [ None ↦ false | Some t ↦ is_directory (Some t.node) && not (t.birth == m.moved.birth) ]) ≡ true → Why (if b then replies.Exists else replies.IsDir)
    meets_directory_by None e b k t = absurd (false≢true t)
    meets_directory_by (Some t) e true k both =
        let parts = and_parts (is_directory (Some t.node)) (not (t.birth == m.moved.birth)) both in
        let there = directory_is t.node parts.0 in
        let moved = directory_is m.moved.node k in
        IsCause.directory_there path other refl m.moved.birth t.birth moved.0 there.0 (is_moved _ moved.1) (is_met t e _ there.1)
        (λ same. eqb-false t.birth m.moved.birth (not-true (t.birth == m.moved.birth) parts.1) (sym same))
    meets_directory_by (Some t) e false k both =
        let parts = and_parts (is_directory (Some t.node)) (not (t.birth == m.moved.birth)) both in
        let there = directory_is t.node parts.0 in
        IsCause.directory_met path other refl m.moved.birth t.birth m.moved.node there.0 (is_moved m.moved.node refl) k (is_met t e _ there.1)

    meets_file_by : (target : Option Found) → m.target ≡ target → (elim target as (λ _. Bool) [ None ↦ false | Some t ↦ is_file (Some t.node) ]) ≡ true → moves_directory m ≡ true → Why replies.NotDir
    meets_file_by None e t k = absurd (false≢true t)
    meets_file_by (Some t) e f k =
        let there = file_is t.node f in
        let moved = directory_is m.moved.node k in
        IsCause.file_met path other refl m.moved.birth t.birth moved.0 there.0 (is_moved _ moved.1) (is_met t e _ there.1)

    slots_after : (b : Bool) → most_slots (if b then m.to.directory else without_name m.to.directory m.from.name).width ≤ (if b then m.to.directory else without_name m.to.directory m.from.name).slots → most_slots m.to.directory.width ≤ m.to.directory.slots
    slots_after true le = le
    slots_after false le = le

    move_refuses : Refuses Why (rename_to tree m)
    move_refuses =
        if_refuses Why (meets_directory m) _ _ (λ t. meets_directory_by m.target refl (moves_directory m) refl t) (λ a.
        if_refuses Why (meets_file m && moves_directory m) replies.NotDir _
        (λ t. let parts = and_parts (meets_file m) (moves_directory m) t in meets_file_by m.target refl parts.0 parts.1) (λ b.
        if_refuses Why (moves_directory m && (changes_parent m && (directory_links tree m.to.directory == most_links))) replies.TooManyLinks _
        (λ t.
        let parts = and_parts (moves_directory m) _ t in
        let links = and_parts (changes_parent m) _ parts.1 in
        links_refuse room tree rooted n (calls.Rename path other) h.more m.to h.second h.to links.1) (λ e.
        if_refuses Why (is_none m.target && is_full (place_after m).directory) replies.TooBig _
        (λ t.
        let parts = and_parts (is_none m.target) _ t in
        let slots = leb-true (most_slots (place_after m).directory.width) (place_after m).directory.slots (and_parts (needs_slot (place_after m).directory) _ parts.1).1 in
        IsCause.full h.more m.to.directory m.to.name h.second (in_directory room tree rooted n (calls.Rename path other) h.more m.to h.to) (slots_after (changes_parent m) slots)) (λ f. tt))))

  rename_refuses : (path other : List ℕ) → Refuses (IsCause room tree n (calls.Rename path other)) (rename tree path other)
  unfolding names_of
  rename_refuses path other =
      let c : Call = calls.Rename path other in
      then_refuses _ (names_in path) _ (names_refuse room tree rooted n c path (inl refl)) (λ names a.
      then_refuses _ (names_in other) _ (names_refuse room tree rooted n c other (inr (inl refl))) (λ more b.
      let first = names_of room tree rooted n c path names (inl refl) a in
      let second = names_of room tree rooted n c other more (inr (inl refl)) b in
      if_refuses _ (is_root names || is_root more) replies.Invalid _ (root_refuses path other names more first second) (λ e.
      then_refuses _ (walk tree names) _ (walk_refuses room tree rooted n c names names first (whole room tree rooted n c names)) (λ found f.
      let w = walk_ok tree names found f in
      then_refuses _ (parent_of replies.Invalid tree names) _ (parent_refuses room tree rooted n c replies.Invalid names refl first) (λ from g.
      then_refuses _ (parent_of replies.Invalid tree more) _ (parent_refuses room tree rooted n c replies.Invalid more refl second) (λ to h.
      if_refuses _ (is_directory (Some found.node) && list_any (λ birth. birth == found.birth) (above tree 0 more)) replies.Invalid _
      (λ t.
      let parts = and_parts (is_directory (Some found.node)) _ t in
      let d = directory_is found.node parts.0 in
      let x = above_leads tree 0 found.birth more parts.1 in
      let stands : at_number tree found.birth ≡ Some (nodes.Directory d.0) = w.stands ∙ ap Some d.1 in
      IsCause.below_itself path other refl more x.front x.rest x.name second.named x.names_are found.birth d.0
      (record { path = x.led; stands = stands })
      (record { names = names; named = first.named; leads = record { path = w.path; stands = stands } }))
      (λ i.
      move_refuses path other (record { moved = found; from = from; to = to; target = target_at tree to })
      (record {
        names = names;
        more = more;
        first = first;
        second = second;
        named = some_ok (path_of path) replies.BadPath names a;
        other_named = some_ok (path_of other) replies.BadPath more b;
        found = w;
        to = parent_ok replies.Invalid tree more to h;
        target = refl;
      }))))))))

  -- ---- all rows

  pub row_refuses : (c : Call) → Refuses (IsCause room tree n c) (row tree n c)
  unfolding row
  row_refuses (calls.Mkdir path) = mkdir_refuses path
  row_refuses (calls.Create path) = create_refuses path
  row_refuses (calls.Rmdir path) = rmdir_refuses path
  row_refuses (calls.Unlink path) = unlink_refuses path
  row_refuses (calls.Link path other) = link_refuses path other
  row_refuses (calls.Rename path other) = rename_refuses path other
  row_refuses (calls.Write path off len value) =
      write_refuses (calls.Write path off len value) path off (replicate len value) (inl refl) (ap (λ k. off + k) (length-replicate len value))
  row_refuses (calls.Bytes path off bytes) = write_refuses (calls.Bytes path off bytes) path off bytes (inl refl) refl
  row_refuses (calls.Truncate path size) = truncate_refuses path size
  row_refuses (calls.Read path off len) = read_refuses path off len
  row_refuses (calls.List path) = list_refuses path
  row_refuses (calls.Stat path) = stat_refuses path
  row_refuses (calls.Fsync path) = barrier_refuses (calls.Fsync path) path (inl refl)
  row_refuses (calls.Fdatasync path) = barrier_refuses (calls.Fdatasync path) path (inl refl)
  row_refuses (calls.Fbarrier path) = barrier_refuses (calls.Fbarrier path) path (inl refl)
  row_refuses (calls.Fdatabarrier path) = barrier_refuses (calls.Fdatabarrier path) path (inl refl)
  row_refuses calls.Sync = tt

  pub outcome_refuses : (c : Call) → Refuses (IsCause room tree n c) (outcome room tree n c)
  unfolding outcome
  outcome_refuses c =
      then_refuses _ (row tree n c) (if_room room tree) (row_refuses c) (λ d h.
      if_refuses _ (d.takes_inode && nat_le room.inodes (length tree)) replies.NoInode _
      (λ t. IsCause.no_inode (leb-true room.inodes (length tree) (and_parts d.takes_inode _ t).1))
      (λ a. if_refuses _ (nat_lt (room.capacity - used_zones tree) (used_zones d.tree - used_zones tree)) replies.NoSpace _
      (λ t. IsCause.no_space d h (ltb-true (room.capacity - used_zones tree) (used_zones d.tree - used_zones tree) t)) (λ b. tt)))

  refused_by : (c : Call) (r : Row) → Refuses (IsCause room tree n c) r → (reply : Reply) → r ≡ Err reply → IsCause room tree n c reply
  refused_by c (Err q) h reply e = subst (IsCause room tree n c) (let k : ◌≡◌ {A = Row} (Err q) (Err reply) = e in cc) h
  refused_by c (Ok d) h reply e = absurd (let k : ◌≡◌ {A = Row} (Ok d) (Err reply) = e in cc)

  -- each refusal has its cause
  pub refused_for : (c : Call) (reply : Reply) → outcome room tree n c ≡ Err reply → IsCause room tree n c reply
  refused_for c reply e = refused_by c (outcome room tree n c) (outcome_refuses c) reply e

-- ---- a refusal is not Ok

root_not_ok : (c : Call) (reply : Reply) → root_reply c ≡ Some reply → is_ok reply ≡ false
root_not_ok (calls.Mkdir path) reply h = sym (ap is_ok (same_Some replies.Exists reply h))
root_not_ok (calls.Create path) reply h = sym (ap is_ok (same_Some replies.Exists reply h))
root_not_ok (calls.Link path other) reply h = sym (ap is_ok (same_Some replies.Exists reply h))
root_not_ok (calls.Rmdir path) reply h = sym (ap is_ok (same_Some replies.Invalid reply h))
root_not_ok (calls.Unlink path) reply h = sym (ap is_ok (same_Some replies.Invalid reply h))
root_not_ok (calls.Rename path other) reply h = sym (ap is_ok (same_Some replies.Invalid reply h))
root_not_ok (calls.Truncate path size) reply h = absurd (none-some reply h)
root_not_ok (calls.Write path off len value) reply h = absurd (none-some reply h)
root_not_ok (calls.Bytes path off bytes) reply h = absurd (none-some reply h)
root_not_ok (calls.Read path off len) reply h = absurd (none-some reply h)
root_not_ok (calls.List path) reply h = absurd (none-some reply h)
root_not_ok (calls.Stat path) reply h = absurd (none-some reply h)
root_not_ok (calls.Fsync path) reply h = absurd (none-some reply h)
root_not_ok (calls.Fdatasync path) reply h = absurd (none-some reply h)
root_not_ok (calls.Fbarrier path) reply h = absurd (none-some reply h)
root_not_ok (calls.Fdatabarrier path) reply h = absurd (none-some reply h)
root_not_ok calls.Sync reply h = absurd (none-some reply h)

walk_not_ok : (refusal : Refusal) → is_ok (refused_walk refusal) ≡ false
walk_not_ok not_directory = refl
walk_not_ok name_too_long = refl
walk_not_ok not_found = refl

pub cause_not_ok : (room : Room) (tree : Tree) (n : ℕ) (c : Call) (reply : Reply) → IsCause room tree n c reply → is_ok reply ≡ false
cause_not_ok room tree n c _ (IsCause.no_path path i e) = refl
cause_not_ok room tree n c _ (IsCause.root named reply e) = root_not_ok c reply e
cause_not_ok room tree n c _ (IsCause.walk names front named f refusal e) = walk_not_ok refusal
cause_not_ok room tree n c _ (IsCause.no_directory names front named f birth node l d) = refl
cause_not_ok room tree n c _ (IsCause.long_name names d name named i l) = refl
cause_not_ok room tree n c _ (IsCause.named names d name named i birth e) = refl
cause_not_ok room tree n c _ (IsCause.no_file names named birth node l f) = refl
cause_not_ok room tree n c _ (IsCause.other_kind names named birth mode l) = refl
cause_not_ok room tree n c _ (IsCause.names_left names named birth d l e) = refl
cause_not_ok room tree n c _ (IsCause.directory_linked names d name named i e) = refl
cause_not_ok room tree n c _ (IsCause.file_linked names named birth f l e) = refl
cause_not_ok room tree n c _ (IsCause.full names d name named i e) = refl
cause_not_ok room tree n c _ (IsCause.too_large e) = refl
cause_not_ok room tree n c _ (IsCause.no_inode e) = refl
cause_not_ok room tree n c _ (IsCause.no_space d e l) = refl
cause_not_ok room tree n c _ (IsCause.below_itself path other e names front rest name named f birth d l m) = refl
cause_not_ok room tree n c _ (IsCause.directory_there path other e a b d f m t h) = refl
cause_not_ok room tree n c _ (IsCause.directory_met path other e a b node d m h t) = refl
cause_not_ok room tree n c _ (IsCause.file_met path other e a b d f m t) = refl
