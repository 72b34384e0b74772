-- A call keeps a tree plain: nodes that are made.
use Rattle.std.specs.Prelude.{⊤, length, ◌⊎◌, ◌≤◌, ◌≡◌, ◌≢◌, ℕ, ◌+◌, ◌==◌, Bool, true, false, if◌then◌else◌, List, [], ◌∷◌, Option, Some, None, Ok, is_some, codes, refl}
use Rattle.std.proofs.Common.{sym, ap, subst, ◌∙◌, inl, inr, ⊎_elim, arith}
use Rattle.std.specs.List.{list_all, slice_split}
use Rattle.std.specs.Str.{bytes_eq}
use Rattle.std.proofs.lemmas.Bool.{cases_eq, cases_lt, true≢false, false≢true, and_parts}
use Rattle.std.proofs.lemmas.Option.{none-some, same_Some}
use Rattle.tree_model.specs.declared.node.Node.{Node}
use Rattle.tree_model.specs.declared.node.Node.TheVariants as nodes
use Rattle.tree_model.specs.declared.node.Directory.{Directory}
use Rattle.tree_model.specs.Maps.{at_number, at_name, put_number}
use Rattle.tree_model.specs.laws.MapsLaws.{at_put_number, at_put_number_apart, at_put_name_cases}
use Rattle.tree_model.specs.Paths.{is_path_name, names_of_pieces, path_of}
use Rattle.tree_model.specs.laws.Listing.{names_of}
use Rattle.tree_model.specs.Trees.{is_directory, node_of_path}
use Rattle.tree_model.proofs.Effects.{place_leads}
use Rattle.tree_model.specs.Calls.{Tree, Done, Place, last_name, is_named, with_name, without_name, give_name, new_directory, new_file}
use Rattle.tree_model.specs.Plain.{names_to}
use Rattle.tree_model.specs.laws.MapOrder.{at_name_without_found, in_order_put, at_put_cases, NamesInOrder, names_in_order_put}
use Rattle.tree_model.proofs.Rows.{IsPlace}
use Rattle.tree_model.proofs.Changes.{HasNames, IsMade}
use Rattle.tree_model.proofs.Hanging.{IsReached, by_edge, IsGoodName, IsJoined, more_joined, reached_more}
use Rattle.tree_model.proofs.Plain.{IsOfWidth, whole_plain, edge_of, up_of, seen_of, links_of, is_other, IsWhole, one_for, one_at, one_for_here, one_for_other, counted_edge}
use Rattle.tree_model.proofs.Edits.{IsLike, like_chain, like_stays, like_put_apart, each_put, edge_put_same, give_here, give_split, give_kept, give_like, give_counts, put_counts}

-- ---- names of paths

pieces_plain : (pieces names : List (List ℕ)) → names_of_pieces pieces ≡ Some names → list_all is_path_name names ≡ true
pieces_plain [] names h = absurd (none-some names h)
pieces_plain ([] ∷ []) names h = absurd (none-some names h)
pieces_plain ([] ∷ name ∷ more) names h = by (list_all is_path_name (name ∷ more)) refl h
  where
    by : (b : Bool) → list_all is_path_name (name ∷ more) ≡ b → ◌≡◌ {A = Option (List (List ℕ))} (if b then Some (name ∷ more) else None) (Some names) → list_all is_path_name names ≡ true
    by true e h = ap (list_all is_path_name) (sym (same_Some (name ∷ more) names h)) ∙ e
    by false e h = absurd (none-some names h)
pieces_plain ((x ∷ xs) ∷ more) names h = absurd (none-some names h)

path_plain : (path : List ℕ) (names : List (List ℕ)) → path_of path ≡ Some names → list_all is_path_name names ≡ true
unfolding path_of
path_plain path names h = by (bytes_eq path (codes "/")) h
  where
    by : (b : Bool) → ◌≡◌ {A = Option (List (List ℕ))} (if b then Some [] else names_of_pieces (slice_split (λ b. b == 47) path)) (Some names) → list_all is_path_name names ≡ true
    by true h = ap (list_all is_path_name) (sym (same_Some [] names h))
    by false h = pieces_plain (slice_split (λ b. b == 47) path) names h

last_plain : (name : List ℕ) (names : List (List ℕ)) → list_all is_path_name (name ∷ names) ≡ true → is_path_name (last_name name names) ≡ true
last_plain name [] h = (and_parts (is_path_name name) true h).0
last_plain name (next ∷ names) h = last_plain next names (and_parts (is_path_name name) (list_all is_path_name (next ∷ names)) h).1

pub good_name : (tree : Tree) (path : List ℕ) (names : List (List ℕ)) (p : Place) → HasNames path names → IsPlace tree names p → IsGoodName p.name
good_name tree path names p named h = record {
  plain = ap is_path_name (sym h.name_is) ∙ last_plain h.first h.rest (ap (list_all is_path_name) (sym h.names_are) ∙ path_plain path names named);
}

-- ---- links of files

pub links_through : (t : Tree) (p : ℕ) (d : Directory) (c l : ℕ) → links_of (at_number (put_number t p (nodes.Directory d)) c) ≡ Some l → links_of (at_number t c) ≡ Some l
links_through t p d c l = at_put_cases (λ o. links_of o ≡ Some l → links_of (at_number t c) ≡ Some l) t p (nodes.Directory d) c (λ e h. absurd (none-some l h)) (λ apart h. h)

-- a node to which no name leads has none
pub names_none : (tree : Tree) → IsWhole tree → (b : ℕ) → ((p : ℕ) (m : List ℕ) → edge_of tree p m ≡ Some b → ⊥) → names_to tree b ≡ 0
names_none tree w b none =
    ⊎_elim
    (λ lt. omega arith)
    (λ some. let x = counted_edge tree b w.in_order w.sorted some in absurd (none x.0 x.1 x.2))
    (cases_lt (names_to tree b) 1)

pub no_name : (p : Place) → is_named p ≡ false → (b : ℕ) → at_name p.directory.names p.name ≡ Some b → ⊥
no_name p free b e = true≢false (sym (ap is_some e) ∙ free)

pub none_named : (o : Option ℕ) → is_some o ≡ false → (c : ℕ) → one_for c o ≡ 0
none_named (Some b) h c = absurd (true≢false h)
none_named None h c = refl

-- the names of a directory at a place
pub place_sorted : (tree : Tree) → IsWhole tree → (names : List (List ℕ)) (p : Place) → IsPlace tree names p → NamesInOrder p.directory.names
place_sorted tree w names p h = subst (λ o. NamesInOrder (names_of o)) h.stands (w.sorted p.parent)

-- the width of a directory at a place
pub place_of_width : (tree : Tree) (w : IsWhole tree) (names : List (List ℕ)) (p : Place) → IsPlace tree names p → IsOfWidth w.width (Some (nodes.Directory p.directory))
place_of_width tree w names p h = subst (IsOfWidth w.width) h.stands (w.of_width p.parent)

-- one name more, and one less
pub of_width_with : (width : ℕ) (d : Directory) (name : List ℕ) (birth : ℕ) → IsOfWidth width (Some (nodes.Directory d)) → length name ≤ d.width → IsOfWidth width (Some (nodes.Directory (with_name d name birth)))
of_width_with width d name birth h short = (h.0, λ m b named. by m b (at_put_name_cases d.names name birth m b named))
  where
    by : (m : List ℕ) (b : ℕ) → ((name ≡ m) × (birth ≡ b)) ⊎ (at_name d.names m ≡ Some b) → length m ≤ width
    by m b (inl same) = (let long : length m ≡ length name = ap length (sym same.0) in let own = h.0 in omega arith)
    by m b (inr old) = h.1 m b old

pub of_width_without : (width : ℕ) (d : Directory) (name : List ℕ) → NamesInOrder d.names → IsOfWidth width (Some (nodes.Directory d)) → IsOfWidth width (Some (nodes.Directory (without_name d name)))
of_width_without width d name sorted h = (h.0, λ m b named. h.1 m b (at_name_without_found d.names name m b sorted named).1)

-- a directory without names
pub of_width_empty : (width : ℕ) (node : Node) → ((d : Directory) → node ≡ nodes.Directory d → d.width ≡ width) → names_of (Some node) ≡ [] → IsOfWidth width (Some node)
of_width_empty width (nodes.Directory d) wide empty = (wide d refl, λ m b named. absurd (none-some b (sym (ap (λ names. at_name names m) empty) ∙ named)))
of_width_empty width (nodes.File f) wide empty = tt
of_width_empty width (nodes.Other mode) wide empty = tt

-- ---- a new node

pub record IsNewNode (width parent : ℕ) (node : Node) : Type 0 where
  pub wide : (d : Directory) → node ≡ nodes.Directory d → d.width ≡ width
  pub empty : names_of (Some node) ≡ []
  pub known : is_other (Some node) ≡ false
  pub up : is_directory (Some node) ≡ true → up_of (Some node) ≡ Some parent
  pub links : (l : ℕ) → links_of (Some node) ≡ Some l → l ≡ 1

pub directory_is_new : (width parent w p : ℕ) → p ≡ parent → w ≡ width → IsNewNode w p (new_directory width parent)
directory_is_new width parent w p same same_width = record { wide = λ d e. ap width_or (sym e) ∙ sym same_width; empty = refl; known = refl; up = λ t. ap Some (sym same); links = λ l h. absurd (none-some l h) }
  where
    width_or : Node → ℕ
    width_or (nodes.Directory d) = d.width
    width_or other = 0

pub file_is_new : (width parent : ℕ) → IsNewNode width parent new_file
file_is_new width parent = record { wide = λ d e. absurd (let k : new_file ≡ nodes.Directory d = e in cc); empty = refl; known = refl; up = λ t. absurd (false≢true t); links = λ l h. sym (same_Some 1 l h) }

module _ (tree : Tree) (w : IsWhole tree) (n : ℕ) (node : Node) (d : Done) (m : IsMade tree n node d) (born : at_number tree n ≡ None) (new : IsNewNode m.place.directory.width m.place.parent node) where
  abbrev P : Place
  P = m.place

  abbrev First : Tree
  First = put_number tree n node

  abbrev After : Tree
  After = give_name First P n

  parent_apart : P.parent ≢ n
  parent_apart e = none-some (nodes.Directory P.directory) (sym born ∙ (ap (at_number tree) (sym e) ∙ m.is_place.stands))

  pub first_stands : at_number First P.parent ≡ Some (nodes.Directory P.directory)
  first_stands = at_put_number_apart tree n node P.parent parent_apart ∙ m.is_place.stands

  pub first_edge : (q : ℕ) (k : List ℕ) → edge_of First q k ≡ edge_of tree q k
  first_edge q k = edge_put_same tree n node (new.empty ∙ sym (ap names_of born)) q k

  pub at_new : at_number After n ≡ Some node
  at_new = at_put_number_apart First P.parent (nodes.Directory (with_name P.directory P.name n)) n (λ e. parent_apart (sym e)) ∙ at_put_number tree n node

  there_apart : (c : ℕ) → is_some (at_number tree c) ≡ true → c ≢ n
  there_apart c t e = true≢false (sym t ∙ (ap (λ j. is_some (at_number tree j)) e ∙ ap is_some born))

  like : (c : ℕ) → c ≢ n → IsLike (at_number tree c) (at_number After c)
  like c apart = like_chain (at_number tree c) (at_number First c) (at_number After c) (like_put_apart tree n node c apart) (give_like First P first_stands n c)

  edge_there : (q : ℕ) (k : List ℕ) (c : ℕ) → edge_of tree q k ≡ Some c → c ≢ n
  edge_there q k c e = there_apart c (w.joined.leads q k c e)

  root_there : 0 ≢ n
  root_there = there_apart 0 (root_some (at_number tree 0) w.joined.root)
    where
      root_some : (o : Option Node) → is_directory o ≡ true → is_some o ≡ true
      root_some (Some node) h = refl
      root_some None h = absurd (false≢true h)

  pub made_kept : (q : ℕ) (k : List ℕ) (c : ℕ) → edge_of tree q k ≡ Some c → edge_of After q k ≡ Some c
  made_kept q k c e =
      give_kept First P first_stands n q k c (first_edge q k ∙ e)
      (λ at. no_name P m.free c (sym (ap (λ o. at_name (names_of o) P.name) m.is_place.stands) ∙ (sym (ap (λ j. edge_of tree j P.name) at.0) ∙ (sym (ap (edge_of tree q) at.1) ∙ e))))

  made_joined : IsJoined (edge_of After) (seen_of After)
  made_joined =
      more_joined (edge_of tree) (edge_of After) (seen_of tree) (seen_of After) (λ q k. ⊤) P.parent P.name n w.joined
      (record {
        good = good_name tree m.path m.names P m.named m.is_place;
        there = ap is_some at_new;
        no_root = λ e. root_there (sym e);
        alone = λ t q k e kept. edge_there q k n e refl;
        up = λ t. ap up_of at_new ∙ new.up (sym (ap is_directory at_new) ∙ t);
      })
      (λ q k c e.
      ⊎_elim inl
      (λ x. let old : edge_of tree q k ≡ Some c = sym (first_edge q k) ∙ x.0 in inr (record { was = old; kept = tt; stays = like_stays tree After c (like c (edge_there q k c old)) }))
      (give_split First P first_stands n q k c e))
      (like_stays tree After 0 (like 0 root_there))

  made_reached : (c : ℕ) → is_some (at_number After c) ≡ true → IsReached (edge_of After) c
  made_reached c t =
      ⊎_elim
      (λ e.
      let up : IsReached (edge_of After) P.parent = reached_more (edge_of tree) (edge_of After) made_kept P.parent (w.reached P.parent (ap is_some m.is_place.stands)) in
      subst (IsReached (edge_of After)) (sym e) (by_edge up (give_here First P first_stands n)))
      (λ apart. reached_more (edge_of tree) (edge_of After) made_kept c (w.reached c (sym (like c apart).there ∙ t)))
      (cases_eq c n)

  made_counts : (c : ℕ) → names_to After c ≡ names_to tree c + one_at n c
  made_counts c =
      let a = give_counts First P first_stands n c (in_order_put tree n node w.in_order) (place_sorted tree w m.names P m.is_place) in
      let b = put_counts tree n node c w.in_order (ap names_of born) new.empty in
      let e = none_named (at_name P.directory.names P.name) m.free c in
      omega arith

  made_links : (c l : ℕ) → links_of (at_number After c) ≡ Some l → l ≡ names_to After c
  made_links c l h =
      let count = made_counts c in
      ⊎_elim
      (λ e.
      let one : l ≡ 1 = new.links l (sym (ap links_of at_new) ∙ (sym (ap (λ j. links_of (at_number After j)) e) ∙ h)) in
      let none : names_to tree c ≡ 0 = names_none tree w c (λ q k f. edge_there q k c f e) in
      let here : one_at n c ≡ 1 = ap (one_at n) e ∙ one_for_here n in
      omega arith)
      (λ apart.
      let first = links_through First P.parent (with_name P.directory P.name n) c l h in
      let old = w.links c l (sym (ap links_of (at_put_number_apart tree n node c apart)) ∙ first) in
      let other : one_at n c ≡ 0 = one_for_other n c (λ e. apart (sym e)) in
      omega arith)
      (cases_eq c n)

  pub made_whole : IsWhole d.tree
  made_whole = subst IsWhole (sym m.tree_is) (record {
    width = w.width;
    of_width = each_put (IsOfWidth w.width) First P.parent _ (of_width_with w.width P.directory P.name n (place_of_width tree w m.names P m.is_place) m.is_place.short)
        (each_put (IsOfWidth w.width) tree n node (of_width_empty w.width node (λ d e. new.wide d e ∙ (place_of_width tree w m.names P m.is_place).0) new.empty) w.of_width);
    in_order = in_order_put First P.parent _ (in_order_put tree n node w.in_order);
    sorted = each_put (λ o. NamesInOrder (names_of o)) First P.parent _ (names_in_order_put P.directory.names P.name n (place_sorted tree w m.names P m.is_place))
        (each_put (λ o. NamesInOrder (names_of o)) tree n node (subst NamesInOrder (ap names_of born ∙ sym new.empty) (w.sorted n)) w.sorted);
    joined = made_joined;
    reached = made_reached;
    links = made_links;
    known = each_put (λ o. is_other o ≡ false) First P.parent _ refl (each_put (λ o. is_other o ≡ false) tree n node new.known w.known);
  })

  -- the new name leads to the new node
  pub made_leads : node_of_path d.tree m.names ≡ Ok n
  made_leads =
      place_leads tree d.tree (whole_plain d.tree made_whole).rooted
      (λ q k c e. subst (λ t. edge_of t q k ≡ Some c) (sym m.tree_is) (made_kept q k c e))
      m.names P m.is_place n (subst (λ t. edge_of t P.parent P.name ≡ Some n) (sym m.tree_is) (give_here First P first_stands n))
