-- A call keeps a tree plain: nodes that move.
use Rattle.std.specs.Prelude.{length, ◌≡◌, ◌≢◌, ◌≤◌, ℕ, ◌+◌, ◌-◌, ◌==◌, ◌⊎◌, Bool, true, false, not, ◌&&◌, ◌||◌, if◌then◌else◌, nat_le, List, [], ◌∷◌, Option, Some, None, Ok, Err, is_some, unwrap_or, option_map, refl}
use Rattle.std.proofs.Common.{sym, ap, subst, ◌∙◌, inl, inr, ⊎_elim, arith}
use Rattle.std.specs.List.{list_any}
use Rattle.std.proofs.lemmas.Bool.{cases_Bool, cases_eq, true≢false, false≢true, leb-true, leb-false, eq-eqb, eqb-true, eqb-false, ne_eqb, and_from, and_cases, or_left, or_right}
use Rattle.std.proofs.lemmas.Option.{none-some, same_Some}
use Rattle.tree_model.specs.declared.node.Node.{Node}
use Rattle.tree_model.specs.declared.node.Node.TheVariants as nodes
use Rattle.tree_model.specs.declared.node.Directory.{Directory}
use Rattle.tree_model.specs.declared.node.File.{File}
use Rattle.tree_model.specs.Maps.{at_number, at_name, put_number, without_number}
use Rattle.tree_model.specs.laws.MapsLaws.{at_put_number, at_put_number_apart}
use Rattle.tree_model.specs.laws.Listing.{names_of}
use Rattle.tree_model.specs.Trees.{is_directory, step_at, led_to}
use Rattle.tree_model.specs.Calls.{Tree, Done, Found, Place, Move, a_file, all_but_last, above, is_file, with_name, without_name, give_name, take_name, put_file, with_links, lose_link, without_target, target_at, moves_directory, meets_directory, meets_file, stays, place_after, moved_node, tree_moved}
use Rattle.tree_model.specs.CallWords.{HasLinkLess}
use Rattle.tree_model.specs.Plain.{names_in_node, names_to}
use Rattle.tree_model.specs.laws.Alike.{same_ok, step_gives, led_parts}
use Rattle.tree_model.specs.laws.MapOrder.{InOrder, in_order_put, in_order_without, at_without_here, at_without_apart, NamesInOrder, names_in_order_put, names_in_order_without, at_name_without_apart}
use Rattle.tree_model.proofs.Rows.{place_names}
use Rattle.tree_model.proofs.Changes.{IsRenamed}
use Rattle.tree_model.proofs.Blocks.{target_stands}
use Rattle.tree_model.proofs.Hanging.{Edges, IsReached, top, by_edge, IsJoined, more_joined, reached_without, reached_around}
use Rattle.tree_model.proofs.Plain.{IsOfWidth, edge_of, up_of, seen_of, links_of, is_other, IsWhole, one_for, one_at, one_for_here, one_for_other, edge_counts, counted_edge, names_at, names_to_put, gives_edge}
use Rattle.tree_model.proofs.Edits.{IsLike, like_itself, like_chain, like_file, like_stays, like_put, like_put_apart, each_put, each_without, IsAt, at_or_apart, edge_put_same, edge_without, give_here, give_split, give_kept, give_like, take_split, take_kept, take_like, give_counts, take_counts, put_counts, without_counts}
use Rattle.tree_model.proofs.PlainCalls.{place_of_width, of_width_with, of_width_without, good_name, links_through, place_sorted}
use Rattle.tree_model.proofs.PlainNames.{names_moved, links_moved, directory_not_file, taken_counts, taken_order, taken_names_in_order}

-- ---- nodes that move

-- it is of the same kind
other_moved : (parent : ℕ) (node : Node) → is_other (Some (moved_node parent node)) ≡ is_other (Some node)
other_moved parent (nodes.Directory d) = refl
other_moved parent (nodes.File f) = refl
other_moved parent (nodes.Other mode) = refl

pub directory_moved : (parent : ℕ) (node : Node) → is_directory (Some (moved_node parent node)) ≡ is_directory (Some node)
directory_moved parent (nodes.Directory d) = refl
directory_moved parent (nodes.File f) = refl
directory_moved parent (nodes.Other mode) = refl

up_moved : (parent : ℕ) (node : Node) → is_directory (Some (moved_node parent node)) ≡ true → up_of (Some (moved_node parent node)) ≡ Some parent
up_moved parent (nodes.Directory d) t = refl
up_moved parent (nodes.File f) t = absurd (false≢true t)
up_moved parent (nodes.Other mode) t = absurd (false≢true t)

count_moved : (parent : ℕ) (node : Node) (c : ℕ) → names_in_node c (moved_node parent node) ≡ names_in_node c node
count_moved parent (nodes.Directory d) c = refl
count_moved parent (nodes.File f) c = refl
count_moved parent (nodes.Other mode) c = refl

like_moved : (parent : ℕ) (node : Node) → is_directory (Some node) ≡ false → IsLike (Some node) (Some (moved_node parent node))
like_moved parent (nodes.Directory d) t = absurd (true≢false t)
like_moved parent (nodes.File f) t = like_itself (Some (nodes.File f))
like_moved parent (nodes.Other mode) t = like_itself (Some (nodes.Other mode))

leaf_from : (node : Node) → is_directory (Some node) ≡ false → names_of (Some node) ≡ []
leaf_from (nodes.Directory d) t = absurd (true≢false t)
leaf_from (nodes.File f) t = refl
leaf_from (nodes.Other mode) t = refl

-- no node is its own parent
no_own_parent : (edge : Edges) (b : ℕ) → b ≢ 0 → ((p : ℕ) (m : List ℕ) → edge p m ≡ Some b → p ≡ b) → (c : ℕ) → IsReached edge c → c ≡ b → ⊥
no_own_parent edge b root own _ top e = root (sym e)
no_own_parent edge b root own _ (by_edge {parent = p} {birth = c} {name = m} h e) same = no_own_parent edge b root own p h (own p m (e ∙ ap Some same))

-- ---- the way to a parent

parent_above : (tree : Tree) (start parent : ℕ) (name : List ℕ) (names : List (List ℕ)) → led_to tree start (all_but_last name names) ≡ Ok parent → list_any (λ b. b == parent) (above tree start (name ∷ names)) ≡ true
parent_above tree start parent name [] h = or_left (start == parent) _ (eq-eqb start parent (same_ok start parent h))
parent_above tree start parent name (next ∷ names) h =
    let x = led_parts tree (step_at (at_number tree start) name) (all_but_last next names) parent h in
    or_right (start == parent) _
    (subst (λ r. list_any (λ b. b == parent) (elim r as (λ _. List ℕ) [ Err refusal ↦ [] | Ok n ↦ above tree n (next ∷ names) ]) ≡ true) (sym x.1)
    (parent_above tree x.0 parent next names x.2))

-- a way that does not pass b is still there
way_stays : (tree : Tree) (more : Edges) (b : ℕ) → ((q : ℕ) (k : List ℕ) (c : ℕ) → edge_of tree q k ≡ Some c → c ≢ b → more q k ≡ Some c) →
    (start parent : ℕ) (name : List ℕ) (names : List (List ℕ)) → led_to tree start (all_but_last name names) ≡ Ok parent → list_any (λ x. x == b) (above tree start (name ∷ names)) ≡ false →
    IsReached more start → IsReached more parent
way_stays tree more b kept start parent name [] h clear r = subst (IsReached more) (same_ok start parent h) r
way_stays tree more b kept start parent name (next ∷ names) h clear r =
    let x = led_parts tree (step_at (at_number tree start) name) (all_but_last next names) parent h in
    let g = gives_edge tree start name x.0 (step_gives tree start name x.0 x.1) in
    let rest : list_any (λ y. y == b) (above tree x.0 (next ∷ names)) ≡ false =
    subst (λ r. list_any (λ y. y == b) (elim r as (λ _. List ℕ) [ Err refusal ↦ [] | Ok n ↦ above tree n (next ∷ names) ]) ≡ false) x.1
    (or_right_false (start == b) _ clear)
    in
    let apart : (x.0 ≢ b) = λ e. true≢false (sym (or_left (x.0 == b) _ (eq-eqb x.0 b e)) ∙ rest) in
    way_stays tree more b kept x.0 parent next names x.2 rest (by_edge r (kept start name x.0 g apart))
  where
    or_right_false : (x y : Bool) → (x || y) ≡ false → y ≡ false
    or_right_false true y h = absurd (true≢false h)
    or_right_false false y h = h

pub of_width_moved : (width parent : ℕ) (node : Node) → IsOfWidth width (Some node) → IsOfWidth width (Some (moved_node parent node))
of_width_moved width parent (nodes.Directory d) h = h
of_width_moved width parent (nodes.File f) h = tt
of_width_moved width parent (nodes.Other mode) h = tt

-- ---- what is left where the old name was taken out and a file at the new one lost a link

pub record IsLeft (tree : Tree) (m : Move) (left : Tree) (width : ℕ) (Lost : ℕ → Type 0) : Type 0 where
  pub of_width : (c : ℕ) → IsOfWidth width (at_number left c)
  pub order : InOrder left
  pub lost_or : (c : ℕ) → Lost c ⊎ (Lost c → ⊥)
  pub apart : (c : ℕ) → (Lost c → ⊥) → at_number left c ≡ at_number (take_name tree m.from) c
  pub edge : (q : ℕ) (k : List ℕ) → edge_of left q k ≡ edge_of (take_name tree m.from) q k
  pub counts : (c : ℕ) → names_to left c ≡ names_to (take_name tree m.from) c
  pub sorted : (c : ℕ) → NamesInOrder (names_of (at_number left c))
  pub known : (c : ℕ) → is_other (at_number left c) ≡ false
  pub met_lost : (c : ℕ) → edge_of tree m.to.parent m.to.name ≡ Some c → Lost c
  pub lost_met : (c : ℕ) → Lost c → edge_of tree m.to.parent m.to.name ≡ Some c
  pub lost_apart : (c : ℕ) → Lost c → c ≢ m.moved.birth
  pub lost_leaf : (c : ℕ) → Lost c → is_directory (at_number tree c) ≡ false
  pub lost_moves : (c : ℕ) → Lost c → is_directory (Some m.moved.node) ≡ false
  pub lost_like : (c : ℕ) → Lost c → (q : ℕ) (k : List ℕ) → edge_of tree q k ≡ Some c → (IsAt m.to.parent m.to.name q k → ⊥) → IsLike (at_number tree c) (at_number left c)
  pub lost_named : (c : ℕ) → Lost c → is_some (at_number left c) ≡ true → (q : ℕ) × (k : List ℕ) × (edge_of tree q k ≡ Some c) × (IsAt m.to.parent m.to.name q k → ⊥)
  pub lost_links : (c l : ℕ) → Lost c → links_of (at_number left c) ≡ Some l → l + 1 ≡ names_to tree c
  pub lost_less : (c : ℕ) (f : File) → Lost c → at_number tree c ≡ Some (nodes.File f) → HasLinkLess left c f

-- what a move does: the tree is whole, and one name goes and one comes
pub record IsWell (tree : Tree) (m : Move) (after : Tree) : Type 0 where
  pub whole : IsWhole after
  pub split : (q : ℕ) (k : List ℕ) (c : ℕ) → edge_of after q k ≡ Some c →
      ((q ≡ m.to.parent) × (k ≡ m.to.name) × (c ≡ m.moved.birth)) ⊎ ((edge_of tree q k ≡ Some c) × (IsAt m.from.parent m.from.name q k → ⊥) × (IsAt m.to.parent m.to.name q k → ⊥))
  pub kept : (q : ℕ) (k : List ℕ) (c : ℕ) → edge_of tree q k ≡ Some c → (IsAt m.from.parent m.from.name q k → ⊥) → (IsAt m.to.parent m.to.name q k → ⊥) → edge_of after q k ≡ Some c
  pub here : edge_of after m.to.parent m.to.name ≡ Some m.moved.birth
  pub from : edge_of tree m.from.parent m.from.name ≡ Some m.moved.birth
  pub apart : IsAt m.from.parent m.from.name m.to.parent m.to.name → ⊥
  pub met : (c : ℕ) → edge_of tree m.to.parent m.to.name ≡ Some c → is_directory (at_number tree c) ≡ false
  pub node : at_number after m.moved.birth ≡ Some (moved_node m.to.parent m.moved.node)
  pub less : (c : ℕ) (f : File) → edge_of tree m.to.parent m.to.name ≡ Some c → at_number tree c ≡ Some (nodes.File f) → HasLinkLess after c f
  pub rest : (c : ℕ) → c ≢ m.moved.birth → c ≢ m.from.parent → c ≢ m.to.parent → (edge_of tree m.to.parent m.to.name ≡ Some c → ⊥) → at_number after c ≡ at_number tree c
  pub left_to : at_number after m.to.parent ≡ Some (nodes.Directory (with_name (place_after m).directory m.to.name m.moved.birth))
  pub left_from : m.from.parent ≢ m.to.parent → at_number after m.from.parent ≡ Some (nodes.Directory (without_name m.from.directory m.from.name))

-- what is told of one node of a tree
less_there : (left after : Tree) (c : ℕ) (f : File) → at_number after c ≡ at_number left c → HasLinkLess left c f → HasLinkLess after c f
less_there left after c f e h = record {
  gone = λ few. e ∙ h.gone few;
  less = λ more. let x = h.less more in (x.0, e ∙ x.1, x.2, x.3, x.4);
}

leaf_at : (o : Option Node) → is_directory o ≡ false → names_of o ≡ []
leaf_at (Some node) h = leaf_from node h
leaf_at None h = refl

module _ (tree : Tree) (w : IsWhole tree) (d : Done) (r : IsRenamed tree d) where
  abbrev B : ℕ
  B = r.move.moved.birth

  abbrev F : Place
  F = r.move.from

  abbrev T : Place
  T = r.move.to

  abbrev Taken : Tree
  Taken = take_name tree r.move.from

  stands : at_number tree B ≡ Some r.move.moved.node
  stands = r.is_found.stands

  from_named : at_name F.directory.names F.name ≡ Some B
  from_named = place_names tree r.names F r.move.moved r.is_from r.is_found

  from_edge : edge_of tree F.parent F.name ≡ Some B
  from_edge = ap (λ o. at_name (names_of o) F.name) r.is_from.stands ∙ from_named

  from_sorted : NamesInOrder F.directory.names
  from_sorted = place_sorted tree w r.names F r.is_from

  to_sorted : NamesInOrder T.directory.names
  to_sorted = place_sorted tree w r.more T r.is_to

  to_edge : edge_of tree T.parent T.name ≡ at_name T.directory.names T.name
  to_edge = ap (λ o. at_name (names_of o) T.name) r.is_to.stands

  b_no_root : B ≢ 0
  b_no_root = w.joined.no_root F.parent F.name B from_edge

  -- a directory has no other name
  one_from : is_directory (Some r.move.moved.node) ≡ true → (q : ℕ) (k : List ℕ) → edge_of tree q k ≡ Some B → IsAt F.parent F.name q k
  one_from t q k e =
      let x = w.joined.one_name q F.parent k F.name B e from_edge (ap is_directory stands ∙ t) in
      (x.0, x.1)

  kind_apart : (p : Place) → at_number tree p.parent ≡ Some (nodes.Directory p.directory) → is_directory (Some r.move.moved.node) ≡ false → B ≢ p.parent
  kind_apart p at f e = true≢false (sym (ap is_directory at) ∙ (ap (λ j. is_directory (at_number tree j)) (sym e) ∙ (ap is_directory stands ∙ f)))

  from_apart : B ≢ F.parent
  from_apart e =
      ⊎_elim
      (λ t. no_own_parent (edge_of tree) B b_no_root (λ p m x. (one_from t p m x).0 ∙ sym e) B (w.reached B (ap is_some stands)) refl)
      (λ f. kind_apart F r.is_from.stands f e)
      (cases_Bool (is_directory (Some r.move.moved.node)))

  to_path : led_to tree 0 (all_but_last r.is_to.first r.is_to.rest) ≡ Ok T.parent
  to_path = r.is_to.path

  -- the way to the new parent does not pass a directory that moves
  clear : is_directory (Some r.move.moved.node) ≡ true → list_any (λ b. b == B) (above tree 0 (r.is_to.first ∷ r.is_to.rest)) ≡ false
  clear t =
      ⊎_elim
      (λ f. absurd (true≢false (sym t ∙ f)))
      (λ f. ap (λ names. list_any (λ b. b == B) (above tree 0 names)) (sym r.is_to.names_are) ∙ f)
      (and_cases (is_directory (Some r.move.moved.node)) _ r.not_below)

  to_apart : B ≢ T.parent
  to_apart e =
      ⊎_elim
      (λ t.
      true≢false
      (sym (parent_above tree 0 B r.is_to.first r.is_to.rest (to_path ∙ ap Ok (sym e))) ∙ clear t))
      (λ f. kind_apart T r.is_to.stands f e)
      (cases_Bool (is_directory (Some r.move.moved.node)))

  taken_at : at_number Taken B ≡ Some r.move.moved.node
  taken_at = at_put_number_apart tree F.parent (nodes.Directory (without_name F.directory F.name)) B from_apart ∙ stands

  -- both places in one directory
  same_directory : F.parent ≡ T.parent → F.directory ≡ T.directory
  same_directory e =
      let k : nodes.Directory F.directory ≡ nodes.Directory T.directory = same_Some (nodes.Directory F.directory) (nodes.Directory T.directory) (sym r.is_from.stands ∙ (ap (at_number tree) e ∙ r.is_to.stands)) in
      cc

  module _ (left : Tree) (Lost : ℕ → Type 0) (h : IsLeft tree r.move left w.width Lost) where
    abbrev A : Place
    A = place_after r.move

    abbrev Node' : Node
    Node' = moved_node r.move.to.parent r.move.moved.node

    abbrev Mid : Tree
    Mid = put_number left B Node'

    abbrev After : Tree
    After = give_name Mid A B

    b_kept : Lost B → ⊥
    b_kept l = h.lost_apart B l refl

    left_at : at_number left B ≡ Some r.move.moved.node
    left_at = h.apart B b_kept ∙ taken_at

    directory_kept : (p : Place) → at_number tree p.parent ≡ Some (nodes.Directory p.directory) → Lost p.parent → ⊥
    directory_kept p at l = true≢false (sym (ap is_directory at) ∙ h.lost_leaf p.parent l)

    not_same_name : F.parent ≡ T.parent → F.name ≡ T.name → ⊥
    not_same_name e s =
        h.lost_apart B (h.met_lost B (ap (λ j. edge_of tree j T.name) (sym e) ∙ (ap (edge_of tree F.parent) (sym s) ∙ from_edge))) refl

    -- the new parent, after the old name was taken out
    to_taken : at_number Taken T.parent ≡ Some (nodes.Directory A.directory)
    to_taken = by (T.parent == F.parent) refl
      where
        by : (b : Bool) → (T.parent == F.parent) ≡ b → at_number Taken T.parent ≡ Some (nodes.Directory (if not b then T.directory else without_name T.directory F.name))
        by true e =
            let same = eqb-true T.parent F.parent e in
            ap (at_number Taken) same
            ∙ (at_put_number tree F.parent (nodes.Directory (without_name F.directory F.name))
            ∙ ap (λ (x : Directory). Some (nodes.Directory (without_name x F.name))) (same_directory (sym same)))
        by false e = at_put_number_apart tree F.parent (nodes.Directory (without_name F.directory F.name)) T.parent (eqb-false T.parent F.parent e) ∙ r.is_to.stands

    mid_stands : at_number Mid A.parent ≡ Some (nodes.Directory A.directory)
    mid_stands = at_put_number_apart left B Node' T.parent (λ e. to_apart (sym e)) ∙ (h.apart T.parent (directory_kept T r.is_to.stands) ∙ to_taken)

    after_sorted : NamesInOrder A.directory.names
    after_sorted = subst (λ o. NamesInOrder (names_of o)) (h.apart T.parent (directory_kept T r.is_to.stands) ∙ to_taken) (h.sorted T.parent)

    after_of_width : IsOfWidth w.width (Some (nodes.Directory A.directory))
    after_of_width = subst (IsOfWidth w.width) (h.apart T.parent (directory_kept T r.is_to.stands) ∙ to_taken) (h.of_width T.parent)

    after_short : length T.name ≤ A.directory.width
    after_short = (let old = (place_of_width tree w r.more T r.is_to).0 in let new = after_of_width.0 in let short = r.is_to.short in omega arith)

    -- what stood at the new name still does
    after_named : at_name A.directory.names T.name ≡ at_name T.directory.names T.name
    after_named = by (T.parent == F.parent) refl
      where
        by : (b : Bool) → (T.parent == F.parent) ≡ b → at_name (if not b then T.directory else without_name T.directory F.name).names T.name ≡ at_name T.directory.names T.name
        by true e = at_name_without_apart T.directory.names F.name T.name to_sorted (not_same_name (sym (eqb-true T.parent F.parent e)))
        by false e = refl

    mid_edge : (q : ℕ) (k : List ℕ) → edge_of Mid q k ≡ edge_of Taken q k
    mid_edge q k = edge_put_same left B Node' (names_moved r.move.to.parent r.move.moved.node ∙ sym (ap names_of left_at)) q k ∙ h.edge q k

    abbrev Stays : ℕ → List ℕ → Type 0
    Stays q k = (IsAt F.parent F.name q k → ⊥) × (IsAt T.parent T.name q k → ⊥)

    after_split : (q : ℕ) (k : List ℕ) (c : ℕ) → edge_of After q k ≡ Some c → ((q ≡ T.parent) × (k ≡ T.name) × (c ≡ B)) ⊎ ((edge_of tree q k ≡ Some c) × Stays q k)
    after_split q k c e =
        ⊎_elim inl
        (λ x.
        let y = take_split tree F r.is_from.stands from_sorted q k c (sym (mid_edge q k) ∙ x.0) in
        inr (y.0, (y.1, x.1)))
        (give_split Mid A mid_stands B q k c e)

    after_kept : (q : ℕ) (k : List ℕ) (c : ℕ) → edge_of tree q k ≡ Some c → Stays q k → edge_of After q k ≡ Some c
    after_kept q k c e s = give_kept Mid A mid_stands B q k c (mid_edge q k ∙ take_kept tree F r.is_from.stands from_sorted q k c e s.0) s.1

    after_here : edge_of After T.parent T.name ≡ Some B
    after_here = give_here Mid A mid_stands B

    after_at : at_number After B ≡ Some Node'
    after_at = at_put_number_apart Mid T.parent (nodes.Directory (with_name A.directory T.name B)) B to_apart ∙ at_put_number left B Node'

    left_like : (c : ℕ) → IsLike (at_number tree c) (at_number left c) → c ≢ B → IsLike (at_number tree c) (at_number After c)
    left_like c like apart =
        like_chain (at_number tree c) (at_number left c) (at_number After c) like
        (like_chain (at_number left c) (at_number Mid c) (at_number After c) (like_put_apart left B Node' c apart) (give_like Mid A mid_stands B c))

    other_like : (c : ℕ) → (Lost c → ⊥) → c ≢ B → IsLike (at_number tree c) (at_number After c)
    other_like c kept apart = left_like c (subst (IsLike (at_number tree c)) (sym (h.apart c kept)) (take_like tree F r.is_from.stands c)) apart

    -- where a name that stays leads to is what it was
    stays_like : (q : ℕ) (k : List ℕ) (c : ℕ) → edge_of tree q k ≡ Some c → Stays q k → IsLike (at_number tree c) (at_number After c)
    stays_like q k c e s =
        ⊎_elim
        (λ same.
        ⊎_elim
        (λ t. absurd (s.0 (one_from t q k (e ∙ ap Some same))))
        (λ f. subst (λ j. IsLike (at_number tree j) (at_number After j)) (sym same)
        (subst (λ o. IsLike o (at_number After B)) (sym stands) (subst (IsLike (Some r.move.moved.node)) (sym after_at) (like_moved r.move.to.parent r.move.moved.node f))))
        (cases_Bool (is_directory (Some r.move.moved.node))))
        (λ apart. ⊎_elim (λ lost. left_like c (h.lost_like c lost q k e s.1) apart) (λ kept. other_like c kept apart) (h.lost_or c))
        (cases_eq c B)

    root_like : IsLike (at_number tree 0) (at_number After 0)
    root_like = other_like 0 (λ l. true≢false (sym w.joined.root ∙ h.lost_leaf 0 l)) (λ e. b_no_root (sym e))

    moved_joined : IsJoined (edge_of After) (seen_of After)
    moved_joined =
        more_joined (edge_of tree) (edge_of After) (seen_of tree) (seen_of After) Stays T.parent T.name B w.joined
        (record {
          good = good_name tree r.path r.more T r.named r.is_to;
          there = ap is_some after_at;
          no_root = b_no_root;
          alone = λ t q k e s. s.0 (one_from (sym (directory_moved r.move.to.parent r.move.moved.node) ∙ (sym (ap is_directory after_at) ∙ t)) q k e);
          up = λ t. ap up_of after_at ∙ up_moved r.move.to.parent r.move.moved.node (sym (ap is_directory after_at) ∙ t);
        })
        (λ q k c e. ⊎_elim inl (λ x. inr (record { was = x.0; kept = x.1; stays = like_stays tree After c (stays_like q k c x.0 x.1) })) (after_split q k c e))
        (like_stays tree After 0 root_like)

    -- ---- what is reached

    from_is : (q : ℕ) (k : List ℕ) (c : ℕ) → edge_of tree q k ≡ Some c → IsAt F.parent F.name q k → c ≡ B
    from_is q k c e at = same_Some c B (sym e ∙ (ap (λ q. edge_of tree q k) at.0 ∙ (ap (edge_of tree F.parent) at.1 ∙ from_edge)))

    to_is : (q : ℕ) (k : List ℕ) (c : ℕ) → edge_of tree q k ≡ Some c → IsAt T.parent T.name q k → Lost c
    to_is q k c e at = h.met_lost c (sym (ap (edge_of tree T.parent) at.1) ∙ (sym (ap (λ q. edge_of tree q k) at.0) ∙ e))

    abbrev IsGone : ℕ → Type 0
    IsGone c = (c ≡ B) ⊎ Lost c

    gone_or : (q : ℕ) (k : List ℕ) (c : ℕ) → edge_of tree q k ≡ Some c → IsGone c ⊎ (edge_of After q k ≡ Some c)
    gone_or q k c e =
        ⊎_elim
        (λ at. inl (inl (from_is q k c e at)))
        (λ f. ⊎_elim (λ at. inl (inr (to_is q k c e at))) (λ t. inr (after_kept q k c e (f, t))) (at_or_apart T.parent T.name q k))
        (at_or_apart F.parent F.name q k)

    none_from : (c : ℕ) → is_directory (at_number tree c) ≡ false → (m : List ℕ) (x : ℕ) → edge_of tree c m ≡ Some x → ⊥
    none_from c f m x e = none-some x (sym (ap (λ ns. at_name ns m) (leaf_at (at_number tree c) f)) ∙ e)

    -- a node that is no directory moves
    module _ (file : is_directory (Some r.move.moved.node) ≡ false) where
      gone_none : (c : ℕ) → IsGone c → (m : List ℕ) (x : ℕ) → edge_of tree c m ≡ Some x → ⊥
      gone_none c (inl e) = none_from c (ap (λ j. is_directory (at_number tree j)) e ∙ (ap is_directory stands ∙ file))
      gone_none c (inr l) = none_from c (h.lost_leaf c l)

      file_or : (c : ℕ) → is_some (at_number tree c) ≡ true → IsGone c ⊎ IsReached (edge_of After) c
      file_or c t = reached_without (edge_of tree) (edge_of After) IsGone gone_or gone_none c (w.reached c t)

      file_parent : IsReached (edge_of After) T.parent
      file_parent =
          ⊎_elim
          (λ gone. absurd (⊎_elim (λ e. to_apart (sym e)) (λ l. directory_kept T r.is_to.stands l) gone))
          (λ reached. reached)
          (file_or T.parent (ap is_some r.is_to.stands))

      file_lost : (c : ℕ) → Lost c → is_some (at_number left c) ≡ true → IsReached (edge_of After) c
      file_lost c l t =
          let x = h.lost_named c l t in
          let from : (IsAt F.parent F.name x.0 x.1 → ⊥) = λ at. h.lost_apart c l (from_is x.0 x.1 c x.2 at) in
          ⊎_elim
          (λ gone. absurd (gone_none x.0 gone x.1 c x.2))
          (λ reached. by_edge reached (after_kept x.0 x.1 c x.2 (from, x.3)))
          (file_or x.0 (there_from (at_number tree x.0) x.1 c x.2))
        where
          there_from : (o : Option Node) (k : List ℕ) (c : ℕ) → at_name (names_of o) k ≡ Some c → is_some o ≡ true
          there_from (Some node) k c e = refl
          there_from None k c e = absurd (none-some c e)

      file_reached : (c : ℕ) → is_some (at_number After c) ≡ true → IsReached (edge_of After) c
      file_reached c t =
          ⊎_elim
          (λ e. subst (IsReached (edge_of After)) (sym e) (by_edge file_parent after_here))
          (λ apart.
          ⊎_elim
          (λ l.
          let same : is_some (at_number left c) ≡ is_some (at_number After c) =
          sym ((like_chain (at_number left c) (at_number Mid c) (at_number After c) (like_put_apart left B Node' c apart) (give_like Mid A mid_stands B c)).there)
          in
          file_lost c l (same ∙ t))
          (λ kept.
          ⊎_elim
          (λ gone. absurd (⊎_elim apart kept gone))
          (λ reached. reached)
          (file_or c (sym (other_like c kept apart).there ∙ t)))
          (h.lost_or c))
          (cases_eq c B)

    -- a directory moves, to a name that was free
    module _ (directory : is_directory (Some r.move.moved.node) ≡ true) where
      none_lost : (c : ℕ) → Lost c → ⊥
      none_lost c l = true≢false (sym directory ∙ h.lost_moves c l)

      way_or : (q : ℕ) (k : List ℕ) (c : ℕ) → edge_of tree q k ≡ Some c → (c ≡ B) ⊎ (edge_of After q k ≡ Some c)
      way_or q k c e = ⊎_elim (λ gone. ⊎_elim inl (λ l. absurd (none_lost c l)) gone) inr (gone_or q k c e)

      directory_parent : IsReached (edge_of After) T.parent
      directory_parent =
          way_stays tree (edge_of After) B
          (λ q k c e apart. ⊎_elim (λ same. absurd (apart same)) (λ f. f) (way_or q k c e))
          0 T.parent r.is_to.first r.is_to.rest to_path (clear directory) top

      directory_reached : (c : ℕ) → is_some (at_number After c) ≡ true → IsReached (edge_of After) c
      directory_reached c t =
          let there : is_some (at_number tree c) ≡ true =
          ⊎_elim
          (λ e. ap (λ j. is_some (at_number tree j)) e ∙ ap is_some stands)
          (λ apart. sym (other_like c (none_lost c) apart).there ∙ t)
          (cases_eq c B)
          in
          reached_around (edge_of tree) (edge_of After) B way_or (by_edge directory_parent after_here) c (w.reached c there)

    moved_reached : (c : ℕ) → is_some (at_number After c) ≡ true → IsReached (edge_of After) c
    moved_reached c t = ⊎_elim (λ yes. directory_reached yes c t) (λ file. file_reached file c t) (cases_Bool (is_directory (Some r.move.moved.node)))

    -- ---- links

    moved_counts : (c : ℕ) → names_to After c + one_for c (at_name T.directory.names T.name) ≡ names_to tree c
    moved_counts c =
        let a = give_counts Mid A mid_stands B c (in_order_put left B Node' h.order) after_sorted in
        let b = names_to_put left B Node' c h.order in
        let at_b : names_at left B c ≡ names_in_node c r.move.moved.node = ap (λ o. unwrap_or (option_map (names_in_node c) o) 0) left_at in
        let moved = count_moved r.move.to.parent r.move.moved.node c in
        let e = h.counts c in
        let f = take_counts tree F r.is_from.stands c w.in_order in
        let g : one_for c (at_name F.directory.names F.name) ≡ one_at B c = ap (one_for c) from_named in
        let i : one_for c (at_name A.directory.names T.name) ≡ one_for c (at_name T.directory.names T.name) = ap (one_for c) after_named in
        omega arith

    met_none : (c : ℕ) (o : Option ℕ) → ((x : ℕ) → o ≡ Some x → Lost x) → (Lost c → ⊥) → one_for c o ≡ 0
    met_none c None lost kept = refl
    met_none c (Some x) lost kept = one_for_other x c (λ e. kept (subst Lost e (lost x refl)))

    links_from : (c l : ℕ) → links_of (at_number After c) ≡ Some l → links_of (at_number Mid c) ≡ Some l
    links_from c l e = links_through Mid T.parent (with_name A.directory T.name B) c l e

    kept_links : (c l : ℕ) → (Lost c → ⊥) → links_of (at_number Mid c) ≡ Some l → links_of (at_number tree c) ≡ Some l
    kept_links c l kept e =
        ⊎_elim
        (λ same.
        ap links_of (ap (at_number tree) same ∙ stands)
        ∙ (sym (links_moved r.move.to.parent r.move.moved.node)
        ∙ (sym (ap links_of (at_put_number left B Node')) ∙ (sym (ap (λ j. links_of (at_number Mid j)) same) ∙ e))))
        (λ apart.
        links_through tree F.parent (without_name F.directory F.name) c l
        (sym (ap links_of (h.apart c kept)) ∙ (sym (ap links_of (at_put_number_apart left B Node' c apart)) ∙ e)))
        (cases_eq c B)

    moved_links : (c l : ℕ) → links_of (at_number After c) ≡ Some l → l ≡ names_to After c
    moved_links c l e =
        let count = moved_counts c in
        ⊎_elim
        (λ lost.
        let one : one_for c (at_name T.directory.names T.name) ≡ 1 = ap (one_for c) (sym to_edge ∙ h.lost_met c lost) ∙ one_for_here c in
        let links = h.lost_links c l lost (sym (ap links_of (at_put_number_apart left B Node' c (h.lost_apart c lost))) ∙ links_from c l e) in
        omega arith)
        (λ kept.
        let none : one_for c (at_name T.directory.names T.name) ≡ 0 = met_none c (at_name T.directory.names T.name) (λ x f. h.met_lost x (to_edge ∙ f)) kept in
        let old = w.links c l (kept_links c l kept (links_from c l e)) in
        omega arith)
        (h.lost_or c)

    moved_whole : IsWhole After
    moved_whole = record {
      width = w.width;
      of_width = each_put (IsOfWidth w.width) Mid T.parent _ (of_width_with w.width A.directory T.name B after_of_width after_short)
          (each_put (IsOfWidth w.width) left B Node' (of_width_moved w.width r.move.to.parent r.move.moved.node (subst (IsOfWidth w.width) left_at (h.of_width B))) h.of_width);
      in_order = in_order_put Mid T.parent _ (in_order_put left B Node' h.order);
      sorted = each_put (λ o. NamesInOrder (names_of o)) Mid T.parent _ (names_in_order_put A.directory.names T.name B after_sorted)
          (each_put (λ o. NamesInOrder (names_of o)) left B Node'
          (subst NamesInOrder (ap names_of left_at ∙ sym (names_moved r.move.to.parent r.move.moved.node)) (h.sorted B)) h.sorted);
      joined = moved_joined;
      reached = moved_reached;
      links = moved_links;
      known = each_put (λ o. is_other o ≡ false) Mid T.parent _ refl
          (each_put (λ o. is_other o ≡ false) left B Node' (other_moved r.move.to.parent r.move.moved.node ∙ (sym (ap is_other stands) ∙ w.known B)) h.known);
    }

    after_apart : (c : ℕ) → c ≢ B → c ≢ T.parent → at_number After c ≡ at_number left c
    after_apart c apart off = at_put_number_apart Mid T.parent (nodes.Directory (with_name A.directory T.name B)) c off ∙ at_put_number_apart left B Node' c apart

    moved_well : IsWell tree r.move After
    moved_well = record {
      whole = moved_whole;
      split = λ q k c e. ⊎_elim inl (λ x. inr (x.0, x.1.0, x.1.1)) (after_split q k c e);
      kept = λ q k c e f t. after_kept q k c e (f, t);
      here = after_here;
      from = from_edge;
      apart = λ at. not_same_name (sym at.0) (sym at.1);
      met = λ c e. h.lost_leaf c (h.met_lost c e);
      node = after_at;
      less = λ c f e stands.
          let l = h.met_lost c e in
          less_there left After c f (after_apart c (h.lost_apart c l) (λ p. directory_kept T r.is_to.stands (subst Lost p l))) (h.lost_less c f l stands);
      rest = λ c apart away off none.
          after_apart c apart off
          ∙ (h.apart c (λ l. none (h.lost_met c l)) ∙ at_put_number_apart tree F.parent (nodes.Directory (without_name F.directory F.name)) c away);
      left_to = at_put_number Mid T.parent (nodes.Directory (with_name A.directory T.name B));
      left_from = λ apart.
          after_apart F.parent (λ e. from_apart (sym e)) apart
          ∙ (h.apart F.parent (directory_kept F r.is_from.stands) ∙ at_put_number tree F.parent (nodes.Directory (without_name F.directory F.name)));
    }

-- ---- what stands at the new name

-- no node stands there: no name leads there
free_by : (tree : Tree) → IsWhole tree → (p : Place) → edge_of tree p.parent p.name ≡ at_name p.directory.names p.name → target_at tree p ≡ None → (o : Option ℕ) → at_name p.directory.names p.name ≡ o → o ≡ None
free_by tree w p at none None e = refl
free_by tree w p at none (Some b) e =
    let there = w.joined.leads p.parent p.name b (at ∙ e) in
    by (at_number tree b) refl there
  where
    found : (node : Node) → at_number tree b ≡ Some node → target_at tree p ≡ Some (record { birth = b; node = node })
    found node s =
        ap (λ o. elim o as (λ _. Option Found) [ None ↦ None | Some birth ↦ elim (at_number tree birth) as (λ _. Option Found) [ None ↦ None | Some x ↦ Some (record { birth = birth; node = x }) ] ]) e
        ∙ ap (λ o. elim o as (λ _. Option Found) [ None ↦ None | Some x ↦ Some (record { birth = b; node = x }) ]) s

    by : (o : Option Node) → at_number tree b ≡ o → is_some o ≡ true → Some b ≡ None
    by (Some node) s t = absurd (none-some _ (sym none ∙ found node s))
    by None s t = absurd (false≢true t)

-- a node stands there, and the name leads to it
pub named_by : (tree : Tree) (t : Found) (o : Option ℕ) →
    ◌≡◌ {A = Option Found}
    (elim o as (λ _. Option Found) [ None ↦ None | Some birth ↦ elim (at_number tree birth) as (λ _. Option Found) [ None ↦ None | Some x ↦ Some (record { birth = birth; node = x }) ] ])
    (Some t) → o ≡ Some t.birth
named_by tree t None h = absurd (none-some t h)
named_by tree t (Some birth) h = ap Some (by (at_number tree birth) h)
  where
    by : (node : Option Node) → ◌≡◌ {A = Option Found} (elim node as (λ _. Option Found) [ None ↦ None | Some x ↦ Some (record { birth = birth; node = x }) ]) (Some t) → birth ≡ t.birth
    by None h = absurd (none-some t h)
    by (Some node) h = ap (λ (t : Found). t.birth) (same_Some (record { birth = birth; node = node }) t h)

module _ (tree : Tree) (w : IsWhole tree) (d : Done) (r : IsRenamed tree d) where
  -- no node stands at the new name
  module _ (none : r.move.target ≡ None) where
    free_met : edge_of tree r.move.to.parent r.move.to.name ≡ None
    free_met = to_edge tree w d r ∙ free_by tree w r.move.to (to_edge tree w d r) (sym r.target_is ∙ none) (at_name r.move.to.directory.names r.move.to.name) refl

    free_left : IsLeft tree r.move (take_name tree r.move.from) w.width (λ c. ⊥)
    free_left = record {
      of_width = each_put (IsOfWidth w.width) tree r.move.from.parent _ (of_width_without w.width r.move.from.directory r.move.from.name (from_sorted tree w d r) (place_of_width tree w r.names r.move.from r.is_from)) w.of_width;
      order = in_order_put tree r.move.from.parent _ w.in_order;
      lost_or = λ c. inr (λ l. l);
      apart = λ c kept. refl;
      edge = λ q k. refl;
      counts = λ c. refl;
      sorted = each_put (λ o. NamesInOrder (names_of o)) tree r.move.from.parent _ (names_in_order_without r.move.from.directory.names r.move.from.name (from_sorted tree w d r)) w.sorted;
      known = each_put (λ o. is_other o ≡ false) tree r.move.from.parent _ refl w.known;
      met_lost = λ c e. none-some c (sym free_met ∙ e);
      lost_met = λ c l. absurd l;
      lost_apart = λ c l. absurd l;
      lost_leaf = λ c l. absurd l;
      lost_moves = λ c l. absurd l;
      lost_like = λ c l. absurd l;
      lost_named = λ c l. absurd l;
      lost_links = λ c k l. absurd l;
      lost_less = λ c f l. absurd l;
    }

    free_well : IsWell tree r.move (tree_moved tree r.move)
    free_well = subst (λ left. IsWell tree r.move (give_name (put_number left r.move.moved.birth (moved_node r.move.to.parent r.move.moved.node)) (place_after r.move) r.move.moved.birth))
        (sym (ap (without_target (take_name tree r.move.from)) none))
        (moved_well tree w d r (take_name tree r.move.from) (λ c. ⊥) free_left)

  -- a file stands there
  module _ (t : Found) (some : r.move.target ≡ Some t) (g : File) (is : t.node ≡ nodes.File g) (apart : t.birth ≢ r.move.moved.birth) (file : is_directory (Some r.move.moved.node) ≡ false) where
    abbrev L : ℕ
    L = t.birth

    abbrev Out : Tree
    Out = take_name tree r.move.from

    target_is_at : target_at tree r.move.to ≡ Some t
    target_is_at = sym r.target_is ∙ some

    lost_stands : at_number tree L ≡ Some (nodes.File g)
    lost_stands = target_stands tree r.move.to t target_is_at ∙ ap Some is

    lost_name : at_name r.move.to.directory.names r.move.to.name ≡ Some L
    lost_name = named_by tree t (at_name r.move.to.directory.names r.move.to.name) target_is_at

    lost_edge : edge_of tree r.move.to.parent r.move.to.name ≡ Some L
    lost_edge = to_edge tree w d r ∙ lost_name

    lost_from : L ≢ r.move.from.parent
    lost_from e = directory_not_file tree r.move.from.parent L r.move.from.directory g r.is_from.stands lost_stands (sym e)

    lost_to : L ≢ r.move.to.parent
    lost_to e = directory_not_file tree r.move.to.parent L r.move.to.directory g r.is_to.stands lost_stands (sym e)

    out_at : at_number Out L ≡ Some (nodes.File g)
    out_at = at_put_number_apart tree r.move.from.parent (nodes.Directory (without_name r.move.from.directory r.move.from.name)) L lost_from ∙ lost_stands

    out_order : InOrder Out
    out_order = in_order_put tree r.move.from.parent _ w.in_order

    out_sorted : (c : ℕ) → NamesInOrder (names_of (at_number Out c))
    out_sorted = each_put (λ o. NamesInOrder (names_of o)) tree r.move.from.parent _ (names_in_order_without r.move.from.directory.names r.move.from.name (from_sorted tree w d r)) w.sorted

    out_of_width : (c : ℕ) → IsOfWidth w.width (at_number Out c)
    out_of_width = each_put (IsOfWidth w.width) tree r.move.from.parent _ (of_width_without w.width r.move.from.directory r.move.from.name (from_sorted tree w d r) (place_of_width tree w r.names r.move.from r.is_from)) w.of_width

    out_known : (c : ℕ) → is_other (at_number Out c) ≡ false
    out_known = each_put (λ o. is_other o ≡ false) tree r.move.from.parent _ refl w.known

    leaf : names_of (at_number tree L) ≡ []
    leaf = ap names_of lost_stands

    links_are : g.links ≡ names_to tree L
    links_are = w.links L g.links (ap links_of lost_stands)

    -- but for the new name
    rest_counts : names_to (take_name tree r.move.to) L + 1 ≡ names_to tree L
    rest_counts =
        let all = taken_counts tree w r.more r.move.to r.is_to L lost_name lost_to leaf L in
        let one : one_at L L ≡ 1 = one_for_here L in
        omega arith

    met_is : (c : ℕ) → edge_of tree r.move.to.parent r.move.to.name ≡ Some c → c ≡ L
    met_is c e = same_Some c L (sym e ∙ lost_edge)

    other_counts : (q : ℕ) (k : List ℕ) → edge_of tree q k ≡ Some L → (IsAt r.move.to.parent r.move.to.name q k → ⊥) → 2 ≤ g.links
    other_counts q k e away =
        let some = edge_counts (take_name tree r.move.to) q k L (take_kept tree r.move.to r.is_to.stands (to_sorted tree w d r) q k L e away) in
        let all = rest_counts in
        let links = links_are in
        omega arith

    other_named : 2 ≤ g.links → (q : ℕ) × (k : List ℕ) × (edge_of tree q k ≡ Some L) × (IsAt r.move.to.parent r.move.to.name q k → ⊥)
    other_named more =
        let all = rest_counts in
        let links = links_are in
        let x = counted_edge (take_name tree r.move.to) L
        (taken_order tree w r.more r.move.to r.is_to L lost_name lost_to leaf)
        (taken_names_in_order tree w r.more r.move.to r.is_to L lost_name lost_to leaf)
        (omega arith) in
        let y = take_split tree r.move.to r.is_to.stands (to_sorted tree w d r) x.0 x.1 L x.2 in
        (x.0, x.1, y.0, y.1)

    its_file : (c : ℕ) (f : File) → c ≡ L → at_number tree c ≡ Some (nodes.File f) → g ≡ f
    its_file c f l stands =
        let node : nodes.File g ≡ nodes.File f = same_Some (nodes.File g) (nodes.File f) (sym lost_stands ∙ (ap (at_number tree) (sym l) ∙ stands)) in
        cc

    its_links : (c : ℕ) (f : File) → c ≡ L → at_number tree c ≡ Some (nodes.File f) → g.links ≡ f.links
    its_links c f l stands = ap (λ (f : File). f.links) (its_file c f l stands)

    gone_left : g.links ≤ 1 → IsLeft tree r.move (without_number Out L) w.width (λ c. c ≡ L)
    gone_left few = record {
      of_width = each_without (IsOfWidth w.width) Out L out_order tt out_of_width;
      order = in_order_without Out L out_order;
      lost_or = λ c. cases_eq c L;
      apart = λ c kept. at_without_apart Out L c out_order kept;
      edge = λ q k. edge_without Out L out_order (ap names_of out_at) q k;
      counts = λ c. without_counts Out L c (ap names_of out_at);
      sorted = each_without (λ o. NamesInOrder (names_of o)) Out L out_order (subst NamesInOrder leaf (w.sorted L)) out_sorted;
      known = each_without (λ o. is_other o ≡ false) Out L out_order refl out_known;
      met_lost = met_is;
      lost_met = λ c l. lost_edge ∙ ap Some (sym l);
      lost_apart = λ c l e. apart (sym l ∙ e);
      lost_leaf = λ c l. ap (λ j. is_directory (at_number tree j)) l ∙ ap is_directory lost_stands;
      lost_moves = λ c l. file;
      lost_like = λ c l q k e away. absurd (let more = other_counts q k (e ∙ ap Some l) away in omega arith);
      lost_named = λ c l there. absurd (false≢true (sym (ap (λ j. is_some (at_number (without_number Out L) j)) l ∙ ap is_some (at_without_here Out L out_order)) ∙ there));
      lost_links = λ c k l e. absurd (none-some k (sym (ap (λ j. links_of (at_number (without_number Out L) j)) l ∙ ap links_of (at_without_here Out L out_order)) ∙ e));
      lost_less = λ c f l stands.
          let same = its_links c f l stands in
          record {
            gone = λ fewer. ap (at_number (without_number Out L)) l ∙ at_without_here Out L out_order;
            less = λ more. absurd (omega arith);
          };
    }

    abbrev Fewer : File
    Fewer = with_links g (g.links - 1)

    less_left : 2 ≤ g.links → IsLeft tree r.move (put_file Out L Fewer) w.width (λ c. c ≡ L)
    less_left more = record {
      of_width = each_put (IsOfWidth w.width) Out L _ tt out_of_width;
      order = in_order_put Out L _ out_order;
      lost_or = λ c. cases_eq c L;
      apart = λ c kept. at_put_number_apart Out L (nodes.File Fewer) c kept;
      edge = λ q k. edge_put_same Out L (nodes.File Fewer) (sym (ap names_of out_at)) q k;
      counts = λ c. put_counts Out L (nodes.File Fewer) c out_order (ap names_of out_at) refl;
      sorted = each_put (λ o. NamesInOrder (names_of o)) Out L _ (subst NamesInOrder leaf (w.sorted L)) out_sorted;
      known = each_put (λ o. is_other o ≡ false) Out L _ refl out_known;
      met_lost = met_is;
      lost_met = λ c l. lost_edge ∙ ap Some (sym l);
      lost_apart = λ c l e. apart (sym l ∙ e);
      lost_leaf = λ c l. ap (λ j. is_directory (at_number tree j)) l ∙ ap is_directory lost_stands;
      lost_moves = λ c l. file;
      lost_like = λ c l q k e away.
          like_chain (at_number tree c) (at_number Out c) (at_number (put_file Out L Fewer) c) (take_like tree r.move.from r.is_from.stands c)
          (like_put Out L (nodes.File Fewer) (like_file (at_number Out L) g Fewer out_at) c);
      lost_named = λ c l there. let x = other_named more in (x.0, x.1, x.2 ∙ ap Some (sym l), x.3);
      lost_links = λ c k l e.
          let is : g.links - 1 ≡ k = same_Some (g.links - 1) k (sym (ap (λ j. links_of (at_number (put_file Out L Fewer) j)) l ∙ ap links_of (at_put_number Out L (nodes.File Fewer))) ∙ e) in
          let all : g.links ≡ names_to tree c = links_are ∙ ap (names_to tree) (sym l) in
          omega arith;
      lost_less = λ c f l stands.
          let same = its_file c f l stands in
          record {
            gone = λ few. absurd (let links = its_links c f l stands in omega arith);
            less = λ fewer. (
              Fewer,
              ap (at_number (put_file Out L Fewer)) l ∙ at_put_number Out L (nodes.File Fewer),
              (let links = its_links c f l stands in let e : g.links - 1 + 1 ≡ f.links = omega arith in e),
              ap (λ (f : File). f.size) same,
              ap (λ (f : File). f.blocks) same,
            );
          };
    }

    met_by : (b : Bool) → nat_le g.links 1 ≡ b →
        IsWell tree r.move (give_name (put_number (if b then without_number Out L else put_file Out L Fewer) r.move.moved.birth (moved_node r.move.to.parent r.move.moved.node)) (place_after r.move) r.move.moved.birth)
    met_by true e = moved_well tree w d r (without_number Out L) (λ c. c ≡ L) (gone_left (leb-true g.links 1 e))
    met_by false e = moved_well tree w d r (put_file Out L Fewer) (λ c. c ≡ L) (less_left (let l = leb-false g.links 1 e in omega arith))

    met_well : IsWell tree r.move (tree_moved tree r.move)
    met_well =
        subst (λ left. IsWell tree r.move (give_name (put_number left r.move.moved.birth (moved_node r.move.to.parent r.move.moved.node)) (place_after r.move) r.move.moved.birth))
        (sym (ap (without_target Out) some ∙ left_is t.node is))
        (met_by (nat_le g.links 1) refl)
      where
        left_is : (node : Node) → node ≡ nodes.File g → (elim (a_file node) as (λ _. Tree) [ Err reply ↦ Out | Ok f ↦ lose_link Out L f ]) ≡ lose_link Out L g
        left_is node e = ap (λ (n : Node). elim (a_file n) as (λ _. Tree) [ Err reply ↦ Out | Ok f ↦ lose_link Out L f ]) e

  no_stay : (t : Found) → r.move.target ≡ Some t → stays r.move ≡ false → t.birth ≢ r.move.moved.birth
  no_stay t some f = eqb-false t.birth r.move.moved.birth (sym (ap (λ o. elim o as (λ _. Bool) [ None ↦ false | Some t ↦ t.birth == r.move.moved.birth ]) some) ∙ f)

  target_file : (t : Found) → r.move.target ≡ Some t → t.birth ≢ r.move.moved.birth → (node : Node) → t.node ≡ node → (g : File) × (t.node ≡ nodes.File g)
  target_file t some apart (nodes.File g) e = (g, e)
  target_file t some apart (nodes.Directory x) e =
      let meets : meets_directory r.move ≡ true =
      ap (λ o. elim o as (λ _. Bool) [ None ↦ false | Some t ↦ is_directory (Some t.node) && not (t.birth == r.move.moved.birth) ]) some
      ∙ and_from (is_directory (Some t.node)) _ (ap (λ (n : Node). is_directory (Some n)) e) (ap not (ne_eqb t.birth r.move.moved.birth apart))
      in
      absurd (true≢false (sym meets ∙ r.no_directory))
  target_file t some apart (nodes.Other mode) e =
      absurd (true≢false (sym (ap (λ (n : Node). is_other (Some n)) e) ∙ (sym (ap is_other (target_stands tree r.move.to t (sym r.target_is ∙ some))) ∙ w.known t.birth)))

  moves_file : (t : Found) → r.move.target ≡ Some t → (g : File) → t.node ≡ nodes.File g → is_directory (Some r.move.moved.node) ≡ false
  moves_file t some g e =
      let meets : meets_file r.move ≡ true =
      ap (λ o. elim o as (λ _. Bool) [ None ↦ false | Some t ↦ is_file (Some t.node) ]) some ∙ ap (λ (n : Node). is_file (Some n)) e
      in
      ⊎_elim
      (λ f. absurd (true≢false (sym meets ∙ f)))
      (λ f. f)
      (and_cases (meets_file r.move) (moves_directory r.move) r.no_file)

  renamed_by : (target : Option Found) → r.move.target ≡ target → stays r.move ≡ false → IsWell tree r.move (tree_moved tree r.move)
  renamed_by None e f = free_well e
  renamed_by (Some t) e f =
      let apart = no_stay t e f in
      let g = target_file t e apart t.node refl in
      met_well t e g.0 g.1 apart (moves_file t e g.0 g.1)

  pub renamed_well : stays r.move ≡ false → IsWell tree r.move (tree_moved tree r.move)
  renamed_well f = renamed_by r.move.target refl f

  pub renamed_whole : IsWhole d.tree
  renamed_whole = subst IsWhole (sym r.tree_is) (by (stays r.move) refl)
    where
      by : (b : Bool) → stays r.move ≡ b → IsWhole (if b then tree else tree_moved tree r.move)
      by true e = w
      by false e = (renamed_by r.move.target refl e).whole
