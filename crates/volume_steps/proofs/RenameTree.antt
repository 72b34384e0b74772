-- What a rename finds in a plain tree, and what it makes of it.
use Rattle.std.specs.Prelude.{◌≡◌, ◌≢◌, ◌-◌, ℕ, ◌==◌, Bool, true, false, not, ◌&&◌, ◌||◌, if◌then◌else◌, nat_le, List, [], ◌∷◌, is_none, Option, Some, None, Ok, Err, refl}
use Rattle.std.specs.List.{list_any}
use Rattle.std.proofs.Common.{sym, ap, subst, ◌∙◌, inl, inr, eq-eqb, eqb-true}
use Rattle.std.proofs.lemmas.Bool.{cases_eq, true≢false, eqb-false, ne_eqb, or_left, or_right}
use Rattle.std.proofs.lemmas.Option.{none-some, same_Some}
use Rattle.tree_model.specs.declared.call.Call.TheVariants as calls
use Rattle.tree_model.specs.declared.call.Reply.TheVariants as replies
use Rattle.tree_model.specs.declared.node.Node.{Node}
use Rattle.tree_model.specs.declared.node.Node.TheVariants as nodes
use Rattle.tree_model.specs.declared.node.Directory.{Directory}
use Rattle.tree_model.specs.declared.node.File.{File}
use Rattle.tree_model.specs.Maps.{at_number, at_name, put_number, without_number}
use Rattle.tree_model.specs.laws.MapOrder.{InOrder, in_order_put, in_order_without, at_put_cases, at_without_cases, at_without_here, at_without_apart, at_name_without_apart, at_name_without_found, NamesInOrder, names_in_order_without}
use Rattle.tree_model.specs.laws.MapsLaws.{at_put_number, at_put_number_apart}
use Rattle.tree_model.specs.laws.Alike.{same_ok, led_parts}
use Rattle.tree_model.specs.Trees.{is_directory, directory_links, step_at, led_to}
use Rattle.tree_model.specs.Rooted.{HasEntry, IsLedTo}
use Rattle.tree_model.specs.Rooted.IsLedTo.{at_root, by_name}
use Rattle.tree_model.specs.Plain.{IsPlain}
use Rattle.tree_model.specs.Calls.{Tree, Done, Found, Place, Move, row, names_in, is_root, walk, parent_of, all_but_last, above, a_file, is_full, most_links, with_name, without_name, give_name, take_name, put_file, with_links, lose_link, without_target, target_at, moves_directory, meets_directory, meets_file, stays, changes_parent, place_after, moved_node, tree_moved}
use Rattle.tree_model.proofs.Rows.{ok_ok, then_ok, refuse_ok, IsFound, walk_ok, IsPlace, parent_ok, place_names, place_gives}
use Rattle.tree_model.proofs.Blocks.{target_stands}
use Rattle.volume_steps.proofs.QuietSteps.{put_again}
use Rattle.volume_steps.proofs.Files.{maps_same}

-- ---- the row

pub record Renames (tree : Tree) (path other : List ℕ) (d : Done) : Type 0 where
  pub names : List (List ℕ)
  pub more : List (List ℕ)
  pub found : Found
  pub from : Place
  pub to : Place
  pub named : names_in path ≡ Ok names
  pub also : names_in other ≡ Ok more
  pub walked : walk tree names ≡ Ok found
  pub from_is : parent_of replies.Invalid tree names ≡ Ok from
  pub to_is : parent_of replies.Invalid tree more ≡ Ok to
  pub not_below : (is_directory (Some found.node) && list_any (λ birth. birth == found.birth) (above tree 0 more)) ≡ false
  pub no_directory : meets_directory (record { moved = found; from = from; to = to; target = target_at tree to }) ≡ false
  pub no_file : (meets_file (record { moved = found; from = from; to = to; target = target_at tree to }) && moves_directory (record { moved = found; from = from; to = to; target = target_at tree to })) ≡ false
  pub few : (moves_directory (record { moved = found; from = from; to = to; target = target_at tree to }) && (changes_parent (record { moved = found; from = from; to = to; target = target_at tree to }) && (directory_links tree to.directory == most_links))) ≡ false
  pub left : (is_none (target_at tree to) && is_full (place_after (record { moved = found; from = from; to = to; target = target_at tree to })).directory) ≡ false
  pub tree_is : d.tree ≡ (if stays (record { moved = found; from = from; to = to; target = target_at tree to }) then tree else tree_moved tree (record { moved = found; from = from; to = to; target = target_at tree to }))

pub renames : (tree : Tree) (n : ℕ) (path other : List ℕ) (d : Done) → row tree n (calls.Rename path other) ≡ Ok d → Renames tree path other d
unfolding row
renames tree n path other d h =
    let a = then_ok (names_in path) _ d h in
    let b = then_ok (names_in other) _ d a.2 in
    let c = refuse_ok (is_root a.0 || is_root b.0) replies.Invalid _ d b.2 in
    let e = then_ok (walk tree a.0) _ d c.1 in
    let f = then_ok (parent_of replies.Invalid tree a.0) _ d e.2 in
    let g = then_ok (parent_of replies.Invalid tree b.0) _ d f.2 in
    let i = refuse_ok (is_directory (Some e.0.node) && list_any (λ birth. birth == e.0.birth) (above tree 0 b.0)) replies.Invalid _ d g.2 in
    let m : Move = record { moved = e.0; from = f.0; to = g.0; target = target_at tree g.0 } in
    let j = refuse_ok (meets_directory m) _ _ d i.1 in
    let k = refuse_ok (meets_file m && moves_directory m) replies.NotDir _ d j.1 in
    let l = refuse_ok (moves_directory m && (changes_parent m && (directory_links tree m.to.directory == most_links))) replies.TooManyLinks _ d k.1 in
    let o = refuse_ok (is_none m.target && is_full (place_after m).directory) replies.TooBig _ d l.1 in
    record {
      names = a.0;
      more = b.0;
      found = e.0;
      from = f.0;
      to = g.0;
      named = a.1;
      also = b.1;
      walked = e.1;
      from_is = f.1;
      to_is = g.1;
      not_below = i.0;
      no_directory = j.0;
      no_file = k.0;
      few = l.0;
      left = o.0;
      tree_is = sym (ap (λ (d : Done). d.tree) (ok_ok _ d o.1));
    }

-- ---- the way to a parent

parent_above : (tree : Tree) (start parent : ℕ) (name : List ℕ) (names : List (List ℕ)) → led_to tree start (all_but_last name names) ≡ Ok parent → list_any (λ b. b == parent) (above tree start (name ∷ names)) ≡ true
parent_above tree start parent name [] h = or_left (start == parent) _ (eq-eqb start parent (same_ok start parent h))
parent_above tree start parent name (next ∷ names) h =
    let x = led_parts tree (step_at (at_number tree start) name) (all_but_last next names) parent h in
    or_right (start == parent) _
    (subst (λ r. list_any (λ b. b == parent) (elim r as (λ _. List ℕ) [ Err refusal ↦ [] | Ok n ↦ above tree n (next ∷ names) ]) ≡ true) (sym x.1)
    (parent_above tree x.0 parent next names x.2))

-- no directory has its own name
no_own_name : (tree : Tree) → IsPlain tree → (b : ℕ) (name : List ℕ) (d : Directory) → HasEntry tree b name b → at_number tree b ≡ Some (nodes.Directory d) → (c : ℕ) → IsLedTo tree c → c ≡ b → ⊥
no_own_name tree plain b name d own at c at_root e = plain.rooted.no_root b name b own (sym e)
no_own_name tree plain b name d own at c (by_name {parent = parent} {birth = birth} {name = k} led gives) e =
    no_own_name tree plain b name d own at parent led (plain.rooted.one_name parent b k name b d (subst (HasEntry tree parent k) e gives) own at).0

-- ---- the move

module _ (tree : Tree) (plain : IsPlain tree) (path other : List ℕ) (d : Done) (r : Renames tree path other d) where
  abbrev pub F : Place
  F = r.from

  abbrev pub T : Place
  T = r.to

  abbrev pub B : ℕ
  B = r.found.birth

  abbrev pub node : Node
  node = r.found.node

  abbrev pub m : Move
  m = record { moved = r.found; from = F; to = T; target = target_at tree T }

  abbrev pub A : Place
  A = place_after m

  abbrev pub Taken : Tree
  Taken = take_name tree F

  is_found : IsFound tree r.names r.found
  is_found = walk_ok tree r.names r.found r.walked

  pub is_from : IsPlace tree r.names F
  is_from = parent_ok replies.Invalid tree r.names F r.from_is

  pub is_to : IsPlace tree r.more T
  is_to = parent_ok replies.Invalid tree r.more T r.to_is

  pub stands : at_number tree B ≡ Some node
  stands = is_found.stands

  pub from_named : at_name F.directory.names F.name ≡ Some B
  from_named = place_names tree r.names F r.found is_from is_found

  pub from_gives : HasEntry tree F.parent F.name B
  from_gives = place_gives tree r.names F r.found is_from is_found

  pub order : InOrder tree
  order = plain.rooted.in_order

  pub from_sorted : NamesInOrder F.directory.names
  from_sorted = plain.rooted.names_in_order F.parent F.directory is_from.stands

  pub to_sorted : NamesInOrder T.directory.names
  to_sorted = plain.rooted.names_in_order T.parent T.directory is_to.stands

  -- it is a directory, below the parent that names it, or a file
  pub data What : Type 0 where
    a_dir : (e : Directory) → node ≡ nodes.Directory e → e.parent ≡ F.parent → What
    a_fil : (f : File) → node ≡ nodes.File f → What

  pub what : What
  what = by node refl
    where
      by : (x : Node) → node ≡ x → What
      by (nodes.Directory e) is = a_dir e is (plain.parents F.parent F.name B e from_gives (stands ∙ ap Some is))
      by (nodes.File f) is = a_fil f is
      by (nodes.Other mode) is = absurd (plain.no_other B mode (stands ∙ ap Some is))

  file_apart : (p : Place) (f : File) → at_number tree p.parent ≡ Some (nodes.Directory p.directory) → node ≡ nodes.File f → B ≢ p.parent
  file_apart p f at is e = cc (sym at ∙ (ap (at_number tree) (sym e) ∙ (stands ∙ ap Some is)))

  pub from_apart : B ≢ F.parent
  from_apart e = by what
    where
      by : What → ⊥
      by (a_fil f is) = file_apart F f is_from.stands is e
      by (a_dir x is up) = no_own_name tree plain B F.name x (subst (λ p. HasEntry tree p F.name B) (sym e) from_gives) (stands ∙ ap Some is) B (plain.rooted.led_to B node stands) refl

  pub to_apart : B ≢ T.parent
  to_apart e = by what
    where
      by : What → ⊥
      by (a_fil f is) = file_apart T f is_to.stands is e
      by (a_dir x is up) = true≢false
          (sym (parent_above tree 0 B is_to.first is_to.rest (is_to.path ∙ ap Ok (sym e)))
          ∙ (sym (ap (λ names. list_any (λ b. b == B) (above tree 0 names)) is_to.names_are)
          ∙ sym (ap (λ n. is_directory (Some n) && list_any (λ b. b == B) (above tree 0 r.more)) is) ∙ r.not_below))

  -- both places in one directory
  pub same_directory : T.parent ≡ F.parent → F.directory ≡ T.directory
  same_directory e =
      let k : nodes.Directory F.directory ≡ nodes.Directory T.directory = same_Some (nodes.Directory F.directory) (nodes.Directory T.directory) (sym is_from.stands ∙ (ap (at_number tree) (sym e) ∙ is_to.stands)) in
      cc

  -- the new parent, after the old name was taken out
  pub to_taken : at_number Taken T.parent ≡ Some (nodes.Directory A.directory)
  to_taken = by (T.parent == F.parent) refl
    where
      by : (b : Bool) → (T.parent == F.parent) ≡ b → at_number Taken T.parent ≡ Some (nodes.Directory (if not b then T.directory else without_name T.directory F.name))
      by true e =
          let same = eqb-true T.parent F.parent e in
          ap (at_number Taken) same
          ∙ (at_put_number tree F.parent (nodes.Directory (without_name F.directory F.name))
          ∙ ap (λ (x : Directory). Some (nodes.Directory (without_name x F.name))) (same_directory same))
      by false e = at_put_number_apart tree F.parent (nodes.Directory (without_name F.directory F.name)) T.parent (eqb-false T.parent F.parent e) ∙ is_to.stands

  pub moved_taken : at_number Taken B ≡ Some node
  moved_taken = at_put_number_apart tree F.parent (nodes.Directory (without_name F.directory F.name)) B from_apart ∙ stands

  pub order_taken : InOrder Taken
  order_taken = in_order_put tree F.parent (nodes.Directory (without_name F.directory F.name)) order

  pub after_sorted : NamesInOrder A.directory.names
  after_sorted = by (T.parent == F.parent)
    where
      by : (b : Bool) → NamesInOrder (if not b then T.directory else without_name T.directory F.name).names
      by true = names_in_order_without T.directory.names F.name to_sorted
      by false = to_sorted

  -- ---- what stands at the new place

  -- nothing, another file, or the node itself
  pub data Met : Type 0 where
    none_met : m.target ≡ None → at_name T.directory.names T.name ≡ None → Met
    file_met : (t : Found) (f : File) → m.target ≡ Some t → t.node ≡ nodes.File f → at_name T.directory.names T.name ≡ Some t.birth → t.birth ≢ B → Met
    itself : stays m ≡ true → Met

  pub met : Met
  met = by (at_name T.directory.names T.name) refl
    where
      by_node : (birth : ℕ) (o : Option Node) → at_name T.directory.names T.name ≡ Some birth → at_number tree birth ≡ o → Met
      by_node birth None named none =
          let led = plain.rooted.leads T.parent T.name birth (record { directory = T.directory; stands = is_to.stands; named = named }) in
          absurd (none-some led.0 (sym none ∙ led.1))
      by_node birth (Some x) named there = elim (cases_eq birth B) [
        | inl e ↦ itself (ap (λ (o : Option Found). elim o as (λ _. Bool) [ None ↦ false | Some t ↦ t.birth == B ]) target ∙ eq-eqb birth B e)
        | inr apart ↦ of_kind x refl apart
      ]
        where
          target : m.target ≡ Some (record { birth = birth; node = x })
          target = ap (λ o. elim o as (λ _. Option Found) [ None ↦ None | Some b ↦ elim (at_number tree b) as (λ _. Option Found) [ None ↦ None | Some y ↦ Some (record { birth = b; node = y }) ] ]) named
              ∙ ap (λ o. elim o as (λ _. Option Found) [ None ↦ None | Some y ↦ Some (record { birth = birth; node = y }) ]) there

          of_kind : (y : Node) → x ≡ y → birth ≢ B → Met
          of_kind (nodes.File f) is apart = file_met (record { birth = birth; node = x }) f target is named apart
          of_kind (nodes.Other mode) is apart = absurd (plain.no_other birth mode (there ∙ ap Some is))
          of_kind (nodes.Directory e) is apart = absurd (true≢false
              (sym (ap (λ (o : Option Found). elim o as (λ _. Bool) [ None ↦ false | Some t ↦ is_directory (Some t.node) && not (t.birth == B) ]) target
              ∙ (ap (λ y. is_directory (Some y) && not (birth == B)) is ∙ ap not (ne_eqb birth B apart))) ∙ r.no_directory))

      by : (o : Option ℕ) → at_name T.directory.names T.name ≡ o → Met
      by None none = none_met (ap (λ o. elim o as (λ _. Option Found) [ None ↦ None | Some b ↦ elim (at_number tree b) as (λ _. Option Found) [ None ↦ None | Some y ↦ Some (record { birth = b; node = y }) ] ]) none) none
      by (Some birth) some = by_node birth (at_number tree birth) some refl

  -- what has no name has none afterwards
  pub still_free : at_name T.directory.names T.name ≡ None → at_name A.directory.names T.name ≡ None
  still_free none = by (T.parent == F.parent)
    where
      gone : (o : Option ℕ) → at_name (without_name T.directory F.name).names T.name ≡ o → o ≡ None
      gone None e = refl
      gone (Some b) e = absurd (none-some b (sym none ∙ (at_name_without_found T.directory.names F.name T.name b to_sorted e).1))

      by : (b : Bool) → at_name (if not b then T.directory else without_name T.directory F.name).names T.name ≡ None
      by true = gone (at_name (without_name T.directory F.name).names T.name) refl
      by false = none

  -- another node's name is another name
  pub still_met : (birth : ℕ) → at_name T.directory.names T.name ≡ Some birth → birth ≢ B → at_name A.directory.names T.name ≡ Some birth
  still_met birth some apart = by (T.parent == F.parent) refl
    where
      by : (b : Bool) → (T.parent == F.parent) ≡ b → at_name (if not b then T.directory else without_name T.directory F.name).names T.name ≡ Some birth
      by true e = at_name_without_apart T.directory.names F.name T.name to_sorted
          (λ same. apart (same_Some birth B (sym some ∙ (ap (λ (d : Directory). at_name d.names T.name) (sym (same_directory (eqb-true T.parent F.parent e))) ∙ (ap (at_name F.directory.names) (sym same) ∙ from_named))))) ∙ some
      by false e = some

  -- ---- the tree afterwards

  abbrev pub named_tree : Tree → Tree
  named_tree t = put_number t T.parent (nodes.Directory (with_name A.directory T.name B))

  same_node : (node ≡ moved_node T.parent node) → (left : Tree) → InOrder left → at_number left B ≡ Some node → put_number left B (moved_node T.parent node) ≡ left
  same_node e left sorted at = ap (put_number left B) (sym e) ∙ put_again left B node sorted at

  -- a file moves, or a directory within its parent
  pub moves_only : stays m ≡ false → m.target ≡ None → (moves_directory m && changes_parent m) ≡ false → named_tree Taken ≡ d.tree
  moves_only not_same none within =
      sym (r.tree_is ∙ (ap (λ (b : Bool). if b then tree else tree_moved tree m) not_same
      ∙ (ap (λ o. give_name (put_number (without_target Taken o) B (moved_node T.parent node)) A B) none
      ∙ ap (λ t. give_name t A B) (same_node (by what) Taken order_taken moved_taken))))
    where
      by : What → node ≡ moved_node T.parent node
      by (a_fil f is) = is ∙ ap (moved_node T.parent) (sym is)
      by (a_dir e is up) = is ∙ ((let same : e.parent ≡ T.parent = up ∙ sym parents in λ i. nodes.Directory (record { parent = same i; width = e.width; slots = e.slots; names = e.names })) ∙ ap (moved_node T.parent) (sym is))
        where
          parents : T.parent ≡ F.parent
          parents = elim (cases_eq T.parent F.parent) [
            | inl same ↦ same
            | inr apart ↦ absurd (true≢false (sym (ap (λ n. is_directory (Some n) && not (T.parent == F.parent)) is ∙ ap not (ne_eqb T.parent F.parent apart)) ∙ within))
          ]

  -- a directory moves to another parent
  pub moves_below : stays m ≡ false → m.target ≡ None → (e : Directory) → node ≡ nodes.Directory e →
      named_tree (put_number Taken B (nodes.Directory (record { parent = T.parent; width = e.width; slots = e.slots; names = e.names }))) ≡ d.tree
  moves_below not_same none e is =
      sym (r.tree_is ∙ (ap (λ (b : Bool). if b then tree else tree_moved tree m) not_same
      ∙ (ap (λ o. give_name (put_number (without_target Taken o) B (moved_node T.parent node)) A B) none
      ∙ ap (λ x. give_name (put_number Taken B (moved_node T.parent x)) A B) is)))

  abbrev N : Node
  N = nodes.Directory (with_name A.directory T.name B)

  abbrev lost_if : ℕ → File → Bool → Tree → Tree
  lost_if birth f b left = if b then without_number left birth else put_file left birth (with_links f (f.links - 1))

  -- another file goes, or loses a link
  pub replaces : stays m ≡ false → (t : Found) (f g : File) → m.target ≡ Some t → t.node ≡ nodes.File f → t.birth ≢ B → node ≡ nodes.File g → lose_link (named_tree Taken) t.birth f ≡ d.tree
  replaces not_same t f g target is apart file =
      swapped (nat_le f.links 1)
      ∙ sym (r.tree_is ∙ (ap (λ (b : Bool). if b then tree else tree_moved tree m) not_same
      ∙ (ap (λ o. give_name (put_number (without_target Taken o) B (moved_node T.parent node)) A B) target
      ∙ (ap (λ x. give_name (put_number (elim (a_file x) as (λ _. Tree) [ Err reply ↦ Taken | Ok f ↦ lose_link Taken t.birth f ]) B (moved_node T.parent node)) A B) is
      ∙ ap (λ t. give_name t A B) (same_node (file ∙ ap (moved_node T.parent) (sym file)) (lose_link Taken t.birth f) (sorted (nat_le f.links 1)) (kept (nat_le f.links 1)))))))
    where
      there : at_number tree t.birth ≡ Some (nodes.File f)
      there = target_stands tree T t target ∙ ap Some is

      no_parent : T.parent ≢ t.birth
      no_parent e = cc (sym is_to.stands ∙ (ap (at_number tree) e ∙ there))

      sorted : (b : Bool) → InOrder (lost_if t.birth f b Taken)
      sorted true = in_order_without Taken t.birth order_taken
      sorted false = in_order_put Taken t.birth (nodes.File (with_links f (f.links - 1))) order_taken

      kept : (b : Bool) → at_number (lost_if t.birth f b Taken) B ≡ Some node
      kept true = at_without_apart Taken t.birth B order_taken (λ e. apart (sym e)) ∙ moved_taken
      kept false = at_put_number_apart Taken t.birth (nodes.File (with_links f (f.links - 1))) B (λ e. apart (sym e)) ∙ moved_taken

      swapped : (b : Bool) → lost_if t.birth f b (named_tree Taken) ≡ named_tree (lost_if t.birth f b Taken)
      swapped true = maps_same (without_number (named_tree Taken) t.birth) (named_tree (without_number Taken t.birth))
          (in_order_without (named_tree Taken) t.birth (in_order_put Taken T.parent N order_taken)) (in_order_put (without_number Taken t.birth) T.parent N (sorted true))
          (λ k. at_put_cases (λ o. at_number (without_number (named_tree Taken) t.birth) k ≡ o) (without_number Taken t.birth) T.parent N k
          (λ e. at_without_apart (named_tree Taken) t.birth k (in_order_put Taken T.parent N order_taken) (λ f. no_parent (sym e ∙ f)) ∙ (ap (at_number (named_tree Taken)) e ∙ at_put_number Taken T.parent N))
          (λ far. at_without_cases (λ o. o ≡ at_number (without_number Taken t.birth) k) (named_tree Taken) t.birth k (in_order_put Taken T.parent N order_taken)
          (λ e. sym (ap (at_number (without_number Taken t.birth)) e ∙ at_without_here Taken t.birth order_taken))
          (λ away. at_put_number_apart Taken T.parent N k far ∙ sym (at_without_apart Taken t.birth k order_taken away))))
      swapped false = maps_same (put_file (named_tree Taken) t.birth (with_links f (f.links - 1))) (named_tree (put_file Taken t.birth (with_links f (f.links - 1))))
          (in_order_put (named_tree Taken) t.birth _ (in_order_put Taken T.parent N order_taken)) (in_order_put (put_file Taken t.birth (with_links f (f.links - 1))) T.parent N (sorted false))
          (λ k. at_put_cases (λ o. at_number (put_file (named_tree Taken) t.birth (with_links f (f.links - 1))) k ≡ o) (put_file Taken t.birth (with_links f (f.links - 1))) T.parent N k
          (λ e. at_put_number_apart (named_tree Taken) t.birth _ k (λ f. no_parent (sym e ∙ f)) ∙ (ap (at_number (named_tree Taken)) e ∙ at_put_number Taken T.parent N))
          (λ far. at_put_cases (λ o. o ≡ at_number (put_file Taken t.birth (with_links f (f.links - 1))) k) (named_tree Taken) t.birth (nodes.File (with_links f (f.links - 1))) k
          (λ e. sym (ap (at_number (put_file Taken t.birth (with_links f (f.links - 1)))) e ∙ at_put_number Taken t.birth (nodes.File (with_links f (f.links - 1)))))
          (λ away. at_put_number_apart Taken T.parent N k far ∙ sym (at_put_number_apart Taken t.birth (nodes.File (with_links f (f.links - 1))) k away))))
