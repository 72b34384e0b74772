-- A call keeps a tree plain: files with other bytes, and names that come and go.
use Rattle.std.specs.Prelude.{⊤, ◌≡◌, ◌≢◌, ◌≤◌, ℕ, suc, ◌+◌, ◌-◌, ◌==◌, ◌⊎◌, Bool, true, false, if◌then◌else◌, nat_le, List, [], ◌∷◌, length, Option, Some, None, Ok, is_some, refl}
use Rattle.std.proofs.Common.{sym, ap, subst, ◌∙◌, inl, inr, ⊎_elim, arith}
use Rattle.std.proofs.lemmas.Bool.{cases_eq, true≢false, false≢true, leb-true, leb-false, eqb-true}
use Rattle.std.proofs.lemmas.Option.{none-some, same_Some}
use Rattle.tree_model.specs.declared.node.Node.{Node}
use Rattle.tree_model.specs.declared.node.Node.TheVariants as nodes
use Rattle.tree_model.specs.declared.node.Directory.{Directory}
use Rattle.tree_model.specs.declared.node.File.{File}
use Rattle.tree_model.specs.Maps.{at_number, at_name, without_number}
use Rattle.tree_model.specs.laws.MapsLaws.{at_put_number, at_put_number_apart}
use Rattle.tree_model.specs.laws.Listing.{names_of}
use Rattle.tree_model.specs.Trees.{is_directory, node_of_path}
use Rattle.tree_model.proofs.Effects.{led_kept, place_leads}
use Rattle.tree_model.specs.Calls.{Tree, Done, Place, with_name, without_name, give_name, take_name, put_file, with_links, moved_node}
use Rattle.tree_model.specs.Plain.{names_to}
use Rattle.tree_model.specs.laws.MapOrder.{InOrder, in_order_put, in_order_without, at_put_cases, at_without_cases, at_without_here, NamesInOrder, names_in_order_put, names_in_order_without}
use Rattle.tree_model.proofs.Rows.{IsPlace, place_names}
use Rattle.tree_model.proofs.Changes.{IsRemoved, IsUnlinked, IsLinked}
use Rattle.tree_model.proofs.Hanging.{IsReached, by_edge, IsJoined, fewer_joined, more_joined, reached_more, reached_without}
use Rattle.tree_model.proofs.Plain.{IsOfWidth, whole_plain, edge_of, seen_of, links_of, is_other, IsWhole, one_for, one_at, one_for_here, one_for_other, edge_counts, counted_edge}
use Rattle.tree_model.proofs.Edits.{give_here, IsLike, like_chain, like_file, like_stays, like_put, like_without, each_put, each_without, at_or_apart, edge_put_same, edge_without, give_split, give_kept, give_like, take_split, take_kept, take_like, give_counts, take_counts, put_counts, without_counts}
use Rattle.tree_model.proofs.PlainCalls.{place_of_width, of_width_with, of_width_without, good_name, links_through, no_name, none_named, place_sorted}

-- a node that moves has the same names and links
pub names_moved : (parent : ℕ) (node : Node) → names_of (Some (moved_node parent node)) ≡ names_of (Some node)
names_moved parent (nodes.Directory d) = refl
names_moved parent (nodes.File f) = refl
names_moved parent (nodes.Other mode) = refl

pub links_moved : (parent : ℕ) (node : Node) → links_of (Some (moved_node parent node)) ≡ links_of (Some node)
links_moved parent (nodes.Directory d) = refl
links_moved parent (nodes.File f) = refl
links_moved parent (nodes.Other mode) = refl

pub directory_not_file : (tree : Tree) (a b : ℕ) (d : Directory) (f : File) → at_number tree a ≡ Some (nodes.Directory d) → at_number tree b ≡ Some (nodes.File f) → a ≢ b
directory_not_file tree a b d f h j e = true≢false (sym (ap is_directory h) ∙ (ap (λ x. is_directory (at_number tree x)) e ∙ ap is_directory j))

-- ---- a file in place of a file

module _ (tree : Tree) (w : IsWhole tree) (b : ℕ) (f g : File) (stands : at_number tree b ≡ Some (nodes.File f)) where
  abbrev Put : Tree
  Put = put_file tree b g

  put_edge : (q : ℕ) (k : List ℕ) → edge_of Put q k ≡ edge_of tree q k
  put_edge q k = edge_put_same tree b (nodes.File g) (sym (ap names_of stands)) q k

  put_like : (c : ℕ) → IsLike (at_number tree c) (at_number Put c)
  put_like c = like_put tree b (nodes.File g) (like_file (at_number tree b) f g stands) c

  put_joined : IsJoined (edge_of Put) (seen_of Put)
  put_joined =
      fewer_joined (edge_of tree) (edge_of Put) (seen_of tree) (seen_of Put) w.joined
      (λ p m c e. (sym (put_edge p m) ∙ e, like_stays tree Put c (put_like c)))
      (like_stays tree Put 0 (put_like 0))

  put_reached : (c : ℕ) → is_some (at_number Put c) ≡ true → IsReached (edge_of Put) c
  put_reached c t = reached_more (edge_of tree) (edge_of Put) (λ p m x e. put_edge p m ∙ e) c (w.reached c (sym (put_like c).there ∙ t))

  put_names : (c : ℕ) → names_to Put c ≡ names_to tree c
  put_names c = put_counts tree b (nodes.File g) c w.in_order (ap names_of stands) refl

  -- whole, but for the links of the file
  pub swapped : ((c l : ℕ) → links_of (at_number Put c) ≡ Some l → l ≡ names_to Put c) → IsWhole Put
  swapped links = record {
    width = w.width;
    of_width = each_put (IsOfWidth w.width) tree b (nodes.File g) tt w.of_width;
    in_order = in_order_put tree b (nodes.File g) w.in_order;
    sorted = each_put (λ o. NamesInOrder (names_of o)) tree b (nodes.File g) (subst NamesInOrder (ap names_of stands) (w.sorted b)) w.sorted;
    joined = put_joined;
    reached = put_reached;
    links = links;
    known = each_put (λ o. is_other o ≡ false) tree b (nodes.File g) refl w.known;
  }

  pub put_whole : g.links ≡ f.links → IsWhole Put
  put_whole same = swapped (λ c l h.
      at_put_cases (λ o. links_of o ≡ Some l → l ≡ names_to Put c) tree b (nodes.File g) c
      (λ e j.
      sym (same_Some g.links l j) ∙ (same ∙ (w.links b f.links (ap links_of stands) ∙ (ap (names_to tree) (sym e) ∙ sym (put_names c)))))
      (λ apart j. w.links c l j ∙ sym (put_names c))
      h)

-- ---- a name that goes

module _ (tree : Tree) (w : IsWhole tree) (names : List (List ℕ)) (p : Place) (place : IsPlace tree names p) (b : ℕ) (named : at_name p.directory.names p.name ≡ Some b) (apart_from : b ≢ p.parent) (leaf : names_of (at_number tree b) ≡ []) where
  abbrev Taken : Tree
  Taken = take_name tree p

  taken_sorted : NamesInOrder p.directory.names
  taken_sorted = place_sorted tree w names p place

  pub taken_order : InOrder Taken
  taken_order = in_order_put tree p.parent _ w.in_order

  pub its_edge : edge_of tree p.parent p.name ≡ Some b
  its_edge = ap (λ o. at_name (names_of o) p.name) place.stands ∙ named

  pub at_taken : at_number Taken b ≡ at_number tree b
  at_taken = at_put_number_apart tree p.parent (nodes.Directory (without_name p.directory p.name)) b apart_from

  b_no_root : b ≢ 0
  b_no_root = w.joined.no_root p.parent p.name b its_edge

  no_names_of : (m : List ℕ) (x : ℕ) → edge_of tree b m ≡ Some x → ⊥
  no_names_of m x e = none-some x (sym (ap (λ ns. at_name ns m) leaf) ∙ e)

  taken_split : (q : ℕ) (k : List ℕ) (c : ℕ) → edge_of tree q k ≡ Some c → (c ≡ b) ⊎ (edge_of Taken q k ≡ Some c)
  taken_split q k c e =
      ⊎_elim
      (λ at. inl (same_Some c b (sym e ∙ (ap (λ q. edge_of tree q k) at.0 ∙ (ap (edge_of tree p.parent) at.1 ∙ its_edge)))))
      (λ apart. inr (take_kept tree p place.stands taken_sorted q k c e apart))
      (at_or_apart p.parent p.name q k)

  pub taken_counts : (c : ℕ) → names_to Taken c + one_at b c ≡ names_to tree c
  taken_counts c =
      let all = take_counts tree p place.stands c w.in_order in
      let one : one_for c (at_name p.directory.names p.name) ≡ one_at b c = ap (one_for c) named in
      omega arith

  taken_links : (c l : ℕ) → c ≢ b → links_of (at_number Taken c) ≡ Some l → l ≡ names_to Taken c
  taken_links c l apart h =
      let old = w.links c l (links_through tree p.parent (without_name p.directory p.name) c l h) in
      let count = taken_counts c in
      let none : one_at b c ≡ 0 = one_for_other b c (λ e. apart (sym e)) in
      omega arith

  taken_each : (P : Option Node → Type 0) → P (Some (nodes.Directory (without_name p.directory p.name))) → ((c : ℕ) → P (at_number tree c)) → (c : ℕ) → P (at_number Taken c)
  taken_each P here all = each_put P tree p.parent _ here all

  pub taken_names_in_order : (c : ℕ) → NamesInOrder (names_of (at_number Taken c))
  taken_names_in_order = taken_each (λ o. NamesInOrder (names_of o)) (names_in_order_without p.directory.names p.name taken_sorted) w.sorted

  pub taken_of_width : (c : ℕ) → IsOfWidth w.width (at_number Taken c)
  taken_of_width = taken_each (IsOfWidth w.width) (of_width_without w.width p.directory p.name taken_sorted (place_of_width tree w names p place)) w.of_width

  -- the node goes with its last name
  module _ (last_one : (q : ℕ) (k : List ℕ) → edge_of Taken q k ≡ Some b → ⊥) where
    abbrev Gone : Tree
    Gone = without_number Taken b

    gone_edge : (q : ℕ) (k : List ℕ) → edge_of Gone q k ≡ edge_of Taken q k
    gone_edge q k = edge_without Taken b taken_order (ap names_of at_taken ∙ leaf) q k

    gone_like : (c : ℕ) → c ≢ b → IsLike (at_number tree c) (at_number Gone c)
    gone_like c apart = like_chain (at_number tree c) (at_number Taken c) (at_number Gone c) (take_like tree p place.stands c) (like_without Taken b c taken_order apart)

    gone_apart : (q : ℕ) (k : List ℕ) (c : ℕ) → edge_of Gone q k ≡ Some c → c ≢ b
    gone_apart q k c e same = last_one q k (sym (gone_edge q k) ∙ (e ∙ ap Some same))

    gone_joined : IsJoined (edge_of Gone) (seen_of Gone)
    gone_joined =
        fewer_joined (edge_of tree) (edge_of Gone) (seen_of tree) (seen_of Gone) w.joined
        (λ q k c e. ((take_split tree p place.stands taken_sorted q k c (sym (gone_edge q k) ∙ e)).0, like_stays tree Gone c (gone_like c (gone_apart q k c e))))
        (like_stays tree Gone 0 (gone_like 0 (λ e. b_no_root (sym e))))

    there_no_b : (c : ℕ) → is_some (at_number Gone c) ≡ true → c ≢ b
    there_no_b c t e = true≢false (sym t ∙ (ap (λ j. is_some (at_number Gone j)) e ∙ ap is_some (at_without_here Taken b taken_order)))

    gone_reached : (c : ℕ) → is_some (at_number Gone c) ≡ true → IsReached (edge_of Gone) c
    gone_reached c t =
        let apart = there_no_b c t in
        ⊎_elim
        (λ e. absurd (apart e))
        (λ r. r)
        (reached_without (edge_of tree) (edge_of Gone) (λ x. x ≡ b)
        (λ q k x e. ⊎_elim inl (λ f. inr (gone_edge q k ∙ f)) (taken_split q k x e))
        (λ x same m y e. no_names_of m y (ap (λ j. edge_of tree j m) (sym same) ∙ e))
        c (w.reached c (sym (gone_like c apart).there ∙ t)))

    gone_links : (c l : ℕ) → links_of (at_number Gone c) ≡ Some l → l ≡ names_to Gone c
    gone_links c l =
        at_without_cases (λ o. links_of o ≡ Some l → l ≡ names_to Gone c) Taken b c taken_order
        (λ e h. absurd (none-some l h))
        (λ apart h. taken_links c l apart h ∙ sym (without_counts Taken b c (ap names_of at_taken ∙ leaf)))

    pub gone_whole : IsWhole Gone
    gone_whole = record {
      width = w.width;
      of_width = each_without (IsOfWidth w.width) Taken b taken_order tt taken_of_width;
      in_order = in_order_without Taken b taken_order;
      sorted = each_without (λ o. NamesInOrder (names_of o)) Taken b taken_order (subst NamesInOrder leaf (w.sorted b)) taken_names_in_order;
      joined = gone_joined;
      reached = gone_reached;
      links = gone_links;
      known = each_without (λ o. is_other o ≡ false) Taken b taken_order refl (taken_each (λ o. is_other o ≡ false) refl w.known);
    }

  -- a file that has other names loses one
  module _ (f : File) (stands : at_number tree b ≡ Some (nodes.File f)) (more : 2 ≤ f.links) where
    abbrev Less : Tree
    Less = put_file Taken b (with_links f (f.links - 1))

    file_taken : at_number Taken b ≡ Some (nodes.File f)
    file_taken = at_taken ∙ stands

    less_edge : (q : ℕ) (k : List ℕ) → edge_of Less q k ≡ edge_of Taken q k
    less_edge q k = edge_put_same Taken b (nodes.File (with_links f (f.links - 1))) (sym (ap names_of file_taken)) q k

    less_like : (c : ℕ) → IsLike (at_number tree c) (at_number Less c)
    less_like c =
        like_chain (at_number tree c) (at_number Taken c) (at_number Less c) (take_like tree p place.stands c)
        (like_put Taken b (nodes.File (with_links f (f.links - 1))) (like_file (at_number Taken b) f (with_links f (f.links - 1)) file_taken) c)

    less_joined : IsJoined (edge_of Less) (seen_of Less)
    less_joined =
        fewer_joined (edge_of tree) (edge_of Less) (seen_of tree) (seen_of Less) w.joined
        (λ q k c e. ((take_split tree p place.stands taken_sorted q k c (sym (less_edge q k) ∙ e)).0, like_stays tree Less c (less_like c)))
        (like_stays tree Less 0 (less_like 0))

    less_or : (c : ℕ) → is_some (at_number tree c) ≡ true → (c ≡ b) ⊎ IsReached (edge_of Less) c
    less_or c t =
        reached_without (edge_of tree) (edge_of Less) (λ x. x ≡ b)
        (λ q k x e. ⊎_elim inl (λ g. inr (less_edge q k ∙ g)) (taken_split q k x e))
        (λ x same m y e. no_names_of m y (ap (λ j. edge_of tree j m) (sym same) ∙ e))
        c (w.reached c t)

    links_are : f.links ≡ names_to tree b
    links_are = w.links b f.links (ap links_of stands)

    less_counts : (c : ℕ) → names_to Less c ≡ names_to Taken c
    less_counts c = put_counts Taken b (nodes.File (with_links f (f.links - 1))) c taken_order (ap names_of file_taken) refl

    pub edge_from_there : (q : ℕ) (k : List ℕ) (c : ℕ) → edge_of tree q k ≡ Some c → is_some (at_number tree q) ≡ true
    edge_from_there q k c e = by (at_number tree q) e
      where
        by : (o : Option Node) → at_name (names_of o) k ≡ Some c → is_some o ≡ true
        by (Some node) h = refl
        by None h = absurd (none-some c h)

    file_reached : IsReached (edge_of Less) b
    file_reached =
        let count = taken_counts b in
        let one : one_at b b ≡ 1 = one_for_here b in
        let links = links_are in
        let some : 1 ≤ names_to Taken b = omega arith in
        let x = counted_edge Taken b taken_order taken_names_in_order some in
        let old = (take_split tree p place.stands taken_sorted x.0 x.1 b x.2).0 in
        ⊎_elim
        (λ same. absurd (no_names_of x.1 b (ap (λ j. edge_of tree j x.1) (sym same) ∙ old)))
        (λ r. by_edge r (less_edge x.0 x.1 ∙ x.2))
        (less_or x.0 (edge_from_there x.0 x.1 b old))

    less_reached : (c : ℕ) → is_some (at_number Less c) ≡ true → IsReached (edge_of Less) c
    less_reached c t = ⊎_elim (λ e. subst (IsReached (edge_of Less)) (sym e) file_reached) (λ r. r) (less_or c (sym (less_like c).there ∙ t))

    less_links : (c l : ℕ) → links_of (at_number Less c) ≡ Some l → l ≡ names_to Less c
    less_links c l =
        at_put_cases (λ o. links_of o ≡ Some l → l ≡ names_to Less c) Taken b (nodes.File (with_links f (f.links - 1))) c
        (λ e h.
        let is : f.links - 1 ≡ l = same_Some (f.links - 1) l h in
        let count = taken_counts c in
        let one : one_at b c ≡ 1 = ap (one_at b) e ∙ one_for_here b in
        let links : f.links ≡ names_to tree c = links_are ∙ ap (names_to tree) (sym e) in
        let same = less_counts c in
        omega arith)
        (λ apart h. taken_links c l apart h ∙ sym (less_counts c))

    pub less_whole : IsWhole Less
    less_whole = record {
      width = w.width;
      of_width = each_put (IsOfWidth w.width) Taken b _ tt taken_of_width;
      in_order = in_order_put Taken b _ taken_order;
      sorted = each_put (λ o. NamesInOrder (names_of o)) Taken b _ (subst NamesInOrder leaf (w.sorted b)) taken_names_in_order;
      joined = less_joined;
      reached = less_reached;
      links = less_links;
      known = each_put (λ o. is_other o ≡ false) Taken b _ refl (taken_each (λ o. is_other o ≡ false) refl w.known);
    }

-- ---- rows

pub no_entries : (names : List (List ℕ × ℕ)) → (length names == 0) ≡ true → names ≡ []
no_entries [] h = refl
no_entries (e ∷ es) h = absurd (let z : suc (length es) ≡ 0 = eqb-true (suc (length es)) 0 h in omega arith)

pub removed_whole : (tree : Tree) → IsWhole tree → (d : Done) → IsRemoved tree d → IsWhole d.tree
removed_whole tree w d r =
    let b = r.found.birth in
    let stands : at_number tree r.found.birth ≡ Some (nodes.Directory r.directory) = r.is_found.stands ∙ ap Some r.node_is in
    let empty : r.directory.names ≡ [] = no_entries r.directory.names r.empty in
    let named = place_names tree r.names r.place r.found r.is_place r.is_found in
    let leaf : names_of (at_number tree r.found.birth) ≡ [] = ap names_of stands ∙ empty in
    let apart : (r.found.birth ≢ r.place.parent) = λ e.
    none-some r.found.birth (sym (ap (λ ns. at_name ns r.place.name) leaf) ∙ (ap (λ j. edge_of tree j r.place.name) e ∙ (ap (λ o. at_name (names_of o) r.place.name) r.is_place.stands ∙ named)))
    in
    subst IsWhole (sym r.tree_is)
    (gone_whole tree w r.names r.place r.is_place r.found.birth named apart leaf
    (λ q k e.
    let x = take_split tree r.place r.is_place.stands (place_sorted tree w r.names r.place r.is_place) q k r.found.birth e in
    let one = w.joined.one_name q r.place.parent k r.place.name r.found.birth x.0 (ap (λ o. at_name (names_of o) r.place.name) r.is_place.stands ∙ named) (ap is_directory stands) in
    x.1 (one.0, one.1)))

pub unlinked_whole : (tree : Tree) → IsWhole tree → (d : Done) → IsUnlinked tree d → IsWhole d.tree
unlinked_whole tree w d r = subst IsWhole (sym r.tree_is) (by (nat_le r.file.links 1) refl)
  where
    stands : at_number tree r.found.birth ≡ Some (nodes.File r.file)
    stands = r.is_found.stands ∙ ap Some r.node_is

    named : at_name r.place.directory.names r.place.name ≡ Some r.found.birth
    named = place_names tree r.names r.place r.found r.is_place r.is_found

    apart : r.found.birth ≢ r.place.parent
    apart e = directory_not_file tree r.place.parent r.found.birth r.place.directory r.file r.is_place.stands stands (sym e)

    links : r.file.links ≡ names_to tree r.found.birth
    links = w.links r.found.birth r.file.links (ap links_of stands)

    last_one : r.file.links ≤ 1 → (q : ℕ) (k : List ℕ) → edge_of (take_name tree r.place) q k ≡ Some r.found.birth → ⊥
    last_one few q k e =
        let some = edge_counts (take_name tree r.place) q k r.found.birth e in
        let count = taken_counts tree w r.names r.place r.is_place r.found.birth named apart (ap names_of stands) r.found.birth in
        let one : one_at r.found.birth r.found.birth ≡ 1 = one_for_here r.found.birth in
        let all = links in
        omega arith

    by : (b : Bool) → nat_le r.file.links 1 ≡ b → IsWhole (if b then without_number (take_name tree r.place) r.found.birth else put_file (take_name tree r.place) r.found.birth (with_links r.file (r.file.links - 1)))
    by true e = gone_whole tree w r.names r.place r.is_place r.found.birth named apart (ap names_of stands) (last_one (leb-true r.file.links 1 e))
    by false e = less_whole tree w r.names r.place r.is_place r.found.birth named apart (ap names_of stands) r.file stands (let l = leb-false r.file.links 1 e in omega arith)

module _ (tree : Tree) (w : IsWhole tree) (d : Done) (r : IsLinked tree d) where
  abbrev B : ℕ
  B = r.found.birth

  abbrev More : File
  More = with_links r.file (r.file.links + 1)

  abbrev Start : Tree
  Start = put_file tree B More

  abbrev Linked : Tree
  Linked = give_name Start r.place B

  pub link_stands : at_number tree B ≡ Some (nodes.File r.file)
  link_stands = r.is_found.stands ∙ ap Some r.node_is

  link_apart : r.place.parent ≢ B
  link_apart = directory_not_file tree r.place.parent B r.place.directory r.file r.is_place.stands link_stands

  pub start_stands : at_number Start r.place.parent ≡ Some (nodes.Directory r.place.directory)
  start_stands = at_put_number_apart tree B (nodes.File More) r.place.parent link_apart ∙ r.is_place.stands

  pub start_edge : (q : ℕ) (k : List ℕ) → edge_of Start q k ≡ edge_of tree q k
  start_edge q k = edge_put_same tree B (nodes.File More) (sym (ap names_of link_stands)) q k

  linked_like : (c : ℕ) → IsLike (at_number tree c) (at_number Linked c)
  linked_like c =
      like_chain (at_number tree c) (at_number Start c) (at_number Linked c)
      (like_put tree B (nodes.File More) (like_file (at_number tree B) r.file More link_stands) c)
      (give_like Start r.place start_stands B c)

  pub linked_kept : (q : ℕ) (k : List ℕ) (c : ℕ) → edge_of tree q k ≡ Some c → edge_of Linked q k ≡ Some c
  linked_kept q k c e =
      give_kept Start r.place start_stands B q k c (start_edge q k ∙ e)
      (λ at. no_name r.place r.free c (sym (ap (λ o. at_name (names_of o) r.place.name) r.is_place.stands) ∙ (sym (ap (λ j. edge_of tree j r.place.name) at.0) ∙ (sym (ap (edge_of tree q) at.1) ∙ e))))

  pub linked_at : at_number Linked B ≡ Some (nodes.File More)
  linked_at = at_put_number_apart Start r.place.parent (nodes.Directory (with_name r.place.directory r.place.name B)) B (λ e. link_apart (sym e)) ∙ at_put_number tree B (nodes.File More)

  b_not_root : B ≢ 0
  b_not_root e = true≢false (sym w.joined.root ∙ (ap (λ j. is_directory (at_number tree j)) (sym e) ∙ ap is_directory link_stands))

  linked_joined : IsJoined (edge_of Linked) (seen_of Linked)
  linked_joined =
      more_joined (edge_of tree) (edge_of Linked) (seen_of tree) (seen_of Linked) (λ q k. ⊤) r.place.parent r.place.name B w.joined
      (record {
        good = good_name tree r.path r.more r.place r.named r.is_place;
        there = ap is_some linked_at;
        no_root = b_not_root;
        alone = λ t q k e kept. false≢true (sym (ap is_directory linked_at) ∙ t);
        up = λ t. absurd (false≢true (sym (ap is_directory linked_at) ∙ t));
      })
      (λ q k c e.
      ⊎_elim inl
      (λ x. inr (record { was = sym (start_edge q k) ∙ x.0; kept = tt; stays = like_stays tree Linked c (linked_like c) }))
      (give_split Start r.place start_stands B q k c e))
      (like_stays tree Linked 0 (linked_like 0))

  linked_counts : (c : ℕ) → names_to Linked c ≡ names_to tree c + one_at B c
  linked_counts c =
      let a = give_counts Start r.place start_stands B c (in_order_put tree B (nodes.File More) w.in_order) (place_sorted tree w r.more r.place r.is_place) in
      let b = put_counts tree B (nodes.File More) c w.in_order (ap names_of link_stands) refl in
      let e = none_named (at_name r.place.directory.names r.place.name) r.free c in
      omega arith

  linked_links : (c l : ℕ) → links_of (at_number Linked c) ≡ Some l → l ≡ names_to Linked c
  linked_links c l h =
      let count = linked_counts c in
      ⊎_elim
      (λ e.
      let is : r.file.links + 1 ≡ l = same_Some (r.file.links + 1) l (sym (ap links_of linked_at) ∙ (sym (ap (λ j. links_of (at_number Linked j)) e) ∙ h)) in
      let old : r.file.links ≡ names_to tree c = w.links B r.file.links (ap links_of link_stands) ∙ ap (names_to tree) (sym e) in
      let one : one_at B c ≡ 1 = ap (one_at B) e ∙ one_for_here B in
      omega arith)
      (λ apart.
      let first = links_through Start r.place.parent (with_name r.place.directory r.place.name B) c l h in
      let old = w.links c l (sym (ap links_of (at_put_number_apart tree B (nodes.File More) c apart)) ∙ first) in
      let other : one_at B c ≡ 0 = one_for_other B c (λ e. apart (sym e)) in
      omega arith)
      (cases_eq c B)

  pub linked_whole : IsWhole d.tree
  linked_whole = subst IsWhole (sym r.tree_is) (record {
    width = w.width;
    of_width = each_put (IsOfWidth w.width) Start r.place.parent _ (of_width_with w.width r.place.directory r.place.name B (place_of_width tree w r.more r.place r.is_place) r.is_place.short)
        (each_put (IsOfWidth w.width) tree B _ tt w.of_width);
    in_order = in_order_put Start r.place.parent _ (in_order_put tree B _ w.in_order);
    sorted = each_put (λ o. NamesInOrder (names_of o)) Start r.place.parent _ (names_in_order_put r.place.directory.names r.place.name B (place_sorted tree w r.more r.place r.is_place))
        (each_put (λ o. NamesInOrder (names_of o)) tree B _ (subst NamesInOrder (ap names_of link_stands) (w.sorted B)) w.sorted);
    joined = linked_joined;
    reached = λ c t. reached_more (edge_of tree) (edge_of Linked) linked_kept c (w.reached c (sym (linked_like c).there ∙ t));
    links = linked_links;
    known = each_put (λ o. is_other o ≡ false) Start r.place.parent _ refl (each_put (λ o. is_other o ≡ false) tree B _ refl w.known);
  })

  -- both names lead to the file
  pub linked_leads : node_of_path d.tree r.more ≡ Ok B
  linked_leads =
      place_leads tree d.tree (whole_plain d.tree linked_whole).rooted
      (λ q k c e. subst (λ t. edge_of t q k ≡ Some c) (sym r.tree_is) (linked_kept q k c e))
      r.more r.place r.is_place B (subst (λ t. edge_of t r.place.parent r.place.name ≡ Some B) (sym r.tree_is) (give_here Start r.place start_stands B))

  pub linked_stays : node_of_path d.tree r.names ≡ Ok B
  linked_stays =
      led_kept tree d.tree (whole_plain d.tree linked_whole).rooted
      (λ q k c e. subst (λ t. edge_of t q k ≡ Some c) (sym r.tree_is) (linked_kept q k c e))
      r.names 0 B r.is_found.path
