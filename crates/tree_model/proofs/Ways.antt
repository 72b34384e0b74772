-- Ways through a tree: which paths lead where when a name comes, goes or moves.
use Rattle.std.specs.Prelude.{◌≡◌, ◌≢◌, ◌≤◌, ◌⊎◌, ◌↔◌, ℕ, zero, suc, true, List, [], ◌∷◌, ◌++◌, length, Option, Some, None, Result, Ok, refl}
use Rattle.std.proofs.Common.{sym, ap, subst, ◌∙◌, inl, inr, ⊎_elim, arith}
use Rattle.std.proofs.lemmas.List.{length-append}
use Rattle.std.proofs.lemmas.Option.{none-some, same_Some}
use Rattle.tree_model.specs.declared.node.Node.{Node}
use Rattle.tree_model.specs.declared.node.Node.TheVariants as nodes
use Rattle.tree_model.specs.Maps.{at_number, at_name}
use Rattle.tree_model.specs.Rooted.{IsRooted}
use Rattle.tree_model.specs.Trees.{Refusal, step_at, led_to, is_directory}
use Rattle.tree_model.specs.Calls.{Tree, Place, all_but_last, last_name}
use Rattle.tree_model.specs.laws.Alike.{same_ok, step_gives, step_given, led_on, led_parts}
use Rattle.tree_model.specs.laws.Listing.{names_of}
use Rattle.tree_model.proofs.Causes.{front_last}
use Rattle.tree_model.proofs.Edits.{IsAt, at_or_apart}
use Rattle.tree_model.proofs.Hanging.{Edges, Seen, IsJoined}
use Rattle.tree_model.proofs.Plain.{edge_of, seen_of, gives_edge, edge_gives}
use Rattle.tree_model.proofs.Rows.{IsPlace}

abbrev pub Names : Type 0
Names = List (List ℕ)

-- names lead from one node to another
abbrev pub Way : Edges → ℕ → Names → ℕ → Type 0
Way edge start [] birth = start ≡ birth
Way edge start (name ∷ names) birth = (next : ℕ) × (edge start name ≡ Some next) × Way edge next names birth

-- ---- ways and paths of a tree

pub led_way : (tree : Tree) (start birth : ℕ) (names : Names) → led_to tree start names ≡ Ok birth → Way (edge_of tree) start names birth
led_way tree start birth [] h = same_ok start birth h
led_way tree start birth (name ∷ names) h =
    let x = led_parts tree (step_at (at_number tree start) name) names birth h in
    (x.0, gives_edge tree start name x.0 (step_gives tree start name x.0 x.1), led_way tree x.0 birth names x.2)

pub way_led : (tree : Tree) → IsRooted tree → (start birth : ℕ) (names : Names) → Way (edge_of tree) start names birth → led_to tree start names ≡ Ok birth
way_led tree rooted start birth [] h = ap Ok h
way_led tree rooted start birth (name ∷ names) h =
    ap (λ (r : Result ℕ Refusal). led_on tree r names) (step_given tree rooted start name h.0 (edge_gives tree start name h.0 h.1))
    ∙ way_led tree rooted h.0 birth names h.2

-- ---- ways in general

module _ (edge : Edges) where
  pub way_join : (start mid birth : ℕ) (names more : Names) → Way edge start names mid → Way edge mid more birth → Way edge start (names ++ more) birth
  way_join start mid birth [] more h k = subst (λ s. Way edge s more birth) (sym h) k
  way_join start mid birth (name ∷ names) more h k = (h.0, h.1, way_join h.0 mid birth names more h.2 k)

  pub way_split : (start birth : ℕ) (names more : Names) → Way edge start (names ++ more) birth → (mid : ℕ) × Way edge start names mid × Way edge mid more birth
  way_split start birth [] more h = (start, refl, h)
  way_split start birth (name ∷ names) more h = let x = way_split h.0 birth names more h.2 in (x.0, (h.0, h.1, x.1), x.2)

  pub way_one : (start a b : ℕ) (names : Names) → Way edge start names a → Way edge start names b → a ≡ b
  way_one start a b [] h k = sym h ∙ k
  way_one start a b (name ∷ names) h k =
      let same : h.0 ≡ k.0 = same_Some h.0 k.0 (sym h.1 ∙ k.1) in
      way_one k.0 a b names (subst (λ s. Way edge s names a) same h.2) k.2

  -- the last name
  pub way_last : (start birth : ℕ) (front : Names) (name : List ℕ) → Way edge start (front ++ name ∷ []) birth → (parent : ℕ) × Way edge start front parent × (edge parent name ≡ Some birth)
  way_last start birth front name h =
      let x = way_split start birth front (name ∷ []) h in
      (x.0, x.1, x.2.1 ∙ ap Some x.2.2)

  pub way_push : (start parent birth : ℕ) (front : Names) (name : List ℕ) → Way edge start front parent → edge parent name ≡ Some birth → Way edge start (front ++ name ∷ []) birth
  way_push start parent birth front name h e = way_join start parent birth front (name ∷ []) h (birth, e, refl)

pub way_map : (edge more : Edges) → ((q : ℕ) (k : List ℕ) (c : ℕ) → edge q k ≡ Some c → more q k ≡ Some c) → (start birth : ℕ) (names : Names) → Way edge start names birth → Way more start names birth
way_map edge more kept start birth [] h = h
way_map edge more kept start birth (name ∷ names) h = (h.0, kept start name h.0 h.1, way_map edge more kept h.0 birth names h.2)

-- a way comes by the name of a place, for the first time there by other edges
pub record ComesBy (edge other : Edges) (place : ℕ) (name : List ℕ) (start : ℕ) (names : Names) (birth : ℕ) : Type 0 where
  pub front : Names
  pub rest : Names
  pub next : ℕ
  pub names_are : names ≡ front ++ name ∷ rest
  pub before : Way other start front place
  pub was : Way edge start front place
  pub step : edge place name ≡ Some next
  pub after : Way edge next rest birth

pub way_or : (edge other : Edges) (place : ℕ) (name : List ℕ) → ((q : ℕ) (k : List ℕ) (c : ℕ) → edge q k ≡ Some c → IsAt place name q k ⊎ (other q k ≡ Some c)) →
    (start birth : ℕ) (names : Names) → Way edge start names birth → Way other start names birth ⊎ ComesBy edge other place name start names birth
way_or edge other place name split start birth [] h = inl h
way_or edge other place name split start birth (m ∷ ms) h =
    ⊎_elim
    (λ at. inr (record {
      front = [];
      rest = ms;
      next = h.0;
      names_are = ap (λ k. k ∷ ms) at.1;
      before = at.0;
      was = at.0;
      step = sym (ap (λ q. edge q m) at.0 ∙ ap (edge place) at.1) ∙ h.1;
      after = h.2;
    }))
    (λ e.
    ⊎_elim
    (λ w. inl (h.0, e, w))
    (λ x. inr (record {
      front = m ∷ x.front;
      rest = x.rest;
      next = x.next;
      names_are = ap (λ ns. m ∷ ns) x.names_are;
      before = (h.0, e, x.before);
      was = (h.0, h.1, x.was);
      step = x.step;
      after = x.after;
    }))
    (way_or edge other place name split h.0 birth ms h.2))
    (split start m h.0 h.1)

-- ---- a directory has one path

module _ (edge : Edges) (s : Seen) (joined : IsJoined edge s) (source : (p : ℕ) (m : List ℕ) (b : ℕ) → edge p m ≡ Some b → s.directory p ≡ true) where
  not_to_root : (front : Names) (name : List ℕ) (birth : ℕ) → Way edge 0 (front ++ name ∷ []) birth → birth ≢ 0
  not_to_root front name birth h = let x = way_last edge 0 birth front name h in joined.no_root x.0 name birth x.2

  as_pushed : (first : List ℕ) (rest : Names) (birth : ℕ) → Way edge 0 (first ∷ rest) birth → Way edge 0 (all_but_last first rest ++ last_name first rest ∷ []) birth
  as_pushed first rest birth h = subst (λ ns. Way edge 0 ns birth) (sym (front_last first rest)) h

  one_way_by : (n : ℕ) (names more : Names) (birth : ℕ) → length names ≤ n → Way edge 0 names birth → Way edge 0 more birth → s.directory birth ≡ true → names ≡ more
  one_way_by n [] [] birth le h k d = refl
  one_way_by n [] (y ∷ ys) birth le h k d = absurd (not_to_root (all_but_last y ys) (last_name y ys) birth (as_pushed y ys birth k) (sym h))
  one_way_by n (x ∷ xs) [] birth le h k d = absurd (not_to_root (all_but_last x xs) (last_name x xs) birth (as_pushed x xs birth h) (sym k))
  one_way_by zero (x ∷ xs) (y ∷ ys) birth le h k d = absurd (omega arith)
  one_way_by (suc n) (x ∷ xs) (y ∷ ys) birth le h k d =
      let a = way_last edge 0 birth (all_but_last x xs) (last_name x xs) (as_pushed x xs birth h) in
      let b = way_last edge 0 birth (all_but_last y ys) (last_name y ys) (as_pushed y ys birth k) in
      let one = joined.one_name a.0 b.0 (last_name x xs) (last_name y ys) birth a.2 b.2 d in
      let len : length (all_but_last x xs) ≤ n =
      (let e : length (all_but_last x xs ++ last_name x xs ∷ []) ≡ length (x ∷ xs) = ap length (front_last x xs) in
      let f = length-append (all_but_last x xs) (last_name x xs ∷ []) in omega arith)
      in
      let fronts = one_way_by n (all_but_last x xs) (all_but_last y ys) b.0 len (subst (Way edge 0 (all_but_last x xs)) one.0 a.1) b.1 (source b.0 (last_name y ys) birth b.2) in
      sym (front_last x xs) ∙ (ap (λ f. f ++ last_name x xs ∷ []) fronts ∙ (ap (λ m. all_but_last y ys ++ m ∷ []) one.1 ∙ front_last y ys))

  pub one_way : (names more : Names) (birth : ℕ) → Way edge 0 names birth → Way edge 0 more birth → s.directory birth ≡ true → names ≡ more
  one_way names more birth h k d = one_way_by (length names) names more birth (omega arith) h k d

-- a node that has names is a directory
pub has_names : (tree : Tree) (p : ℕ) (m : List ℕ) (b : ℕ) → edge_of tree p m ≡ Some b → is_directory (at_number tree p) ≡ true
has_names tree p m b h = by (at_number tree p) h
  where
    by : (o : Option Node) → at_name (names_of o) m ≡ Some b → is_directory o ≡ true
    by (Some (nodes.Directory d)) h = refl
    by (Some (nodes.File f)) h = absurd (none-some b h)
    by (Some (nodes.Other mode)) h = absurd (none-some b h)
    by None h = absurd (none-some b h)

pub leaf_ends : (edge : Edges) (leaf birth : ℕ) (names : Names) → ((m : List ℕ) (x : ℕ) → edge leaf m ≡ Some x → ⊥) → Way edge leaf names birth → (names ≡ []) × (leaf ≡ birth)
leaf_ends edge leaf birth [] none h = (refl, h)
leaf_ends edge leaf birth (m ∷ ms) none h = absurd (none m h.0 h.1)

-- the names of a place: those of its directory, and one more
pub record IsSpot (edge : Edges) (s : Seen) (place : ℕ) (name : List ℕ) (names : Names) : Type 0 where
  pub front : Names
  pub names_are : front ++ name ∷ [] ≡ names
  pub way : Way edge 0 front place
  pub directory : s.directory place ≡ true

pub place_ends : (tree : Tree) (names : Names) (p : Place) (h : IsPlace tree names p) → all_but_last h.first h.rest ++ p.name ∷ [] ≡ names
place_ends tree names p h = ap (λ name. all_but_last h.first h.rest ++ name ∷ []) (sym h.name_is) ∙ (front_last h.first h.rest ∙ sym h.names_are)

pub place_spot : (tree : Tree) (names : Names) (p : Place) → IsPlace tree names p → IsSpot (edge_of tree) (seen_of tree) p.parent p.name names
place_spot tree names p h = record {
  front = all_but_last h.first h.rest;
  names_are = place_ends tree names p h;
  way = led_way tree 0 p.parent (all_but_last h.first h.rest) h.path;
  directory = ap is_directory h.stands;
}

module _ (edge : Edges) (s : Seen) (joined : IsJoined edge s) (source : (p : ℕ) (m : List ℕ) (b : ℕ) → edge p m ≡ Some b → s.directory p ≡ true) (place : ℕ) (name : List ℕ) (names : Names) (spot : IsSpot edge s place name names) (leaf : ℕ) where
  -- ---- a name comes

  -- one name more, to a node without names
  pub record IsMore (more : Edges) : Type 0 where
    pub split : (q : ℕ) (k : List ℕ) (c : ℕ) → more q k ≡ Some c → (IsAt place name q k × (c ≡ leaf)) ⊎ (edge q k ≡ Some c)
    pub kept : (q : ℕ) (k : List ℕ) (c : ℕ) → edge q k ≡ Some c → more q k ≡ Some c
    pub here : more place name ≡ Some leaf
    pub empty : (m : List ℕ) (x : ℕ) → more leaf m ≡ Some x → ⊥

  pub more_ways : (more : Edges) → IsMore more → (path : Names) (birth : ℕ) → Way more 0 path birth ↔ (Way edge 0 path birth ⊎ ((path ≡ names) × (birth ≡ leaf)))
  more_ways more h path birth = (to, from)
    where
      to : Way more 0 path birth → Way edge 0 path birth ⊎ ((path ≡ names) × (birth ≡ leaf))
      to w =
          ⊎_elim
          inl
          (λ (x : ComesBy more edge place name 0 path birth).
          let is : x.next ≡ leaf = same_Some x.next leaf (sym x.step ∙ h.here) in
          let ends = leaf_ends more leaf birth x.rest h.empty (subst (λ c. Way more c x.rest birth) is x.after) in
          let front : x.front ≡ spot.front = one_way edge s joined source x.front spot.front place x.before spot.way spot.directory in
          inr (x.names_are ∙ (ap (λ rest. x.front ++ name ∷ rest) ends.0 ∙ (ap (λ f. f ++ name ∷ []) front ∙ spot.names_are)), sym ends.1))
          (way_or more edge place name (λ q k c e. ⊎_elim (λ at. inl at.0) inr (h.split q k c e)) 0 birth path w)

      from : Way edge 0 path birth ⊎ ((path ≡ names) × (birth ≡ leaf)) → Way more 0 path birth
      from (inl w) = way_map edge more h.kept 0 birth path w
      from (inr e) =
          subst (λ ns. Way more 0 ns birth) (spot.names_are ∙ sym e.0)
          (way_push more 0 place birth spot.front name (way_map edge more h.kept 0 place spot.front spot.way) (h.here ∙ ap Some (sym e.1)))

  -- ---- a name goes

  -- one name less, which led to a node without names
  pub record IsLess (less : Edges) : Type 0 where
    pub was : (q : ℕ) (k : List ℕ) (c : ℕ) → less q k ≡ Some c → (edge q k ≡ Some c) × (IsAt place name q k → ⊥)
    pub kept : (q : ℕ) (k : List ℕ) (c : ℕ) → edge q k ≡ Some c → (IsAt place name q k → ⊥) → less q k ≡ Some c
    pub here : edge place name ≡ Some leaf
    pub empty : (m : List ℕ) (x : ℕ) → edge leaf m ≡ Some x → ⊥

  pub less_ways : (less : Edges) → IsLess less → (path : Names) (birth : ℕ) → Way less 0 path birth ↔ (Way edge 0 path birth × (path ≢ names))
  less_ways less h path birth = (to, from)
    where
      old : (start birth : ℕ) (path : Names) → Way less start path birth → Way edge start path birth
      old start birth path w = way_map less edge (λ q k c e. (h.was q k c e).0) start birth path w

      to : Way less 0 path birth → Way edge 0 path birth × (path ≢ names)
      to w = (
        old 0 birth path w,
        (λ e.
            let x = way_last less 0 birth spot.front name (subst (λ ns. Way less 0 ns birth) (e ∙ sym spot.names_are) w) in
            let same : x.0 ≡ place = way_one edge 0 x.0 place spot.front (old 0 x.0 spot.front x.1) spot.way in
            (h.was x.0 name birth x.2).1 (same, refl)),
      )

      from : Way edge 0 path birth × (path ≢ names) → Way less 0 path birth
      from both =
          ⊎_elim
          (λ w. w)
          (λ (x : ComesBy edge less place name 0 path birth).
          let is : x.next ≡ leaf = same_Some x.next leaf (sym x.step ∙ h.here) in
          let ends = leaf_ends edge leaf birth x.rest h.empty (subst (λ c. Way edge c x.rest birth) is x.after) in
          let front : x.front ≡ spot.front = one_way edge s joined source x.front spot.front place (old 0 place x.front x.before) spot.way spot.directory in
          absurd (both.1 (x.names_are ∙ (ap (λ rest. x.front ++ name ∷ rest) ends.0 ∙ (ap (λ f. f ++ name ∷ []) front ∙ spot.names_are)))))
          (way_or edge less place name (λ q k c e. ⊎_elim inl (λ apart. inr (h.kept q k c e apart)) (at_or_apart place name q k)) 0 birth path both.0)
