-- The paths that move with a node.
use Rattle.std.specs.Prelude.{◌≡◌, ◌⊎◌, ◌↔◌, ℕ, ◌==◌, Bool, true, false, if◌then◌else◌, List, [], ◌∷◌, ◌++◌, length, Option, Some, None, Ok, refl}
use Rattle.std.proofs.Common.{sym, ap, subst, ◌∙◌, inl, inr, ⊎_elim, arith}
use Rattle.std.proofs.lemmas.Bool.{cases_Bool, true≢false, false≢true, eqb-true, eq-eqb}
use Rattle.std.proofs.lemmas.List.{length-append, append_assoc, append-nil}
use Rattle.std.proofs.lemmas.Option.{same_Some}
use Rattle.tree_model.specs.declared.call.Call.TheVariants as calls
use Rattle.tree_model.specs.declared.call.Room.{Room}
use Rattle.tree_model.specs.declared.node.Node.TheVariants as nodes
use Rattle.tree_model.specs.Maps.{at_number, at_name}
use Rattle.tree_model.specs.Paths.{path_of}
use Rattle.tree_model.specs.Trees.{node_of_path, is_directory}
use Rattle.tree_model.specs.Calls.{Tree, Done, Found, Move, take_name, stays, tree_moved, row, outcome}
use Rattle.tree_model.specs.CallWords.{Begins}
use Rattle.tree_model.specs.Plain.{IsPlain}
use Rattle.tree_model.specs.laws.Alike.{same_ok, node_has_path}
use Rattle.tree_model.specs.laws.Listing.{names_of}
use Rattle.tree_model.proofs.Changes.{IsRenamed, rename_made, outcome_row}
use Rattle.tree_model.proofs.Edits.{IsAt, at_or_apart, take_split, take_kept}
use Rattle.tree_model.proofs.Plain.{edge_of, seen_of, directory_at, IsWhole, plain_whole, whole_plain}
use Rattle.tree_model.proofs.PlainCalls.{place_sorted}
use Rattle.tree_model.proofs.PlainMoves.{IsWell, named_by, renamed_well}
use Rattle.tree_model.proofs.Rows.{IsFound, IsPlace, place_names}
use Rattle.tree_model.proofs.Ways.{Names, Way, led_way, way_led, way_join, way_split, way_one, way_last, way_push, way_map, ComesBy, way_or, one_way, has_names, IsSpot, place_spot}

longer : (front : Names) (name : List ℕ) (rest more : Names) → front ++ name ∷ rest ++ more ≡ front → ⊥
longer front name rest more e =
    let a = ap length e in
    let b = length-append (front ++ name ∷ rest) more in
    let c = length-append front (name ∷ rest) in
    omega arith

module _ (tree : Tree) (w : IsWhole tree) (names more : Names) (m : Move) (from : IsPlace tree names m.from) (to : IsPlace tree more m.to) (after : Tree) (h : IsWell tree m after) where
  abbrev E : ℕ → List ℕ → Option ℕ
  E = edge_of tree

  abbrev A : ℕ → List ℕ → Option ℕ
  A = edge_of after

  -- the tree without the old name
  abbrev O : ℕ → List ℕ → Option ℕ
  O = edge_of (take_name tree m.from)

  abbrev B : ℕ
  B = m.moved.birth

  F : IsSpot (edge_of tree) (seen_of tree) m.from.parent m.from.name names
  F = place_spot tree names m.from from

  T : IsSpot (edge_of tree) (seen_of tree) m.to.parent m.to.name more
  T = place_spot tree more m.to to

  one : (path other : Names) (birth : ℕ) → Way (edge_of tree) 0 path birth → Way (edge_of tree) 0 other birth → is_directory (at_number tree birth) ≡ true → path ≡ other
  one = one_way (edge_of tree) (seen_of tree) w.joined (has_names tree)

  one_after : (path other : Names) (birth : ℕ) → Way (edge_of after) 0 path birth → Way (edge_of after) 0 other birth → is_directory (at_number after birth) ≡ true → path ≡ other
  one_after = one_way (edge_of after) (seen_of after) h.whole.joined (has_names after)

  -- ---- the three trees, edge by edge

  out_was : (q : ℕ) (k : List ℕ) (c : ℕ) → edge_of (take_name tree m.from) q k ≡ Some c → (edge_of tree q k ≡ Some c) × (IsAt m.from.parent m.from.name q k → ⊥)
  out_was = take_split tree m.from from.stands (place_sorted tree w names m.from from)

  out_old : (q : ℕ) (k : List ℕ) (c : ℕ) → edge_of (take_name tree m.from) q k ≡ Some c → edge_of tree q k ≡ Some c
  out_old q k c e = (out_was q k c e).0

  out_kept : (q : ℕ) (k : List ℕ) (c : ℕ) → edge_of tree q k ≡ Some c → (IsAt m.from.parent m.from.name q k → ⊥) → edge_of (take_name tree m.from) q k ≡ Some c
  out_kept = take_kept tree m.from from.stands (place_sorted tree w names m.from from)

  from_or : (q : ℕ) (k : List ℕ) (c : ℕ) → edge_of tree q k ≡ Some c → IsAt m.from.parent m.from.name q k ⊎ (edge_of (take_name tree m.from) q k ≡ Some c)
  from_or q k c e = ⊎_elim inl (λ apart. inr (out_kept q k c e apart)) (at_or_apart m.from.parent m.from.name q k)

  to_or : (q : ℕ) (k : List ℕ) (c : ℕ) → edge_of (take_name tree m.from) q k ≡ Some c → IsAt m.to.parent m.to.name q k ⊎ (edge_of after q k ≡ Some c)
  to_or q k c e =
      let x = out_was q k c e in
      ⊎_elim inl (λ apart. inr (h.kept q k c x.0 x.1 apart)) (at_or_apart m.to.parent m.to.name q k)

  back_or : (q : ℕ) (k : List ℕ) (c : ℕ) → edge_of after q k ≡ Some c → IsAt m.to.parent m.to.name q k ⊎ (edge_of (take_name tree m.from) q k ≡ Some c)
  back_or q k c e = ⊎_elim (λ x. inl (x.0, x.1)) (λ x. inr (out_kept q k c x.0 x.1)) (h.split q k c e)

  old_way : (start birth : ℕ) (path : Names) → Way (edge_of (take_name tree m.from)) start path birth → Way (edge_of tree) start path birth
  old_way = way_map (edge_of (take_name tree m.from)) (edge_of tree) out_old

  -- ---- the two spots

  front_from : (front rest path : Names) → Way (edge_of tree) 0 front m.from.parent → path ≡ front ++ m.from.name ∷ rest → Begins path names
  front_from front rest path way e =
      let same = one front F.front m.from.parent way F.way F.directory in
      (rest, e ∙ (ap (λ f. f ++ m.from.name ∷ rest) same ∙ (sym (append_assoc F.front (m.from.name ∷ []) rest) ∙ ap (λ ns. ns ++ rest) F.names_are)))

  front_to : (front rest path : Names) → Way (edge_of tree) 0 front m.to.parent → path ≡ front ++ m.to.name ∷ rest → Begins path more
  front_to front rest path way e =
      let same = one front T.front m.to.parent way T.way T.directory in
      (rest, e ∙ (ap (λ f. f ++ m.to.name ∷ rest) same ∙ (sym (append_assoc T.front (m.to.name ∷ []) rest) ∙ ap (λ ns. ns ++ rest) T.names_are)))

  too_long_from : (rest : Names) → names ++ rest ≡ F.front → ⊥
  too_long_from rest e = longer F.front m.from.name [] rest (ap (λ ns. ns ++ rest) F.names_are ∙ e)

  too_long_to : (rest : Names) → more ++ rest ≡ T.front → ⊥
  too_long_to rest e = longer T.front m.to.name [] rest (ap (λ ns. ns ++ rest) T.names_are ∙ e)

  names_way : Way (edge_of tree) 0 names B
  names_way = subst (λ ns. Way (edge_of tree) 0 ns B) F.names_are (way_push (edge_of tree) 0 m.from.parent B F.front m.from.name F.way h.from)

  -- ---- all other paths

  others_to : (path : Names) (birth : ℕ) → (Begins path names → ⊥) → (Begins path more → ⊥) → Way (edge_of tree) 0 path birth → Way (edge_of after) 0 path birth
  others_to path birth no_old no_new way =
      ⊎_elim
      (λ out.
      ⊎_elim
      (λ new. new)
      (λ (x : ComesBy (edge_of (take_name tree m.from)) (edge_of after) m.to.parent m.to.name 0 path birth). absurd (no_new (front_to x.front x.rest path (old_way 0 m.to.parent x.front x.was) x.names_are)))
      (way_or (edge_of (take_name tree m.from)) (edge_of after) m.to.parent m.to.name to_or 0 birth path out))
      (λ (x : ComesBy (edge_of tree) (edge_of (take_name tree m.from)) m.from.parent m.from.name 0 path birth). absurd (no_old (front_from x.front x.rest path x.was x.names_are)))
      (way_or (edge_of tree) (edge_of (take_name tree m.from)) m.from.parent m.from.name from_or 0 birth path way)

  others_from : (path : Names) (birth : ℕ) → (Begins path more → ⊥) → Way (edge_of after) 0 path birth → Way (edge_of tree) 0 path birth
  others_from path birth no_new way =
      ⊎_elim
      (λ out. old_way 0 birth path out)
      (λ (x : ComesBy (edge_of after) (edge_of (take_name tree m.from)) m.to.parent m.to.name 0 path birth). absurd (no_new (front_to x.front x.rest path (old_way 0 m.to.parent x.front x.before) x.names_are)))
      (way_or (edge_of after) (edge_of (take_name tree m.from)) m.to.parent m.to.name back_or 0 birth path way)

  -- ---- the old path

  from_out : Way (edge_of (take_name tree m.from)) 0 F.front m.from.parent
  from_out =
      ⊎_elim
      (λ out. out)
      (λ (x : ComesBy (edge_of tree) (edge_of (take_name tree m.from)) m.from.parent m.from.name 0 F.front m.from.parent).
      let y = front_from x.front x.rest F.front x.was x.names_are in absurd (too_long_from y.0 (sym y.1)))
      (way_or (edge_of tree) (edge_of (take_name tree m.from)) m.from.parent m.from.name from_or 0 m.from.parent F.front F.way)

  leads_nowhere : (next : ℕ) (rest : Names) → is_directory (at_number tree next) ≡ false → Way (edge_of (take_name tree m.from)) next rest m.from.parent → ⊥
  leads_nowhere next [] none way = true≢false (sym F.directory ∙ (ap (λ j. is_directory (at_number tree j)) (sym way) ∙ none))
  leads_nowhere next (k ∷ ks) none way = true≢false (sym (has_names tree next k way.0 (out_old next k way.0 way.1)) ∙ none)

  from_after : Way (edge_of after) 0 F.front m.from.parent
  from_after =
      ⊎_elim
      (λ new. new)
      (λ (x : ComesBy (edge_of (take_name tree m.from)) (edge_of after) m.to.parent m.to.name 0 F.front m.from.parent).
      absurd (leads_nowhere x.next x.rest (h.met x.next (out_old m.to.parent m.to.name x.next x.step)) x.after))
      (way_or (edge_of (take_name tree m.from)) (edge_of after) m.to.parent m.to.name to_or 0 m.from.parent F.front from_out)

  old_gone : (below : Names) (birth : ℕ) → Way (edge_of after) 0 (names ++ below) birth → ⊥
  old_gone below birth way =
      let x = way_split (edge_of after) 0 birth names below way in
      let y = way_last (edge_of after) 0 x.0 F.front m.from.name (subst (λ ns. Way (edge_of after) 0 ns x.0) (sym F.names_are) x.1) in
      let same = way_one (edge_of after) 0 y.0 m.from.parent F.front y.1 from_after in
      ⊎_elim
      (λ at. h.apart (sym at.0 ∙ same, sym at.1))
      (λ stays. stays.1 (same, refl))
      (h.split y.0 m.from.name x.0 y.2)

  -- ---- the new path

  to_directory : is_directory (at_number after m.to.parent) ≡ true
  to_directory = has_names after m.to.parent m.to.name B h.here

  to_out : Way (edge_of (take_name tree m.from)) 0 T.front m.to.parent
  to_out =
      let d = directory_at (at_number after m.to.parent) to_directory in
      let p = node_has_path after (whole_plain after h.whole).rooted m.to.parent (nodes.Directory d.0) d.1 in
      let way = led_way after 0 m.to.parent p.0 p.1 in
      ⊎_elim
      (λ out. subst (λ ns. Way (edge_of (take_name tree m.from)) 0 ns m.to.parent) (one p.0 T.front m.to.parent (old_way 0 m.to.parent p.0 out) T.way T.directory) out)
      (λ (x : ComesBy (edge_of after) (edge_of (take_name tree m.from)) m.to.parent m.to.name 0 p.0 m.to.parent).
      let same = one_after p.0 x.front m.to.parent way x.was to_directory in
      absurd (longer x.front m.to.name x.rest [] (nothing x.front m.to.name x.rest ∙ (sym x.names_are ∙ same))))
      (way_or (edge_of after) (edge_of (take_name tree m.from)) m.to.parent m.to.name back_or 0 m.to.parent p.0 way)
    where
      nothing : (front : Names) (name : List ℕ) (rest : Names) → front ++ name ∷ rest ++ [] ≡ front ++ name ∷ rest
      nothing front name rest = append-nil (front ++ name ∷ rest)

  to_after : Way (edge_of after) 0 T.front m.to.parent
  to_after =
      ⊎_elim
      (λ new. new)
      (λ (x : ComesBy (edge_of (take_name tree m.from)) (edge_of after) m.to.parent m.to.name 0 T.front m.to.parent).
      let y = front_to x.front x.rest T.front (old_way 0 m.to.parent x.front x.was) x.names_are in absurd (too_long_to y.0 (sym y.1)))
      (way_or (edge_of (take_name tree m.from)) (edge_of after) m.to.parent m.to.name to_or 0 m.to.parent T.front to_out)

  more_way : Way (edge_of after) 0 more B
  more_way = subst (λ ns. Way (edge_of after) 0 ns B) T.names_are (way_push (edge_of after) 0 m.to.parent B T.front m.to.name to_after h.here)

  -- the way to the new parent does not begin with the old path
  not_through : (front : Names) → Way (edge_of tree) B front m.to.parent → ⊥
  not_through front way =
      let same = one (names ++ front) T.front m.to.parent (way_join (edge_of tree) 0 B m.to.parent names front names_way way) T.way T.directory in
      let out = subst (λ ns. Way (edge_of (take_name tree m.from)) 0 ns m.to.parent) (sym same) to_out in
      let x = way_split (edge_of (take_name tree m.from)) 0 m.to.parent names front out in
      let y = way_last (edge_of (take_name tree m.from)) 0 x.0 F.front m.from.name (subst (λ ns. Way (edge_of (take_name tree m.from)) 0 ns x.0) (sym F.names_are) x.1) in
      let is = way_one (edge_of tree) 0 y.0 m.from.parent F.front (old_way 0 y.0 F.front y.1) F.way in
      (out_was y.0 m.from.name x.0 y.2).1 (is, refl)

  below_to : (below : Names) (birth : ℕ) → Way (edge_of tree) B below birth → Way (edge_of after) B below birth
  below_to below birth way =
      ⊎_elim
      (λ out.
      ⊎_elim
      (λ new. new)
      (λ (x : ComesBy (edge_of (take_name tree m.from)) (edge_of after) m.to.parent m.to.name B below birth). absurd (not_through x.front (old_way B m.to.parent x.front x.was)))
      (way_or (edge_of (take_name tree m.from)) (edge_of after) m.to.parent m.to.name to_or B birth below out))
      (λ (x : ComesBy (edge_of tree) (edge_of (take_name tree m.from)) m.from.parent m.from.name B below birth).
      absurd (too_long_from x.front (one (names ++ x.front) F.front m.from.parent (way_join (edge_of tree) 0 B m.from.parent names x.front names_way x.was) F.way F.directory)))
      (way_or (edge_of tree) (edge_of (take_name tree m.from)) m.from.parent m.from.name from_or B birth below way)

  below_from : (below : Names) (birth : ℕ) → Way (edge_of after) B below birth → Way (edge_of tree) B below birth
  below_from below birth way =
      ⊎_elim
      (λ out. old_way B birth below out)
      (λ (x : ComesBy (edge_of after) (edge_of (take_name tree m.from)) m.to.parent m.to.name B below birth).
      absurd (too_long_to x.front (one_after (more ++ x.front) T.front m.to.parent (way_join (edge_of after) 0 B m.to.parent more x.front more_way x.was) to_after to_directory)))
      (way_or (edge_of after) (edge_of (take_name tree m.from)) m.to.parent m.to.name back_or B birth below way)

  moved_to : (below : Names) (birth : ℕ) → Way (edge_of tree) 0 (names ++ below) birth → Way (edge_of after) 0 (more ++ below) birth
  moved_to below birth way =
      let x = way_split (edge_of tree) 0 birth names below way in
      let is = way_one (edge_of tree) 0 x.0 B names x.1 names_way in
      way_join (edge_of after) 0 B birth more below more_way (below_to below birth (subst (λ s. Way (edge_of tree) s below birth) is x.2))

  moved_from : (below : Names) (birth : ℕ) → Way (edge_of after) 0 (more ++ below) birth → Way (edge_of tree) 0 (names ++ below) birth
  moved_from below birth way =
      let x = way_split (edge_of after) 0 birth more below way in
      let is = way_one (edge_of after) 0 x.0 B more x.1 more_way in
      way_join (edge_of tree) 0 B birth names below names_way (below_from below birth (subst (λ s. Way (edge_of after) s below birth) is x.2))

-- ---- calls

module _ (room : Room) (tree : Tree) (plain : IsPlain tree) (n : ℕ) (path other : List ℕ) (names more : Names) (d : Done) (named : path_of path ≡ Some names) (second : path_of other ≡ Some more) (done : outcome room tree n (calls.Rename path other) ≡ Ok d) where
  W : IsWhole tree
  W = plain_whole tree plain

  abbrev Renamed : Type 0
  Renamed = (r : IsRenamed tree d) × (names ≡ r.names) × (more ≡ r.more)

  renames : Renamed
  unfolding row
  renames =
      let x = rename_made tree path other d (outcome_row room tree n (calls.Rename path other) d done) in
      (x.0, same_Some names x.0.names (sym named ∙ x.1), same_Some more x.0.more (sym second ∙ x.2))

  -- both names are of one node
  stays_leads : (r : IsRenamed tree d) → more ≡ r.more → stays r.move ≡ true → node_of_path tree more ≡ Ok r.move.moved.birth
  stays_leads r same t = by r.move.target refl t
    where
      by : (target : Option Found) → r.move.target ≡ target → (elim target as (λ _. Bool) [ None ↦ false | Some t ↦ t.birth == r.move.moved.birth ]) ≡ true → node_of_path tree more ≡ Ok r.move.moved.birth
      by None e t = absurd (false≢true t)
      by (Some x) e t =
          let is : x.birth ≡ r.move.moved.birth = eqb-true x.birth r.move.moved.birth t in
          let at = named_by tree x (at_name r.move.to.directory.names r.move.to.name) (sym r.target_is ∙ e) in
          let spot = place_spot tree r.more r.move.to r.is_to in
          ap (node_of_path tree) (same ∙ sym spot.names_are)
          ∙ way_led tree plain.rooted 0 r.move.moved.birth (spot.front ++ r.move.to.name ∷ [])
          (way_push (edge_of tree) 0 r.move.to.parent r.move.moved.birth spot.front r.move.to.name spot.way
          (ap (λ o. at_name (names_of o) r.move.to.name) r.is_to.stands ∙ (at ∙ ap Some is)))

  leads_stay : (r : IsRenamed tree d) → more ≡ r.more → node_of_path tree more ≡ Ok r.move.moved.birth → stays r.move ≡ true
  leads_stay r same led =
      let at = place_names tree r.more r.move.to r.move.moved r.is_to (record { path = sym (ap (node_of_path tree) same) ∙ led; stands = r.is_found.stands }) in
      ap (λ o. elim o as (λ _. Bool) [ None ↦ false | Some t ↦ t.birth == r.move.moved.birth ])
      (r.target_is
      ∙ (ap (λ o. elim o as (λ _. Option Found) [ None ↦ None | Some birth ↦ elim (at_number tree birth) as (λ _. Option Found) [ None ↦ None | Some x ↦ Some (record { birth = birth; node = x }) ] ]) at
      ∙ ap (λ o. elim o as (λ _. Option Found) [ None ↦ None | Some x ↦ Some (record { birth = r.move.moved.birth; node = x }) ]) r.is_found.stands))
      ∙ eq-eqb r.move.moved.birth r.move.moved.birth refl

  pub rename_stays : (birth : ℕ) → node_of_path tree names ≡ Ok birth → node_of_path tree more ≡ Ok birth → d.tree ≡ tree
  rename_stays birth first last =
      let x = renames in
      let is : r_birth x.0 ≡ birth = same_ok (r_birth x.0) birth (sym x.0.is_found.path ∙ (sym (ap (node_of_path tree) x.1) ∙ first)) in
      let t = leads_stay x.0 x.2 (last ∙ ap Ok (sym is)) in
      x.0.tree_is ∙ ap (λ b. if b then tree else tree_moved tree x.0.move) t
    where
      r_birth : IsRenamed tree d → ℕ
      r_birth r = r.move.moved.birth

  module _ (apart : (birth : ℕ) → node_of_path tree names ≡ Ok birth → node_of_path tree more ≡ Ok birth → ⊥) where
    moves : (r : IsRenamed tree d) → names ≡ r.names → more ≡ r.more → stays r.move ≡ false
    moves r first last =
        ⊎_elim
        (λ t. absurd (apart r.move.moved.birth (ap (node_of_path tree) first ∙ r.is_found.path) (stays_leads r last t)))
        (λ f. f)
        (cases_Bool (stays r.move))

    abbrev Moved : Type 0
    Moved = (m : Move) × IsPlace tree names m.from × IsPlace tree more m.to × IsWell tree m d.tree × IsFound tree names m.moved

    pub moved : Moved
    moved =
        let x = renames in
        let f = moves x.0 x.1 x.2 in (
          x.0.move,
          subst (λ ns. IsPlace tree ns x.0.move.from) (sym x.1) x.0.is_from,
          subst (λ ns. IsPlace tree ns x.0.move.to) (sym x.2) x.0.is_to,
          subst (IsWell tree x.0.move) (sym (x.0.tree_is ∙ ap (λ b. if b then tree else tree_moved tree x.0.move) f)) (renamed_well tree W d x.0 f),
          subst (λ ns. IsFound tree ns x.0.move.moved) (sym x.1) x.0.is_found,
        )

    pub rename_moves : (below : Names) (birth : ℕ) → (node_of_path d.tree (more ++ below) ≡ Ok birth) ↔ (node_of_path tree (names ++ below) ≡ Ok birth)
    rename_moves below birth =
        let x = moved in
        let later = (whole_plain d.tree x.3.whole).rooted in (
          (λ e. way_led tree plain.rooted 0 birth (names ++ below) (moved_from tree W names more x.0 x.1 x.2 d.tree x.3 below birth (led_way d.tree 0 birth (more ++ below) e))),
          (λ e. way_led d.tree later 0 birth (more ++ below) (moved_to tree W names more x.0 x.1 x.2 d.tree x.3 below birth (led_way tree 0 birth (names ++ below) e))),
        )

    pub rename_leaves : (below : Names) (birth : ℕ) → node_of_path d.tree (names ++ below) ≡ Ok birth → ⊥
    rename_leaves below birth e =
        let x = moved in
        old_gone tree W names more x.0 x.1 x.2 d.tree x.3 below birth (led_way d.tree 0 birth (names ++ below) e)

    pub rename_others : (ns : Names) (birth : ℕ) → (Begins ns names → ⊥) → (Begins ns more → ⊥) → (node_of_path d.tree ns ≡ Ok birth) ↔ (node_of_path tree ns ≡ Ok birth)
    rename_others ns birth no_old no_new =
        let x = moved in
        let later = (whole_plain d.tree x.3.whole).rooted in (
          (λ e. way_led tree plain.rooted 0 birth ns (others_from tree W names more x.0 x.1 x.2 d.tree x.3 ns birth no_new (led_way d.tree 0 birth ns e))),
          (λ e. way_led d.tree later 0 birth ns (others_to tree W names more x.0 x.1 x.2 d.tree x.3 ns birth no_old no_new (led_way tree 0 birth ns e))),
        )
