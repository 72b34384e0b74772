-- The rows of walks and parents, and of what is found there.
use Rattle.std.specs.Prelude.{◌≡◌, ◌≢◌, ℕ, true, false, nat_lt, List, [], ◌∷◌, ◌++◌, length, Option, Some, None, Result, Ok, Err, refl}
use Rattle.std.proofs.Common.{sym, ap, subst, ◌∙◌, inl, inr, ⊎_elim}
use Rattle.std.proofs.lemmas.Bool.{true≢false, ltb-true, lt-ltb}
use Rattle.std.proofs.lemmas.Option.{none-some, same_Some}
use Rattle.tree_model.specs.declared.call.Reply.{Reply}
use Rattle.tree_model.specs.declared.call.Reply.TheVariants as replies
use Rattle.tree_model.specs.declared.call.Room.{Room}
use Rattle.tree_model.specs.declared.node.Node.{Node}
use Rattle.tree_model.specs.declared.node.Node.TheVariants as nodes
use Rattle.tree_model.specs.declared.node.Directory.{Directory}
use Rattle.tree_model.specs.declared.node.File.{File}
use Rattle.tree_model.specs.Maps.{at_number}
use Rattle.tree_model.specs.Paths.{path_of}
use Rattle.tree_model.specs.Rooted.{IsRooted}
use Rattle.tree_model.specs.Trees.{Refusal, not_directory, name_too_long, not_found, is_directory, node_of_path}
use Rattle.tree_model.specs.Calls.{Tree, Found, Place, and_then, if_some, names_in, refused_walk, found_at, walk, walk_path, a_directory, a_file, all_but_last, last_name, parent_of}
use Rattle.tree_model.specs.laws.Alike.{same_ok, no_ok, path_stands}
use Rattle.tree_model.proofs.Rows.{some_ok, directory_ok, walk_ok, IsFound}
use Rattle.tree_model.proofs.Causes.{front_last}
use Rattle.tree_model.proofs.NamedNodes.{same_end}
use Rattle.call_refusals.specs.Conditions.{Condition, HasParent, StopsAt, IsStopped, Holds}
use Rattle.call_refusals.specs.Tables.{TableRow, when, by_walk, by_parent, of_a_node}
use Rattle.call_refusals.proofs.Told.{First, Told, first_more, told_then, told_behind, told_if, next_then}
use Rattle.call_refusals.proofs.Words.{only_parent, stopped_of, refusal_of, stopped_more, one_refusal}

no_file_directory : (d : Directory) (f : File) → nodes.Directory d ≢ nodes.File f
no_file_directory d f h = cc

no_file_other : (mode : ℕ) (f : File) → nodes.Other mode ≢ nodes.File f
no_file_other mode f h = cc

-- the three ways in which a walk is refused
abbrev three : (Refusal → Condition) → List TableRow
three W = when (W not_directory) replies.NotDir ∷ when (W name_too_long) replies.NameTooLong ∷ when (W not_found) replies.NotFound ∷ []

module _ (room : Room) (tree : Tree) (rooted : IsRooted tree) where
  -- ---- texts

  pub names_told : (path : List ℕ) → Told room tree (when (Condition.bad_path path) replies.BadPath ∷ []) (names_in path)
  names_told path = by (path_of path) refl
    where
      by : (o : Option (List (List ℕ))) → path_of path ≡ o → Told room tree (when (Condition.bad_path path) replies.BadPath ∷ []) (if_some o replies.BadPath)
      by None e = inl (e, refl)
      by (Some names) e = ((λ held. none-some names (sym held ∙ e)), tt)

  pub named_so : (path : List ℕ) (names : List (List ℕ)) → names_in path ≡ Ok names → path_of path ≡ Some names
  named_so path names e = some_ok (path_of path) replies.BadPath names e

  -- ---- walks

  module _ (W : Refusal → Condition) (front : List (List ℕ)) (put : (r : Refusal) → IsStopped tree front r → Holds room tree (W r)) (take : (r : Refusal) → Holds room tree (W r) → IsStopped tree front r) where
    other : (a b : Refusal) → node_of_path tree front ≡ Err a → Holds room tree (W b) → a ≡ b
    other a b e held = one_refusal tree front a b e (take b held)

    goes : (birth : ℕ) → node_of_path tree front ≡ Ok birth → (r : Refusal) → Holds room tree (W r) → ⊥
    goes birth e r held = no_ok r birth (sym (refusal_of tree front r (take r held)) ∙ e)

    at : (r : Refusal) → node_of_path tree front ≡ Err r → Holds room tree (W r)
    at r e = put r (stopped_of tree rooted front r e)

    rows_by : (r : Result ℕ Refusal) → node_of_path tree front ≡ r →
        Told room tree (three W) (and_then {B = Found} (elim r as (λ _. Result ℕ Reply) [ Err refusal ↦ Err (refused_walk refusal) | Ok birth ↦ Ok birth ]) (λ birth. found_at birth (at_number tree birth)))
    rows_by (Err not_directory) e = inl (at not_directory e, refl)
    rows_by (Err name_too_long) e = inr ((λ held. let k : name_too_long ≡ not_directory = other name_too_long not_directory e held in cc), inl (at name_too_long e, refl))
    rows_by (Err not_found) e =
        inr (
          (λ held. let k : not_found ≡ not_directory = other not_found not_directory e held in cc),
          inr ((λ held. let k : not_found ≡ name_too_long = other not_found name_too_long e held in cc), inl (at not_found e, refl)),
        )
    rows_by (Ok birth) e =
        let x = path_stands tree rooted front birth e in
        subst (λ o. Told room tree (three W) (found_at birth o)) (sym x.1) (goes birth e not_directory, (goes birth e name_too_long, (goes birth e not_found, tt)))

    pub rows_told : Told room tree (three W) (walk tree front)
    rows_told = rows_by (node_of_path tree front) refl

  pub walk_told : (path : List ℕ) (names : List (List ℕ)) → path_of path ≡ Some names → Told room tree (by_walk path) (walk tree names)
  walk_told path names named =
      rows_told (Condition.walk path) names (λ r s. (names, named, s)) (λ r held. subst (λ ns. IsStopped tree ns r) (same_Some held.0 names (sym held.1 ∙ named)) held.2)

  pub node_told : (path : List ℕ) → Told room tree (of_a_node path) (walk_path tree path)
  node_told path = told_then room tree (when (Condition.bad_path path) replies.BadPath ∷ []) (by_walk path) (names_in path) (walk tree) (names_told path) (λ names e. walk_told path names (named_so path names e))

  -- ---- kinds

  pub directory_told : (C : Condition) (node : Node) → (is_directory (Some node) ≡ false → Holds room tree C) → (is_directory (Some node) ≡ true → Holds room tree C → ⊥) → Told room tree (when C replies.NotDir ∷ []) (a_directory node)
  directory_told C (nodes.Directory d) holds fails = (fails refl, tt)
  directory_told C (nodes.File f) holds fails = inl (holds refl, refl)
  directory_told C (nodes.Other mode) holds fails = inl (holds refl, refl)

  pub file_told : (C : Condition) (node : Node) → (((f : File) → node ≢ nodes.File f) → Holds room tree C) → ((f : File) → node ≡ nodes.File f → Holds room tree C → ⊥) → Told room tree (when C replies.IsDir ∷ []) (a_file node)
  file_told C (nodes.File f) holds fails = (fails f refl, tt)
  file_told C (nodes.Directory d) holds fails = inl (holds (no_file_directory d), refl)
  file_told C (nodes.Other mode) holds fails = inl (holds (no_file_other mode), refl)

  -- ---- parents

  module _ (path : List ℕ) (first : List ℕ) (names : List (List ℕ)) (named : path_of path ≡ Some (first ∷ names)) where
    ends : path_of path ≡ Some (all_but_last first names ++ last_name first names ∷ [])
    ends = named ∙ ap Some (sym (front_last first names))

    front_is : (front : List (List ℕ)) (name : List ℕ) → path_of path ≡ Some (front ++ name ∷ []) → front ≡ all_but_last first names
    front_is front name e = (same_end front (all_but_last first names) name (last_name first names) (same_Some _ _ (sym e ∙ ends))).0

    front_told : Told room tree (three (Condition.parent_walk path)) (walk tree (all_but_last first names))
    front_told =
        rows_told (Condition.parent_walk path) (all_but_last first names) (λ r s. (all_but_last first names, last_name first names, ends, s))
        (λ r held. subst (λ ns. IsStopped tree ns r) (front_is held.0 held.1 held.2) held.3)

    found_parent : (found : Found) → IsFound tree (all_but_last first names) found → (d : Directory) → found.node ≡ nodes.Directory d → HasParent tree path found.birth d (last_name first names)
    found_parent found f d kind = record { front = all_but_last first names; named = ends; leads = record { path = f.path; stands = f.stands ∙ ap Some kind } }

    not_other : (found : Found) → IsFound tree (all_but_last first names) found → (held : Holds room tree (Condition.parent_no_directory path)) → is_directory (Some found.node) ≡ false
    not_other found f held =
        let led : node_of_path tree (all_but_last first names) ≡ Ok held.2 = subst (λ ns. node_of_path tree ns ≡ Ok held.2) (front_is held.0 held.1 held.4) held.5.path in
        let same : held.2 ≡ found.birth = same_ok held.2 found.birth (sym led ∙ f.path) in
        let node : held.3 ≡ found.node = same_Some held.3 found.node (sym held.5.stands ∙ (ap (at_number tree) same ∙ f.stands)) in
        ap (λ x. is_directory (Some x)) (sym node) ∙ held.6

    pub parent_told : (reply : Reply) → Told room tree (by_parent path) (parent_of reply tree (first ∷ names))
    parent_told reply =
        told_then room tree (three (Condition.parent_walk path)) (when (Condition.parent_no_directory path) replies.NotDir ∷ when (Condition.long_name path) replies.NameTooLong ∷ []) (walk tree (all_but_last first names)) _ front_told
        (λ found e.
        let f = walk_ok tree (all_but_last first names) found e in
        told_then room tree (when (Condition.parent_no_directory path) replies.NotDir ∷ []) (when (Condition.long_name path) replies.NameTooLong ∷ []) (a_directory found.node) _
        (directory_told (Condition.parent_no_directory path) found.node
        (λ kind. (all_but_last first names, last_name first names, found.birth, found.node, ends, record { path = f.path; stands = f.stands }, kind))
        (λ kind held. true≢false (sym kind ∙ not_other found f held)))
        (λ d g.
        let h = found_parent found f d (directory_ok found.node d g) in
        told_if room tree (when (Condition.long_name path) replies.NameTooLong) [] (nat_lt d.width (length (last_name first names))) _
        (λ t. (found.birth, d, last_name first names, h, ltb-true d.width (length (last_name first names)) t))
        (λ t held.
        true≢false
        (sym
        (only_parent tree path (λ q e name. nat_lt e.width (length name) ≡ true) found.birth held.0 d held.1 (last_name first names) held.2 h held.3 (lt-ltb held.1.width (length held.2) held.4))
        ∙ t))
        (λ t. tt)))

    -- ---- the walk is refused where the parent is

    whole_is : (front : List (List ℕ)) (name : List ℕ) → path_of path ≡ Some (front ++ name ∷ []) → front ++ name ∷ [] ≡ first ∷ names
    whole_is front name e = same_Some _ _ (sym e ∙ named)

    walk_err : (r : Refusal) → IsStopped tree (first ∷ names) r → walk tree (first ∷ names) ≡ Err (refused_walk r)
    walk_err r s =
        ap (λ (x : Result ℕ Refusal). and_then {B = Found} (elim x as (λ _. Result ℕ Reply) [ Err refusal ↦ Err (refused_walk refusal) | Ok birth ↦ Ok birth ]) (λ birth. found_at birth (at_number tree birth)))
        (refusal_of tree (first ∷ names) r s)

    by_front : (r : Refusal) → Holds room tree (Condition.parent_walk path r) → walk tree (first ∷ names) ≡ Err (refused_walk r)
    by_front r held =
        walk_err r (subst (λ ns. IsStopped tree ns r) (whole_is held.0 held.1 held.2) (stopped_more tree held.0 (held.1 ∷ []) r held.3))

    by_kind : Holds room tree (Condition.parent_no_directory path) → walk tree (first ∷ names) ≡ Err replies.NotDir
    by_kind held =
        walk_err not_directory (record {
          front = held.0;
          name = held.1;
          rest = [];
          names_are = whole_is held.0 held.1 held.4;
          birth = held.2;
          node = held.3;
          leads = held.5;
          stops = StopsAt.no_directory held.3 held.1 held.6;
        })

    by_length : Holds room tree (Condition.long_name path) → walk tree (first ∷ names) ≡ Err replies.NameTooLong
    by_length held =
        walk_err name_too_long (record {
          front = held.3.front;
          name = held.2;
          rest = [];
          names_are = whole_is held.3.front held.2 held.3.named;
          birth = held.0;
          node = nodes.Directory held.1;
          leads = held.3.leads;
          stops = StopsAt.too_long held.1 held.2 held.4;
        })

    from_parent : (reply : Reply) → First room tree (by_parent path) reply → walk tree (first ∷ names) ≡ Err reply
    from_parent reply =
        ⊎_elim (λ h. by_front not_directory h.0 ∙ ap Err h.1) (λ a.
        ⊎_elim (λ h. by_front name_too_long h.0 ∙ ap Err h.1) (λ b.
        ⊎_elim (λ h. by_front not_found h.0 ∙ ap Err h.1) (λ c.
        ⊎_elim (λ h. by_kind h.0 ∙ ap Err h.1) (λ d.
        ⊎_elim (λ h. by_length h.0 ∙ ap Err h.1) (λ e. absurd e.1) d.1) c.1) b.1) a.1)

    parent_err : (at_root reply : Reply) → parent_of at_root tree (first ∷ names) ≡ Err reply → walk tree (first ∷ names) ≡ Err reply
    parent_err at_root reply e = from_parent reply (subst (Told room tree (by_parent path)) e (parent_told at_root))

    module _ {B C : Type 0} (last : B → Result C Reply) (at_root : Reply) where
      pub whole_told : (rest : List TableRow) (next : Place → Found → Result B Reply) →
          ((place : Place) → parent_of at_root tree (first ∷ names) ≡ Ok place → (found : Found) → walk tree (first ∷ names) ≡ Ok found → Told room tree rest (and_then (next place found) last)) →
          Told room tree (by_walk path ++ rest) (and_then (and_then (parent_of at_root tree (first ∷ names)) (λ place. and_then (walk tree (first ∷ names)) (next place))) last)
      whole_told rest next go = by (parent_of at_root tree (first ∷ names)) refl
        where
          by : (x : Result Place Reply) → parent_of at_root tree (first ∷ names) ≡ x → Told room tree (by_walk path ++ rest) (and_then (and_then x (λ place. and_then (walk tree (first ∷ names)) (next place))) last)
          by (Ok place) e = next_then room tree last (by_walk path) rest (walk tree (first ∷ names)) (next place) (walk_told path (first ∷ names) named) (λ found f. go place e found f)
          by (Err reply) e = first_more room tree (by_walk path) rest reply (subst (Told room tree (by_walk path)) (parent_err at_root reply e) (walk_told path (first ∷ names) named))

      -- where the walk goes, the parent is there
      pub parent_goes : (rows : List TableRow) (next : Place → Result B Reply) (found : Found) → walk tree (first ∷ names) ≡ Ok found →
          ((place : Place) → parent_of at_root tree (first ∷ names) ≡ Ok place → Told room tree rows (and_then (next place) last)) → Told room tree rows (and_then (and_then (parent_of at_root tree (first ∷ names)) next) last)
      parent_goes rows next found w go = by (parent_of at_root tree (first ∷ names)) refl
        where
          by : (x : Result Place Reply) → parent_of at_root tree (first ∷ names) ≡ x → Told room tree rows (and_then (and_then x next) last)
          by (Ok place) e = go place e
          by (Err reply) e = absurd (let k : ◌≡◌ {A = Result Found Reply} (Ok found) (Err reply) = sym w ∙ parent_err at_root reply e in cc)

  pub not_root : (path first : List ℕ) (names : List (List ℕ)) → path_of path ≡ Some (first ∷ names) → Holds room tree (Condition.root path) → ⊥
  not_root path first names named held = let k : ◌≡◌ {A = List (List ℕ)} [] (first ∷ names) = same_Some [] (first ∷ names) (sym held ∙ named) in cc

  pub place_told : (path : List ℕ) (names : List (List ℕ)) → path_of path ≡ Some names → (reply : Reply) → Told room tree (when (Condition.root path) reply ∷ by_parent path) (parent_of reply tree names)
  place_told path [] named reply = inl (named, refl)
  place_told path (first ∷ names) named reply =
      told_behind room tree (when (Condition.root path) reply ∷ []) (by_parent path) (parent_of reply tree (first ∷ names)) (not_root path first names named, tt) (parent_told path first names named reply)
