-- A path leads to one node and has one parent, and its walk is refused in one way.
use Rattle.std.specs.Prelude.{◌≡◌, ℕ, Bool, true, false, nat_lt, if◌then◌else◌, List, [], ◌∷◌, ◌++◌, length, Option, Some, None, Result, Ok, Err, refl}
use Rattle.std.proofs.Common.{sym, ap, subst, ◌∙◌}
use Rattle.std.proofs.lemmas.Bool.{true≢false, ltb-true, ltb-false, lt-ltb, le-ltb}
use Rattle.std.proofs.lemmas.List.{append_assoc}
use Rattle.std.proofs.lemmas.Option.{same_Some}
use Rattle.tree_model.specs.declared.node.Node.{Node}
use Rattle.tree_model.specs.declared.node.Node.TheVariants as nodes
use Rattle.tree_model.specs.declared.node.Directory.{Directory}
use Rattle.tree_model.specs.Maps.{at_number, at_name}
use Rattle.tree_model.specs.Paths.{path_of}
use Rattle.tree_model.specs.Rooted.{IsRooted, IsLedTo}
use Rattle.tree_model.specs.Rooted.IsLedTo.{at_root, by_name}
use Rattle.tree_model.specs.Trees.{Refusal, not_directory, name_too_long, not_found, is_directory, step_at, led_to, node_of_path}
use Rattle.tree_model.specs.Calls.{Tree, Found, Place, all_but_last}
use Rattle.tree_model.specs.CallWords.{StandsAt}
use Rattle.tree_model.specs.laws.Alike.{same_ok, step_gives, led_on, led_parts, led_stands}
use Rattle.tree_model.proofs.Rows.{IsFound, IsPlace}
use Rattle.tree_model.proofs.Causes.{front_last}
use Rattle.tree_model.proofs.NamedNodes.{same_end}
use Rattle.call_refusals.specs.Conditions.{HasParent, StopsAt, IsStopped}

-- ---- one node, and one parent

module _ (tree : Tree) (path : List ℕ) where
  pub one_node : (a b : ℕ) (node other : Node) → StandsAt tree path a node → StandsAt tree path b other → (a ≡ b) × (node ≡ other)
  one_node a b node other s t =
      let names : s.names ≡ t.names = same_Some s.names t.names (sym s.named ∙ t.named) in
      let same : a ≡ b = same_ok a b (sym s.leads.path ∙ (ap (λ ns. node_of_path tree ns) names ∙ t.leads.path)) in
      (same, same_Some node other (sym s.leads.stands ∙ (ap (at_number tree) same ∙ t.leads.stands)))

  -- what is true of the node to which a path leads is true of the one that was found
  pub only_node : (P : ℕ → Node → Type 0) (a b : ℕ) (node other : Node) → StandsAt tree path a node → StandsAt tree path b other → P b other → P a node
  only_node P a b node other s t h =
      let one = one_node a b node other s t in
      subst (λ x. P x node) (sym one.0) (subst (P b) (sym one.1) h)

  pub only_parent : (P : ℕ → Directory → List ℕ → Type 0) (p q : ℕ) (d e : Directory) (name other : List ℕ) → HasParent tree path p d name → HasParent tree path q e other → P q e other → P p d name
  only_parent P p q d e name other h k x =
      let ends = same_end h.front k.front name other (same_Some _ _ (sym h.named ∙ k.named)) in
      let same : p ≡ q = same_ok p q (sym h.leads.path ∙ (ap (λ ns. node_of_path tree ns) ends.0 ∙ k.leads.path)) in
      let one : nodes.Directory d ≡ nodes.Directory e = same_Some _ _ (sym h.leads.stands ∙ (ap (at_number tree) same ∙ k.leads.stands)) in
      let directory : d ≡ e = cc in
      subst (λ y. P y d name) (sym same) (subst (λ y. P q y name) (sym directory) (subst (P q e) (sym ends.1) x))

  pub is_node : (names : List (List ℕ)) (found : Found) → path_of path ≡ Some names → IsFound tree names found → StandsAt tree path found.birth found.node
  is_node names found named f = record { names = names; named = named; leads = record { path = f.path; stands = f.stands } }

  pub is_parent : (names : List (List ℕ)) (p : Place) → path_of path ≡ Some names → IsPlace tree names p → HasParent tree path p.parent p.directory p.name
  is_parent names p named h = record {
    front = all_but_last h.first h.rest;
    named =
        named
        ∙ ap Some (sym (ap (λ name. all_but_last h.first h.rest ++ name ∷ []) (sym h.name_is) ∙ (front_last h.first h.rest ∙ sym h.names_are)));
    leads = record { path = h.path; stands = h.stands };
  }

-- ---- where a walk is refused

refusal_is : (a b : Refusal) → ◌≡◌ {A = Result ℕ Refusal} (Err a) (Err b) → a ≡ b
refusal_is a b h = cc

step_stops : (node : Node) (name : List ℕ) (refusal : Refusal) → step_at (Some node) name ≡ Err refusal → StopsAt node name refusal
step_stops (nodes.Directory d) name refusal h = by (nat_lt d.width (length name)) refl (at_name d.names name) refl h
  where
    by : (long : Bool) → nat_lt d.width (length name) ≡ long → (o : Option ℕ) → at_name d.names name ≡ o →
        ◌≡◌ {A = Result ℕ Refusal} (if long then Err name_too_long else elim o as (λ _. Result ℕ Refusal) [ None ↦ Err not_found | Some b ↦ Ok b ]) (Err refusal) → StopsAt (nodes.Directory d) name refusal
    by true long o at h = subst (StopsAt (nodes.Directory d) name) (refusal_is name_too_long refusal h) (StopsAt.too_long d name (ltb-true d.width (length name) long))
    by false short None at h = subst (StopsAt (nodes.Directory d) name) (refusal_is not_found refusal h) (StopsAt.missing d name (ltb-false d.width (length name) short) at)
    by false short (Some b) at h = absurd (let k : ◌≡◌ {A = Result ℕ Refusal} (Ok b) (Err refusal) = h in cc)
step_stops (nodes.File f) name refusal h = subst (StopsAt (nodes.File f) name) (refusal_is not_directory refusal h) (StopsAt.no_directory (nodes.File f) name refl)
step_stops (nodes.Other mode) name refusal h = subst (StopsAt (nodes.Other mode) name) (refusal_is not_directory refusal h) (StopsAt.no_directory (nodes.Other mode) name refl)

no_step : (node : Node) (name : List ℕ) → is_directory (Some node) ≡ false → step_at (Some node) name ≡ Err not_directory
no_step (nodes.Directory d) name kind = absurd (true≢false kind)
no_step (nodes.File f) name kind = refl
no_step (nodes.Other mode) name kind = refl

stops_step : (node : Node) (name : List ℕ) (refusal : Refusal) → StopsAt node name refusal → step_at (Some node) name ≡ Err refusal
stops_step _ _ _ (StopsAt.no_directory node name kind) = no_step node name kind
stops_step _ _ _ (StopsAt.too_long d name lt) = rw (lt-ltb d.width (length name) lt) refl
stops_step _ _ _ (StopsAt.missing d name le none) = rw (le-ltb d.width (length name) le, none) refl

-- from any node
record StopsFrom (tree : Tree) (start : ℕ) (names : List (List ℕ)) (refusal : Refusal) : Type 0 where
  front : List (List ℕ)
  name : List ℕ
  rest : List (List ℕ)
  names_are : front ++ name ∷ rest ≡ names
  birth : ℕ
  node : Node
  led : led_to tree start front ≡ Ok birth
  stands : at_number tree birth ≡ Some node
  stops : StopsAt node name refusal

led_stopped : (tree : Tree) → IsRooted tree → (names : List (List ℕ)) (start : ℕ) (refusal : Refusal) → IsLedTo tree start → led_to tree start names ≡ Err refusal → StopsFrom tree start names refusal
led_stopped tree rooted [] start refusal led h = absurd (let k : ◌≡◌ {A = Result ℕ Refusal} (Ok start) (Err refusal) = h in cc)
led_stopped tree rooted (name ∷ names) start refusal led h = by (step_at (at_number tree start) name) refl h (λ next l k. led_stopped tree rooted names next refusal l k)
  where
    by : (r : Result ℕ Refusal) → step_at (at_number tree start) name ≡ r → led_on tree r names ≡ Err refusal →
        ((next : ℕ) → IsLedTo tree next → led_to tree next names ≡ Err refusal → StopsFrom tree next names refusal) → StopsFrom tree start (name ∷ names) refusal
    by (Err q) e k more =
        let x = led_stands tree rooted start led in
        record {
          front = [];
          name = name;
          rest = names;
          names_are = refl;
          birth = start;
          node = x.0;
          led = refl;
          stands = x.1;
          stops = step_stops x.0 name refusal (subst (λ o. step_at o name ≡ Err refusal) x.1 (e ∙ k));
        }
    by (Ok next) e k more =
        let y = more next (by_name led (step_gives tree start name next e)) k in
        record {
          front = name ∷ y.front;
          name = y.name;
          rest = y.rest;
          names_are = ap (λ ns. name ∷ ns) y.names_are;
          birth = y.birth;
          node = y.node;
          led = ap (λ (r : Result ℕ Refusal). led_on tree r y.front) e ∙ y.led;
          stands = y.stands;
          stops = y.stops;
        }

stopped_led : (tree : Tree) (front : List (List ℕ)) (name : List ℕ) (rest : List (List ℕ)) (start birth : ℕ) (node : Node) (refusal : Refusal) → led_to tree start front ≡ Ok birth → at_number tree birth ≡ Some node → StopsAt node name refusal →
    led_to tree start (front ++ name ∷ rest) ≡ Err refusal
stopped_led tree [] name rest start birth node refusal led stands stops =
    ap (λ (r : Result ℕ Refusal). led_on tree r rest)
    (ap (λ b. step_at (at_number tree b) name) (same_ok start birth led) ∙ (ap (λ o. step_at o name) stands ∙ stops_step node name refusal stops))
stopped_led tree (n ∷ ns) name rest start birth node refusal led stands stops =
    let x = led_parts tree (step_at (at_number tree start) n) ns birth led in
    ap (λ (r : Result ℕ Refusal). led_on tree r (ns ++ name ∷ rest)) x.1 ∙ stopped_led tree ns name rest x.0 birth node refusal x.2 stands stops

module _ (tree : Tree) where
  pub stopped_of : IsRooted tree → (names : List (List ℕ)) (refusal : Refusal) → node_of_path tree names ≡ Err refusal → IsStopped tree names refusal
  stopped_of rooted names refusal h =
      let x = led_stopped tree rooted names 0 refusal at_root h in
      record { front = x.front; name = x.name; rest = x.rest; names_are = x.names_are; birth = x.birth; node = x.node; leads = record { path = x.led; stands = x.stands }; stops = x.stops }

  pub refusal_of : (names : List (List ℕ)) (refusal : Refusal) → IsStopped tree names refusal → node_of_path tree names ≡ Err refusal
  refusal_of names refusal s =
      subst (λ ns. node_of_path tree ns ≡ Err refusal) s.names_are (stopped_led tree s.front s.name s.rest 0 s.birth s.node refusal s.leads.path s.leads.stands s.stops)

  -- a walk that goes on is refused where it was
  pub stopped_more : (front more : List (List ℕ)) (refusal : Refusal) → IsStopped tree front refusal → IsStopped tree (front ++ more) refusal
  stopped_more front more refusal s = record {
    front = s.front;
    name = s.name;
    rest = s.rest ++ more;
    names_are = sym (append_assoc s.front (s.name ∷ s.rest) more) ∙ ap (λ ns. ns ++ more) s.names_are;
    birth = s.birth;
    node = s.node;
    leads = s.leads;
    stops = s.stops;
  }

  pub one_refusal : (names : List (List ℕ)) (a b : Refusal) → node_of_path tree names ≡ Err a → IsStopped tree names b → a ≡ b
  one_refusal names a b h s = refusal_is a b (sym h ∙ refusal_of names b s)
