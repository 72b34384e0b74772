-- Each node of a tree that hangs together has a path that is found, so each block of a file has a place.
use Rattle.std.specs.Prelude.{◌≡◌, ◌≤◌, ℕ, zero, suc, ◌==◌, Bool, true, false, if◌then◌else◌, List, [], ◌∷◌, ◌++◌, length, Option, Some, None, Ok, Err, Result, is_some, refl}
use Rattle.std.specs.List.{list_any}
use Rattle.std.specs.Ordering.{nat_cmp}
use Rattle.std.proofs.Common.{sym, ap, subst, ◌∙◌, inl, inr, ⊎_elim, arith, eqb-true}
use Rattle.std.proofs.lemmas.Bool.{cases_Bool, eq-eqb, true≢false}
use Rattle.std.proofs.lemmas.Option.{none-some, same_Some}
use Rattle.blk_base.specs.Members.{In}
use Rattle.blk_base.specs.laws.Members.{In-append_left, In-append_right, In-append_cases, In-list_any, none-list_any}
use Rattle.minix_layout.specs.declared.division.Geometry.{Geometry}
use Rattle.tree_model.specs.declared.node.Node.{Node}
use Rattle.tree_model.specs.declared.node.Node.TheVariants as nodes
use Rattle.tree_model.specs.Calls.{Tree}
use Rattle.tree_model.specs.Maps.{at_number, without_number}
use Rattle.tree_model.specs.Trees.{Refusal, node_of_path}
use Rattle.tree_model.specs.laws.Alike.{led_push, step_given, path_stands}
use Rattle.tree_model.specs.laws.Listing.{names_of}
use Rattle.tree_model.specs.Rooted.{IsRooted, IsLedTo, at_root, by_name, HasEntry}
use Rattle.tree_model.specs.laws.MapOrder.{InOrder, at_without_apart, in_order_without}
use Rattle.tree_model.specs.laws.MapsLaws.{found-In, number_here, number_same, at_name-In}
use Rattle.tree_model.proofs.Lookups.{In-at_name}
use Rattle.tree_model.proofs.Walks.{one_less}
use Rattle.volume_ops.proofs.AlikeLaws.{same_paths_found}
use Rattle.volume_ops.specs.Volume.{walked}
use Rattle.volume_model.specs.laws.Trees.{In-at}
use Rattle.crash_laws.specs.TreeHistory.{zone_in, zone_in_walk, IsPlaceIn}
use Rattle.crash_laws.specs.Volumes.{WalkEnd}
use Rattle.crash_laws.proofs.Places.{place_is}
use Rattle.minix_host.specs.Paths.{Given, given_by, all_given, first_path, path_within, path_to, place_in}

-- ---- names of a node

in_given_by : (birth parent : ℕ) (es : List (List ℕ × ℕ)) (g : Given) → In g (given_by birth parent es) → (g.parent ≡ parent) × In (g.name, birth) es
in_given_by birth parent [] g i = absurd i
in_given_by birth parent (e ∷ es) g i = by (λ j. let x = in_given_by birth parent es g j in (x.0, inr x.1)) (e.1 == birth) refl i
  where
    same : e.1 ≡ birth → record { parent = parent; name = e.0 } ≡ g → (g.parent ≡ parent) × In (g.name, birth) (e ∷ es)
    same is here = (ap (λ (g : Given). g.parent) (sym here), inl (ap (λ b. (e.0, b)) is ∙ ap (λ (g : Given). (g.name, birth)) here))

    by : (In g (given_by birth parent es) → (g.parent ≡ parent) × In (g.name, birth) (e ∷ es)) → (t : Bool) → (e.1 == birth) ≡ t →
        In g (if t then record { parent = parent; name = e.0 } ∷ given_by birth parent es else given_by birth parent es) → (g.parent ≡ parent) × In (g.name, birth) (e ∷ es)
    by more true t (inl here) = same (eqb-true e.1 birth t) here
    by more true t (inr i) = more i
    by more false t i = more i

given_by_in : (birth parent : ℕ) (name : List ℕ) (es : List (List ℕ × ℕ)) → In (name, birth) es → In (record { parent = parent; name = name }) (given_by birth parent es)
given_by_in birth parent name [] i = absurd i
given_by_in birth parent name (e ∷ es) (inl here) =
    let one : e.1 ≡ birth = ap (λ (x : List ℕ × ℕ). x.1) here in
    rw (eq-eqb e.1 birth one) (inl (ap (λ (x : List ℕ × ℕ). record { parent = parent; name = x.0 }) here))
given_by_in birth parent name (e ∷ es) (inr i) = by (e.1 == birth) (given_by_in birth parent name es i)
  where
    by : (t : Bool) → In (record { parent = parent; name = name }) (given_by birth parent es) →
        In (record { parent = parent; name = name }) (if t then record { parent = parent; name = e.0 } ∷ given_by birth parent es else given_by birth parent es)
    by true j = inr j
    by false j = j

pub record IsGivenIn (birth : ℕ) (es : List (ℕ × Node)) (g : Given) : Type 0 where
  pub node : Node
  pub stands : In (g.parent, node) es
  pub named : In (g.name, birth) (names_of (Some node))

in_all_given : (birth : ℕ) (es : List (ℕ × Node)) (g : Given) → In g (all_given birth es) → IsGivenIn birth es g
in_all_given birth [] g i = absurd i
in_all_given birth (e ∷ es) g i = ⊎_elim
    (λ here. let x = in_given_by birth e.0 (names_of (Some e.1)) g here in record { node = e.1; stands = inl (ap (λ p. (p, e.1)) (sym x.0)); named = x.1 })
    (λ later. let x = in_all_given birth es g later in record { node = x.node; stands = inr x.stands; named = x.named })
    (In-append_cases (given_by birth e.0 (names_of (Some e.1))) (all_given birth es) g i)

all_given_in : (birth parent : ℕ) (name : List ℕ) (node : Node) (es : List (ℕ × Node)) → In (parent, node) es → In (name, birth) (names_of (Some node)) → In (record { parent = parent; name = name }) (all_given birth es)
all_given_in birth parent name node [] i named = absurd i
all_given_in birth parent name node (e ∷ es) (inl here) named =
    In-append_left (given_by birth e.0 (names_of (Some e.1))) (all_given birth es) (record { parent = parent; name = name })
    (subst (λ (x : ℕ × Node). In (record { parent = parent; name = name }) (given_by birth x.0 (names_of (Some x.1)))) (sym here) (given_by_in birth parent name (names_of (Some node)) named))
all_given_in birth parent name node (e ∷ es) (inr i) named =
    In-append_right (given_by birth e.0 (names_of (Some e.1))) (all_given birth es) (record { parent = parent; name = name }) (all_given_in birth parent name node es i named)

-- ---- the first path

pub record IsFirst (up : ℕ → Option (List (List ℕ))) (gs : List Given) (names : List (List ℕ)) : Type 0 where
  pub given : Given
  pub within : In given gs
  pub before : List (List ℕ)
  pub path : up given.parent ≡ Some before
  pub names_are : before ++ given.name ∷ [] ≡ names

is_first : (up : ℕ → Option (List (List ℕ))) (gs : List Given) (names : List (List ℕ)) → first_path up gs ≡ Some names → IsFirst up gs names
is_first up [] names e = absurd (none-some names e)
is_first up (g ∷ gs) names e = by (λ e. is_first up gs names e) (up g.parent) refl e
  where
    by : (first_path up gs ≡ Some names → IsFirst up gs names) → (o : Option (List (List ℕ))) → up g.parent ≡ o → (elim o as (λ _. Option (List (List ℕ))) [ None ↦ first_path up gs | Some names ↦ Some (names ++ g.name ∷ []) ]) ≡ Some names → IsFirst up (g ∷ gs) names
    by more None q e = (let x = more e in record { given = x.given; within = inr x.within; before = x.before; path = x.path; names_are = x.names_are })
    by more (Some before) q e = record { given = g; within = inl refl; before = before; path = q; names_are = same_Some (before ++ g.name ∷ []) names e }

first_is : (up : ℕ → Option (List (List ℕ))) (gs : List Given) (g : Given) (before : List (List ℕ)) → In g gs → up g.parent ≡ Some before → (names : List (List ℕ)) × (first_path up gs ≡ Some names)
first_is up [] g before i e = absurd i
first_is up (x ∷ xs) g before i e = by (λ j. first_is up xs g before j e) (up x.parent) refl
  where
    later : (In g xs → (names : List (List ℕ)) × (first_path up xs ≡ Some names)) → up x.parent ≡ None → (names : List (List ℕ)) × (first_path up xs ≡ Some names)
    later more none = ⊎_elim (λ here. absurd (none-some before (sym none ∙ (ap (λ (g : Given). up g.parent) here ∙ e)))) more i

    by : (In g xs → (names : List (List ℕ)) × (first_path up xs ≡ Some names)) → (o : Option (List (List ℕ))) → up x.parent ≡ o → (names : List (List ℕ)) × ((elim o as (λ _. Option (List (List ℕ))) [ None ↦ first_path up xs | Some names ↦ Some (names ++ x.name ∷ []) ]) ≡ Some names)
    by more None q = later more q
    by more (Some names) q = (names ++ x.name ∷ [], refl)

module _ (tree : Tree) (rooted : IsRooted tree) where
  -- ---- what is found is a path

  given_gives : (birth : ℕ) (g : Given) → IsGivenIn birth tree g → HasEntry tree g.parent g.name birth
  given_gives birth g x = by x.node refl x.named
    where
      stands : at_number tree g.parent ≡ Some x.node
      stands = In-at tree g.parent x.node rooted.in_order x.stands

      by : (node : Node) → x.node ≡ node → In (g.name, birth) (names_of (Some node)) → HasEntry tree g.parent g.name birth
      by (nodes.Directory d) e i =
          let at = stands ∙ ap Some e in
          record { directory = d; stands = at; named = In-at_name d.names g.name birth (rooted.names_in_order g.parent d at) i }
      by (nodes.File f) e i = absurd i
      by (nodes.Other mode) e i = absurd i

  root_path : (birth : ℕ) (names : List (List ℕ)) → (birth == 0) ≡ true → ◌≡◌ {A = Option (List (List ℕ))} (Some []) (Some names) → node_of_path tree names ≡ Ok birth
  root_path birth names t e = ap (node_of_path tree) (sym (same_Some [] names e)) ∙ ap Ok (sym (eqb-true birth 0 t))

  found_path : (k birth : ℕ) (names : List (List ℕ)) → path_within tree k birth ≡ Some names → node_of_path tree names ≡ Ok birth
  found_path zero birth names e = by (birth == 0) refl e
    where
      by : (t : Bool) → (birth == 0) ≡ t → (if t then Some [] else None) ≡ Some names → node_of_path tree names ≡ Ok birth
      by true t e = root_path birth names t e
      by false t e = absurd (none-some names e)
  found_path (suc k) birth names e = by (λ parent names e. found_path k parent names e) (birth == 0) refl e
    where
      further : (x : IsFirst (path_within tree k) (all_given birth tree) names) → node_of_path tree x.before ≡ Ok x.given.parent → node_of_path tree names ≡ Ok birth
      further x led =
          let gives = given_gives birth x.given (in_all_given birth tree x.given x.within) in
          subst (λ names. node_of_path tree names ≡ Ok birth) x.names_are
          (led_push tree x.before 0 x.given.parent birth x.given.name led (step_given tree rooted x.given.parent x.given.name birth gives))

      by : ((parent : ℕ) (names : List (List ℕ)) → path_within tree k parent ≡ Some names → node_of_path tree names ≡ Ok parent) → (t : Bool) → (birth == 0) ≡ t →
          (if t then Some [] else first_path (path_within tree k) (all_given birth tree)) ≡ Some names → node_of_path tree names ≡ Ok birth
      by up true t e = root_path birth names t e
      by up false t e = (let x = is_first (path_within tree k) (all_given birth tree) names e in further x (up x.given.parent x.before x.path))

  -- ---- a node that is led to by few names is found

  pub data Chain : ℕ → ℕ → Type 0 where
    starts : {k : ℕ} → Chain k 0
    goes_on : {k parent birth : ℕ} {name : List ℕ} → Chain k parent → HasEntry tree parent name birth → Chain (suc k) birth

  at_once : (k : ℕ) → path_within tree k 0 ≡ Some []
  at_once zero = refl
  at_once (suc k) = refl

  chain_found : {k birth : ℕ} → Chain k birth → (names : List (List ℕ)) × (path_within tree k birth ≡ Some names)
  chain_found (starts {k}) = ([], at_once k)
  chain_found (goes_on {k} {parent} {birth} {name} c gives) = by (birth == 0) (chain_found c)
    where
      by : (t : Bool) → (before : List (List ℕ)) × (path_within tree k parent ≡ Some before) → (names : List (List ℕ)) × ((if t then Some [] else first_path (path_within tree k) (all_given birth tree)) ≡ Some names)
      by true x = ([], refl)
      by false x =
          first_is (path_within tree k) (all_given birth tree) (record { parent = parent; name = name }) x.0
          (all_given_in birth parent name (nodes.Directory gives.directory) tree (found-In nat_cmp number_here number_same tree parent (nodes.Directory gives.directory) gives.stands) (at_name-In gives.directory.names name birth gives.named))
          x.1

  longer : {k birth : ℕ} → Chain k birth → (m : ℕ) → k ≤ m → Chain m birth
  longer starts m le = starts
  longer (goes_on {k} c gives) zero le = absurd (omega arith)
  longer (goes_on {k} c gives) (suc m) le = goes_on (longer c m (omega arith)) gives

  -- ---- as many names as nodes suffice

  -- names lead by these nodes, the last one first, none of them twice
  pub data IsWay : List ℕ → ℕ → Type 0 where
    from_root : IsWay [] 0
    by_new : {bs : List ℕ} {parent birth : ℕ} {name : List ℕ} → IsWay bs parent → HasEntry tree parent name birth → (In birth bs → ⊥) → IsWay (birth ∷ bs) birth

  way_chain : {bs : List ℕ} {birth : ℕ} → IsWay bs birth → Chain (length bs) birth
  way_chain from_root = starts
  way_chain (by_new w gives new) = goes_on (way_chain w) gives

  cut_way : {bs : List ℕ} {birth : ℕ} → IsWay bs birth → (x : ℕ) → In x bs → (cs : List ℕ) × IsWay cs x
  cut_way from_root x i = absurd i
  cut_way (by_new {bs} {parent} {birth} w gives new) x (inl here) = (birth ∷ bs, subst (IsWay (birth ∷ bs)) here (by_new w gives new))
  cut_way (by_new w gives new) x (inr i) = cut_way w x i

  way_to : {birth : ℕ} → IsLedTo tree birth → (bs : List ℕ) × IsWay bs birth
  way_to at_root = ([], from_root)
  way_to (by_name {parent} {birth} {name} led gives) =
      let w = way_to led in
      elim (cases_Bool (list_any (λ x. x == birth) w.0)) [
        | inl t ↦ (let x = In-list_any (λ x. x == birth) w.0 t in cut_way w.1 birth (subst (λ b. In b w.0) (eqb-true x.0 birth x.2) x.1))
        | inr f ↦ (birth ∷ w.0, by_new w.1 gives (λ i. true≢false (sym (eq-eqb birth birth refl) ∙ none-list_any (λ x. x == birth) w.0 birth f i)))
      ]

  way_stands : {bs : List ℕ} {birth : ℕ} → IsWay bs birth → (x : ℕ) → In x bs → is_some (at_number tree x) ≡ true
  way_stands from_root x i = absurd i
  way_stands (by_new {bs} {parent} {birth} {name} w gives new) x (inl here) = (let node = rooted.leads parent name birth gives in ap (λ b. is_some (at_number tree b)) (sym here) ∙ ap is_some node.1)
  way_stands (by_new w gives new) x (inr i) = way_stands w x i

  way_fits : {bs : List ℕ} {birth : ℕ} → IsWay bs birth → (es : List (ℕ × Node)) → InOrder es → ((x : ℕ) → In x bs → is_some (at_number es x) ≡ true) → length bs ≤ length es
  way_fits from_root es order there = omega arith
  way_fits (by_new {bs} {parent} {birth} {name} w gives new) es order there = by (way_fits w (without_number es birth) (in_order_without es birth order) left) (at_number es birth) refl (there birth (inl refl))
    where
      left : (x : ℕ) → In x bs → is_some (at_number (without_number es birth) x) ≡ true
      left x i = ap is_some (at_without_apart es birth x order (λ e. new (subst (λ b. In b bs) e i))) ∙ there x (inr i)

      by : length bs ≤ length (without_number es birth) → (o : Option Node) → at_number es birth ≡ o → is_some o ≡ true → suc (length bs) ≤ length es
      by rest None e t = absurd (true≢false (sym t))
      by rest (Some node) e t = (let less = one_less es birth node (sym e) in omega arith)

  -- each node has a path
  pub path_found : (birth : ℕ) (node : Node) → at_number tree birth ≡ Some node → (names : List (List ℕ)) × (path_to tree birth ≡ Some names) × (node_of_path tree names ≡ Ok birth)
  unfolding path_to
  path_found birth node at =
      let w = way_to (rooted.led_to birth node at) in
      let c = longer (way_chain w.1) (length tree) (way_fits w.1 tree rooted.in_order (way_stands w.1)) in
      let found = chain_found c in
      (found.0, found.1, found_path (length tree) birth found.0 found.1)

  -- ---- places

  same_found : (blocks : List (List ℕ)) (found : WalkEnd) (names : List (List ℕ)) (index : ℕ) → zone_in_walk [] found names index ≡ zone_in_walk blocks found names index
  same_found blocks (Err fault) names index = refl
  same_found blocks (Ok met) names index = ap (λ (r : Result ℕ Refusal). elim r as (λ _. ℕ) [ Err refusal ↦ 0 | Ok b ↦ zone_in met.nodes b index ]) (same_paths_found blocks [] met.nodes names)

  pub places_on_paths : (g : Geometry) → IsPlaceIn g tree (λ found birth index. place_in found tree birth index)
  unfolding place_in
  places_on_paths g blocks other names birth index is alike path =
      let node = path_stands tree rooted names birth path in
      let mine = path_found birth node.0 node.1 in
      ap (λ o. elim o as (λ _. ℕ) [ None ↦ 0 | Some names ↦ zone_in_walk [] (walked g blocks) names index ]) mine.1
      ∙ (same_found blocks (walked g blocks) mine.0 index
      ∙ (sym (place_is tree rooted g blocks other mine.0 birth index is alike mine.2)
      ∙ place_is tree rooted g blocks other names birth index is alike path))
