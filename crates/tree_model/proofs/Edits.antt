-- What puts and removals of nodes do to the names of a tree.
use Rattle.std.specs.Prelude.{◌≡◌, ◌≢◌, ℕ, ◌+◌, ◌⊎◌, false, List, [], Option, Some, None, is_some, unwrap_or, option_map, refl}
use Rattle.std.proofs.Common.{sym, ap, subst, ◌∙◌, inl, inr, ⊎_elim, arith}
use Rattle.std.specs.Ordering.{is_eq}
use Rattle.std.proofs.lemmas.Bool.{cases_Bool, cases_eq, false≢true}
use Rattle.std.proofs.lemmas.Option.{same_Some}
use Rattle.tree_model.specs.declared.node.Node.{Node}
use Rattle.tree_model.specs.declared.node.Node.TheVariants as nodes
use Rattle.tree_model.specs.declared.node.Directory.{Directory}
use Rattle.tree_model.specs.declared.node.File.{File}
use Rattle.tree_model.specs.Maps.{at_number, at_name, put_number, put_name, without_number, name_cmp}
use Rattle.tree_model.specs.laws.MapsLaws.{name_here, name_same, at_put_number, at_put_number_apart, at_put_name, put_apart}
use Rattle.tree_model.specs.laws.Listing.{names_of}
use Rattle.tree_model.specs.Trees.{is_directory}
use Rattle.tree_model.specs.Calls.{Tree, Place, with_name, without_name, give_name, take_name}
use Rattle.tree_model.specs.Plain.{names_in_node, names_to}
use Rattle.tree_model.specs.laws.MapOrder.{InOrder, at_put_cases, at_without_cases, at_without_apart, NamesInOrder, at_name_without_found, at_name_without_apart}
use Rattle.tree_model.proofs.Hanging.{StaysAt}
use Rattle.tree_model.proofs.Plain.{edge_of, up_of, seen_of, count_in, one_for, one_at, names_at, names_to_put, names_to_without, count_put, count_without}

-- ---- nodes

pub record IsLike (old new : Option Node) : Type 0 where
  pub there : is_some new ≡ is_some old
  pub directory : is_directory new ≡ is_directory old
  pub up : up_of new ≡ up_of old

pub like_itself : (o : Option Node) → IsLike o o
like_itself o = record { there = refl; directory = refl; up = refl }

pub like_chain : (a b c : Option Node) → IsLike a b → IsLike b c → IsLike a c
like_chain a b c h j = record { there = j.there ∙ h.there; directory = j.directory ∙ h.directory; up = j.up ∙ h.up }

pub like_directory : (old : Option Node) (d e : Directory) → old ≡ Some (nodes.Directory d) → e.parent ≡ d.parent → IsLike old (Some (nodes.Directory e))
like_directory old d e is same = subst (λ o. IsLike o (Some (nodes.Directory e))) (sym is) (record { there = refl; directory = refl; up = ap Some same })

pub like_file : (old : Option Node) (f g : File) → old ≡ Some (nodes.File f) → IsLike old (Some (nodes.File g))
like_file old f g is = subst (λ o. IsLike o (Some (nodes.File g))) (sym is) (record { there = refl; directory = refl; up = refl })

pub like_stays : (t u : Tree) (c : ℕ) → IsLike (at_number t c) (at_number u c) → StaysAt (seen_of t) (seen_of u) c
like_stays t u c h = record { there = h.there; directory = h.directory; up = h.up }

pub like_put : (t : Tree) (p : ℕ) (node : Node) → IsLike (at_number t p) (Some node) → (c : ℕ) → IsLike (at_number t c) (at_number (put_number t p node) c)
like_put t p node like c =
    at_put_cases (IsLike (at_number t c)) t p node c
    (λ e. subst (λ j. IsLike (at_number t j) (Some node)) (sym e) like)
    (λ apart. like_itself (at_number t c))

pub like_put_apart : (t : Tree) (p : ℕ) (node : Node) (c : ℕ) → c ≢ p → IsLike (at_number t c) (at_number (put_number t p node) c)
like_put_apart t p node c apart = subst (IsLike (at_number t c)) (sym (at_put_number_apart t p node c apart)) (like_itself (at_number t c))

pub like_without : (t : Tree) (b c : ℕ) → InOrder t → c ≢ b → IsLike (at_number t c) (at_number (without_number t b) c)
like_without t b c order apart = subst (IsLike (at_number t c)) (sym (at_without_apart t b c order apart)) (like_itself (at_number t c))

-- what holds of each node
pub each_put : (P : Option Node → Type 0) (t : Tree) (p : ℕ) (node : Node) → P (Some node) → ((c : ℕ) → P (at_number t c)) → (c : ℕ) → P (at_number (put_number t p node) c)
each_put P t p node here all c = at_put_cases P t p node c (λ e. here) (λ apart. all c)

pub each_without : (P : Option Node → Type 0) (t : Tree) (b : ℕ) → InOrder t → P None → ((c : ℕ) → P (at_number t c)) → (c : ℕ) → P (at_number (without_number t b) c)
each_without P t b order none all c = at_without_cases P t b c order (λ e. none) (λ apart. all c)

-- ---- names

pub same_name : (k m : List ℕ) → (k ≡ m) ⊎ (k ≢ m)
same_name k m =
    elim (cases_Bool (is_eq (name_cmp k m))) [
      | inl t ↦ inl (name_same k m t)
      | inr f ↦ inr (λ e. false≢true (sym f ∙ (ap (λ x. is_eq (name_cmp k x)) (sym e) ∙ name_here k)))
    ]

abbrev pub IsAt : ℕ → List ℕ → ℕ → List ℕ → Type 0
IsAt p m q k = (q ≡ p) × (k ≡ m)

pub at_or_apart : (p : ℕ) (m : List ℕ) (q : ℕ) (k : List ℕ) → IsAt p m q k ⊎ (IsAt p m q k → ⊥)
at_or_apart p m q k =
    ⊎_elim
    (λ e. ⊎_elim (λ s. inl (e, s)) (λ d. inr (λ x. d x.1)) (same_name k m))
    (λ d. inr (λ x. d x.0))
    (cases_eq q p)

-- a node with the same names in place of another
pub edge_put_same : (t : Tree) (p : ℕ) (node : Node) → names_of (Some node) ≡ names_of (at_number t p) → (q : ℕ) (k : List ℕ) → edge_of (put_number t p node) q k ≡ edge_of t q k
edge_put_same t p node same q k =
    at_put_cases (λ o. at_name (names_of o) k ≡ edge_of t q k) t p node q
    (λ e. ap (λ names. at_name names k) (same ∙ ap (λ j. names_of (at_number t j)) (sym e)))
    (λ apart. refl)

pub edge_without : (t : Tree) (b : ℕ) → InOrder t → names_of (at_number t b) ≡ [] → (q : ℕ) (k : List ℕ) → edge_of (without_number t b) q k ≡ edge_of t q k
edge_without t b order none q k =
    at_without_cases (λ o. at_name (names_of o) k ≡ edge_of t q k) t b q order
    (λ e. sym (ap (λ names. at_name names k) (ap (λ j. names_of (at_number t j)) e ∙ none)))
    (λ apart. refl)

module _ (t : Tree) (p : Place) (stands : at_number t p.parent ≡ Some (nodes.Directory p.directory)) where
  here_edge : (q : ℕ) (k : List ℕ) → q ≡ p.parent → at_name p.directory.names k ≡ edge_of t q k
  here_edge q k e = ap (λ o. at_name (names_of o) k) (sym (ap (at_number t) e ∙ stands))

  -- a name that was given
  module _ (b : ℕ) where
    pub give_here : edge_of (give_name t p b) p.parent p.name ≡ Some b
    give_here =
        ap (λ o. at_name (names_of o) p.name) (at_put_number t p.parent (nodes.Directory (with_name p.directory p.name b)))
        ∙ at_put_name p.directory.names p.name b

    other_name : (k : List ℕ) → k ≢ p.name → at_name (put_name p.directory.names p.name b) k ≡ at_name p.directory.names k
    other_name k apart =
        let f : is_eq (name_cmp k p.name) ≡ false =
        elim (cases_Bool (is_eq (name_cmp k p.name))) [ inl t ↦ absurd (apart (name_same k p.name t)) | inr f ↦ f ]
        in
        put_apart name_cmp name_here name_same p.directory.names p.name b k f

    give_apart : (q : ℕ) (k : List ℕ) → (IsAt p.parent p.name q k → ⊥) → edge_of (give_name t p b) q k ≡ edge_of t q k
    give_apart q k apart =
        at_put_cases (λ o. at_name (names_of o) k ≡ edge_of t q k) t p.parent (nodes.Directory (with_name p.directory p.name b)) q
        (λ e. other_name k (λ s. apart (e, s)) ∙ here_edge q k e)
        (λ d. refl)

    pub give_split : (q : ℕ) (k : List ℕ) (c : ℕ) → edge_of (give_name t p b) q k ≡ Some c → ((q ≡ p.parent) × (k ≡ p.name) × (c ≡ b)) ⊎ ((edge_of t q k ≡ Some c) × (IsAt p.parent p.name q k → ⊥))
    give_split q k c e =
        ⊎_elim
        (λ at. inl (at.0, at.1, same_Some c b (sym e ∙ (ap (λ q. edge_of (give_name t p b) q k) at.0 ∙ (ap (edge_of (give_name t p b) p.parent) at.1 ∙ give_here)))))
        (λ apart. inr (sym (give_apart q k apart) ∙ e, apart))
        (at_or_apart p.parent p.name q k)

    pub give_kept : (q : ℕ) (k : List ℕ) (c : ℕ) → edge_of t q k ≡ Some c → (IsAt p.parent p.name q k → ⊥) → edge_of (give_name t p b) q k ≡ Some c
    give_kept q k c e apart = give_apart q k apart ∙ e

    pub give_like : (c : ℕ) → IsLike (at_number t c) (at_number (give_name t p b) c)
    give_like c = like_put t p.parent (nodes.Directory (with_name p.directory p.name b)) (like_directory (at_number t p.parent) p.directory _ stands refl) c

  -- a name that was taken
  pub take_split : NamesInOrder p.directory.names → (q : ℕ) (k : List ℕ) (c : ℕ) → edge_of (take_name t p) q k ≡ Some c → (edge_of t q k ≡ Some c) × (IsAt p.parent p.name q k → ⊥)
  take_split sorted q k c =
      at_put_cases (λ o. at_name (names_of o) k ≡ Some c → (edge_of t q k ≡ Some c) × (IsAt p.parent p.name q k → ⊥)) t p.parent (nodes.Directory (without_name p.directory p.name)) q
      (λ e h. let x = at_name_without_found p.directory.names p.name k c sorted h in (sym (here_edge q k e) ∙ x.1, λ at. x.0 (sym at.1)))
      (λ d h. (h, λ at. d at.0))

  pub take_kept : NamesInOrder p.directory.names → (q : ℕ) (k : List ℕ) (c : ℕ) → edge_of t q k ≡ Some c → (IsAt p.parent p.name q k → ⊥) → edge_of (take_name t p) q k ≡ Some c
  take_kept sorted q k c h apart =
      at_put_cases (λ o. at_name (names_of o) k ≡ Some c) t p.parent (nodes.Directory (without_name p.directory p.name)) q
      (λ e. at_name_without_apart p.directory.names p.name k sorted (λ s. apart (e, sym s)) ∙ (here_edge q k e ∙ h))
      (λ d. h)

  pub take_like : (c : ℕ) → IsLike (at_number t c) (at_number (take_name t p) c)
  take_like c = like_put t p.parent (nodes.Directory (without_name p.directory p.name)) (like_directory (at_number t p.parent) p.directory _ stands refl) c

  -- how many names a node has
  names_here : (c : ℕ) → names_at t p.parent c ≡ count_in p.directory.names c
  names_here c = ap (λ o. unwrap_or (option_map (names_in_node c) o) 0) stands

  pub give_counts : (b c : ℕ) → InOrder t → NamesInOrder p.directory.names → names_to (give_name t p b) c + one_for c (at_name p.directory.names p.name) ≡ names_to t c + one_at b c
  give_counts b c order sorted =
      let all = names_to_put t p.parent (nodes.Directory (with_name p.directory p.name b)) c order in
      let old = names_here c in
      let new = count_put p.directory.names p.name b c sorted in
      omega arith

  pub take_counts : (c : ℕ) → InOrder t → names_to (take_name t p) c + one_for c (at_name p.directory.names p.name) ≡ names_to t c
  take_counts c order =
      let all = names_to_put t p.parent (nodes.Directory (without_name p.directory p.name)) c order in
      let old = names_here c in
      let less = count_without p.directory.names p.name c in
      omega arith

-- a node without names in place of one without names
none_at : (o : Option Node) → names_of o ≡ [] → (c : ℕ) → unwrap_or (option_map (names_in_node c) o) 0 ≡ 0
none_at (Some (nodes.Directory d)) none c = ap (λ names. count_in names c) none
none_at (Some (nodes.File f)) none c = refl
none_at (Some (nodes.Other mode)) none c = refl
none_at None none c = refl

pub put_counts : (t : Tree) (p : ℕ) (node : Node) (c : ℕ) → InOrder t → names_of (at_number t p) ≡ [] → names_of (Some node) ≡ [] → names_to (put_number t p node) c ≡ names_to t c
put_counts t p node c order old new =
    let all = names_to_put t p node c order in
    let before = none_at (at_number t p) old c in
    let after = none_at (Some node) new c in
    omega arith

pub without_counts : (t : Tree) (b c : ℕ) → names_of (at_number t b) ≡ [] → names_to (without_number t b) c ≡ names_to t c
without_counts t b c none =
    let all = names_to_without t b c in
    let before = none_at (at_number t b) none c in
    omega arith
