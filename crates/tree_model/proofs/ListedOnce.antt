-- A directory is listed once: no two names of a walk that hangs together lead to one.
use Rattle.std.proofs.Common.{◌≡◌, ℕ, List, [], ◌∷◌, ◌++◌, Option, Some, None, false, refl, sym, ap, subst, ◌∙◌, inl, inr, ⊎_elim, ◌⊎◌}
use Rattle.std.specs.Prelude.{◌≢◌, ⊤}
use Rattle.std.specs.Ordering.{eq_by_cmp, is_eq}
use Rattle.std.specs.List.{AllByRecursion, IsDistinct}
use Rattle.std.specs.Map.{keys_of}
use Rattle.std.proofs.lemmas.Bool.{true≢false}
use Rattle.std.proofs.lemmas.List.{append_assoc}
use Rattle.std.proofs.lemmas.Map.Keys.{IsDistinct-head, IsDistinct-tail, IsDistinct-from_sorted}
use Rattle.blk_base.specs.Members.{In}
use Rattle.blk_base.specs.laws.Members.{In-append_left, In-append_right, In-append_cases, In-push, In-push_left, In-map, map-In}
use Rattle.tree_model.specs.declared.node.Node.{Node}
use Rattle.tree_model.specs.declared.node.Node.TheVariants as nodes
use Rattle.tree_model.specs.declared.node.Directory.{Directory}
use Rattle.tree_model.specs.Maps.{at_number, name_cmp}
use Rattle.tree_model.specs.laws.Listing.{Listed, names_of, listed_below}
use Rattle.tree_model.specs.Rooted.{HasEntry, IsRooted}
use Rattle.tree_model.proofs.Lookups.{In-at_name}
use Rattle.tree_model.specs.laws.MapsLaws.{name_here}

abbrev pub IsDirectoryAt : List (ℕ × Node) → ℕ → Type 0
IsDirectoryAt tree birth = (d : Directory) × (at_number tree birth ≡ Some (nodes.Directory d))

-- no directory stands at two of these names
abbrev pub ListsOnce : List (ℕ × Node) → List Listed → Type 0
ListsOnce tree [] = ⊤
ListsOnce tree (x ∷ xs) = ((y : Listed) → In y xs → IsDirectoryAt tree x.birth → x.birth ≢ y.birth) × ListsOnce tree xs

-- the name is the root's, or a directory among those before gives it
pub record HasParent (tree : List (ℕ × Node)) (before : List Listed) (birth : ℕ) : Type 0 where
  pub parent : Listed
  pub listed : In parent before
  pub name : List ℕ
  pub gives : HasEntry tree parent.birth name birth

abbrev pub IsPlaced : List (ℕ × Node) → List Listed → Listed → Type 0
IsPlaced tree before x = (x.birth ≡ 0) ⊎ HasParent tree before x.birth

abbrev pub children : List (ℕ × Node) → Listed → List Listed
children tree e = listed_below e.names (names_of (at_number tree e.birth))

pub each_key : {X : Type 0} (P : X → Type 0) (xs : List X) (x : X) → AllByRecursion P xs → In x xs → P x
each_key P [] x h i = absurd i
each_key P (y ∷ ys) x h (inl e) = subst P e h.0
each_key P (y ∷ ys) x h (inr i) = each_key P ys x h.1 i

module _ (tree : List (ℕ × Node)) (rooted : IsRooted tree) where
  -- ---- what a name gives

  pub gives_by : (parent : ℕ) (node : Option Node) → at_number tree parent ≡ node → (name : List ℕ) (birth : ℕ) → In (name, birth) (names_of node) → HasEntry tree parent name birth
  gives_by parent None is name birth i = absurd i
  gives_by parent (Some (nodes.Directory d)) is name birth i =
      record { directory = d; stands = is; named = In-at_name d.names name birth (rooted.names_in_order parent d is) i }
  gives_by parent (Some (nodes.File f)) is name birth i = absurd i
  gives_by parent (Some (nodes.Other mode)) is name birth i = absurd i

  pub distinct_by : (parent : ℕ) (node : Option Node) → at_number tree parent ≡ node → IsDistinct (eq_by_cmp name_cmp) (keys_of (names_of node))
  unfolding IsDistinct
  distinct_by parent None is = tt
  distinct_by parent (Some (nodes.Directory d)) is = IsDistinct-from_sorted name_cmp (keys_of d.names) (rooted.names_in_order parent d is)
  distinct_by parent (Some (nodes.File f)) is = tt
  distinct_by parent (Some (nodes.Other mode)) is = tt

  pub child_given : (e y : Listed) → In y (children tree e) → (name : List ℕ) × HasEntry tree e.birth name y.birth
  child_given e y i =
      let x = In-map (λ (n : List ℕ × ℕ). record { names = e.names ++ n.0 ∷ []; birth = n.1 }) (names_of (at_number tree e.birth)) y i in
      (x.0.0, subst (λ y. HasEntry tree e.birth x.0.0 y.birth) x.2 (gives_by e.birth (at_number tree e.birth) refl x.0.0 x.0.1 x.1))

  -- ---- names below one directory are apart

  below_apart : (e : Listed) (entries : List (List ℕ × ℕ)) → ((name : List ℕ) (birth : ℕ) → In (name, birth) entries → HasEntry tree e.birth name birth) →
      IsDistinct (eq_by_cmp name_cmp) (keys_of entries) → ListsOnce tree (listed_below e.names entries)
  below_apart e [] given distinct = tt
  below_apart e (n ∷ ns) given distinct = (
    λ y i directory same.
        let x = In-map (λ (n : List ℕ × ℕ). record { names = e.names ++ n.0 ∷ []; birth = n.1 }) ns y i in
        let birth : x.0.1 ≡ n.1 = ap (λ y. y.birth) x.2 ∙ sym same in
        let other : HasEntry tree e.birth x.0.0 n.1 = subst (λ birth. HasEntry tree e.birth x.0.0 birth) birth (given x.0.0 x.0.1 (inr x.1)) in
        let one = rooted.one_name e.birth e.birth n.0 x.0.0 n.1 directory.0 (given n.0 n.1 (inl refl)) other directory.1 in
        let apart : is_eq (name_cmp n.0 x.0.0) ≡ false =
        each_key (λ k. eq_by_cmp name_cmp n.0 k ≡ false) (keys_of ns) x.0.0 (IsDistinct-head (eq_by_cmp name_cmp) n.0 (keys_of ns) distinct) (map-In (λ (n : List ℕ × ℕ). n.0) ns x.0 x.1) in
        true≢false (sym (name_here n.0) ∙ subst (λ k. is_eq (name_cmp n.0 k) ≡ false) (sym one.1) apart),
    below_apart e ns (λ name birth i. given name birth (inr i)) (IsDistinct-tail (eq_by_cmp name_cmp) n.0 (keys_of ns) distinct),
  )

  -- ---- lists of names that are apart

  pub apart_before : (xs : List Listed) (e : Listed) (ys : List Listed) (x : Listed) → ListsOnce tree (xs ++ e ∷ ys) → In x xs → IsDirectoryAt tree e.birth → x.birth ≢ e.birth
  apart_before [] e ys x h i directory = absurd i
  apart_before (z ∷ zs) e ys x h (inl p) directory =
      λ same. h.0 e (In-append_right zs (e ∷ ys) e (inl refl))
      (subst (λ birth. IsDirectoryAt tree birth) (sym (ap (λ z. z.birth) p ∙ same)) directory) (ap (λ z. z.birth) p ∙ same)
  apart_before (z ∷ zs) e ys x h (inr i) directory = apart_before zs e ys x h.1 i directory

  abbrev Crossed : List Listed → List Listed → Type 0
  Crossed xs ys = (x y : Listed) → In x xs → In y ys → IsDirectoryAt tree y.birth → x.birth ≢ y.birth

  apart_append : (ys zs : List Listed) → ListsOnce tree ys → ListsOnce tree zs → Crossed zs ys → ListsOnce tree (ys ++ zs)
  apart_append [] zs h k c = k
  apart_append (y ∷ ys) zs h k c = (
    λ z i directory.
        ⊎_elim (λ j. h.0 z j directory) (λ j same. c z y j (inl refl) directory (sym same)) (In-append_cases ys zs z i),
    apart_append ys zs h.1 k (λ z x i j. c z x i (inr j)),
  )

  apart_insert : (xs ys zs : List Listed) → ListsOnce tree (xs ++ zs) → ListsOnce tree ys → Crossed (xs ++ zs) ys → ListsOnce tree (xs ++ (ys ++ zs))
  apart_insert [] ys zs h k c = apart_append ys zs k h c
  apart_insert (x ∷ xs) ys zs h k c = (
    λ y i directory.
        ⊎_elim
        (λ j. h.0 y (In-append_left xs zs y j) directory)
        (λ j.
        ⊎_elim
        (λ j same. c x y (inl refl) j (subst (λ birth. IsDirectoryAt tree birth) same directory) same)
        (λ j. h.0 y (In-append_right xs zs y j) directory)
        (In-append_cases ys zs y j))
        (In-append_cases xs (ys ++ zs) y i),
    apart_insert xs ys zs h.1 k (λ z y i j. c z y (inr i) j),
  )

  -- ---- one name further

  -- the names that were listed and those that are pending
  pub record IsWalk (before pending : List Listed) : Type 0 where
    pub placed : (x : Listed) → In x (before ++ pending) → IsPlaced tree before x
    pub apart : ListsOnce tree (before ++ pending)

  pub walk_stands : (before rest : List Listed) (e : Listed) → IsWalk before (e ∷ rest) → (node : Node) × (at_number tree e.birth ≡ Some node)
  walk_stands before rest e w =
      ⊎_elim
      (λ root. (nodes.Directory rooted.root.0, ap (at_number tree) root ∙ rooted.root.1))
      (λ p. rooted.leads p.parent.birth p.name e.birth p.gives)
      (w.placed e (In-append_right before (e ∷ rest) e (inl refl)))

  still_placed : (before : List Listed) (e x : Listed) → IsPlaced tree before x → IsPlaced tree (before ++ e ∷ []) x
  still_placed before e x h =
      ⊎_elim inl (λ p. inr (record { parent = p.parent; listed = In-push_left before e p.parent p.listed; name = p.name; gives = p.gives })) h

  -- a name of a directory is new where it leads to a directory
  child_new : (before rest : List Listed) (e : Listed) → IsWalk before (e ∷ rest) → Crossed (before ++ e ∷ rest) (children tree e)
  child_new before rest e w x y i j directory same =
      let child = child_given e y j in
      ⊎_elim
      (λ root. rooted.no_root e.birth child.0 y.birth child.1 (sym same ∙ root))
      (λ p.
      let other : HasEntry tree p.parent.birth p.name y.birth = subst (λ birth. HasEntry tree p.parent.birth p.name birth) same p.gives in
      let one = rooted.one_name p.parent.birth e.birth p.name child.0 y.birth directory.0 other child.1 directory.1 in
      apart_before before e rest p.parent w.apart p.listed (child.1.directory, child.1.stands) one.0)
      (w.placed x i)

  pub walk_on : (before rest : List Listed) (e : Listed) → IsWalk before (e ∷ rest) → IsWalk (before ++ e ∷ []) (children tree e ++ rest)
  walk_on before rest e w =
      let same : (before ++ e ∷ []) ++ rest ≡ before ++ e ∷ rest = append_assoc before (e ∷ []) rest in
      record {
        placed = λ x i.
            ⊎_elim
            (λ j. still_placed before e x (w.placed x (subst (λ xs. In x xs) same (In-append_left (before ++ e ∷ []) rest x j))))
            (λ j.
            ⊎_elim
            (λ k.
            let child = child_given e x k in
            inr (record { parent = e; listed = In-push before e; name = child.0; gives = child.1 }))
            (λ k. still_placed before e x (w.placed x (subst (λ xs. In x xs) same (In-append_right (before ++ e ∷ []) rest x k))))
            (In-append_cases (children tree e) rest x j))
            (In-append_cases (before ++ e ∷ []) (children tree e ++ rest) x i);
        apart = apart_insert (before ++ e ∷ []) (children tree e) rest
            (subst (λ xs. ListsOnce tree xs) (sym same) w.apart)
            (below_apart e (names_of (at_number tree e.birth)) (gives_by e.birth (at_number tree e.birth) refl) (distinct_by e.birth (at_number tree e.birth) refl))
            (subst (λ xs. Crossed xs (children tree e)) (sym same) (child_new before rest e w));
      }
