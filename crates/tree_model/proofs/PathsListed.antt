-- A listing has each path of the tree, once.
use Rattle.std.proofs.Common.{arith, ◌≡◌, ℕ, zero, suc, List, [], ◌∷◌, ◌++◌, length, Option, Some, None, Result, Ok, Err, Bool, true, false, refl, sym, ap, subst, ◌∙◌, inl, inr, ⊎_elim}
use Rattle.std.specs.Prelude.{◌≢◌, ⊤, ◌↔◌, nat_lt, if◌then◌else◌}
use Rattle.std.specs.Ordering.{eq_by_cmp, is_eq}
use Rattle.std.specs.List.{IsDistinct, slice_get}
use Rattle.std.specs.Map.{keys_of}
use Rattle.std.proofs.lemmas.Bool.{true≢false, le-ltb}
use Rattle.std.proofs.lemmas.Option.{none-some, same_Some}
use Rattle.std.proofs.lemmas.List.{append_assoc, append-nil, append_cancel_left}
use Rattle.std.proofs.lemmas.Map.Keys.{IsDistinct-head, IsDistinct-tail}
use Rattle.blk_base.specs.Members.{In}
use Rattle.blk_base.specs.laws.Members.{In-append_left, In-append_right, In-append_cases, In-map, map-In, slice_get-In}
use Rattle.tree_model.specs.declared.node.Node.{Node}
use Rattle.tree_model.specs.declared.node.Node.TheVariants as nodes
use Rattle.tree_model.specs.Maps.{at_number, at_name, name_cmp}
use Rattle.tree_model.specs.Trees.{Refusal, step_at, led_to, node_of_path, name_too_long, not_found, not_directory}
use Rattle.tree_model.specs.laws.Listing.{Listed, listed_root, names_of, listed_below, Lists}
use Rattle.tree_model.specs.Rooted.{HasEntry, IsRooted}
use Rattle.tree_model.specs.laws.MapsLaws.{name_here, at_name-In}
use Rattle.tree_model.proofs.ListedOnce.{children, each_key, gives_by, distinct_by}

-- ---- one step of a path

same_ok : (a b : ℕ) → ◌≡◌ {A = Result ℕ Refusal} (Ok a) (Ok b) → a ≡ b
same_ok a b h = cc

abbrev found : Option ℕ → Result ℕ Refusal
found o = elim o as (λ _. Result ℕ Refusal) [ None ↦ Err not_found | Some birth ↦ Ok birth ]

step_given : (tree : List (ℕ × Node)) (rooted : IsRooted tree) (parent : ℕ) (name : List ℕ) (birth : ℕ) → HasEntry tree parent name birth → step_at (at_number tree parent) name ≡ Ok birth
step_given tree rooted parent name birth g =
    let width = rooted.of_width parent g.directory g.stands in
    let most = rooted.short parent name birth g in
    let short : nat_lt g.directory.width (length name) ≡ false = le-ltb g.directory.width (length name) (omega arith) in
    rw (g.stands, short, g.named) refl

found_name : (o : Option ℕ) (birth : ℕ) → found o ≡ Ok birth → o ≡ Some birth
found_name None birth h = absurd (cc)
found_name (Some b) birth h = ap Some (same_ok b birth h)

short_name : (long : Bool) (r : Result ℕ Refusal) (birth : ℕ) → ◌≡◌ {A = Result ℕ Refusal} (if long then Err name_too_long else r) (Ok birth) → r ≡ Ok birth
short_name true r birth h = absurd (let k : ◌≡◌ {A = Result ℕ Refusal} (Err name_too_long) (Ok birth) = h in cc)
short_name false r birth h = h

step_In : (node : Option Node) (name : List ℕ) (birth : ℕ) → step_at node name ≡ Ok birth → In (name, birth) (names_of node)
step_In (Some (nodes.Directory d)) name birth h =
    at_name-In d.names name birth (found_name (at_name d.names name) birth (short_name (nat_lt d.width (length name)) (found (at_name d.names name)) birth h))
step_In (Some (nodes.File f)) name birth h = absurd (let k : ◌≡◌ {A = Result ℕ Refusal} (Err not_directory) (Ok birth) = h in cc)
step_In (Some (nodes.Other mode)) name birth h = absurd (let k : ◌≡◌ {A = Result ℕ Refusal} (Err not_directory) (Ok birth) = h in cc)
step_In None name birth h = absurd (let k : ◌≡◌ {A = Result ℕ Refusal} (Err not_directory) (Ok birth) = h in cc)

abbrev led_on : List (ℕ × Node) → Result ℕ Refusal → List (List ℕ) → Result ℕ Refusal
led_on tree r names = elim r as (λ _. Result ℕ Refusal) [ Err refusal ↦ Err refusal | Ok next ↦ led_to tree next names ]

led_parts : (tree : List (ℕ × Node)) (r : Result ℕ Refusal) (names : List (List ℕ)) (birth : ℕ) → led_on tree r names ≡ Ok birth → (next : ℕ) × (r ≡ Ok next) × (led_to tree next names ≡ Ok birth)
led_parts tree (Ok next) names birth h = (next, refl, h)
led_parts tree (Err refusal) names birth h = absurd (let k : ◌≡◌ {A = Result ℕ Refusal} (Err refusal) (Ok birth) = h in cc)

-- ---- what is listed is what names lead to

-- names lead from one of these to x
record IsFrom (tree : List (ℕ × Node)) (pending : List Listed) (x : Listed) : Type 0 where
  start : Listed
  within : In start pending
  more : List (List ℕ)
  names : start.names ++ more ≡ x.names
  led : led_to tree start.birth more ≡ Ok x.birth

abbrev child : Listed → List ℕ × ℕ → Listed
child e n = record { names = e.names ++ n.0 ∷ []; birth = n.1 }

same_listed : (x y : Listed) → x.names ≡ y.names → x.birth ≡ y.birth → x ≡ y
same_listed x y p q = subst (λ (names : List (List ℕ)). x ≡ record { names = names; birth = y.birth }) p (ap (λ (birth : ℕ). record { names = x.names; birth = birth }) q)

module _ (tree : List (ℕ × Node)) (rooted : IsRooted tree) where
  from_child : (e x : Listed) (rest : List Listed) (n : List ℕ × ℕ) (more : List (List ℕ)) → In n (names_of (at_number tree e.birth)) →
      (child e n).names ++ more ≡ x.names → led_to tree n.1 more ≡ Ok x.birth → IsFrom tree (e ∷ rest) x
  from_child e x rest n more i names led =
      let step = step_given tree rooted e.birth n.0 n.1 (gives_by tree rooted e.birth (at_number tree e.birth) refl n.0 n.1 i) in
      record {
        start = e;
        within = inl refl;
        more = n.0 ∷ more;
        names = sym (append_assoc e.names (n.0 ∷ []) more) ∙ names;
        led = ap (λ (r : Result ℕ Refusal). led_on tree r more) step ∙ led;
      }

  listed_from : {pending listing : List Listed} → Lists tree pending listing → (x : Listed) → In x listing → IsFrom tree pending x
  listed_from Lists.nothing x i = absurd i
  listed_from (Lists.name {e} {rest} {listing} l) x (inl same) =
      record { start = e; within = inl refl; more = []; names = append-nil e.names ∙ ap (λ (x : Listed). x.names) same; led = ap Ok (ap (λ (x : Listed). x.birth) same) }
  listed_from (Lists.name {e} {rest} {listing} l) x (inr i) =
      let f = listed_from l x i in
      ⊎_elim
      (λ j.
      let n = In-map (child e) (names_of (at_number tree e.birth)) f.start j in
      from_child e x rest n.0 f.more n.1
      (ap (λ (y : Listed). y.names ++ f.more) n.2 ∙ f.names)
      (ap (λ (y : Listed). led_to tree y.birth f.more) n.2 ∙ f.led))
      (λ j. record { start = f.start; within = inr j; more = f.more; names = f.names; led = f.led })
      (In-append_cases (children tree e) rest f.start f.within)

  from_listed : {pending listing : List Listed} → Lists tree pending listing → (x start : Listed) (more : List (List ℕ)) → In start pending →
      start.names ++ more ≡ x.names → led_to tree start.birth more ≡ Ok x.birth → In x listing
  from_listed Lists.nothing x start more i names led = absurd i
  from_listed (Lists.name {e} {rest} {listing} l) x start [] (inl same) names led =
      inl (same ∙ same_listed start x (sym (append-nil start.names) ∙ names) (same_ok start.birth x.birth led))
  from_listed (Lists.name {e} {rest} {listing} l) x start (n ∷ more) (inl same) names led =
      let from_e = subst (λ (y : Listed). led_to tree y.birth (n ∷ more) ≡ Ok x.birth) (sym same) led in
      let parts = led_parts tree (step_at (at_number tree e.birth) n) more x.birth from_e in
      inr (from_listed l x (child e (n, parts.0)) more
      (In-append_left (children tree e) rest (child e (n, parts.0)) (map-In (child e) (names_of (at_number tree e.birth)) (n, parts.0) (step_In (at_number tree e.birth) n parts.0 parts.1)))
      (append_assoc e.names (n ∷ []) more ∙ (ap (λ (y : Listed). y.names ++ n ∷ more) same ∙ names))
      parts.2)
  from_listed (Lists.name {e} {rest} {listing} l) x start more (inr i) names led =
      inr (from_listed l x start more (In-append_right (children tree e) rest start i) names led)

  pub paths_listed : (listing : List Listed) → Lists tree (listed_root ∷ []) listing → (names : List (List ℕ)) (birth : ℕ) →
      (node_of_path tree names ≡ Ok birth) ↔ In (record { names = names; birth = birth }) listing
  paths_listed listing l names birth = (
    λ h. from_listed l (record { names = names; birth = birth }) listed_root names (inl refl) refl h,
    λ i.
        let f = listed_from l (record { names = names; birth = birth }) i in
        ⊎_elim
        (λ same.
        let here : f.more ≡ names = subst (λ (y : Listed). y.names ++ f.more ≡ names) (sym same) f.names in
        subst (λ (ns : List (List ℕ)). led_to tree 0 ns ≡ Ok birth) here (subst (λ (y : Listed). led_to tree y.birth f.more ≡ Ok birth) (sym same) f.led))
        (λ j. absurd j)
        f.within,
  )

  -- ---- each once

  -- no names lead to one path from both
  abbrev Part : Listed → Listed → Type 0
  Part x y = (a b : List (List ℕ)) → x.names ++ a ≢ y.names ++ b

  abbrev AreParted : List Listed → Type 0
  AreParted [] = ⊤
  AreParted (x ∷ xs) = ((y : Listed) → In y xs → Part x y) × AreParted xs

  parted_append : (xs ys : List Listed) → AreParted xs → AreParted ys → ((x y : Listed) → In x xs → In y ys → Part x y) → AreParted (xs ++ ys)
  parted_append [] ys h k c = k
  parted_append (x ∷ xs) ys h k c = (
    λ y i. ⊎_elim (λ j. h.0 y j) (λ j. c x y (inl refl) j) (In-append_cases xs ys y i),
    parted_append xs ys h.1 k (λ x y i j. c x y (inr i) j),
  )

  -- the names that go on behind a name are longer
  abbrev beyond : (e : Listed) (n : List ℕ × ℕ) (more : List (List ℕ)) → (child e n).names ++ more ≡ e.names ++ n.0 ∷ more
  beyond e n more = append_assoc e.names (n.0 ∷ []) more

  same_first : (n m : List ℕ) (a b : List (List ℕ)) → n ∷ a ≡ m ∷ b → n ≡ m
  same_first n m a b h = cc

  below_parted : (e : Listed) (entries : List (List ℕ × ℕ)) → IsDistinct (eq_by_cmp name_cmp) (keys_of entries) → AreParted (listed_below e.names entries)
  below_parted e [] distinct = tt
  below_parted e (n ∷ ns) distinct = (
    λ y i a b same.
        let m = In-map (child e) ns y i in
        let at_m : (child e n).names ++ a ≡ (child e m.0).names ++ b = same ∙ ap (λ (y : Listed). y.names ++ b) (sym m.2) in
        let one : n.0 ≡ m.0.0 = same_first n.0 m.0.0 a b (append_cancel_left e.names (n.0 ∷ a) (m.0.0 ∷ b) (sym (beyond e n a) ∙ (at_m ∙ beyond e m.0 b))) in
        let apart : is_eq (name_cmp n.0 m.0.0) ≡ false =
        each_key (λ k. eq_by_cmp name_cmp n.0 k ≡ false) (keys_of ns) m.0.0 (IsDistinct-head (eq_by_cmp name_cmp) n.0 (keys_of ns) distinct) (map-In (λ (n : List ℕ × ℕ). n.0) ns m.0 m.1) in
        true≢false (sym (name_here n.0) ∙ subst (λ k. is_eq (name_cmp n.0 k) ≡ false) (sym one) apart),
    below_parted e ns (IsDistinct-tail (eq_by_cmp name_cmp) n.0 (keys_of ns) distinct),
  )

  parted_on : (e : Listed) (rest : List Listed) → AreParted (e ∷ rest) → AreParted (children tree e ++ rest)
  parted_on e rest h =
      parted_append (children tree e) rest (below_parted e (names_of (at_number tree e.birth)) (distinct_by tree rooted e.birth (at_number tree e.birth) refl)) h.1
      (λ x y i j a b same.
      let n = In-map (child e) (names_of (at_number tree e.birth)) x i in
      h.0 y j (n.0.0 ∷ a) b (sym (beyond e n.0 a) ∙ (ap (λ (x : Listed). x.names ++ a) n.2 ∙ same)))

  abbrev NamesOnce : List Listed → Type 0
  NamesOnce [] = ⊤
  NamesOnce (x ∷ xs) = ((y : Listed) → In y xs → x.names ≢ y.names) × NamesOnce xs

  longer : (n : List ℕ) (more : List (List ℕ)) → n ∷ more ≢ []
  longer n more h = cc

  names_once : {pending listing : List Listed} → Lists tree pending listing → AreParted pending → NamesOnce listing
  names_once Lists.nothing h = tt
  names_once (Lists.name {e} {rest} {listing} l) h = (
    λ y i same.
        let f = listed_from l y i in
        ⊎_elim
        (λ j.
        let n = In-map (child e) (names_of (at_number tree e.birth)) f.start j in
        let here : (child e n.0).names ++ f.more ≡ e.names = ap (λ (x : Listed). x.names ++ f.more) n.2 ∙ (f.names ∙ sym same) in
        longer n.0.0 f.more (append_cancel_left e.names (n.0.0 ∷ f.more) [] (sym (beyond e n.0 f.more) ∙ (here ∙ sym (append-nil e.names)))))
        (λ j. h.0 f.start j [] f.more (append-nil e.names ∙ (same ∙ sym f.names)))
        (In-append_cases (children tree e) rest f.start f.within),
    names_once l (parted_on e rest h),
  )

  one_place : (listing : List Listed) → NamesOnce listing → (i j : ℕ) (e f : Listed) → slice_get listing i ≡ Some e → slice_get listing j ≡ Some f → e.names ≡ f.names → i ≡ j
  one_place [] h i j e f p q same = absurd (none-some e p)
  one_place (x ∷ xs) h zero zero e f p q same = refl
  one_place (x ∷ xs) h zero (suc j) e f p q same =
      absurd (h.0 f (slice_get-In xs j f q) (ap (λ (x : Listed). x.names) (same_Some x e p) ∙ same))
  one_place (x ∷ xs) h (suc i) zero e f p q same =
      absurd (h.0 e (slice_get-In xs i e p) (ap (λ (x : Listed). x.names) (same_Some x f q) ∙ sym same))
  one_place (x ∷ xs) h (suc i) (suc j) e f p q same = ap suc (one_place xs h.1 i j e f p q same)

  pub paths_once : (listing : List Listed) → Lists tree (listed_root ∷ []) listing → (i j : ℕ) (e f : Listed) →
      slice_get listing i ≡ Some e → slice_get listing j ≡ Some f → e.names ≡ f.names → i ≡ j
  paths_once listing l = one_place listing (names_once l (λ y i. absurd i, tt))
