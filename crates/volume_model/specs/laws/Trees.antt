-- The tree after `create`: it is the plain step.
use Rattle.std.specs.Prelude.{◌≡◌, ℕ, ◌+◌, ◌<◌, true, false, List, [], ◌∷◌, length, map, Some, None, refl, ◌⊎◌}
use Rattle.std.proofs.Common.{sym, ap, ◌∙◌, inl, inr, arith}
use Rattle.std.specs.List.Sorted.{IsStrictlySortedBy}
use Rattle.std.specs.List.{AllByRecursion}
use Rattle.std.specs.declared.cmp.Ordering.{Ordering}
use Rattle.std.specs.declared.cmp.Ordering.TheVariants.{Less, Equal, Greater}
use Rattle.std.specs.Ordering.{nat_cmp, match_ordering, is_eq}
use Rattle.std.specs.Map.{keys_of, set_value}
use Rattle.std.specs.BTreeMap.{is_at}
use Rattle.std.proofs.lemmas.Bool.{cases_Bool, true≢false}
use Rattle.std.proofs.lemmas.Map.Keys.{sorted_head, sorted_tail}
use Rattle.std.proofs.lemmas.Option.{same_Some, none-some}
use Rattle.blk_base.specs.Members.{In}
use Rattle.tree_model.specs.Maps.{at_number, put_number, at_name, put_name, name_cmp}

-- ---- maps whose values are seen by f

abbrev pub seen_by : {X Y : Type 0} → (X → Y) → List (ℕ × X) → List (ℕ × Y)
seen_by f es = map (λ e. (e.0, f e.1)) es

seen_match : {X Y : Type 0} (f : X → Y) (o : Ordering) (below same above : List (ℕ × X)) → seen_by f (match_ordering o below same above) ≡ match_ordering o (seen_by f below) (seen_by f same) (seen_by f above)
seen_match f Less below same above = refl
seen_match f Equal below same above = refl
seen_match f Greater below same above = refl

pub seen_put : {X Y : Type 0} (f : X → Y) (es : List (ℕ × X)) (k : ℕ) (x : X) → seen_by f (put_number es k x) ≡ put_number (seen_by f es) k (f x)
seen_put f [] k x = refl
seen_put f (e ∷ es) k x =
    seen_match f (nat_cmp k e.0) ((k, x) ∷ e ∷ es) ((e.0, x) ∷ es) (e ∷ put_number es k x)
    ∙ ap (λ fs. match_ordering (nat_cmp k e.0) ((k, f x) ∷ (e.0, f e.1) ∷ seen_by f es) ((e.0, f x) ∷ seen_by f es) ((e.0, f e.1) ∷ fs)) (seen_put f es k x)

pub seen_at : {X Y : Type 0} (f : X → Y) (es : List (ℕ × X)) (k : ℕ) (x : X) → at_number es k ≡ Some x → at_number (seen_by f es) k ≡ Some (f x)
seen_at f [] k x h = absurd (cc)
seen_at f (e ∷ es) k x h =
    elim (cases_Bool (is_at (nat_cmp k) e.0)) [
      | inl t ↦ rw t (ap (λ x. Some (f x)) (same_Some e.1 x (rw t at h)))
      | inr u ↦ rw u (seen_at f es k x (rw u at h))
    ]

-- two views of a map that agree on what stands in it
pub seen_same : {X Y : Type 0} (f h : X → Y) (es : List (ℕ × X)) → ((e : ℕ × X) → In e es → f e.1 ≡ h e.1) → seen_by f es ≡ seen_by h es
seen_same f h [] same = refl
seen_same f h (e ∷ es) same =
    ap (λ y. (e.0, y) ∷ seen_by f es) (same e (inl refl)) ∙ ap (λ more. (e.0, h e.1) ∷ more) (seen_same f h es (λ x i. same x (inr i)))

-- ---- maps in order

-- a key that is found is above those before it
pub found_above : {X : Type 0} (low k : ℕ) (es : List (ℕ × X)) (x : X) → AllByRecursion (λ y. nat_cmp low y ≡ Less) (keys_of es) → at_number es k ≡ Some x → low < k
found_above low k [] x h found = absurd (cc)
found_above low k (e ∷ es) x h found =
    elim (cases_Bool (is_at (nat_cmp k) e.0)) [
      | inl t ↦ (let first = h.0 in grind arith)
      | inr u ↦ found_above low k es x h.1 (rw u at found)
    ]

In_above : {X : Type 0} (low k : ℕ) (es : List (ℕ × X)) (x : X) → AllByRecursion (λ y. nat_cmp low y ≡ Less) (keys_of es) → In (k, x) es → low < k
In_above low k [] x h i = absurd i
In_above low k (e ∷ es) x h (inl same) = (let first = h.0 in let key : e.0 ≡ k = ap (λ (p : ℕ × _). p.0) same in grind arith)
In_above low k (e ∷ es) x h (inr i) = In_above low k es x h.1 i

apart_from_above : (low k : ℕ) → low < k → is_at (nat_cmp k) low ≡ false
apart_from_above low k h = grind arith

found_here : (k : ℕ) → is_at (nat_cmp k) k ≡ true
found_here k = grind arith

greater_from_above : (low k : ℕ) → low < k → nat_cmp k low ≡ Greater
greater_from_above low k h = grind arith

equal_from_at : (k j : ℕ) → is_at (nat_cmp k) j ≡ true → nat_cmp k j ≡ Equal
equal_from_at k j h = grind arith

-- an entry of a map in order is found
pub In-at : {X : Type 0} (es : List (ℕ × X)) (k : ℕ) (x : X) → IsStrictlySortedBy nat_cmp (keys_of es) → In (k, x) es → at_number es k ≡ Some x
In-at [] k x sorted i = absurd i
In-at (e ∷ es) k x sorted (inl same) =
    let key : e.0 ≡ k = ap (λ (p : ℕ × _). p.0) same in
    let value : e.1 ≡ x = ap (λ (p : ℕ × _). p.1) same in
    let t : is_at (nat_cmp k) e.0 ≡ true = ap (is_at (nat_cmp k)) key ∙ found_here k in
    rw t (ap Some value)
In-at (e ∷ es) k x sorted (inr i) =
    let f = apart_from_above e.0 k (In_above e.0 k es x (sorted_head nat_cmp e.0 (keys_of es) sorted) i) in
    rw f (In-at es k x (sorted_tail nat_cmp e.0 (keys_of es) sorted) i)

-- what is written through a borrow is what a put gives
pub set_is_put : {X : Type 0} (es : List (ℕ × X)) (k : ℕ) (x y : X) → IsStrictlySortedBy nat_cmp (keys_of es) → at_number es k ≡ Some y → set_value (is_at (nat_cmp k)) es x ≡ put_number es k x
set_is_put [] k x y sorted found = absurd (cc)
set_is_put (e ∷ es) k x y sorted found =
    elim (cases_Bool (is_at (nat_cmp k) e.0)) [
      | inl t ↦ rw (t, equal_from_at k e.0 t) refl
      | inr u ↦
          let later : at_number es k ≡ Some y = (rw u at found) in
          let g = greater_from_above e.0 k (found_above e.0 k es y (sorted_head nat_cmp e.0 (keys_of es) sorted) later) in
          rw (u, g) (ap (λ more. e ∷ more) (set_is_put es k x y (sorted_tail nat_cmp e.0 (keys_of es) sorted) later))
    ]

-- a new name is one name more
pub length_put_new : {X : Type 0} (names : List (List ℕ × X)) (k : List ℕ) (x : X) → at_name names k ≡ None → length (put_name names k x) ≡ 1 + length names
length_put_new [] k x none = refl
length_put_new (e ∷ es) k x none = by (name_cmp k e.0) refl (cases_Bool (is_at (name_cmp k) e.0)) (length_put_new es k x)
  where
    by : (o : Ordering) → name_cmp k e.0 ≡ o → (is_at (name_cmp k) e.0 ≡ true) ⊎ (is_at (name_cmp k) e.0 ≡ false) → (at_name es k ≡ None → length (put_name es k x) ≡ 1 + length es) →
        length (match_ordering o ((k, x) ∷ e ∷ es) ((e.0, x) ∷ es) (e ∷ put_name es k x)) ≡ 1 + length (e ∷ es)
    by o q (inl t) more = absurd (none-some e.1 (sym (rw t at none)))
    by Less q (inr f) more = omega arith
    by Equal q (inr f) more = absurd (true≢false (sym (ap is_eq q) ∙ f))
    by Greater q (inr f) more = (let ih = more (rw f at none) in omega arith)
