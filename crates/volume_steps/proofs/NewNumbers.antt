-- Where not each inode has a node, the lowest that has none is found.
use Rattle.std.specs.Prelude.{◌≡◌, ◌≢◌, ◌≤◌, ◌<◌, ◌+◌, ℕ, zero, suc, ◌==◌, Bool, true, false, not, cond, List, [], ◌∷◌, length, filter, Option, Some, None, refl}
use Rattle.std.specs.List.{list_any, range_with_len, find}
use Rattle.std.proofs.Common.{sym, ap, subst, inl, inr, ◌∙◌, arith, eqb-true, eq-eqb}
use Rattle.std.proofs.lemmas.Bool.{cases_Bool, cases_eq, ne_eqb, true≢false}
use Rattle.std.proofs.lemmas.Option.{same_Some, none-some}
use Rattle.blk_base.specs.Members.{In}
use Rattle.blk_base.specs.laws.Members.{In-list_any, list_any-In, none-list_any, filter-In}
use Rattle.minix_layout.specs.declared.division.Geometry.{Geometry}
use Rattle.tree_model.specs.Maps.{at_number}
use Rattle.tree_model.specs.laws.MapsLaws.{found-In, number_here, number_same}
use Rattle.std.specs.Ordering.{nat_cmp}
use Rattle.volume_model.specs.declared.placed.Placed.{Placed}
use Rattle.volume_steps.specs.Zones.{is_unused, new_number}

-- ---- what is found in a range

find_some : (p : ℕ → Bool) (a n k : ℕ) → find p (range_with_len a n) ≡ Some k → (a ≤ k) × (k < a + n) × (p k ≡ true)
find_some p a zero k h = absurd (none-some k h)
find_some p a (suc n) k h = elim (cases_Bool (p a)) [
  | inl t ↦ (let same : a ≡ k = same_Some a k (rw t at h) in ((omega arith), (omega arith), subst (λ k. p k ≡ true) same t))
  | inr f ↦ (let rest = find_some p (a + 1) n k (rw f at h) in let low = rest.0 in let high = rest.1 in ((omega arith), (omega arith), rest.2))
]

find_none : (p : ℕ → Bool) (a n : ℕ) → find p (range_with_len a n) ≡ None → (i : ℕ) → a ≤ i → i < a + n → p i ≡ false
find_none p a zero h i low high = absurd (omega arith)
find_none p a (suc n) h i low high = elim (cases_Bool (p a)) [
  | inl t ↦ absurd (none-some a (sym (rw t at h)))
  | inr f ↦ elim (cases_eq i a) [ inl e ↦ subst (λ i. p i ≡ false) (sym e) f | inr other ↦ find_none p (a + 1) n (rw f at h) i (omega arith) (omega arith) ]
]

-- ---- as many nodes as numbers

filter_most : {X : Type 0} (p : X → Bool) (xs : List X) → length (filter p xs) ≤ length xs
filter_most p [] = omega arith
filter_most p (x ∷ xs) = by (p x) (filter_most p xs)
  where
    by : (b : Bool) → length (filter p xs) ≤ length xs → length (cond b (x ∷ filter p xs) (filter p xs)) ≤ length (x ∷ xs)
    by true rest = omega arith
    by false rest = omega arith

filter_less : {X : Type 0} (p : X → Bool) (xs : List X) (x : X) → In x xs → p x ≡ false → length (filter p xs) < length xs
filter_less p [] x i f = absurd i
filter_less p (y ∷ ys) x (inl e) f = by (p y) (ap p e ∙ f) (filter_most p ys)
  where
    by : (b : Bool) → b ≡ false → length (filter p ys) ≤ length ys → length (cond b (y ∷ filter p ys) (filter p ys)) < length (y ∷ ys)
    by true q rest = absurd (true≢false q)
    by false q rest = omega arith
filter_less p (y ∷ ys) x (inr i) f = by (p y) (filter_less p ys x i f)
  where
    by : (b : Bool) → length (filter p ys) < length ys → length (cond b (y ∷ filter p ys) (filter p ys)) < length (y ∷ ys)
    by true rest = omega arith
    by false rest = omega arith

has_number : ℕ → ℕ × Placed → Bool
has_number i e = e.1.number == i

covered : (k : ℕ) (nodes : List (ℕ × Placed)) → ((i : ℕ) → 0 < i → i ≤ k → list_any (has_number i) nodes ≡ true) → k ≤ length nodes
unfolding has_number
covered zero nodes each = omega arith
covered (suc k) nodes each =
    let last = In-list_any (has_number (suc k)) nodes (each (suc k) (omega arith) (omega arith)) in
    let rest = covered k (filter (λ e. not (has_number (suc k) e)) nodes) (λ i some low.
    let found = In-list_any (has_number i) nodes (each i some (omega arith)) in
    list_any-In (has_number i) (filter (λ e. not (has_number (suc k) e)) nodes) found.0
    (filter-In (λ e. not (has_number (suc k) e)) nodes found.0 found.1
    (ap not (ne_eqb found.0.1.number (suc k) (λ e. (let is : found.0.1.number ≡ i = eqb-true found.0.1.number i found.2 in omega arith)))))
    found.2) in
    let less = filter_less (λ e. not (has_number (suc k) e)) nodes last.0 last.1 (ap not last.2) in
    omega arith

-- ---- the lowest inode that no node has

pub record IsNewNumber (g : Geometry) (nodes : List (ℕ × Placed)) (number : ℕ) : Type 0 where
  pub some : 0 < number
  pub within : number ≤ g.inodes
  pub unused : (b : ℕ) (p : Placed) → at_number nodes b ≡ Some p → p.number ≢ number

pub number_is_new : (g : Geometry) (nodes : List (ℕ × Placed)) → length nodes < g.inodes → IsNewNumber g nodes (new_number g nodes)
unfolding has_number
number_is_new g nodes few = by (find (is_unused nodes) (range_with_len 1 g.inodes)) refl
  where
    free : (b : Bool) → not b ≡ true → b ≡ false
    free true q = absurd (true≢false (sym q))
    free false q = refl

    used : (b : Bool) → not b ≡ false → b ≡ true
    used true q = refl
    used false q = absurd (true≢false q)

    by : (o : Option ℕ) → find (is_unused nodes) (range_with_len 1 g.inodes) ≡ o → IsNewNumber g nodes (elim o as (λ _. ℕ) [ None ↦ 0 | Some number ↦ number ])
    by None h =
        let most = covered g.inodes nodes (λ i some low. used (list_any (λ (e : ℕ × Placed). e.1.number == i) nodes) (find_none (is_unused nodes) 1 g.inodes h i some (omega arith))) in
        absurd (omega arith)
    by (Some number) h =
        let told = find_some (is_unused nodes) 1 g.inodes number h in
        let low = told.0 in
        let high = told.1 in
        record {
          some = low;
          within = omega arith;
          unused = λ b p at same. true≢false
              (sym (eq-eqb p.number number same) ∙ none-list_any (λ (e : ℕ × Placed). e.1.number == number) nodes (b, p) (free (list_any (λ (e : ℕ × Placed). e.1.number == number) nodes) told.2)
              (found-In nat_cmp number_here number_same nodes b p at));
        }
