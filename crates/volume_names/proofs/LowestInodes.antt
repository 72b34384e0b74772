-- The lowest inode that is not marked.
use Rattle.std.specs.Prelude.{◌≡◌, ◌+◌, ◌-◌, ◌≤◌, ◌<◌, ◌==◌, ◌||◌, ℕ, zero, suc, Bool, true, false, not, if◌then◌else◌, List, [], ◌∷◌, length, Option, Some, None, refl}
use Rattle.std.proofs.Common.{sym, ap, subst, ◌∙◌, inl, inr, arith, eqb-true, eq-eqb}
use Rattle.std.proofs.lemmas.Bool.{cases_Bool, cases_eq, true≢false}
use Rattle.std.proofs.lemmas.Option.{same_Some, none-some}
use Rattle.std.specs.List.{list_any, find, range_with_len}
use Rattle.std.specs.Map.{values_of}
use Rattle.std.specs.Ordering.{nat_cmp}
use Rattle.blk_base.specs.laws.Members.{In-list_any, list_any-In}
use Rattle.minix_layout.specs.declared.division.Geometry.{Geometry}
use Rattle.tree_model.specs.laws.MapsLaws.{found-In, number_here, number_same}
use Rattle.tree_model.specs.laws.MapOrder.{InOrder}
use Rattle.volume_model.specs.declared.placed.Placed.{Placed}
use Rattle.volume_model.specs.laws.Trees.{In-at}
use Rattle.volume_ops.specs.Marks.{is_marked, marked}
use Rattle.volume_ops.specs.laws.MarksLaws.{is_marked_same, is_marked_kept, length-marked}
use Rattle.volume_steps.specs.Zones.{is_unused, new_number}
use Rattle.volume_steps.specs.UsedInodes.{IsInodeUsed}
use Rattle.volume_names.specs.UsedInodes.{MarksNodes, lowest_unmarked}
use Rattle.volume_names.specs.code.InodeMap.{AreUsedBelow, IsInodeMap}

-- ---- what is found in a range

-- the first that passes
find_at : (p : ℕ → Bool) (n a m : ℕ) → a ≤ m → m < a + n → ((k : ℕ) → a ≤ k → k < m → p k ≡ false) → p m ≡ true → find p (range_with_len a n) ≡ Some m
find_at p zero a m low high none here = absurd (omega arith)
find_at p (suc n) a m low high none here = elim (cases_eq a m) [
  | inl e ↦ subst (λ k. find p (range_with_len a (suc n)) ≡ Some k) e (rw (subst (λ k. p k ≡ true) (sym e) here) refl)
  | inr far ↦ rw (none a (omega arith) (omega arith)) (find_at p n (a + 1) m (omega arith) (omega arith) (λ k more less. none k (omega arith) less) here)
]

-- none passes
find_no : (p : ℕ → Bool) (n a : ℕ) → ((k : ℕ) → a ≤ k → k < a + n → p k ≡ false) → find p (range_with_len a n) ≡ None
find_no p zero a none = refl
find_no p (suc n) a none = rw (none a (omega arith) (omega arith)) (find_no p n (a + 1) (λ k more less. none k (omega arith) (omega arith)))

pub record IsFirst (p : ℕ → Bool) (a n m : ℕ) : Type 0 where
  pub low : a ≤ m
  pub high : m < a + n
  pub none : (k : ℕ) → a ≤ k → k < m → p k ≡ false

find_first : (p : ℕ → Bool) (n a m : ℕ) → find p (range_with_len a n) ≡ Some m → IsFirst p a n m
find_first p zero a m h = absurd (none-some m h)
find_first p (suc n) a m h = elim (cases_Bool (p a)) [
  | inl t ↦ (let same : a ≡ m = same_Some a m (rw t at h) in record { low = omega arith; high = omega arith; none = λ k more less. absurd (omega arith) })
  | inr f ↦
      let rest = find_first p n (a + 1) m (rw f at h) in
      let low = rest.low in
      let high = rest.high in
      record {
        low = omega arith;
        high = omega arith;
        none = λ k more less. elim (cases_eq k a) [ inl e ↦ subst (λ k. p k ≡ false) (sym e) f | inr far ↦ rest.none k (omega arith) less ];
      }
]

-- the same numbers pass
find_same : (p q : ℕ → Bool) (n a : ℕ) → ((i : ℕ) → a ≤ i → i < a + n → p i ≡ q i) → find p (range_with_len a n) ≡ find q (range_with_len a n)
find_same p q zero a same = refl
find_same p q (suc n) a same = rw (same a (omega arith) (omega arith)) (ap (λ o. if q a then Some a else o) (find_same p q n (a + 1) (λ i low high. same i (omega arith) (omega arith))))

-- ---- the lowest that is not marked

abbrev free_in : List Bool → ℕ → Bool
free_in marks number = not (is_marked marks number)

abbrev number_of : Option ℕ → ℕ
number_of o = elim o as (λ _. ℕ) [ None ↦ 0 | Some number ↦ number ]

pub lowest_here : (marks : List Bool) (number : ℕ) → 0 < number → number < length marks → AreUsedBelow marks number → is_marked marks number ≡ false → number ≡ lowest_unmarked marks
lowest_here marks number some high used here =
    sym (ap number_of (find_at (free_in marks) (length marks - 1) 1 number some (omega arith) (λ k more less. ap not (used k more less)) (ap not here)))

pub lowest_none : (marks : List Bool) (low : ℕ) → length marks ≤ low → AreUsedBelow marks low → 0 ≡ lowest_unmarked marks
lowest_none marks low all used = sym (ap number_of (find_no (free_in marks) (length marks - 1) 1 (λ k more less. ap not (used k more (omega arith)))))

-- what is not passed over is marked
not_false : (b : Bool) → not b ≡ false → b ≡ true
not_false true q = refl
not_false false q = absurd (true≢false q)

-- each inode up to the lowest that is free is in use, once that is
used_to : (marks : List Bool) (number : ℕ) → number ≡ lowest_unmarked marks → AreUsedBelow (marked marks number) (number + 1)
used_to marks number is = by (find (free_in marks) (range_with_len 1 (length marks - 1))) refl is
  where
    by : (o : Option ℕ) → find (free_in marks) (range_with_len 1 (length marks - 1)) ≡ o → number ≡ number_of o → AreUsedBelow (marked marks number) (number + 1)
    by None found e k some less = absurd (omega arith)
    by (Some m) found e k some less =
        let first = find_first (free_in marks) (length marks - 1) 1 m found in
        let low = first.low in
        let high = first.high in
        elim (cases_eq k number) [
          | inl same ↦ subst (λ k. is_marked (marked marks number) k ≡ true) (sym same) (is_marked_same marks number (omega arith))
          | inr far ↦ is_marked_kept marks number k (not_false (is_marked marks k) (first.none k some (omega arith)))
        ]

pub taken_map : (marks : List Bool) (low number : ℕ) → IsInodeMap marks low → number ≡ lowest_unmarked marks → IsInodeMap (marked marks number) (number + 1)
taken_map marks low number h is = record { some = omega arith; used_below = used_to marks number is; few = rw (length-marked marks number) h.few }

-- ---- marks of nodes

same_test : (a b : Bool) → (a ≡ true → b ≡ true) → (b ≡ true → a ≡ true) → a ≡ b
same_test true b there back = sym (there refl)
same_test false true there back = back refl
same_test false false there back = refl

any_has : (nodes : List (ℕ × Placed)) (number : ℕ) → InOrder nodes → list_any (λ (e : ℕ × Placed). e.1.number == number) nodes ≡ true → IsInodeUsed nodes number
any_has nodes number sorted any =
    let w = In-list_any (λ (e : ℕ × Placed). e.1.number == number) nodes any in
    record { birth = w.0.0; placed = w.0.1; stands = In-at nodes w.0.0 w.0.1 sorted w.1; is = eqb-true w.0.1.number number w.2 }

has_any : (nodes : List (ℕ × Placed)) (number : ℕ) → IsInodeUsed nodes number → list_any (λ (e : ℕ × Placed). e.1.number == number) nodes ≡ true
has_any nodes number has =
    list_any-In (λ (e : ℕ × Placed). e.1.number == number) nodes (has.birth, has.placed)
    (found-In nat_cmp number_here number_same nodes has.birth has.placed has.stands)
    (eq-eqb has.placed.number number has.is)

in_values : (nodes : List (ℕ × Placed)) (i : ℕ) → list_any (λ (p : Placed). p.number == i) (values_of nodes) ≡ list_any (λ (e : ℕ × Placed). e.1.number == i) nodes
in_values [] i = refl
in_values (e ∷ nodes) i = ap (λ b. (e.1.number == i) || b) (in_values nodes i)

pub nodes_marked : (g : Geometry) (nodes : List (ℕ × Placed)) (marks : List Bool) → InOrder nodes → length marks ≡ g.inodes + 1 →
    ((i : ℕ) → i ≤ g.inodes → is_marked marks i ≡ list_any (λ (p : Placed). p.number == i) (values_of nodes)) → MarksNodes g nodes marks
nodes_marked g nodes marks sorted size told = record {
  size = size;
  marked = λ number some high.
      let is = told number high ∙ in_values nodes number in
      ((λ t. any_has nodes number sorted (sym is ∙ t)), (λ has. is ∙ has_any nodes number has));
}

-- the lowest that is not marked is the lowest that no node has
pub lowest_is_new : (g : Geometry) (nodes : List (ℕ × Placed)) (marks : List Bool) → InOrder nodes → MarksNodes g nodes marks → lowest_unmarked marks ≡ new_number g nodes
lowest_is_new g nodes marks sorted h =
    let size = h.size in
    let count : length marks - 1 ≡ g.inodes = omega arith in
    ap (λ n. number_of (find (free_in marks) (range_with_len 1 n))) count
    ∙ ap number_of (find_same (free_in marks) (is_unused nodes) g.inodes 1 (λ i low high.
    let both = h.marked i low (omega arith) in
    ap not (same_test (is_marked marks i) (list_any (λ (e : ℕ × Placed). e.1.number == i) nodes) (λ t. has_any nodes i (both.0 t)) (λ t. both.1 (any_has nodes i sorted t)))))
