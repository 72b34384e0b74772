-- The zones that a write wants are those that the file has more afterwards.
use Rattle.std.specs.Prelude.{◌≡◌, ◌≢◌, ℕ, zero, suc, ◌+◌, ◌-◌, ◌*◌, ◌/◌, ◌<◌, ◌≤◌, ◌==◌, nat_eq, nat_lt, nat_le, Bool, true, false, not, cond, ◌&&◌, ◌||◌, List, [], ◌∷◌, length, refl}
use Rattle.std.specs.List.{count_by, list_any, range_with_len}
use Rattle.std.proofs.Common.{sym, ap, ◌∙◌, inl, inr, arith}
use Rattle.std.proofs.lemmas.Bool.{cases_Bool, cases_eq, cases_lt, eqb-true, eqb-false, eq-eqb, ne_eqb, lt-ltb, le-ltb, ltb-true, le-leb, leb-true, and_from, and_parts, false_from_ne_true}
use Rattle.std.proofs.lemmas.List.Sums.{sum_by-cons}
use Rattle.blk_base.specs.Members.{In}
use Rattle.blk_base.specs.laws.Members.{list_any-In, list_any-none}
use Rattle.number_sets.specs.Sets.{IsRising, has, with, with_all}
use Rattle.number_sets.specs.laws.Rising.{rising-with}
use Rattle.tree_model.specs.Calls.{file_zones, is_double_indirect, is_in_group, is_indirect, mapped_groups, one_if, touched_blocks}
use Rattle.tree_model.specs.laws.Sums.{count_by_same}
use Rattle.volume_model.specs.Volume.{Place, block, indirect, double, inner, at_indirect, at_double, at_inner}
use Rattle.volume_model.specs.laws.Counts.{IsIndexed, used_or_hole}
use Rattle.volume_in_use.specs.bytes.MayWrite.{wanted_zones}
use Rattle.volume_in_use.specs.bytes.code.Wants.{data_holes, named_holes, group_holes, is_reached}

-- ---- Booleans

or_false : (a : Bool) → (a || false) ≡ a
or_false true = refl
or_false false = refl

or_swap : (a b : Bool) → (a || b) ≡ (b || a)
or_swap true true = refl
or_swap true false = refl
or_swap false true = refl
or_swap false false = refl

or_assoc : (a b c : Bool) → (a || (b || c)) ≡ ((a || b) || c)
or_assoc true b c = refl
or_assoc false b c = refl

or_again : (a b : Bool) → (a || b) ≡ ((a || b) || a)
or_again true b = refl
or_again false true = refl
or_again false false = refl

and_swap : (a b : Bool) → (a && b) ≡ (b && a)
and_swap true true = refl
and_swap true false = refl
and_swap false true = refl
and_swap false false = refl

or_counts : (a b : Bool) → one_if (a || b) ≡ one_if a + one_if (not a && b)
or_counts true b = refl
or_counts false b = (omega arith)

-- ---- sets with more numbers

any_with : (p : ℕ → Bool) (ks : List ℕ) (x : ℕ) → list_any p (with ks x) ≡ (list_any p ks || p x)
any_with p [] x = or_false (p x)
any_with p (k ∷ ks) x = elim (cases_Bool (k == x)) [
  | inl y ↦ rw y (or_again (p k) (list_any p ks) ∙ ap (λ j. (p k || list_any p ks) || p j) (eqb-true k x y))
  | inr n ↦ rw n (elim (cases_Bool (nat_lt x k)) [
    | inl y ↦ rw y (or_swap (p x) (p k || list_any p ks))
    | inr m ↦ rw m (ap (λ b. p k || b) (any_with p ks x) ∙ or_assoc (p k) (list_any p ks) (p x))
  ])
]

any_all : (p : ℕ → Bool) (xs ks : List ℕ) → list_any p (with_all ks xs) ≡ (list_any p ks || list_any p xs)
any_all p [] ks = sym (or_false (list_any p ks))
any_all p (x ∷ xs) ks = any_all p xs (with ks x) ∙ (ap (λ b. b || list_any p xs) (any_with p ks x) ∙ sym (or_assoc (list_any p ks) (p x) (list_any p xs)))

length_with : (ks : List ℕ) (x : ℕ) → IsRising ks → length (with ks x) ≡ length ks + one_if (not (has ks x))
length_with [] x h = refl
length_with (k ∷ ks) x h = elim (cases_Bool (k == x)) [
  | inl y ↦ rw y (omega arith)
  | inr n ↦ rw n (elim (cases_Bool (nat_lt x k)) [
    | inl y ↦
        let low = ltb-true x k y in
        let none : has ks x ≡ false = list_any-none (λ j. j == x) ks (λ j i. ne_eqb j x (λ e. (let above = h.0 j i in omega arith))) in
        rw (y, none) (omega arith)
    | inr m ↦ rw m (let rest = length_with ks x h.1 in omega arith)
  ])
]

count_range : (p q : ℕ → Bool) (a n : ℕ) → ((i : ℕ) → a ≤ i → p i ≡ q i) → count_by p (range_with_len a n) ≡ count_by q (range_with_len a n)
count_range p q a zero same = refl
count_range p q a (suc n) same =
    let one : count_by p (range_with_len a (suc n)) ≡ cond (p a) 1 0 + count_by p (range_with_len (a + 1) n) = sum_by-cons (λ x. cond (p x) 1 0) a (range_with_len (a + 1) n) in
    let two : count_by q (range_with_len a (suc n)) ≡ cond (q a) 1 0 + count_by q (range_with_len (a + 1) n) = sum_by-cons (λ x. cond (q x) 1 0) a (range_with_len (a + 1) n) in
    let rest = count_range p q (a + 1) n (λ i low. same i (omega arith)) in
    let here : cond (p a) 1 0 ≡ cond (q a) 1 0 = ap (λ b. cond b 1 0) (same a (omega arith)) in
    one ∙ (ap (λ k. k + count_by p (range_with_len (a + 1) n)) here ∙ (ap (λ k. cond (q a) 1 0 + k) rest ∙ sym two))

as_cond : (b : Bool) → one_if b ≡ cond b 1 0
as_cond true = refl
as_cond false = refl

length_all : (n first : ℕ) (ks : List ℕ) → IsRising ks → length (with_all ks (range_with_len first n)) ≡ length ks + count_by (λ i. not (has ks i)) (range_with_len first n)
length_all zero first ks h = (omega arith)
length_all (suc n) first ks h =
    let rest = length_all n (first + 1) (with ks first) (rising-with ks first h) in
    let one = length_with ks first h in
    let other = λ (i : ℕ) (low : first + 1 ≤ i). ap not (any_with (λ j. j == i) ks first ∙ (ap (λ b. has ks i || b) (ne_eqb first i (λ e. (omega arith))) ∙ or_false (has ks i))) in
    let same = count_range (λ i. not (has (with ks first) i)) (λ i. not (has ks i)) (first + 1) n other in
    let sum : count_by (λ i. not (has ks i)) (range_with_len first (suc n)) ≡ cond (not (has ks first)) 1 0 + count_by (λ i. not (has ks i)) (range_with_len (first + 1) n) =
    sum_by-cons (λ x. cond (not (has ks x)) 1 0) first (range_with_len (first + 1) n) in
    let all : length (with_all ks (range_with_len first (suc n))) ≡ length (with_all (with ks first) (range_with_len (first + 1) n)) = refl in
    let bit = as_cond (not (has ks first)) in
    omega arith

count_or : (p q : ℕ → Bool) (xs : List ℕ) → count_by (λ x. p x || q x) xs ≡ count_by p xs + count_by (λ x. not (p x) && q x) xs
count_or p q [] = refl
count_or p q (x ∷ xs) =
    let one = sum_by-cons (λ x. cond (p x || q x) 1 0) x xs in
    let two = sum_by-cons (λ x. cond (p x) 1 0) x xs in
    let three = sum_by-cons (λ x. cond (not (p x) && q x) 1 0) x xs in
    let rest = count_or p q xs in
    let here = both (p x) (q x) in
    omega arith
  where
    both : (a b : Bool) → cond (a || b) 1 0 ≡ cond a 1 0 + cond (not a && b) 1 0
    both true b = refl
    both false b = (omega arith)

-- ---- blocks in a row

range_in : (a n i : ℕ) → a ≤ i → i < a + n → In i (range_with_len a n)
range_in a zero i low high = absurd (omega arith)
range_in a (suc n) i low high = elim (cases_eq a i) [ inl e ↦ inl e | inr other ↦ inr (range_in (a + 1) n i (omega arith) (omega arith)) ]

in_range : (a n i : ℕ) → In i (range_with_len a n) → (a ≤ i) × (i < a + n)
in_range a zero i j = absurd j
in_range a (suc n) i (inl e) = (omega arith, omega arith)
in_range a (suc n) i (inr j) = let r = in_range (a + 1) n i j in let low = r.0 in let high = r.1 in (omega arith, omega arith)

-- a test for the numbers from `low` up to `high`
any_span : (p : ℕ → Bool) (low high first n : ℕ) → ((i : ℕ) → i < first + suc n → p i ≡ true → (low ≤ i) × (i < high)) → ((i : ℕ) → low ≤ i → i < high → p i ≡ true) → low < high →
    list_any p (range_with_len first (suc n)) ≡ (nat_lt first high && nat_lt low (first + suc n))
any_span p low high first n there back some = elim (cases_lt first high) [
  | inr above ↦ rw (le-ltb first high above) (list_any-none p (range_with_len first (suc n)) (λ i j. false_from_ne_true (p i) (λ t.
      (let r = in_range first (suc n) i j in let from = r.0 in let w = there i r.1 t in let under = w.1 in omega arith))))
  | inl under ↦ rw (lt-ltb first high under) (elim (cases_lt low (first + suc n)) [
    | inr above ↦ rw (le-ltb low (first + suc n) above) (list_any-none p (range_with_len first (suc n)) (λ i j. false_from_ne_true (p i) (λ t.
        (let r = in_range first (suc n) i j in let up = r.1 in let w = there i r.1 t in let from = w.0 in omega arith))))
    | inl inside ↦ rw (lt-ltb low (first + suc n) inside) (elim (cases_lt first low) [
      | inl before ↦ list_any-In p (range_with_len first (suc n)) low (range_in first (suc n) low (omega arith) inside) (back low (omega arith) some)
      | inr after ↦ list_any-In p (range_with_len first (suc n)) first (range_in first (suc n) first (omega arith) (omega arith)) (back first after under)
    ])
  ])
]

any_indirect : (first n : ℕ) → list_any is_indirect (range_with_len first (suc n)) ≡ (nat_lt first 519 && nat_lt 7 (first + suc n))
any_indirect first n = any_span is_indirect 7 519 first n
    (λ i high t. let w = and_parts (nat_le 7 i) (nat_lt i 519) t in (leb-true 7 i w.0, ltb-true i 519 w.1)) (λ i low high. and_from (nat_le 7 i) (nat_lt i 519) (le-leb 7 i low) (lt-ltb i 519 high)) (omega arith)

any_double : (first n : ℕ) → list_any is_double_indirect (range_with_len first (suc n)) ≡ nat_lt 519 (first + suc n)
any_double first n = elim (cases_lt 519 (first + suc n)) [
  | inl some ↦ any_span is_double_indirect 519 (first + suc n) first n (λ i high t. (leb-true 519 i t, high)) (λ i low high. le-leb 519 i low) some ∙ ap (λ b. b && nat_lt 519 (first + suc n)) (lt-ltb first (first + suc n) (omega arith))
  | inr none ↦ list_any-none is_double_indirect (range_with_len first (suc n)) (λ i j. false_from_ne_true (nat_le 519 i) (λ t. (let r = in_range first (suc n) i j in let up = r.1 in let low = leb-true 519 i t in omega arith)))
      ∙ sym (le-ltb 519 (first + suc n) none)
]

any_group : (group first n : ℕ) → list_any (is_in_group group) (range_with_len first (suc n)) ≡ is_reached first (first + suc n) group
any_group group first n = any_span (is_in_group group) (519 + 512 * group) (1031 + 512 * group) first n
    (λ i high t. let w = and_parts (nat_le 519 i) ((i - 519) / 512 == group) t in let low = leb-true 519 i w.0 in let same = eqb-true ((i - 519) / 512) group w.1 in (omega arith, omega arith))
    (λ i low high. and_from (nat_le 519 i) ((i - 519) / 512 == group) (le-leb 519 i (omega arith)) (eq-eqb ((i - 519) / 512) group (omega arith))) (omega arith)

-- ---- the whole

module _ (own : Place → ℕ) (indices : List ℕ) (rising : IsRising indices) (is : IsIndexed own indices) (first n : ℕ) where
  abbrev xs : List ℕ
  xs = range_with_len first (suc n)

  abbrev end : ℕ
  end = first + suc n

  block_hole : (i : ℕ) → not (has indices i) ≡ nat_eq (own (block i)) 0
  block_hole i = elim (cases_Bool (nat_eq (own (block i)) 0)) [
    | inl y ↦ ap not (list_any-none (λ j. j == i) indices (λ j k. ne_eqb j i (λ e. is.mapped j k (ap (λ j. own (block j)) e ∙ eqb-true _ _ y)))) ∙ sym y
    | inr m ↦ ap not (list_any-In (λ j. j == i) indices i (is.full i (eqb-false _ _ m)) (eq-eqb i i refl)) ∙ sym m
  ]

  data_more : length (with_all indices xs) ≡ length indices + data_holes own first end
  unfolding data_holes
  data_more =
      length_all (suc n) first indices rising
      ∙ (ap (λ k. length indices + k) (count_by_same (λ i. not (has indices i)) (λ i. nat_eq (own (block i)) 0) xs block_hole)
      ∙ ap (λ k. length indices + count_by (λ i. nat_eq (own (block i)) 0) (range_with_len first k)) (let k : suc n ≡ end - first = omega arith in k))

  indirect_more : one_if (list_any is_indirect (with_all indices xs)) ≡ one_if (list_any is_indirect indices) + one_if (nat_lt first 519 && nat_lt 7 end && nat_eq (own indirect) 0)
  indirect_more =
      ap one_if (any_all is_indirect xs indices)
      ∙ (or_counts (list_any is_indirect indices) (list_any is_indirect xs)
      ∙ ap (λ b. one_if (list_any is_indirect indices) + one_if b)
      (and_swap (not (list_any is_indirect indices)) (list_any is_indirect xs)
      ∙ (λ k. any_indirect first n k && sym (used_or_hole own indices is indirect at_indirect) k)))

  double_more : one_if (list_any is_double_indirect (with_all indices xs)) ≡ one_if (list_any is_double_indirect indices) + one_if (nat_lt 519 end && nat_eq (own double) 0)
  double_more =
      ap one_if (any_all is_double_indirect xs indices)
      ∙ (or_counts (list_any is_double_indirect indices) (list_any is_double_indirect xs)
      ∙ ap (λ b. one_if (list_any is_double_indirect indices) + one_if b)
      (and_swap (not (list_any is_double_indirect indices)) (list_any is_double_indirect xs)
      ∙ (λ k. any_double first n k && sym (used_or_hole own indices is double at_double) k)))

  groups_more : mapped_groups (with_all indices xs) ≡ mapped_groups indices + group_holes own first end 0 512
  unfolding mapped_groups group_holes
  groups_more =
      count_by_same (λ g. list_any (is_in_group g) (with_all indices xs)) (λ g. list_any (is_in_group g) indices || list_any (is_in_group g) xs) (range_with_len 0 512) (λ g. any_all (is_in_group g) xs indices)
      ∙ (count_or (λ g. list_any (is_in_group g) indices) (λ g. list_any (is_in_group g) xs) (range_with_len 0 512)
      ∙ ap (λ k. count_by (λ g. list_any (is_in_group g) indices) (range_with_len 0 512) + k)
      (count_by_same (λ g. not (list_any (is_in_group g) indices) && list_any (is_in_group g) xs) (λ g. is_reached first end g && nat_eq (own (inner g)) 0) (range_with_len 0 512)
      (λ g. and_swap (not (list_any (is_in_group g) indices)) (list_any (is_in_group g) xs) ∙ (λ k. any_group g first n k && sym (used_or_hole own indices is (inner g) at_inner) k))))

  pub zones_more : file_zones (with_all indices xs) - file_zones indices ≡ data_holes own first end + named_holes own first end + group_holes own first end 0 512
  unfolding file_zones
  zones_more = (let a = data_more in let b = indirect_more in let c = double_more in let d = groups_more in omega arith)

-- ---- the loops that count

pub data_turn : (own : Place → ℕ) (first end : ℕ) → first < end → data_holes own first end ≡ one_if (nat_eq (own (block first)) 0) + data_holes own (first + 1) end
unfolding data_holes
data_turn own first end low =
    let left : end - first ≡ suc (end - (first + 1)) = omega arith in
    let bit = as_cond (nat_eq (own (block first)) 0) in
    let sum : count_by (λ i. nat_eq (own (block i)) 0) (range_with_len first (suc (end - (first + 1)))) ≡ cond (nat_eq (own (block first)) 0) 1 0 + count_by (λ i. nat_eq (own (block i)) 0) (range_with_len (first + 1) (end - (first + 1))) =
    sum_by-cons (λ x. cond (nat_eq (own (block x)) 0) 1 0) first (range_with_len (first + 1) (end - (first + 1))) in
    ap (λ k. count_by (λ i. nat_eq (own (block i)) 0) (range_with_len first k)) left ∙ (sum ∙ ap (λ k. k + count_by (λ i. nat_eq (own (block i)) 0) (range_with_len (first + 1) (end - (first + 1)))) (sym bit))

pub data_end : (own : Place → ℕ) (first end : ℕ) → end ≤ first → data_holes own first end ≡ 0
unfolding data_holes
data_end own first end far = (let none : end - first ≡ 0 = omega arith in ap (λ k. count_by (λ i. nat_eq (own (block i)) 0) (range_with_len first k)) none)

pub group_turn : (own : Place → ℕ) (first end low count : ℕ) → group_holes own first end low (suc count) ≡ one_if (is_reached first end low && nat_eq (own (inner low)) 0) + group_holes own first end (low + 1) count
unfolding group_holes
group_turn own first end low count =
    let bit = as_cond (is_reached first end low && nat_eq (own (inner low)) 0) in
    let sum : count_by (λ g. is_reached first end g && nat_eq (own (inner g)) 0) (range_with_len low (suc count)) ≡ cond (is_reached first end low && nat_eq (own (inner low)) 0) 1 0 + count_by (λ g. is_reached first end g && nat_eq (own (inner g)) 0) (range_with_len (low + 1) count) =
    sum_by-cons (λ g. cond (is_reached first end g && nat_eq (own (inner g)) 0) 1 0) low (range_with_len (low + 1) count) in
    sum ∙ ap (λ k. k + count_by (λ g. is_reached first end g && nat_eq (own (inner g)) 0) (range_with_len (low + 1) count)) (sym bit)

pub data_step : (own : Place → ℕ) (index end holes bit zone all : ℕ) → index < end → holes + data_holes own index end ≡ all → zone ≡ own (block index) → bit ≡ one_if (nat_eq zone 0) → holes + bit + data_holes own (index + 1) end ≡ all
data_step own index end holes bit zone all low e z b =
    let turn = data_turn own index end low in
    let same : bit ≡ one_if (nat_eq (own (block index)) 0) = b ∙ ap (λ z. one_if (nat_eq z 0)) z in
    omega arith

pub data_done : (own : Place → ℕ) (index end holes all : ℕ) → end ≤ index → holes + data_holes own index end ≡ all → holes ≡ all
data_done own index end holes all far e = let none = data_end own index end far in omega arith

pub group_step : (own : Place → ℕ) (first end group holes bit all : ℕ) (lacks : Bool) → group < 512 → holes + group_holes own first end group (512 - group) ≡ all → lacks ≡ (is_reached first end group && nat_eq (own (inner group)) 0) → bit ≡ one_if lacks →
    holes + bit + group_holes own first end (group + 1) (512 - (group + 1)) ≡ all
group_step own first end group holes bit all lacks low e l b =
    let left : 512 - group ≡ suc (512 - (group + 1)) = omega arith in
    let turn : group_holes own first end group (512 - group) ≡ one_if (is_reached first end group && nat_eq (own (inner group)) 0) + group_holes own first end (group + 1) (512 - (group + 1)) =
    ap (group_holes own first end group) left ∙ group_turn own first end group (512 - (group + 1)) in
    let same : bit ≡ one_if (is_reached first end group && nat_eq (own (inner group)) 0) = b ∙ ap one_if l in
    omega arith

pub group_done : (own : Place → ℕ) (first end group holes all : ℕ) → 512 ≤ group → holes + group_holes own first end group (512 - group) ≡ all → holes ≡ all
unfolding group_holes
group_done own first end group holes all far e =
    let none : 512 - group ≡ 0 = omega arith in
    let zero_left : group_holes own first end group (512 - group) ≡ 0 = ap (group_holes own first end group) none in
    omega arith

-- no group behind the last block is reached
groups_behind : (own : Place → ℕ) (first end low count : ℕ) → end ≤ 519 + 512 * low → group_holes own first end low count ≡ 0
unfolding group_holes
groups_behind own first end low zero far = refl
groups_behind own first end low (suc count) far =
    let last : nat_lt (519 + 512 * low) end ≡ false = le-ltb (519 + 512 * low) end far in
    let here : one_if (is_reached first end low && nat_eq (own (inner low)) 0) ≡ 0 = elim (cases_Bool (nat_lt first (1031 + 512 * low))) [ inl t ↦ rw t (rw last refl) | inr f ↦ rw f refl ] in
    let turn = group_turn own first end low count in
    let rest = groups_behind own first end (low + 1) count (omega arith) in
    omega arith

pub group_stop : (own : Place → ℕ) (first end group holes all : ℕ) → end ≤ 519 + 512 * group → holes + group_holes own first end group (512 - group) ≡ all → holes ≡ all
group_stop own first end group holes all far e = let none = groups_behind own first end group (512 - group) far in omega arith

pub wanted_is : (own : Place → ℕ) (indices : List ℕ) (off len count blocks named groups : ℕ) → IsRising indices → IsIndexed own indices → count ≢ 0 → range_with_len (off / 1024) count ≡ touched_blocks off len →
    blocks ≡ data_holes own (off / 1024) (off / 1024 + count) → named ≡ named_holes own (off / 1024) (off / 1024 + count) → groups ≡ group_holes own (off / 1024) (off / 1024 + count) 0 512 →
    blocks + named + groups ≡ wanted_zones indices off len
wanted_is own indices off len zero blocks named groups rising is some e d n g = absurd (some refl)
wanted_is own indices off len (suc count) blocks named groups rising is some e d n g =
    (λ k. d k + n k + g k) ∙ (sym (zones_more own indices rising is (off / 1024) count) ∙ ap (λ (xs : List ℕ). file_zones (with_all indices xs) - file_zones indices) e)
