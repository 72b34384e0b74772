-- Entries of maps that stand in order.
use Rattle.std.proofs.Common.{◌≡◌, suc, Bool, List, [], ◌∷◌, ◌++◌, length, map, Some, refl, sym, ap, subst, ◌∙◌, inl, inr}
use Rattle.std.specs.declared.cmp.Ordering.{Ordering}
use Rattle.std.specs.declared.cmp.Ordering.TheVariants.{Less, Equal, Greater}
use Rattle.std.specs.Cmp.{IsTotalOrder}
use Rattle.std.specs.Ordering.{ordering_reverse, match_ordering}
use Rattle.std.specs.List.{AllByRecursion}
use Rattle.std.specs.List.Sorted.{IsStrictlySortedBy}
use Rattle.std.specs.Map.{keys_of, lookup, remove_entry}
use Rattle.std.specs.BTreeMap.{insert_entry}
use Rattle.std.proofs.lemmas.Bool.{cases_Bool, cond-false}
use Rattle.std.proofs.lemmas.Map.Keys.{sorted_head, sorted_tail}

module _ {K X : Type 0} {cmp : K → K → Ordering} (order : IsTotalOrder cmp) where
  -- a key of the last entries is above one that stands before them all
  above : (first k : K) (x : X) (es rest : List (K × X)) → AllByRecursion (λ y. cmp first y ≡ Less) (keys_of (es ++ (k, x) ∷ rest)) → cmp first k ≡ Less
  above first k x [] rest h = h.0
  above first k x (e ∷ es) rest h = above first k x es rest h.1

  -- a key above all others goes to the end
  pub insert_last : (es : List (K × X)) (k : K) (x : X) (rest : List (K × X)) → IsStrictlySortedBy cmp (keys_of (es ++ (k, x) ∷ rest)) → insert_entry cmp es k x ++ rest ≡ es ++ (k, x) ∷ rest
  insert_last [] k x rest sorted = refl
  insert_last (e ∷ es) k x rest sorted =
      let greater : cmp k e.0 ≡ Greater = order.antisymm k e.0 ∙ ap ordering_reverse (above e.0 k x es rest (sorted_head cmp e.0 (keys_of (es ++ (k, x) ∷ rest)) sorted)) in
      rw greater (ap (λ (fs : List (K × X)). e ∷ fs) (insert_last es k x rest (sorted_tail cmp e.0 (keys_of (es ++ (k, x) ∷ rest)) sorted)))

  -- so a copy of a map grows by its next entry
  pub copy_turn : (whole es left rest now : List (K × X)) (k made : K) (x : X) → IsStrictlySortedBy cmp (keys_of whole) → es ++ left ≡ whole → left ≡ (k, x) ∷ rest → made ≡ k → now ≡ insert_entry cmp es made x → now ++ rest ≡ whole
  copy_turn whole es left rest now k made x sorted so_far next same put =
      let all : es ++ (k, x) ∷ rest ≡ whole = ap (λ (fs : List (K × X)). es ++ fs) (sym next) ∙ so_far in
      let in_order = subst (λ (fs : List (K × X)). IsStrictlySortedBy cmp (keys_of fs)) (sym all) sorted in
      ap (λ (fs : List (K × X)). fs ++ rest) (put ∙ ap (λ (key : K). insert_entry cmp es key x) same)
      ∙ (insert_last es k x rest in_order ∙ all)

-- one entry less where one was found
pub length-without : {K X : Type 0} (test : K → Bool) (es : List (K × X)) (x : X) → lookup test es ≡ Some x → length es ≡ suc (length (remove_entry test es))
length-without test [] x h = absurd (cc)
length-without test (e ∷ es) x h =
    elim (cases_Bool (test e.0)) [
      | inl here ↦ rw here refl
      | inr later ↦
          let rest : lookup test es ≡ Some x = sym (cond-false (test e.0) (Some e.1) (lookup test es) later) ∙ h in
          rw later (ap suc (length-without test es x rest))
    ]

-- ---- maps whose values are seen by f

abbrev pub seen_by : {K X Y : Type 0} → (X → Y) → List (K × X) → List (K × Y)
seen_by f es = map (λ e. (e.0, f e.1)) es

seen_match : {K X Y : Type 0} (f : X → Y) (o : Ordering) (below same above : List (K × X)) → seen_by f (match_ordering o below same above) ≡ match_ordering o (seen_by f below) (seen_by f same) (seen_by f above)
seen_match f Less below same above = refl
seen_match f Equal below same above = refl
seen_match f Greater below same above = refl

pub seen_by-insert_entry : {K X Y : Type 0} (cmp : K → K → Ordering) (f : X → Y) (es : List (K × X)) (k : K) (x : X) → seen_by f (insert_entry cmp es k x) ≡ insert_entry cmp (seen_by f es) k (f x)
seen_by-insert_entry cmp f [] k x = refl
seen_by-insert_entry cmp f (e ∷ es) k x =
    seen_match f (cmp k e.0) ((k, x) ∷ e ∷ es) ((e.0, x) ∷ es) (e ∷ insert_entry cmp es k x)
    ∙ ap (λ fs. match_ordering (cmp k e.0) ((k, f x) ∷ (e.0, f e.1) ∷ seen_by f es) ((e.0, f x) ∷ seen_by f es) ((e.0, f e.1) ∷ fs)) (seen_by-insert_entry cmp f es k x)
