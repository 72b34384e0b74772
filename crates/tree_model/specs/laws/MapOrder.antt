-- Maps in the order of their keys, after an entry was put or taken away.
use Rattle.std.specs.Prelude.{◌≡◌, ◌≢◌, ℕ, Bool, false, cond, List, [], ◌∷◌, Option, Some, None, refl}
use Rattle.std.proofs.Common.{sym, ap, subst, ◌∙◌, inl, inr, ⊎_elim}
use Rattle.std.specs.declared.cmp.Ordering.{Ordering}
use Rattle.std.specs.declared.cmp.Ordering.TheVariants.{Less, Equal, Greater}
use Rattle.std.specs.Cmp.{IsTotalOrder}
use Rattle.std.specs.Ordering.{nat_cmp, is_eq, ordering_reverse, match_ordering}
use Rattle.std.specs.List.{AllByRecursion}
use Rattle.std.specs.List.Sorted.{IsStrictlySortedBy}
use Rattle.std.specs.Map.{keys_of, remove_entry}
use Rattle.std.specs.BTreeMap.{insert_entry, is_at}
use Rattle.std.proofs.lemmas.Bool.{cases_Bool, cases_eq, false_from_ne_true, false≢true}
use Rattle.std.proofs.lemmas.Cmp.{eq_by_cmp_equiv, nat_cmp_total, nat_list_cmp_total}
use Rattle.std.proofs.lemmas.Map.{lookup-remove_entry}
use Rattle.std.proofs.lemmas.Map.Keys.{IsDistinct-from_sorted}
use Rattle.std.proofs.lemmas.Option.{none-some}
use Rattle.tree_model.specs.Maps.{at_number, at_name, put_number, put_name, without_number, name_cmp}
use Rattle.tree_model.specs.laws.MapsLaws.{number_here, number_same, name_here, name_same, at_put_number, at_put_number_apart}

-- ---- keys in order stay so

all_above : {K : Type 0} {cmp : K → K → Ordering} (order : IsTotalOrder cmp) (low k : K) (ks : List K) → cmp low k ≡ Less →
    AllByRecursion (λ y. cmp k y ≡ Less) ks → AllByRecursion (λ y. cmp low y ≡ Less) ks
all_above order low k [] first h = tt
all_above order low k (y ∷ ys) first h = (order.trans low k y first h.0, all_above order low k ys first h.1)

module _ {K X : Type 0} {cmp : K → K → Ordering} (order : IsTotalOrder cmp) where
  all_inserted : (P : K → Type 0) (es : List (K × X)) (k : K) (x : X) → P k → AllByRecursion P (keys_of es) → AllByRecursion P (keys_of (insert_entry cmp es k x))
  all_inserted P [] k x here h = (here, tt)
  all_inserted P (e ∷ es) k x here h = by (cmp k e.0) (all_inserted P es k x here h.1)
    where
      by : (o : Ordering) → AllByRecursion P (keys_of (insert_entry cmp es k x)) →
          AllByRecursion P (keys_of (match_ordering o ((k, x) ∷ e ∷ es) ((e.0, x) ∷ es) (e ∷ insert_entry cmp es k x)))
      by Less more = (here, h)
      by Equal more = h
      by Greater more = (h.0, more)

  pub sorted_put : (es : List (K × X)) (k : K) (x : X) → IsStrictlySortedBy cmp (keys_of es) → IsStrictlySortedBy cmp (keys_of (insert_entry cmp es k x))
  unfolding IsStrictlySortedBy
  sorted_put [] k x h = (tt, tt)
  sorted_put (e ∷ es) k x h = by (cmp k e.0) refl (sorted_put es k x h.1)
    where
      by : (o : Ordering) → cmp k e.0 ≡ o → IsStrictlySortedBy cmp (keys_of (insert_entry cmp es k x)) →
          IsStrictlySortedBy cmp (keys_of (match_ordering o ((k, x) ∷ e ∷ es) ((e.0, x) ∷ es) (e ∷ insert_entry cmp es k x)))
      by Less q more = ((q, all_above order k e.0 (keys_of es) q h.0), h)
      by Equal q more = h
      by Greater q more = (all_inserted (λ y. cmp e.0 y ≡ Less) es k x (order.antisymm e.0 k ∙ ap ordering_reverse q) h.0, more)

module _ {K X : Type 0} (cmp : K → K → Ordering) (test : K → Bool) where
  all_removed : (P : K → Type 0) (es : List (K × X)) → AllByRecursion P (keys_of es) → AllByRecursion P (keys_of (remove_entry test es))
  all_removed P [] h = tt
  all_removed P (e ∷ es) h =
      elim (cases_Bool (test e.0)) [
        | inl t ↦ rw t h.1
        | inr f ↦ rw f (h.0, all_removed P es h.1)
      ]

  pub sorted_removed : (es : List (K × X)) → IsStrictlySortedBy cmp (keys_of es) → IsStrictlySortedBy cmp (keys_of (remove_entry test es))
  unfolding IsStrictlySortedBy
  sorted_removed [] h = tt
  sorted_removed (e ∷ es) h =
      elim (cases_Bool (test e.0)) [
        | inl t ↦ rw t h.1
        | inr f ↦ rw f (all_removed (λ y. cmp e.0 y ≡ Less) es h.0, sorted_removed es h.1)
      ]

-- ---- nodes by their births

abbrev pub InOrder : {X : Type 0} → List (ℕ × X) → Type 0
InOrder es = IsStrictlySortedBy nat_cmp (keys_of es)

pub in_order_put : {X : Type 0} (es : List (ℕ × X)) (k : ℕ) (x : X) → InOrder es → InOrder (put_number es k x)
in_order_put es k x h = sorted_put nat_cmp_total es k x h

pub in_order_without : {X : Type 0} (es : List (ℕ × X)) (k : ℕ) → InOrder es → InOrder (without_number es k)
in_order_without es k h = sorted_removed nat_cmp (is_at (nat_cmp k)) es h

at_without : {X : Type 0} (es : List (ℕ × X)) (k j : ℕ) → InOrder es → at_number (without_number es k) j ≡ cond (is_eq (nat_cmp k j)) None (at_number es j)
at_without es k j h =
    lookup-remove_entry (eq_by_cmp_equiv nat_cmp_total) (is_at (nat_cmp k))
    (λ x y t. ap (λ z. is_eq (nat_cmp z y)) (number_same k x t)) j es (IsDistinct-from_sorted nat_cmp (keys_of es) h)

pub at_without_here : {X : Type 0} (es : List (ℕ × X)) (k : ℕ) → InOrder es → at_number (without_number es k) k ≡ None
at_without_here es k h = at_without es k k h ∙ rw (number_here k)

pub at_without_apart : {X : Type 0} (es : List (ℕ × X)) (k j : ℕ) → InOrder es → j ≢ k → at_number (without_number es k) j ≡ at_number es j
at_without_apart es k j h apart =
    let f : is_eq (nat_cmp k j) ≡ false = false_from_ne_true (is_eq (nat_cmp k j)) (λ t. apart (sym (number_same k j t))) in
    at_without es k j h ∙ rw f

-- what stands after a put: the new one, or what stood there
pub at_put_cases : {X : Type 0} (P : Option X → Type 0) (es : List (ℕ × X)) (k : ℕ) (x : X) (j : ℕ) → (j ≡ k → P (Some x)) → (j ≢ k → P (at_number es j)) → P (at_number (put_number es k x) j)
at_put_cases P es k x j here apart =
    ⊎_elim
    (λ e. subst P (sym (ap (at_number (put_number es k x)) e ∙ at_put_number es k x)) (here e))
    (λ d. subst P (sym (at_put_number_apart es k x j d)) (apart d))
    (cases_eq j k)

pub at_without_cases : {X : Type 0} (P : Option X → Type 0) (es : List (ℕ × X)) (k j : ℕ) → InOrder es → (j ≡ k → P None) → (j ≢ k → P (at_number es j)) → P (at_number (without_number es k) j)
at_without_cases P es k j h here apart =
    ⊎_elim
    (λ e. subst P (sym (ap (at_number (without_number es k)) e ∙ at_without_here es k h)) (here e))
    (λ d. subst P (sym (at_without_apart es k j h d)) (apart d))
    (cases_eq j k)

-- ---- names

abbrev pub NamesInOrder : {X : Type 0} → List (List ℕ × X) → Type 0
NamesInOrder names = IsStrictlySortedBy name_cmp (keys_of names)

abbrev pub without_name_in : {X : Type 0} → List (List ℕ × X) → List ℕ → List (List ℕ × X)
without_name_in names name = remove_entry (is_at (name_cmp name)) names

pub names_in_order_put : {X : Type 0} (names : List (List ℕ × X)) (k : List ℕ) (x : X) → NamesInOrder names → NamesInOrder (put_name names k x)
names_in_order_put names k x h = sorted_put nat_list_cmp_total names k x h

pub names_in_order_without : {X : Type 0} (names : List (List ℕ × X)) (k : List ℕ) → NamesInOrder names → NamesInOrder (without_name_in names k)
names_in_order_without names k h = sorted_removed name_cmp (is_at (name_cmp k)) names h

at_name_without : {X : Type 0} (names : List (List ℕ × X)) (k j : List ℕ) → NamesInOrder names → at_name (without_name_in names k) j ≡ cond (is_eq (name_cmp k j)) None (at_name names j)
at_name_without names k j h =
    lookup-remove_entry (eq_by_cmp_equiv nat_list_cmp_total) (is_at (name_cmp k))
    (λ x y t. ap (λ z. is_eq (name_cmp z y)) (name_same k x t)) j names (IsDistinct-from_sorted name_cmp (keys_of names) h)

pub at_name_without_apart : {X : Type 0} (names : List (List ℕ × X)) (k j : List ℕ) → NamesInOrder names → k ≢ j → at_name (without_name_in names k) j ≡ at_name names j
at_name_without_apart names k j h apart =
    let f : is_eq (name_cmp k j) ≡ false = false_from_ne_true (is_eq (name_cmp k j)) (λ t. apart (name_same k j t)) in
    at_name_without names k j h ∙ rw f

-- a name that is found after one was taken away was there, and is another
pub at_name_without_found : {X : Type 0} (names : List (List ℕ × X)) (k j : List ℕ) (x : X) → NamesInOrder names → at_name (without_name_in names k) j ≡ Some x → (k ≢ j) × (at_name names j ≡ Some x)
at_name_without_found names k j x h found =
    elim (cases_Bool (is_eq (name_cmp k j))) [
      | inl t ↦ absurd (none-some x (sym (at_name_without names k j h ∙ rw t refl) ∙ found))
      | inr f ↦ (
        (λ e. false≢true (sym f ∙ (ap (λ z. is_eq (name_cmp k z)) (sym e) ∙ name_here k))),
        sym (at_name_without names k j h ∙ rw f refl) ∙ found,
      )
    ]
